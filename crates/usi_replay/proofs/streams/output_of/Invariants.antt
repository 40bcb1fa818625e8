use Rattle.std.proofs.Common.{◌≡◌, ◌+◌, ◌≤◌, length}
use Rattle.usi_replay.specs.Playback.{IsReadTo}
use Rattle.usi_replay.specs.Sessions.{RunsBy}
use Rattle.usi_replay.proofs.streams.output_of.Given as goal

abbrev pub invariant-lines : goal.invariant-lines
invariant-lines g l = record {
  read : IsReadTo l.fn.host.setup l.fn.host.slots.max l.playback.host l.playback.transcripts.items l.script l.number l.rest;
  few : l.number + length l.rest ≤ length l.script;
  slice : l.playback.slice ≡ l.slice;
  run : RunsBy l.slice l.fn.host l.playback.host;
}

abbrev pub decreases-lines : goal.decreases-lines
decreases-lines g l = length l.rest
