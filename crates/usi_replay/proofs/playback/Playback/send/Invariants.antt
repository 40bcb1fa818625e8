use Rattle.std.proofs.Common.{◌≡◌, length, get_or, true}
use Rattle.usi_replay.specs.Playback.{no_transcript}
use Rattle.usi_replay.specs.Sessions.{RunsBy}
use Rattle.usi_replay.proofs.Transcripts.{IsFedTo}
use Rattle.usi_replay.proofs.playback.Playback.send.Given as goal

abbrev pub invariant-chunks : goal.invariant-chunks
invariant-chunks g l = record {
  fed : IsFedTo l.fn.self.host l.fn.self.transcripts.items l.self.host l.self.transcripts.items l.place l.text l.rest;
  used : (get_or l.self.transcripts.items l.place no_transcript).in_use ≡ true;
  len : length l.self.transcripts.items ≡ length l.fn.self.transcripts.items;
  slice : l.self.slice ≡ l.fn.self.slice;
  run : RunsBy l.fn.self.slice l.fn.self.host l.self.host;
}

abbrev pub decreases-chunks : goal.decreases-chunks
decreases-chunks g l = length l.rest
