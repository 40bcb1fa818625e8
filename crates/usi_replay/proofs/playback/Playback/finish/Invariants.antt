use Rattle.std.proofs.Common.{◌≡◌, length}
use Rattle.usi_replay.specs.Sessions.{RunsBy}
use Rattle.usi_replay.proofs.Ends.{WritesTo}
use Rattle.usi_replay.proofs.playback.Playback.finish.Given as goal

abbrev pub invariant-loop-i : goal.invariant-loop-i
invariant-loop-i g l = record {
  writes : WritesTo l.fn.self.host l.fn.self.transcripts.items l.self.host l.self.transcripts.items l.i l.out.items;
  len : length l.self.transcripts.items ≡ length l.fn.self.transcripts.items;
  slice : l.self.slice ≡ l.fn.self.slice;
  run : RunsBy l.fn.self.slice l.fn.self.host l.self.host;
}
