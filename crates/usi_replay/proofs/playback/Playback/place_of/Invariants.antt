use Rattle.std.proofs.Common.{◌≡◌, ◌<◌, ℕ, false, get_or}
use Rattle.usi_replay.specs.Playback.{is_transcript_under, no_transcript}
use Rattle.usi_replay.proofs.playback.Playback.place_of.Given as goal

abbrev pub invariant-loop-i : goal.invariant-loop-i
invariant-loop-i g l = (k : ℕ) → k < l.i → is_transcript_under l.name (get_or l.self.transcripts.items k no_transcript) ≡ false
