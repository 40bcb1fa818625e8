use Rattle.std.proofs.Common.{◌≡◌, drop, None}
use Rattle.shogi_sfen.specs.HandTexts.{no_hands}
use Rattle.shogi_sfen.specs.CappedHands.{capped_from}
use Rattle.shogi_sfen.proofs.hand_text.read_items.Given as goal

-- the hands so far, with what the other bytes add, are the result
abbrev pub invariant-loop-byte : goal.invariant-loop-byte
invariant-loop-byte l = capped_from no_hands None l.word ≡ capped_from l.hands l.count (drop l.byte-index l.word)
