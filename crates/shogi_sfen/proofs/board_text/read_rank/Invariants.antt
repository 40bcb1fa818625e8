use Rattle.std.proofs.Common.{◌≡◌, false, drop}
use Rattle.shogi_sfen.specs.BoardTexts.{items_from, squares_in, joined}
use Rattle.shogi_sfen.proofs.board_text.read_rank.Given as goal

-- the cells so far, then those of the other bytes, are the rank
abbrev pub invariant-loop-byte : goal.invariant-loop-byte
invariant-loop-byte l = squares_in (items_from false l.part) ≡ joined l.rank.items (squares_in (items_from l.plus (drop l.byte-index l.part)))
