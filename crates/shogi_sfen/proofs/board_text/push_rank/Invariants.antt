use Rattle.std.proofs.Common.{◌≡◌, ◌++◌, take}
use Rattle.shogi_sfen.proofs.board_text.push_rank.Given as goal

-- the cells so far are appended
abbrev pub invariant-loop-cell : goal.invariant-loop-cell
invariant-loop-cell l = l.squares.items ≡ l.fn.squares.items ++ take l.cell-index l.rank
