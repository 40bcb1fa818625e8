use Rattle.shogi_core.specs.Attack.{is_open_king}
use Rattle.shogi_core.proofs.SeenLaws.{Covers}
use Rattle.shogi_core.proofs.board.Board.evasion_squares.Given as goal

abbrev pub invariant-kings : goal.invariant-kings
invariant-kings l = Covers l.left (is_open_king l.self l.fn.side)

abbrev pub decreases-kings : goal.decreases-kings
decreases-kings l = l.left
