use Rattle.std.proofs.Common.{sym, subst, bit_or, Option}
use Rattle.shogi_core.specs.declared.piece.Piece.{Piece}
use Rattle.shogi_replies.proofs.CheckLaws.{ChecksWithin, checks_more}
use Rattle.shogi_replies.proofs.replies.check_squares.Goals as goal

pub kings-preserved : goal.kings-preserved
kings-preserved c = rw c.bitor-checks.ensures (subst (λ (cell : Option Piece). ChecksWithin c.args.p.now.cells c.args.side cell c.next.new.self (bit_or c.kings.checks.bits c.targets_of.result.bits)) (sym c.in-Some.is)
    (checks_more c.args.p.now.cells c.args.side c.in-Some.piece c.kings.left c.next.new.self c.kings.checks.bits c.in-Some-next.king c.targets_of.result.bits
    (subst (λ (cell : Option Piece). ChecksWithin c.args.p.now.cells c.args.side cell c.kings.left c.kings.checks.bits) c.in-Some.is c.kings.invariant) c.in-Some-next.ensures.some.rest
    (rw (c.opponent.ensures, c.as_board-board.ensures) at c.targets_of.ensures.squares)))
