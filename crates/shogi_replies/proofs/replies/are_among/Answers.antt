use Rattle.std.proofs.Common.{◌∙◌, arith, ap}
use Rattle.std.proofs.lemmas.Bool.{and_from}
use Rattle.shogi_core.specs.Bits.{has_bit}
use Rattle.shogi_core.proofs.BitLaws.{has_bit-and}
use Rattle.shogi_moves.proofs.DestinationLaws.{none_there}
use Rattle.shogi_replies.proofs.PassLaws.{none_uncertain}
use Rattle.shogi_replies.proofs.replies.are_among.Goals as goal

pub returns-then-is_empty-clause-non_promoting : goal.returns-then-is_empty-clause-non_promoting
returns-then-is_empty-clause-non_promoting c = λ e n h set. none_uncertain c.args.ends.bits c.args.non_promoting.bits n (omega arith) h (rw c.without.ensures at (none_there _ _ c.is_empty.ensures c.if-not-is_empty.false)) set

pub returns-then-is_empty-clause-promoting : goal.returns-then-is_empty-clause-promoting
returns-then-is_empty-clause-promoting c = λ e n h set may. none_uncertain c.args.ends.bits c.args.promoting.bits n (omega arith) h (rw c.without-2.ensures at (none_there _ _ c.is_empty-2.ensures c.if-is_empty.true)) set

pub returns-clause-non_promoting : goal.returns-clause-non_promoting
returns-clause-non_promoting c = λ e n h set. none_uncertain c.args.ends.bits c.args.non_promoting.bits n (omega arith) h (rw c.without.ensures at (none_there _ _ c.is_empty.ensures c.if-not-is_empty.false)) set

pub returns-clause-promoting : goal.returns-clause-promoting
returns-clause-promoting c = λ e n h set may. none_uncertain c.bitand-promoted.result.bits c.args.promoting.bits n (omega arith) h (rw c.without-3.ensures at (none_there _ _ c.is_empty-3.ensures e))
    (ap (λ m. has_bit m n) c.bitand-promoted.ensures ∙ (has_bit-and c.args.ends.bits c.promoting_squares.result.bits n ∙ and_from _ _ set ((rw c.at.ensures at c.promoting_squares.ensures.squares) n h ∙ may)))
