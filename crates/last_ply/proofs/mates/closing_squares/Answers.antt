use Rattle.std.proofs.Common.{sym, ◌∙◌}
use Rattle.last_ply.proofs.DropLaws.{out_of_steps, out_of_lines}
use Rattle.last_ply.proofs.mates.closing_squares.Goals as goal

pub returns-then-is_sliding : goal.returns-then-is_sliding
returns-then-is_sliding c = λ n h out. out_of_lines c.args.piece c.step_squares-steps.result.bits c.line_mask.result.bits c.args.square n h (rw c.opponent.ensures at c.step_squares-steps.ensures.squares) c.line_mask.ensures.squares (rw c.bitor.ensures at out)

pub returns-else-is_sliding : goal.returns-else-is_sliding
returns-else-is_sliding c = λ n h out. out_of_steps c.args.piece c.step_squares-steps.result.bits c.args.square n h (sym c.is_sliding.ensures ∙ c.if-is_sliding.false) (rw c.opponent.ensures at c.step_squares-steps.ensures.squares) out
