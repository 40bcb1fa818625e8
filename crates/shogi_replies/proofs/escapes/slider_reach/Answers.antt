use Rattle.std.proofs.Common.{◌∙◌, sym, set, None}
use Rattle.std.proofs.lemmas.Bool.{or_parts}
use Rattle.shogi_core.proofs.BitLaws.{has_bit-or}
use Rattle.shogi_replies.proofs.EscapeLaws.{beyond_lines, beyond_reach}
use Rattle.shogi_replies.proofs.escapes.slider_reach.Goals as goal

pub returns-then-is_empty : goal.returns-then-is_empty
returns-then-is_empty c = λ k n hk hn crown lone out.
    beyond_lines c.args.piece c.args.to c.step_squares-steps.result.bits c.line_mask.result.bits c.reveal_invariant.ensures c.step_squares-steps.ensures.squares c.line_mask.ensures.squares (set c.args.p.now.cells k None) n hn (rw c.bitor-wide.ensures at out)

pub returns : goal.returns
returns c = λ k n hk hn crown lone out.
    let off = or_parts _ _ (sym (has_bit-or c.targets_of.result.bits c.behind_king.result.bits n) ∙ (rw c.bitor.ensures at out)) in
    beyond_reach c.args.p.now.cells c.args.piece c.args.to k n c.behind_king.result.bits hn
    (λ d hd. c.behind_king.ensures k d hk hd crown lone)
    (sym ((rw c.as_board.ensures at c.targets_of.ensures.squares) n hn) ∙ off.0) off.1
