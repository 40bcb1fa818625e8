use Rattle.std.proofs.Common.{◌∙◌, sym, arith, inl, inr}
use Rattle.std.proofs.lemmas.Bool.{cases_Bool, and_parts, both_ways, eq-eqb, not-true}
use Rattle.shogi_core.specs.Bits.{has_bit}
use Rattle.shogi_core.proofs.BitLaws.{has_bit-and}
use Rattle.shogi_core.proofs.LineBits.{has_bit-not}
use Rattle.last_ply.proofs.DropLaws.{answered_board, apart_from, not_closing}
use Rattle.last_ply.proofs.Squares.{left_set}
use Rattle.last_ply.proofs.mates.MateSearch.closing_ends.Goals as goal

pub escapes-init : goal.escapes-init
escapes-init c = record {
  all = λ n h e out. absurd (both_ways _ out e);
  within = λ n e. (and_parts _ _ (sym (has_bit-and c.args.self.now.replies.escapes.bits _ n) ∙ rw (c.iter-left.ensures, c.without.ensures) at e)).0;
  apart = λ n h e. sym (c.line_mask.ensures.squares n h) ∙ not-true _ (sym (has_bit-not c.line_mask.result.bits n (omega (arith, c.line_mask.result.fits)) (omega arith)) ∙ (and_parts _ _ (sym (has_bit-and c.args.self.now.replies.escapes.bits _ n) ∙ rw (c.iter-left.ensures, c.without.ensures) at e)).1);
  among = λ n e. e;
}

pub escapes-preserved : goal.escapes-preserved
escapes-preserved c = record {
  all = λ n h e out. elim (cases_Bool (has_bit c.escapes.kept.bits n)) [
    | inl still ↦ (
        let off = apart_from c.closing_squares.result.bits c.with.result.bits c.kings-kings.result.bits c.in-Some.escape n c.with.ensures (not_closing c.escapes.kept.bits _ n (rw (c.bitand-kept.ensures, c.bitor.ensures) at out) still) in
        answered_board c.args.self.now.frontier.node.now.position c.args.from c.args.promote c.args.self.now.replies.escapes.bits c.kings-kings.result.bits n c.in-Some.escape c.args.piece c.args.self.now.frontier.valid (rw c.args.self.now.same at c.args.self.now.replies.escaping)
        (rw (c.opponent.ensures, c.side.ensures, c.as_board.ensures, c.as_position-p.ensures) at c.kings-kings.ensures.squares) c.kings-kings.result.fits (λ z. both_ways _ (sym c.is_empty.ensures ∙ c.if-is_empty.false) (eq-eqb _ 0 z)) c.reveal_invariant.ensures h c.in-Some.ensures.some.range
        (c.escapes.invariant.within _ c.in-Some.ensures.some.set) (c.escapes.invariant.apart _ c.in-Some.ensures.some.range c.in-Some.ensures.some.set)
        c.requires off.1 off.2 (c.closing_squares.ensures n h off.0))
    | inr gone ↦ c.escapes.invariant.all n h e gone
  ];
  within = λ n e. c.escapes.invariant.within n (left_set c.escapes.left c.next.new.self c.in-Some.escape n c.in-Some.ensures.some.rest e);
  apart = λ n h e. c.escapes.invariant.apart n h (left_set c.escapes.left c.next.new.self c.in-Some.escape n c.in-Some.ensures.some.rest e);
  among = λ n e. c.escapes.invariant.among n (and_parts (has_bit c.escapes.kept.bits n) _ (sym (has_bit-and c.escapes.kept.bits _ n) ∙ rw c.bitand-kept.ensures at e)).0;
}
