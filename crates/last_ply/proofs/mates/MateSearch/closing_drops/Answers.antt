use Rattle.std.proofs.Common.{◌∙◌, refl, sym, arith, inl, inr}
use Rattle.std.proofs.lemmas.Bool.{cases_Bool, and_parts, both_ways, eq-eqb, not-true}
use Rattle.shogi_core.specs.Bits.{has_bit}
use Rattle.shogi_core.proofs.BitLaws.{has_bit-and}
use Rattle.shogi_core.proofs.LineBits.{has_bit-not}
use Rattle.last_ply.proofs.DropLaws.{answered_drop, taken_there, not_closing}
use Rattle.last_ply.proofs.Squares.{left_set}
use Rattle.last_ply.proofs.mates.MateSearch.closing_drops.Goals as goal

pub escapes-init : goal.escapes-init
escapes-init c = record {
  all = λ n h e out. taken_there c.args.self.now.frontier.node.now.position c.args.kind c.args.squares.bits c.args.self.now.replies.escapes.bits c.kings.result.bits n c.args.self.now.frontier.valid c.args.self.now.replies.escapes.fits (rw c.args.self.now.same at c.args.self.now.replies.escaping)
      (rw (c.opponent.ensures, c.side-side.ensures, c.as_board.ensures, c.as_position-p.ensures) at c.kings.ensures.squares) c.kings.result.fits (λ z. both_ways _ (sym c.is_empty.ensures ∙ c.if-is_empty.false) (eq-eqb _ 0 z)) h e (rw c.without-kept.ensures at out);
  among = λ n e. (and_parts _ _ (sym (has_bit-and c.args.squares.bits _ n) ∙ rw c.without-kept.ensures at e)).0;
  off = λ n e h. not-true _ (sym (has_bit-not c.args.self.now.replies.escapes.bits n (omega (arith, c.args.self.now.replies.escapes.fits)) (omega arith)) ∙ (and_parts _ _ (sym (has_bit-and c.args.squares.bits _ n) ∙ rw c.without-kept.ensures at e)).1);
  within = λ n e. rw c.iter-left.ensures at e;
}

pub escapes-preserved : goal.escapes-preserved
escapes-preserved c = record {
  all = λ n h e out. elim (cases_Bool (has_bit c.escapes.kept.bits n)) [
    | inl still ↦ answered_drop c.args.self.now.frontier.node.now.position c.args.kind c.args.self.now.replies.escapes.bits c.kings.result.bits n c.in-Some.escape _ c.args.self.now.frontier.valid (rw c.args.self.now.same at c.args.self.now.replies.escaping)
        (rw (c.opponent.ensures, c.side-side.ensures, c.as_board.ensures, c.as_position-p.ensures) at c.kings.ensures.squares) c.kings.result.fits (λ z. both_ways _ (sym c.is_empty.ensures ∙ c.if-is_empty.false) (eq-eqb _ 0 z)) h c.in-Some.ensures.some.range
        (c.escapes.invariant.within _ c.in-Some.ensures.some.set) (c.escapes.invariant.off n still h)
        (rw (c.side-side.ensures, c.as_position-p.ensures, c.from.ensures) refl)
        (c.closing_squares.ensures n h (not_closing c.escapes.kept.bits c.closing_squares.result.bits n (rw c.bitand-kept.ensures at out) still))
    | inr gone ↦ c.escapes.invariant.all n h e gone
  ];
  among = λ n e. c.escapes.invariant.among n (and_parts _ _ (sym (has_bit-and c.escapes.kept.bits c.closing_squares.result.bits n) ∙ rw c.bitand-kept.ensures at e)).0;
  off = λ n e h. c.escapes.invariant.off n (and_parts _ _ (sym (has_bit-and c.escapes.kept.bits c.closing_squares.result.bits n) ∙ rw c.bitand-kept.ensures at e)).0 h;
  within = λ n e. c.escapes.invariant.within n (left_set c.escapes.left c.next.new.self c.in-Some.escape n c.in-Some.ensures.some.rest e);
}
