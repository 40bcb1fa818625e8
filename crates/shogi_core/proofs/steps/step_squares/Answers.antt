use Rattle.std.proofs.Common.{◌<◌, ◌^◌, ℕ, ap, ◌∙◌, sym, subst}
use Rattle.shogi_core.specs.Bits.{has_bit}
use Rattle.shogi_core.specs.Movement.{steps_of}
use Rattle.shogi_core.proofs.StepTable.{steps_right, steps_fit, has_bit-steps}
use Rattle.shogi_core.proofs.steps.step_squares.Goals as goal

pub invariant_of-result : goal.invariant_of-result
invariant_of-result c =
    let e = steps_right c.steps_kind.result c.index.result c.args.piece.color (steps_of c.args.piece.role) c.steps_kind.ensures.steps c.steps_kind.ensures.range c.index.ensures.range in
    record { fits = rw c.color_number.ensures.number (subst (λ (m : ℕ). m < 2 ^ 81) (sym e) (steps_fit c.args.piece.color (steps_of c.args.piece.role) c.index.result)) }

pub returns : goal.returns
returns c =
    let e = steps_right c.steps_kind.result c.index.result c.args.piece.color (steps_of c.args.piece.role) c.steps_kind.ensures.steps c.steps_kind.ensures.range c.index.ensures.range in
    record {
      squares = λ b h. rw (c.color_number.ensures.number, sym c.index.ensures.index) (ap (λ (m : ℕ). has_bit m b) e ∙ has_bit-steps c.args.piece.color (steps_of c.args.piece.role) c.index.result b h);
    }
