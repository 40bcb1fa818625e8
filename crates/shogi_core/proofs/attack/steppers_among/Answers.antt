use Rattle.std.proofs.Common.{rules, ◌≡◌, ℕ, Bool, ap, ◌∙◌}
use Rattle.std.specs.Prelude.{◌&&◌}
use Rattle.std.proofs.lemmas.Bool.{false_from_ne_true, both_ways, and_parts, and_from}
use Rattle.shogi_core.specs.Attack.{cell_steps, is_step_among}
use Rattle.shogi_core.specs.Bits.{has_bit}
use Rattle.shogi_core.specs.Movement.{piece_at}
use Rattle.shogi_core.proofs.Sifting.{sifted_mask}
use Rattle.shogi_core.proofs.SliderAttacks.{steps_near}
use Rattle.shogi_core.proofs.attack.steppers_among.Goals as goal

pub returns : goal.returns
returns c = λ n h.
    sifted_mask _ c.bitand.result.bits c.sift.result.bits (λ k. cell_steps (piece_at c.args.board.now k) k c.args.square) (λ k b low q. search rules) c.sift.ensures.sifted n h
    ∙ (ap (λ (m : ℕ). has_bit m n && cell_steps (piece_at c.args.board.now n) n c.args.square) c.bitand.ensures
    ∙ steps_near c.args.board.now c.args.square c.args.among.bits c.near_squares.result.bits n h c.near_squares.ensures.squares)
