use Rattle.std.proofs.Common.{◌≡◌, ◌∙◌, ℕ, ap, subst, arith, inl, inr}
use Rattle.std.specs.Prelude.{true}
use Rattle.std.proofs.lemmas.Bool.{both_ways, cases_eq}
use Rattle.shogi_core.specs.Bits.{has_bit}
use Rattle.shogi_core.specs.Cell.{is_king}
use Rattle.shogi_core.specs.Movement.{piece_at}
use Rattle.shogi_core.proofs.BitLaws.{has_bit-none}
use Rattle.shogi_core.specs.Zones.{is_around}
use Rattle.shogi_core.proofs.Kings.{lone_king}
use Rattle.shogi_core.proofs.ZoneLaws.{all_squares}
use Rattle.shogi_moves.proofs.DestinationLaws.{none_there}
use Rattle.shogi_replies.proofs.far.around_kings.Goals as goal

pub returns-then-is_empty : goal.returns-then-is_empty
returns-then-is_empty c = λ k n hk hn king near.
    let none : c.kings-kings.result.bits ≡ 0 = none_there _ _ c.is_empty.ensures c.if-is_empty.true in
    absurd (both_ways (has_bit c.kings-kings.result.bits k) (ap (λ (m : ℕ). has_bit m k) none ∙ has_bit-none k) (c.kings-kings.ensures.squares k hk ∙ king))

pub returns-then-cleared-ne0 : goal.returns-then-cleared-ne0
returns-then-cleared-ne0 c = rw c.all.ensures (λ k n hk hn king near. all_squares n hn)

pub returns : goal.returns
returns c = λ k n hk hn king near.
    let none : c.cleared.result ≡ 0 = omega (arith, c.if-cleared-ne0.false) in
    elim (cases_eq k c.lowest-king.result) [
      | inl same ↦ (rw c.of_index.ensures at c.squares_around.ensures.squares) n hn ∙ subst (λ (x : ℕ). is_around x n ≡ true) same near
      | inr other ↦ absurd (both_ways (is_king c.args.side (piece_at c.args.board.now k))
          (lone_king c.args.board.now c.args.side c.kings-kings.result.bits c.cleared.result c.lowest-king.result c.kings-kings.ensures.squares c.cleared.ensures.bits none k hk other)
          king)
    ]
