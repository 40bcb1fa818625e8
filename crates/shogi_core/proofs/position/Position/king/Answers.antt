use Rattle.std.proofs.Common.{◌≡◌, ℕ, ◌<◌, ◌∙◌, sym, subst}
use Rattle.shogi_core.specs.Bits.{has_bit}
use Rattle.shogi_core.specs.Cell.{is_king}
use Rattle.shogi_core.specs.Movement.{piece_at}
use Rattle.shogi_core.specs.Position.{Shogi}
use Rattle.shogi_core.proofs.Kings.{king_lone, no_king}
use Rattle.shogi_core.proofs.position.Position.king.Goals as goal

pub returns-then-kings-eq0-clause-if_none : goal.returns-then-kings-eq0-clause-if_none
returns-then-kings-eq0-clause-if_none c = λ _. no_king c.args.self.now c.args.side c.kings-kings.result.bits
    (subst (λ (p : Shogi). (n : ℕ) → n < 81 → has_bit c.kings-kings.result.bits n ≡ is_king c.args.side (piece_at p.cells n)) c.self.view_is c.kings-kings.ensures.squares)
    c.if-kings-eq0.true

pub returns-clause-king : goal.returns-clause-king
returns-clause-king c = rw c.of_index.ensures (
    subst (λ (p : Shogi). is_king c.args.side (piece_at p.cells c.lowest.result) ≡ has_bit c.kings-kings.result.bits c.lowest.result) c.self.view_is (sym (c.kings-kings.ensures.squares c.lowest.result c.lowest.ensures.range))
    ∙ c.lowest.ensures.set)

pub returns-clause-lone : goal.returns-clause-lone
returns-clause-lone c = rw c.of_index.ensures (king_lone c.args.self.now c.args.side c.kings-kings.result.bits c.lowest.result c.reveal_invariant.ensures c.lowest.ensures.range
    (subst (λ (p : Shogi). (n : ℕ) → n < 81 → has_bit c.kings-kings.result.bits n ≡ is_king c.args.side (piece_at p.cells n)) c.self.view_is c.kings-kings.ensures.squares)
    c.lowest.ensures.set)
