use Rattle.std.proofs.Common.{◌≤◌, ℕ, refl, sym, ap, not, subst, ◌∙◌, arith, inl, inr}
use Rattle.std.proofs.lemmas.Bool.{and_from, both_ways, cases_eq, ne_eqb}
use Rattle.shogi_core.specs.Bits.{has_bit}
use Rattle.shogi_core.proofs.BitLaws.{has_bit-none}
use Rattle.static_exchange.specs.Takers.{rank_on}
use Rattle.static_exchange.proofs.square_exchange.SquareExchange.first_of.Goals as goal

pub returns-then-rest-eq0-clause-first : goal.returns-then-rest-eq0-clause-first
returns-then-rest-eq0-clause-first c = λ n h on. elim (cases_eq n c.of_index-first.result) [
  | inl same ↦ subst (λ (k : ℕ). rank_on c.args.self.now.board.now c.args.self.now.square c.of_index-first.result ≤ rank_on c.args.self.now.board.now c.args.self.now.square k) (sym same) (omega arith)
  | inr other ↦ absurd (both_ways (has_bit c.except-rest.result.bits n) (ap (λ (m : ℕ). has_bit m n) c.if-rest-eq0.true ∙ has_bit-none n) (c.except-rest.ensures n ∙ and_from _ _ on (ap not (ne_eqb n c.of_index-first.result other))))
]

pub returns-clause-first : goal.returns-clause-first
returns-clause-first c = λ n h on. c.pieces.invariant.before n h on (c.in_default.ensures.none refl n)
