use Rattle.std.proofs.Common.{FitsSigned, rules, w32, ◌≡◌, ◌+◌, pos, ◌-ℤ◌, ◌≤ℤ◌, arith, inl, inr}
use Rattle.std.proofs.lemmas.Int.{ints}
use Rattle.std.proofs.lemmas.Bool.{cases_lt, both_ways, eqb-true, eq-eqb}
use Rattle.shogi_core.specs.Codes.{code_of}
use Rattle.last_ply.specs.LastPly.{score_of, raw_of}
use Rattle.last_ply.proofs.Composing.{raw_bounds}
use Rattle.last_ply.proofs.Settled.{apart_held, score_enough, settled}
use Rattle.last_ply.proofs.scored_move.ScoredMove.settles_at.Goals as goal

pub overflow_add-lost : goal.overflow_add-lost
overflow_add-lost c =
    let fits : FitsSigned w32 c.args.self.now.raw = search rules in
    let far : pos c.abs_diff-lost.result ≡ (c.args.self.now.raw -ℤ c.args.score) = apart_held c.args.self.now.raw c.args.score c.abs_diff-lost.result fits c.ranges.score c.abs_diff-lost.ensures (omega (arith, ints, c.requires.below)) in
    let most : _ = raw_bounds c.args.self.now.node.now.position c.args.self.now.node.now.eval (code_of c.args.self.now.current) c.args.self.now.valid c.args.self.now.listed in
    omega (arith, ints, far, most.1, c.args.self.now.value)

pub returns-clause-scores : goal.returns-clause-scores
returns-clause-scores c = λ same.
    let fits : FitsSigned w32 c.args.self.now.raw = search rules in
    let far : pos c.abs_diff-lost.result ≡ (c.args.self.now.raw -ℤ c.args.score) = apart_held c.args.self.now.raw c.args.score c.abs_diff-lost.result fits c.ranges.score c.abs_diff-lost.ensures (omega (arith, ints, c.requires.below)) in
    let is : c.best_exchange.result ≡ c.abs_diff-lost.result = eqb-true _ _ same in
    let k : _ = settled c.args.self.now c.best_exchange.result c.requires.resolves_captures (rw c.as_position.ensures at (c.best_exchange.ensures.below (omega (arith, is)))) in
    omega (arith, ints, k.is, far, is)

pub returns-clause-other : goal.returns-clause-other
returns-clause-other c = λ differs scores.
    let fits : FitsSigned w32 c.args.self.now.raw = search rules in
    let far : pos c.abs_diff-lost.result ≡ (c.args.self.now.raw -ℤ c.args.score) = apart_held c.args.self.now.raw c.args.score c.abs_diff-lost.result fits c.ranges.score c.abs_diff-lost.ensures (omega (arith, ints, c.requires.below)) in
    elim (cases_lt c.best_exchange.result (c.abs_diff-lost.result + 1)) [
      | inl less ↦ (
          let k : _ = settled c.args.self.now c.best_exchange.result c.requires.resolves_captures (rw c.as_position.ensures at (c.best_exchange.ensures.below less)) in
          both_ways _ differs (eq-eqb c.best_exchange.result c.abs_diff-lost.result (omega (arith, ints, k.is, far, scores))))
      | inr enough ↦ (
          let won : score_of c.args.self.now.node.now (code_of c.args.self.now.current) ≤ℤ (raw_of c.args.self.now.node.now (code_of c.args.self.now.current) -ℤ pos (c.abs_diff-lost.result + 1)) = score_enough c.args.self.now.node.now.position c.args.self.now.node.now.eval (code_of c.args.self.now.current) (c.abs_diff-lost.result + 1) c.requires.resolves_captures (rw c.as_position.ensures at (c.best_exchange.ensures.enough enough)) in
          omega (arith, ints, won, far, scores, c.args.self.now.value))
    ]
