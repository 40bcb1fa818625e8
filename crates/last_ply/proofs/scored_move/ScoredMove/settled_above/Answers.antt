use Rattle.std.proofs.Common.{FitsSigned, rules, w32, ◌≡◌, pos, ◌-ℤ◌, ◌≤ℤ◌, arith}
use Rattle.std.proofs.lemmas.Int.{ints}
use Rattle.shogi_core.specs.Codes.{code_of}
use Rattle.last_ply.specs.LastPly.{score_of, raw_of}
use Rattle.last_ply.proofs.Settled.{apart_held, score_enough, settled}
use Rattle.last_ply.proofs.scored_move.ScoredMove.settled_above.Goals as goal

pub overflow_cast-result : goal.overflow_cast-result
overflow_cast-result c =
    let k : _ = settled c.args.self.now c.best_exchange-lost.result c.requires.resolves_captures (rw c.as_position.ensures at (c.best_exchange-lost.ensures.below c.if-lost-enough.true)) in
    omega (arith, ints, k.least, k.most)

pub overflow_sub-result : goal.overflow_sub-result
overflow_sub-result c =
    let k : _ = settled c.args.self.now c.best_exchange-lost.result c.requires.resolves_captures (rw c.as_position.ensures at (c.best_exchange-lost.ensures.below c.if-lost-enough.true)) in
    omega (arith, ints, k.least, k.most)

pub returns-then-lost-enough : goal.returns-then-lost-enough
returns-then-lost-enough c =
    let fits : FitsSigned w32 c.args.self.now.raw = search rules in
    let far : pos c.abs_diff-enough.result ≡ (c.args.self.now.raw -ℤ c.args.floor) = apart_held c.args.self.now.raw c.args.floor c.abs_diff-enough.result fits c.ranges.floor c.abs_diff-enough.ensures (omega (arith, ints, c.requires.above)) in
    let k : _ = settled c.args.self.now c.best_exchange-lost.result c.requires.resolves_captures (rw c.as_position.ensures at (c.best_exchange-lost.ensures.below c.if-lost-enough.true)) in
    record {
      least = omega (arith, ints, far, c.if-lost-enough.true, k.least, k.most);
      at = omega (arith, ints, k.is, k.least, k.most);
      exact = λ _. omega (arith, ints, k.is, k.least, k.most);
    }

pub returns-else-lost-enough : goal.returns-else-lost-enough
returns-else-lost-enough c =
    let fits : FitsSigned w32 c.args.self.now.raw = search rules in
    let far : pos c.abs_diff-enough.result ≡ (c.args.self.now.raw -ℤ c.args.floor) = apart_held c.args.self.now.raw c.args.floor c.abs_diff-enough.result fits c.ranges.floor c.abs_diff-enough.ensures (omega (arith, ints, c.requires.above)) in
    let won : score_of c.args.self.now.node.now (code_of c.args.self.now.current) ≤ℤ (raw_of c.args.self.now.node.now (code_of c.args.self.now.current) -ℤ pos c.abs_diff-enough.result) = score_enough c.args.self.now.node.now.position c.args.self.now.node.now.eval (code_of c.args.self.now.current) c.abs_diff-enough.result c.requires.resolves_captures (rw c.as_position.ensures at (c.best_exchange-lost.ensures.enough c.if-lost-enough.false)) in
    record {
      least = omega (arith, ints);
      at = omega (arith, ints, won, far, c.args.self.now.value);
      exact = λ above. absurd (omega (arith, ints, above));
    }
