use Rattle.std.proofs.Common.{rules, arith, ◌≡◌, ◌≤ℤ◌, FitsSigned, w32, to_z, of_z}
use Rattle.std.proofs.lemmas.Int.{ints, to_z-of_z}
use Rattle.commuting_moves.proofs.Kept.{by_code, one_more}
use Rattle.commuting_moves.proofs.refuted_moves.RefutedMoves.keep.Goals as goal

pub returns-then-self-refutation : goal.returns-then-self-refutation
returns-then-self-refutation c p e d kept refuted =
    let low : FitsSigned w32 c.args.self.now.bound = search rules in
    let high : FitsSigned w32 c.args.refutation.now.bound = search rules in
    let up : c.args.self.now.bound ≤ℤ c.args.refutation.now.bound = omega (arith, ints, to_z-of_z w32 c.args.self.now.bound low, to_z-of_z w32 c.args.refutation.now.bound high, c.if-self-refutation.true) in
    let same : to_z w32 (of_z w32 c.args.refutation.now.bound) ≡ c.args.refutation.now.bound = to_z-of_z w32 c.args.refutation.now.bound high in
    one_more p e d c.args.self.now.moves c.args.self.now.replies c.args.self.now.len c.code.result c.code-2.result c.args.self.now.bound c.args.refutation.now.bound (to_z w32 (of_z w32 c.args.refutation.now.bound)) (omega (arith, c.if-self-ge-REFUTED_MAX.false)) (omega (arith, c.if-self-ge-REFUTED_MAX.false)) (omega (arith, ints, up, same)) (omega (arith, ints, same)) kept
    (rw (c.code.ensures.code, c.code-2.ensures.code) (by_code p e d c.args.m.now c.args.refutation.now.reply c.args.refutation.now.bound c.reveal_invariant.ensures.back c.reveal_invariant-2.ensures.back refuted))

pub returns-else-self-refutation : goal.returns-else-self-refutation
returns-else-self-refutation c p e d kept refuted =
    let low : FitsSigned w32 c.args.self.now.bound = search rules in
    let high : FitsSigned w32 c.args.refutation.now.bound = search rules in
    let up : c.args.refutation.now.bound ≤ℤ c.args.self.now.bound = omega (arith, ints, to_z-of_z w32 c.args.self.now.bound low, to_z-of_z w32 c.args.refutation.now.bound high, c.if-self-refutation.false) in
    one_more p e d c.args.self.now.moves c.args.self.now.replies c.args.self.now.len c.code.result c.code-2.result c.args.self.now.bound c.args.refutation.now.bound c.args.self.now.bound (omega (arith, c.if-self-ge-REFUTED_MAX.false)) (omega (arith, c.if-self-ge-REFUTED_MAX.false)) (omega (arith, ints)) up kept
    (rw (c.code.ensures.code, c.code-2.ensures.code) (by_code p e d c.args.m.now c.args.refutation.now.reply c.args.refutation.now.bound c.reveal_invariant.ensures.back c.reveal_invariant-2.ensures.back refuted))
