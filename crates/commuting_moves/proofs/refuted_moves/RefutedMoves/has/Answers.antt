use Rattle.std.proofs.Common.{rules, arith, ◌≤ℤ◌, FitsSigned, w32, sym}
use Rattle.std.proofs.lemmas.Int.{ints, to_z-of_z}
use Rattle.commuting_moves.proofs.Kept.{loosened, of_code}
use Rattle.commuting_moves.proofs.refuted_moves.RefutedMoves.has.Goals as goal

pub returns-then-self-n-2 : goal.returns-then-self-n-2
returns-then-self-n-2 c is p e d kept =
    let low : FitsSigned w32 c.args.self.now.bound = search rules in
    let high : FitsSigned w32 c.args.alpha = search rules in
    let less : c.args.self.now.bound ≤ℤ c.args.alpha = omega (arith, ints, to_z-of_z w32 c.args.self.now.bound low, to_z-of_z w32 c.args.alpha high, c.if-self-alpha.false) in
    of_code p e d c.args.m.now c.args.reply.now c.args.alpha c.reveal_invariant.ensures.back c.reveal_invariant-2.ensures.back
    (loosened p e d _ _ c.args.self.now.bound c.args.alpha less
    (rw (sym c.code-code.ensures.code, sym c.code-reply_code.ensures.code, sym c.if-self-n.true, sym c.if-self-n-2.true) (kept c.moves.n c.moves-test.true)))
