use Rattle.std.proofs.Common.{rules, arith, ℤ, ◌≡◌, FitsSigned, w32, to_z, of_z, subst}
use Rattle.std.proofs.lemmas.Int.{ints, to_z-of_z}
use Rattle.commuting_moves.specs.Refuted.{IsRefuted}
use Rattle.commuting_moves.proofs.Worth.{lost_after}
use Rattle.commuting_moves.proofs.refuted_moves.RefutedMoves.serves_after.Goals as goal

pub returns : goal.returns
returns c apart p e depth deep valid legal kept =
    let fits : FitsSigned w32 c.args.alpha = search rules in
    let same : to_z w32 (of_z w32 c.args.alpha) ≡ c.args.alpha = to_z-of_z w32 c.args.alpha fits in
    lost_after c.args.m.now c.args.reply.now c.args.other.now c.args.alpha c.args.alpha c.reveal_squares.ensures c.reveal_squares-2.ensures c.reveal_squares-3.ensures (c.have_free_squares.ensures apart) (omega (arith, ints))
    p e depth deep valid legal
    (subst (λ (alpha : ℤ). IsRefuted p e depth c.args.other.now c.args.reply.now alpha) same (c.has.ensures c.if-not-has.false p e depth kept))
