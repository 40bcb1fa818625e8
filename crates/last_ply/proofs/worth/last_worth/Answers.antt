use Rattle.std.proofs.Common.{◌≡◌, ◌≤ℤ◌, arith}
use Rattle.std.proofs.lemmas.Int.{ints}
use Rattle.shogi_core.specs.Codes.{code_of}
use Rattle.shogi_moves.proofs.LegalLaws.{legal_to_listed}
use Rattle.minimax.specs.Minimax.{worth}
use Rattle.last_ply.specs.LastPly.{score_at}
use Rattle.last_ply.proofs.Composing.{worth_some, score_bounds}
use Rattle.last_ply.proofs.worth.last_worth.Goals as goal

pub returns : goal.returns
returns c =
    let p = c.args.p.now in
    let code = code_of c.args.m in
    let worth_is : worth p c.args.e 0 code ≡ score_at p c.args.e code = worth_some p c.args.e code (rw c.apply.ensures.by_code at (c.has_legal.ensures.0 c.if-not-has_legal.false)) in
    let at : score_at p c.args.e code ≤ℤ c.score_above.result = rw (c.scored.ensures.node, c.scored.ensures.current, c.of-frontier.ensures, c.of-node.ensures.position, c.of-node.ensures.eval) at c.score_above.ensures.at in
    let bounds = score_bounds p c.args.e code c.reveal_invariant.ensures (legal_to_listed _ _ c.reveal_invariant-2.ensures.back c.requires) in
    let is : c.score_above.result ≡ score_at p c.args.e code = rw (c.scored.ensures.node, c.scored.ensures.current, c.of-frontier.ensures, c.of-node.ensures.position, c.of-node.ensures.eval) at (c.score_above.ensures.exact (omega (arith, ints, at, bounds.0))) in
    record { value = omega (arith, ints, is, worth_is); least = omega (arith, ints, at, bounds.0); most = omega (arith, ints, bounds.1, is) }
