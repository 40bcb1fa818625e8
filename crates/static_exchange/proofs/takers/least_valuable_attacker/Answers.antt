use Rattle.std.proofs.Common.{◌≡◌, ℕ, Some, None, refl, subst, ap, ◌∙◌}
use Rattle.shogi_core.specs.declared.moves.Move.{Move}
use Rattle.shogi_core.specs.Codes.{code_of}
use Rattle.shogi_moves.specs.Legal.{is_legal}
use Rattle.shogi_eval.specs.Exchange.{least_valuable_attacker}
use Rattle.static_exchange.specs.Takers.{TakesFirst}
use Rattle.static_exchange.proofs.takers.least_valuable_attacker.Goals as goal

pub returns-in-None-clause-code : goal.returns-in-None-clause-code
returns-in-None-clause-code c = subst (λ (s : ℕ). None ≡ least_valuable_attacker c.args.p.now s) c.in-Some.ensures.square (c.in-None.ensures.if_none refl c.args.p.now c.in-Some.ensures.some)

pub returns-in-Some-first_taker-clause-code : goal.returns-in-Some-first_taker-clause-code
returns-in-Some-first_taker-clause-code c =
    let first : TakesFirst c.args.p.now c.args.square c.in-Some-first_taker.from = subst (λ (s : ℕ). TakesFirst c.args.p.now s c.in-Some-first_taker.from) c.in-Some.ensures.square (c.in-Some-first_taker.ensures.first c.args.p.now c.in-Some.ensures.some) in
    ap (λ (m : Move). Some (code_of m)) c.taking.ensures ∙ first.taker_is

pub returns-in-Some-first_taker-clause-legal : goal.returns-in-Some-first_taker-clause-legal
returns-in-Some-first_taker-clause-legal c =
    let first : TakesFirst c.args.p.now c.args.square c.in-Some-first_taker.from = subst (λ (s : ℕ). TakesFirst c.args.p.now s c.in-Some-first_taker.from) c.in-Some.ensures.square (c.in-Some-first_taker.ensures.first c.args.p.now c.in-Some.ensures.some) in
    ap (is_legal c.args.p.now) c.taking.ensures ∙ first.legal
