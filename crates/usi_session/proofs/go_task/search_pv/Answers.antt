use Rattle.std.proofs.Common.{◌≡◌, rules, ap, refl, arith}
use Rattle.shogi_search.specs.Progress.{Progress, untouched}
use Rattle.minimax.specs.declared.bounds.TheConstants.{INFINITY}
use Rattle.usi_session.proofs.Walk.{cost_begun, cost_over}
use Rattle.usi_session.proofs.NextSearch.{under_start}
use Rattle.usi_session.proofs.go_task.search_pv.Goals as goal

pub returns-then-plies-gt0-clause-under : goal.returns-then-plies-gt0-clause-under
returns-then-plies-gt0-clause-under c =
    let w = c.args.walk.now in
    λ h. under_start c.restart.new.self w.at w.eval w.plies INFINITY (search rules)

pub returns-then-plies-gt0-clause-cost : goal.returns-then-plies-gt0-clause-cost
returns-then-plies-gt0-clause-cost c =
    let w = c.args.walk.now in
    let s : c.restart.new.self ≡ untouched w.at w.eval w.plies = search rules in
    cost_begun w.at w.eval w.plies _ _ (search rules) (ap (λ (p : Progress). p.left) s)

pub returns-else-plies-gt0-clause-cost : goal.returns-else-plies-gt0-clause-cost
returns-else-plies-gt0-clause-cost c =
    let w = c.args.walk.now in
    cost_over w.at w.eval w.plies _ _ (omega (arith, c.plies-plies.ensures.plies, c.if-plies-gt0.false)) refl

pub returns-then-plies-gt0-clause-fresh : goal.returns-then-plies-gt0-clause-fresh
returns-then-plies-gt0-clause-fresh c =
    let w = c.args.walk.now in
    let s : c.restart.new.self ≡ untouched w.at w.eval w.plies = search rules in
    λ _. ap (λ (p : Progress). p.started) s

pub returns-else-plies-gt0-clause-fresh : goal.returns-else-plies-gt0-clause-fresh
returns-else-plies-gt0-clause-fresh c =
    λ h. absurd (omega (arith, h, c.plies-plies.ensures.plies, c.if-plies-gt0.false))
