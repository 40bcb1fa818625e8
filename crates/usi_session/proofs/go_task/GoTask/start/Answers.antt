use Rattle.std.proofs.Common.{◌≡◌, ◌∙◌, ◌-◌, ap, arith, rules}
use Rattle.usi_session.specs.Roots.{roots_of_depths}
use Rattle.usi_session.specs.GoTaskView.{cost_of_depths}
use Rattle.usi_session.specs.Walked.{first_search}
use Rattle.usi_session.proofs.NextSearch.{begun, begun_cost}
use Rattle.usi_session.proofs.RootLaws.{begun_roots}
use Rattle.usi_session.proofs.go_task.GoTask.start.Goals as goal

pub invariant_of-result : goal.invariant_of-result
invariant_of-result g c =
    let q = c.args.go_request in
    let s : c.in_ok-search.search.value ≡ first_search q c.args.first 0 = search rules in
    rw (c.first_phase-phase.ensures, s) (begun q c.args.first 0 _ c.requires.go_request c.requires.first)

pub returns-clause-load : goal.returns-clause-load
returns-clause-load g c =
    let q = c.args.go_request in
    let h = c.requires.go_request.depth_fits.least in
    let n : q.depth - 0 ≡ q.depth = omega arith in
    let a : cost_of_depths q 0 (q.depth - 0) ≡ cost_of_depths q 0 q.depth = ap (cost_of_depths q 0) n in
    let s : c.in_ok-search.search.value ≡ first_search q c.args.first 0 = search rules in
    rw (c.first_phase-phase.ensures, s) (omega (arith, a, begun_cost q c.args.first 0 (omega arith) c.requires.first c.reveal_invariant.ensures.back))

pub returns-clause-roots : goal.returns-clause-roots
returns-clause-roots g c =
    let q = c.args.go_request in
    let h = c.requires.go_request.depth_fits.least in
    let n : q.depth - 0 ≡ q.depth = omega arith in
    rw (c.first_phase-phase.ensures) (begun_roots q c.args.first 0 c.in_ok-search.search.value (omega arith) c.requires.first ∙ ap (roots_of_depths q.position q.eval q.multi_pv 0) n)
