use Rattle.std.proofs.Common.{◌≡◌, ◌+◌, ◌<◌, ap, ◌∙◌, arith}
use Rattle.usi_session.specs.Phases.{lines_done_of}
use Rattle.usi_session.specs.GoTaskView.{GoTaskView, is_searching}
use Rattle.usi_session.proofs.Listed.{line_below}
use Rattle.usi_session.proofs.Reports.{reported_depth}
use Rattle.usi_session.proofs.NextSearch.{begun, first_none_done, next_depth_cost, whole_line}
use Rattle.usi_session.proofs.RootLaws.{begun_roots}
use Rattle.usi_session.proofs.go_task.GoTask.next_depth.Goals as goal

pub invariant_of-self : goal.invariant_of-self
invariant_of-self g c =
    let s = c.self.inside in
    rw (c.first_phase-self-inside.ensures, c.start_depth.ensures) (begun s.depth.go_request s.depth.first (s.depth.done + 1) s.bestmove s.depth.range s.depth.first_is)

pub returns-clause-load : goal.returns-clause-load
returns-clause-load g c =
    let s = c.self.inside in
    let t : s.depth.done ≡ c.args.self.now.depths_done = ap (λ (x : GoTaskView). x.depths_done) c.self.view_is in
    let d : s.depth.go_request.depth ≡ c.args.self.now.go_request.depth = ap (λ (x : GoTaskView). x.go_request.depth) c.self.view_is in
    rw (c.first_phase-self-inside.ensures, c.start_depth.ensures, ← c.self.view_is) (next_depth_cost s.depth.go_request s.depth.first s.depth.done s.phase s.search.value (omega (arith, t, d, s.depth.left, c.requires.more)) s.depth.first_is c.reveal_invariant.ensures.back)

pub returns-clause-fewer : goal.returns-clause-fewer
returns-clause-fewer g c =
    let s = c.self.inside in
    let w = whole_line s.depth.go_request s.depth.done s.phase c.in-AtLine.line s.bestmove s.search.value c.in-AtLine.is c.self.invariant (ap is_searching c.self.view_is ∙ c.requires.whole) in
    let l : lines_done_of c.in-AtLine.line.listed < s.depth.go_request.multi_pv = line_below s.depth.go_request s.depth.done (lines_done_of c.in-AtLine.line.listed) c.in-AtLine.line.walk w.line_is in
    let m = s.depth.range.multi_pv_fits.most in
    let h = s.depth.left in
    let none = first_none_done s.depth.go_request s.depth.first (s.depth.done + 1) in
    rw (← c.self.view_is, c.in-AtLine.is, c.first_phase-self-inside.ensures) (omega (arith, none, l, m, h))

pub returns-clause-rest : goal.returns-clause-rest
returns-clause-rest g c =
    let s = c.self.inside in
    let t : s.depth.done ≡ c.args.self.now.depths_done = ap (λ (x : GoTaskView). x.depths_done) c.self.view_is in
    let d : s.depth.go_request.depth ≡ c.args.self.now.go_request.depth = ap (λ (x : GoTaskView). x.go_request.depth) c.self.view_is in
    let none = first_none_done s.depth.go_request s.depth.first (s.depth.done + 1) in
    rw (c.first_phase-self-inside.ensures, none, ← c.self.view_is) (reported_depth s.depth.go_request s.depth.done (omega (arith, t, d, s.depth.left, c.requires.more)))

pub returns-clause-roots : goal.returns-clause-roots
returns-clause-roots g c =
    let s = c.self.inside in
    let t : s.depth.done ≡ c.args.self.now.depths_done = ap (λ (x : GoTaskView). x.depths_done) c.self.view_is in
    let d : s.depth.go_request.depth ≡ c.args.self.now.go_request.depth = ap (λ (x : GoTaskView). x.go_request.depth) c.self.view_is in
    rw (c.first_phase-self-inside.ensures, ← c.self.view_is) (begun_roots s.depth.go_request s.depth.first (s.depth.done + 1) c.start_depth.new.search (omega (arith, t, d, s.depth.left, c.requires.more)) s.depth.first_is)
