use Rattle.std.proofs.Common.{◌+◌, ap, ◌∙◌, rules, refl}
use Rattle.std.proofs.lemmas.Result.{on_ok_weaker}
use Rattle.usi_session.specs.GoTaskView.{is_searching}
use Rattle.usi_session.specs.Phases.{lines_done_of}
use Rattle.usi_session.specs.Walked.{IsLine}
use Rattle.usi_session.proofs.Listed.{first_some}
use Rattle.usi_session.proofs.NextSearch.{listed_all, listed_none, whole_line}
use Rattle.usi_session.proofs.Reports.{reported_one, reported_several, one_grows, several_grow}
use Rattle.usi_session.proofs.go_task.GoTask.report.Goals as goal

pub returns-in-None-clause-rest : goal.returns-in-None-clause-rest
returns-in-None-clause-rest g c =
    let s = c.self.inside in
    let line = c.in-AtLine.line in
    let w = whole_line s.depth.go_request s.depth.done s.phase c.in-AtLine.line s.bestmove s.search.value c.in-AtLine.is c.self.invariant (ap is_searching c.self.view_is ∙ c.requires.whole) in
    rw (← c.self.view_is, c.in-AtLine.is) (on_ok_weaker c.write_info.result (λ e. reported_one s.depth.go_request s.depth.done (lines_done_of line.listed) line.walk _ _ line.walk.value line.walk.pv w.line_is (listed_none s.depth.go_request s.depth.done line.listed c.in-None.is w.listed_is) (first_some s.depth.go_request.position s.depth.first s.depth.first_is) refl refl (search rules)) c.write_info.ensures)

pub returns-in-None-clause-lines : goal.returns-in-None-clause-lines
returns-in-None-clause-lines g c =
    let s = c.self.inside in
    let line = c.in-AtLine.line in
    on_ok_weaker c.write_info.result (λ e. one_grows _ _ (s.depth.done + 1) line.walk.value line.walk.pv (search rules)) c.write_info.ensures

pub returns-in-Some-clause-rest : goal.returns-in-Some-clause-rest
returns-in-Some-clause-rest g c =
    let s = c.self.inside in
    let line = c.in-AtLine.line in
    let w = whole_line s.depth.go_request s.depth.done s.phase c.in-AtLine.line s.bestmove s.search.value c.in-AtLine.is c.self.invariant (ap is_searching c.self.view_is ∙ c.requires.whole) in
    let all = listed_all s.depth.go_request s.depth.done line.listed c.in-Some.listed c.in-Some.is w.listed_is in
    let l : IsLine s.depth.go_request s.depth.done c.in-Some.listed.lines_done line.walk = rw c.in-Some.is at w.line_is in
    rw (← c.self.view_is, c.in-AtLine.is, c.in-Some.is) (on_ok_weaker c.write_numbered_info.result (λ e. reported_several s.depth.go_request s.depth.done c.in-Some.listed.lines_done line.walk _ _ line.walk.value line.walk.pv l all.0 refl refl (search rules)) c.write_numbered_info.ensures)

pub returns-in-Some-clause-lines : goal.returns-in-Some-clause-lines
returns-in-Some-clause-lines g c =
    let s = c.self.inside in
    let line = c.in-AtLine.line in
    on_ok_weaker c.write_numbered_info.result (λ e. several_grow _ _ (s.depth.done + 1) (c.in-Some.listed.lines_done + 1) line.walk.value line.walk.pv (search rules)) c.write_numbered_info.ensures
