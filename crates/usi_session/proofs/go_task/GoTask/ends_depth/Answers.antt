use Rattle.std.proofs.Common.{◌≡◌, ap, ◌∙◌, length, refl}
use Rattle.usi_session.specs.GoTaskView.{is_searching, listed_at}
use Rattle.usi_session.proofs.Listed.{ranked_length}
use Rattle.usi_session.proofs.NextSearch.{listed_all, whole_line}
use Rattle.usi_session.proofs.go_task.GoTask.ends_depth.Goals as goal

pub returns-in-Some : goal.returns-in-Some
returns-in-Some g c =
    let s = c.self.inside in
    let w = whole_line s.depth.go_request s.depth.done s.phase c.in-AtLine.line s.bestmove s.search.value c.in-AtLine.is c.self.invariant (ap is_searching c.self.view_is ∙ c.requires.whole) in
    let all = listed_all s.depth.go_request s.depth.done c.in-AtLine.line.listed c.in-Some.listed c.in-Some.is w.listed_is in
    let n : length c.list.result.now ≡ length (listed_at s.depth.go_request s.depth.done) = ap length c.list.ensures.value ∙ ranked_length s.depth.go_request s.depth.done c.in-Some.listed.ranks all.1 in
    rw (← c.self.view_is, c.in-AtLine.is, c.in-Some.is, ← n) refl
