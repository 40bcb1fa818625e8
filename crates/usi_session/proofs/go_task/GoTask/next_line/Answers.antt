use Rattle.std.proofs.Common.{◌≡◌, ◌≢◌, ◌+◌, ◌<◌, ◌++◌, ℕ, List, ap, sym, ◌∙◌, arith, length}
use Rattle.std.proofs.lemmas.Bool.{eqb-false}
use Rattle.usi_session.specs.GoTaskView.{GoTaskView, deeper_roots, is_last_of_depth, is_searching, lines_roots, listed_at, roots_of}
use Rattle.usi_session.specs.Roots.{Root}
use Rattle.usi_session.specs.Phases.{lines_done_in, lines_done_of}
use Rattle.usi_session.proofs.Listed.{line_below, line_within}
use Rattle.usi_session.proofs.NextSearch.{whole_line}
use Rattle.usi_session.proofs.RootLaws.{whole_roots}
use Rattle.usi_session.proofs.go_task.GoTask.next_line.Goals as goal

pub line_of-walk-requires-clause-lines_done : goal.line_of-walk-requires-clause-lines_done
line_of-walk-requires-clause-lines_done g c =
    let s = c.self.inside in
    let line = c.in-AtLine.line in
    let w = whole_line s.depth.go_request s.depth.done s.phase c.in-AtLine.line s.bestmove s.search.value c.in-AtLine.is c.self.invariant (ap is_searching c.self.view_is ∙ c.requires.whole) in
    let at = ap lines_done_of c.in-Some.is in
    let ne : lines_done_of line.listed + 1 ≢ length (listed_at s.depth.go_request s.depth.done) = eqb-false (lines_done_of line.listed + 1) (length (listed_at s.depth.go_request s.depth.done)) (rw c.in-AtLine.is at (ap is_last_of_depth c.self.view_is ∙ c.requires.more)) in
    omega (arith, line_within s.depth.go_request s.depth.done (lines_done_of line.listed) line.walk w.line_is, ne, at)

pub returns-clause-roots : goal.returns-clause-roots
returns-clause-roots g c =
    let s = c.self.inside in
    let q = s.depth.go_request in
    let n : lines_done_in s.phase ≡ c.in-Some.listed.lines_done = ap lines_done_in c.in-AtLine.is ∙ ap lines_done_of c.in-Some.is in
    let old : roots_of c.args.self.now ≡ lines_roots q s.depth.done (c.in-Some.listed.lines_done + 1) ++ deeper_roots q s.depth.done =
    whole_roots c.args.self.now c.requires.whole
    ∙ (sym (ap (λ (x : GoTaskView). lines_roots x.go_request x.depths_done (x.lines_done + 1) ++ deeper_roots x.go_request x.depths_done) c.self.view_is)
    ∙ ap (λ (k : ℕ). lines_roots q s.depth.done (k + 1) ++ deeper_roots q s.depth.done) n) in
    ap (λ (roots : List Root). roots ++ deeper_roots q s.depth.done) c.line_of-walk.ensures.roots ∙ sym old

pub returns-clause-fewer : goal.returns-clause-fewer
returns-clause-fewer g c =
    let s = c.self.inside in
    let line = c.in-AtLine.line in
    let w = whole_line s.depth.go_request s.depth.done s.phase c.in-AtLine.line s.bestmove s.search.value c.in-AtLine.is c.self.invariant (ap is_searching c.self.view_is ∙ c.requires.whole) in
    let l : lines_done_of line.listed < s.depth.go_request.multi_pv = line_below s.depth.go_request s.depth.done (lines_done_of line.listed) line.walk w.line_is in
    let at : lines_done_of line.listed ≡ c.in-Some.listed.lines_done = ap lines_done_of c.in-Some.is in
    let m = s.depth.range.multi_pv_fits.most in
    let h = s.depth.left in
    rw (← c.self.view_is, c.in-AtLine.is, c.in-Some.is) (omega (arith, l, at, m, h))
