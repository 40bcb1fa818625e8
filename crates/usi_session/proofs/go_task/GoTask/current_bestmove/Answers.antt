use Rattle.std.proofs.Common.{◌≡◌, ◌+◌, ap, ◌∙◌, List, subst, sym, ℕ}
use Rattle.shogi_core.specs.declared.moves.Move.{Move}
use Rattle.minimax.specs.Minimax.{pv}
use Rattle.usi_session.specs.Answer.{bestmove_of}
use Rattle.usi_session.specs.GoTaskView.{is_searching}
use Rattle.usi_session.specs.Walked.{IsLine}
use Rattle.usi_session.proofs.Listed.{line_first, first_some}
use Rattle.usi_session.proofs.NextSearch.{whole_line}
use Rattle.usi_session.proofs.go_task.GoTask.current_bestmove.Goals as goal

pub returns-then-lines_done-eq0 : goal.returns-then-lines_done-eq0
returns-then-lines_done-eq0 g c =
    let s = c.self.inside in
    let w = whole_line s.depth.go_request s.depth.done s.phase c.in-AtLine.line s.bestmove s.search.value c.in-AtLine.is c.self.invariant (ap is_searching c.self.view_is ∙ c.requires.whole) in
    let line = c.in-AtLine.line in
    let l : IsLine s.depth.go_request s.depth.done 0 line.walk = subst (λ (n : ℕ). IsLine s.depth.go_request s.depth.done n line.walk) (sym c.lines_done.ensures ∙ c.if-lines_done-eq0.true) w.line_is in
    let f : line.walk.pv ≡ pv s.depth.go_request.position s.depth.go_request.eval (s.depth.done + 1) = (line_first s.depth.go_request s.depth.done line.walk l s.depth.range.multi_pv_fits.least (first_some s.depth.go_request.position s.depth.first s.depth.first_is)).1 in
    rw (← c.self.view_is) (c.bestmove_of.ensures ∙ ap (λ (ms : List Move). bestmove_of ms s.depth.go_request.hold) (c.moves.ensures ∙ f))
