use Rattle.std.proofs.Common.{◌≡◌, ◌∙◌, None, true, refl, ap}
use Rattle.std.specs.Prelude.{nat_lt}
use Rattle.std.proofs.lemmas.Bool.{ltb-true}
use Rattle.shogi_search.specs.Progress.{Progress}
use Rattle.usi_session.specs.GoTaskView.{is_searching}
use Rattle.usi_session.specs.Known.{IsBetweenSearches}
use Rattle.usi_session.specs.Phases.{IsWalking, lines_done_of}
use Rattle.usi_session.specs.Walked.{running_go_of}
use Rattle.usi_session.proofs.KnownLaws.{known_here}
use Rattle.usi_session.proofs.RootLaws.{ranking_roots}
use Rattle.usi_session.proofs.TellsLaws.{none_ended}
use Rattle.usi_session.proofs.go_task.GoTask.advance.Goals as goal

pub returns-in_err-found-in-AtMove-clause-told : goal.returns-in_err-found-in-AtMove-clause-told
returns-in_err-found-in-AtMove-clause-told g c = rw (← c.self.view_is, c.in-AtMove.is) (none_ended _ _ _ _ _ c.continue_search.ensures.calls refl)

pub returns-in_ok-found-in-AtMove-clause-told : goal.returns-in_ok-found-in-AtMove-clause-told
returns-in_ok-found-in-AtMove-clause-told g c =
    let s = c.self.inside in
    rw (← c.self.view_is, c.in-AtMove.is)
    (none_ended _ _ _ _ _ c.continue_search.ensures.calls (ranking_roots s.depth.go_request s.depth.done c.in-AtMove.child c.rank_child-next.result s.search.value c.rank_child-next.new.search c.rank_child-next.ensures.none_done c.rank_child-next.ensures.roots))

-- a search that the memo answers ends at once
pub returns-in-AtLine-clause-known : goal.returns-in-AtLine-clause-known
returns-in-AtLine-clause-known g c =
    let s = c.self.inside in
    let walk = c.in-AtLine.line.walk in
    let walking : IsWalking s.depth.go_request s.depth.done c.in-AtLine.line s.bestmove s.search.value = rw c.in-AtLine.is at c.self.invariant in
    let searching : nat_lt 0 walk.plies ≡ true = rw c.in-AtLine.is at (ap is_searching c.self.view_is ∙ c.requires.searching) in
    rw (← c.self.view_is, c.in-AtLine.is) (λ (between : IsBetweenSearches (running_go_of s.depth.go_request s.depth.done (lines_done_of c.in-AtLine.line.listed) None walk s.search.value)) known.
    let fresh = ap (λ (x : Progress). x.started) c.deref_mut.ensures.value ∙ between.1 searching in
    let passes = c.walk_on.ensures.known fresh (known_here _ s.depth.go_request s.depth.done (lines_done_of c.in-AtLine.line.listed) walk s.search.value walking.line_is.eval_is (ltb-true 0 walk.plies searching) known) in
    record {
      made = passes.made;
      asked = passes.asked;
      between = (between.0, λ searches. passes.fresh (ltb-true 0 c.walk_on.new.walk.plies searches));
    })
