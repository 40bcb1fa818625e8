use Rattle.std.proofs.Common.{◌+◌, ◌∙◌, sym}
use Rattle.std.proofs.lemmas.Bool.{and_from, both_ways, cond-true, eq-eqb}
use Rattle.usi_session.specs.GoTaskView.{ends_depth, infos_to_come, deeper_infos}
use Rattle.usi_session.proofs.RootLaws.{ended_roots}
use Rattle.usi_session.proofs.go_task.GoTask.next.Goals as goal

pub next_depth-requires-clause-more : goal.next_depth-requires-clause-more
next_depth-requires-clause-more g c = λ e. both_ways _ c.requires.more (and_from _ _ (sym c.ends_depth.ensures ∙ c.if-ends_depth.true) (eq-eqb _ _ e))

pub returns-then-ends_depth-clause-rest : goal.returns-then-ends_depth-clause-rest
returns-then-ends_depth-clause-rest g c =
    let s = c.args.self.now in
    c.next_depth.ensures.rest ∙ sym (cond-true (ends_depth s.go_request s.depths_done s.lines_done) (deeper_infos s.go_request s.depths_done) (infos_to_come s.go_request s.depths_done (s.lines_done + 1)) (sym c.ends_depth.ensures ∙ c.if-ends_depth.true))

pub returns-then-ends_depth-clause-roots : goal.returns-then-ends_depth-clause-roots
returns-then-ends_depth-clause-roots g c =
    c.next_depth.ensures.roots ∙ sym (ended_roots c.args.self.now c.requires.whole (sym c.ends_depth.ensures ∙ c.if-ends_depth.true))

pub returns-then-ends_depth-clause-fresh : goal.returns-then-ends_depth-clause-fresh
returns-then-ends_depth-clause-fresh g c = λ _. c.next_depth.ensures.fresh
