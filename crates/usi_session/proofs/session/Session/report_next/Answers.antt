use Rattle.std.proofs.Common.{Some, ap, subst, sym, ◌∙◌, refl, rules, []}
use Rattle.usi_lines.specs.Lines.{ahead}
use Rattle.usi_session.specs.Due.{IsPvWhole, SessionView, is_pending}
use Rattle.usi_session.proofs.KnownLaws.{known_ended, known_reported}
use Rattle.usi_session.proofs.Steps.{all_kept, fewer_ended, fewer_reported, keeps_ended, keeps_reported, pending_alive, roots_ended, roots_reported, same_view}
use Rattle.usi_session.proofs.session.Session.report_next.Goals as goal

pub returns-then-not-is_last-clause-kept : goal.returns-then-not-is_last-clause-kept
returns-then-not-is_last-clause-kept g c =
    let s = c.self.inside in
    let pending = ap is_pending c.self.view_is ∙ c.requires.pending in
    rw (← c.self.view_is)
    (record {
      due = keeps_reported s.state s.queue c.queue_line.new.queue s.input c.in-Some.go_task c.next.new.self s.go_task pending c.in-Some.is c.next.ensures.go_request c.next.ensures.rest c.next.ensures.load (search rules);
      roots = λ x. roots_reported s.state c.in-Some.go_task c.next.new.self s.go_task (ahead s.input x) c.in-Some.is c.next.ensures.go_request c.next.ensures.roots;
    })

pub returns-clause-kept : goal.returns-clause-kept
returns-clause-kept g c =
    let s = c.self.inside in
    let pending = ap is_pending c.self.view_is ∙ c.requires.pending in
    rw (← c.self.view_is)
    (record {
      due = keeps_ended s.state c.queue_end.new.state s.queue c.queue_end.new.queue s.input c.in-Some.go_task s.go_task pending c.in-Some.is (search rules);
      roots = λ x. roots_ended s.state c.queue_end.new.state s.queue c.queue_end.new.queue c.in-Some.go_task s.go_task (ahead s.input x) (pending_alive (record { state = s.state; go_task = s.go_task; queued = s.queue; input = s.input }) (ap is_pending c.self.view_is ∙ c.requires.pending)) c.in-Some.is (search rules) (search rules) (search rules);
    })

-- if nothing was queued, nothing changed
pub returns-in_err-queue_line-clause-kept : goal.returns-in_err-queue_line-clause-kept
returns-in_err-queue_line-clause-kept g c =
    let s = c.self.inside in
    rw (← c.self.view_is, c.in-Some.is) (all_kept _ _ (same_view s.state s.state s.queue c.queue_line.new.queue s.input (Some c.in-Some.go_task) refl c.in_err-queue_line.ensures.err))

pub returns-in_err-queue_end-clause-kept : goal.returns-in_err-queue_end-clause-kept
returns-in_err-queue_end-clause-kept g c =
    let s = c.self.inside in
    rw (← c.self.view_is, c.in-Some.is) (all_kept _ _ (same_view s.state c.queue_end.new.state s.queue c.queue_end.new.queue s.input (Some c.in-Some.go_task) c.in_err-queue_end.ensures.state_err c.in_err-queue_end.ensures.queue_err))

-- a `go` is running
pub returns-in_default : goal.returns-in_default
returns-in_default g c = absurd (subst IsPvWhole (ap (λ (t : SessionView). t.go_task) (sym c.self.view_is) ∙ c.in_default.is) c.requires.whole)

pub returns-then-not-is_last-clause-ok : goal.returns-then-not-is_last-clause-ok
returns-then-not-is_last-clause-ok g c =
    let s = c.self.inside in
    rw (← c.self.view_is)
    (record {
      known = known_reported s.state s.queue c.queue_line.new.queue s.input c.in-Some.go_task c.next.new.self s.go_task c.in-Some.is c.next.ensures.go_request c.next.ensures.fresh
          (roots_reported s.state c.in-Some.go_task c.next.new.self s.go_task (ahead s.input []) c.in-Some.is c.next.ensures.go_request c.next.ensures.roots);
      fewer = fewer_reported s.state s.queue c.queue_line.new.queue s.input c.in-Some.go_task c.next.new.self s.go_task c.in-Some.is c.next.ensures.go_request c.next.ensures.load c.next.ensures.fewer;
    })

pub returns-clause-ok : goal.returns-clause-ok
returns-clause-ok g c =
    let s = c.self.inside in
    rw (← c.self.view_is)
    (record {
      known = known_ended s.state c.queue_end.new.state s.queue c.queue_end.new.queue s.input c.in-Some.go_task s.go_task c.in-Some.is (search rules)
          (roots_ended s.state c.queue_end.new.state s.queue c.queue_end.new.queue c.in-Some.go_task s.go_task (ahead s.input []) (pending_alive (record { state = s.state; go_task = s.go_task; queued = s.queue; input = s.input }) (ap is_pending c.self.view_is ∙ c.requires.pending)) c.in-Some.is (search rules) (search rules) (search rules));
      fewer = fewer_ended s.state c.queue_end.new.state s.queue c.queue_end.new.queue s.input c.in-Some.go_task s.go_task c.in-Some.is (search rules);
    })
