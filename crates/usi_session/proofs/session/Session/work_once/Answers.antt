use Rattle.std.proofs.Common.{◌∙◌, ℕ, ◌+◌, ◌≤◌, [], ap, arith, refl}
use Rattle.usi_lines.specs.Lines.{ahead}
use Rattle.usi_session.proofs.Steps.{both_none, fewer_searched, keeps_searched, made_searched, pending_alive, spent_searched, told_searched}
use Rattle.usi_session.proofs.TellsLaws.{none_called, none_ended_for}
use Rattle.usi_session.specs.Due.{is_pending}
use Rattle.usi_session.proofs.KnownLaws.{answers_kept, known_passed, known_running}
use Rattle.usi_session.proofs.session.Session.work_once.Goals as goal

-- a search makes at most the steps of its budget
pub returns-then-is_searching-clause-most : goal.returns-then-is_searching-clause-most
returns-then-is_searching-clause-most g c = c.advance.ensures.most

-- without a running search, none ends
pub returns-in_err-answer_next-in-None-clause-told : goal.returns-in_err-answer_next-in-None-clause-told
returns-in_err-answer_next-in-None-clause-told g c = rw (← c.self.view_is) (none_ended_for _ _ _ _ _ (none_called _ _) c.answer_next.ensures.kept.roots)

pub returns-in_err-report_next-in-Some-clause-told : goal.returns-in_err-report_next-in-Some-clause-told
returns-in_err-report_next-in-Some-clause-told g c = rw (← c.self.view_is, c.in-Some.is) (none_ended_for _ _ _ _ _ (none_called _ _) c.report_next.ensures.kept.roots)

pub returns-in_ok-answer_next-in-None-clause-told : goal.returns-in_ok-answer_next-in-None-clause-told
returns-in_ok-answer_next-in-None-clause-told g c = rw (← c.self.view_is) (none_ended_for _ _ _ _ _ (none_called _ _) c.answer_next.ensures.kept.roots)

pub returns-in_ok-report_next-in-Some-clause-told : goal.returns-in_ok-report_next-in-Some-clause-told
returns-in_ok-report_next-in-Some-clause-told g c = rw (← c.self.view_is, c.in-Some.is) (none_ended_for _ _ _ _ _ (none_called _ _) c.report_next.ensures.kept.roots)

pub returns-then-is_searching-clause-kept : goal.returns-then-is_searching-clause-kept
returns-then-is_searching-clause-kept g c =
    let s = c.self.inside in
    rw (← c.self.view_is) (keeps_searched s.state s.queue s.input c.in-Some.go_task c.advance.new.self s.go_task c.args.budget c.advance.result c.in-Some.is c.advance.ensures.unchanged c.advance.ensures.spent c.advance.ensures.made)

pub returns-then-is_searching-clause-spent : goal.returns-then-is_searching-clause-spent
returns-then-is_searching-clause-spent g c =
    let s = c.self.inside in
    rw (← c.self.view_is) (spent_searched c.args.budget c.advance.result s.state c.in-Some.go_task c.advance.new.self s.go_task (ahead s.input []) c.in-Some.is c.advance.ensures.unchanged c.advance.ensures.spent)

pub returns-then-is_searching-clause-made : goal.returns-then-is_searching-clause-made
returns-then-is_searching-clause-made g c =
    let s = c.self.inside in
    rw (← c.self.view_is) (made_searched c.advance.result s.state c.in-Some.go_task c.advance.new.self s.go_task (ahead s.input []) c.in-Some.is c.advance.ensures.unchanged c.advance.ensures.made)

pub returns-then-is_searching-clause-fewer : goal.returns-then-is_searching-clause-fewer
returns-then-is_searching-clause-fewer g c =
    let s = c.self.inside in
    rw (← c.self.view_is) (fewer_searched c.advance.result s.state s.queue s.input c.in-Some.go_task c.advance.new.self s.go_task c.in-Some.is c.advance.ensures.unchanged c.advance.ensures.fewer)

pub returns-then-is_searching-clause-told : goal.returns-then-is_searching-clause-told
returns-then-is_searching-clause-told g c =
    let s = c.self.inside in
    rw (← c.self.view_is) (told_searched _ _ _ s.state c.in-Some.go_task c.advance.new.self s.go_task (ahead s.input) (pending_alive (record { state = s.state; go_task = s.go_task; queued = s.queue; input = s.input }) (ap is_pending c.self.view_is ∙ c.requires.pending)) c.in-Some.is c.advance.ensures.unchanged c.advance.ensures.told)

pub returns-then-is_searching-clause-unfinished : goal.returns-then-is_searching-clause-unfinished
returns-then-is_searching-clause-unfinished g c = both_none _ _ c.advance.result c.advance.ensures.stays c.advance.ensures.unfinished

pub returns-then-is_searching-clause-capacity : goal.returns-then-is_searching-clause-capacity
returns-then-is_searching-clause-capacity g c = c.advance.ensures.capacity

-- a turn without steps
none_made : (left most : ℕ) → left ≤ most → 0 + left ≤ most
none_made left most less = omega arith

pub returns-in_ok-answer_next-in-None-clause-kept : goal.returns-in_ok-answer_next-in-None-clause-kept
returns-in_ok-answer_next-in-None-clause-kept g c = rw (← c.self.view_is) c.answer_next.ensures.kept.due

pub returns-in_ok-answer_next-in-None-clause-made : goal.returns-in_ok-answer_next-in-None-clause-made
returns-in_ok-answer_next-in-None-clause-made g c = rw (← c.self.view_is) (none_made _ _ c.answer_next.ensures.kept.due.load_most)

pub returns-in_ok-answer_next-in-None-clause-fewer : goal.returns-in_ok-answer_next-in-None-clause-fewer
returns-in_ok-answer_next-in-None-clause-fewer g c = rw (← c.self.view_is) c.in_ok-answer_next-in-None.ensures.ok.fewer

pub returns-in_ok-report_next-in-Some-clause-kept : goal.returns-in_ok-report_next-in-Some-clause-kept
returns-in_ok-report_next-in-Some-clause-kept g c = rw (← c.self.view_is, c.in-Some.is) c.report_next.ensures.kept.due

pub returns-in_ok-report_next-in-Some-clause-made : goal.returns-in_ok-report_next-in-Some-clause-made
returns-in_ok-report_next-in-Some-clause-made g c = rw (← c.self.view_is, c.in-Some.is) (none_made _ _ c.report_next.ensures.kept.due.load_most)

pub returns-in_ok-report_next-in-Some-clause-fewer : goal.returns-in_ok-report_next-in-Some-clause-fewer
returns-in_ok-report_next-in-Some-clause-fewer g c = rw (← c.self.view_is, c.in-Some.is) c.in_ok-report_next-in-Some.ensures.ok.fewer

pub returns-in_err-answer_next-in-None-clause-kept : goal.returns-in_err-answer_next-in-None-clause-kept
returns-in_err-answer_next-in-None-clause-kept g c = rw (← c.self.view_is) c.answer_next.ensures.kept.due

pub returns-in_err-report_next-in-Some-clause-kept : goal.returns-in_err-report_next-in-Some-clause-kept
returns-in_err-report_next-in-Some-clause-kept g c = rw (← c.self.view_is, c.in-Some.is) c.report_next.ensures.kept.due

-- if all searches are known, the search takes no step
pub returns-then-is_searching-clause-known : goal.returns-then-is_searching-clause-known
returns-then-is_searching-clause-known g c =
    let s = c.self.inside in
    rw (← c.self.view_is) (λ keeps known.
    let running = known_running (g.M.Memo.answers c.args.memo.now) s.state s.queue s.input c.in-Some.go_task s.go_task (pending_alive (record { state = s.state; go_task = s.go_task; queued = s.queue; input = s.input }) (ap is_pending c.self.view_is ∙ c.requires.pending)) c.in-Some.is known in
    let passed = c.advance.ensures.known running.0 running.1 in
    let told = told_searched g.M.Memo.called c.args.memo.now c.advance.new.memo s.state c.in-Some.go_task c.advance.new.self s.go_task (ahead s.input) (pending_alive (record { state = s.state; go_task = s.go_task; queued = s.queue; input = s.input }) (ap is_pending c.self.view_is ∙ c.requires.pending)) c.in-Some.is c.advance.ensures.unchanged c.advance.ensures.told in (
      passed.made,
      known_passed (g.M.Memo.answers c.args.memo.now) (g.M.Memo.answers c.advance.new.memo) s.state s.queue s.input c.in-Some.go_task c.advance.new.self s.go_task c.in-Some.is c.advance.ensures.unchanged passed.between
          (answers_kept g.M.Memo.answers g.M.Memo.called c.args.memo.now c.advance.new.memo keeps passed.asked) told.ended (told.left []) known,
    ))

pub returns-in_ok-answer_next-in-None-clause-known : goal.returns-in_ok-answer_next-in-None-clause-known
returns-in_ok-answer_next-in-None-clause-known g c = rw (← c.self.view_is) (λ keeps known. (refl, c.in_ok-answer_next-in-None.ensures.ok.known (g.M.Memo.answers c.args.memo.now) known))

pub returns-in_ok-report_next-in-Some-clause-known : goal.returns-in_ok-report_next-in-Some-clause-known
returns-in_ok-report_next-in-Some-clause-known g c = rw (← c.self.view_is, c.in-Some.is) (λ keeps known. (refl, c.in_ok-report_next-in-Some.ensures.ok.known (g.M.Memo.answers c.args.memo.now) known))
