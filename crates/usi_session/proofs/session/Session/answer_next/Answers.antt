use Rattle.std.proofs.Common.{refl, ◌≡◌, ap, ◌∙◌, sym, rules, ◌∷◌, [], ℕ, List}
use Rattle.usi_lines.specs.Lines.{ahead}
use Rattle.usi_lines.specs.Seen.{line_of}
use Rattle.usi_session.specs.Due.{SessionView, is_pending}
use Rattle.usi_session.proofs.KnownLaws.{known_answered}
use Rattle.usi_session.proofs.Steps.{all_kept, fewer_answered, keeps_answered, nothing_pending, pending_alive, roots_answered, same_view}
use Rattle.usi_session.proofs.session.Session.answer_next.Goals as goal

pub queue_answer-requires-clause-alive : goal.queue_answer-requires-clause-alive
queue_answer-requires-clause-alive g c = ap (λ (t : SessionView). t.state.is_over) c.self.view_is ∙ pending_alive c.args.self.now c.requires.pending

pub returns-clause-kept : goal.returns-clause-kept
returns-clause-kept g c =
    let s = c.self.inside in
    let pending = ap is_pending c.self.view_is ∙ c.requires.pending in
    let idle = ap (λ (t : SessionView). t.go_task) c.self.view_is ∙ c.requires.idle in
    let first : (x : List ℕ) → ahead s.input x ≡ line_of c.in-Some.line ∷ ahead c.drop_line.new.self x = λ x. c.in-Some.ensures.first x ∙ ap (λ xs. line_of c.in-Some.line ∷ xs) (sym (c.drop_line.ensures.rest x)) in
    rw (← c.self.view_is)
    (record {
      due = keeps_answered s.state c.queue_answer.new.state s.queue c.queue_answer.new.queue s.input c.drop_line.new.self s.go_task c.in_ok-go_task.go_task (line_of c.in-Some.line) pending idle first c.in_ok-go_task.ensures.answer;
      roots = roots_answered s.state c.queue_answer.new.state s.queue c.queue_answer.new.queue s.input c.drop_line.new.self s.go_task c.in_ok-go_task.go_task (line_of c.in-Some.line) pending idle first c.in_ok-go_task.ensures.answer;
    })

-- a line was read
pub returns-in_default-clause-ok : goal.returns-in_default-clause-ok
returns-in_default-clause-ok g c =
    let s = c.self.inside in
    let pending = ap is_pending c.self.view_is ∙ c.requires.pending in
    let idle = ap (λ (t : SessionView). t.go_task) c.self.view_is ∙ c.requires.idle in
    absurd (nothing_pending (record { state = s.state; go_task = s.go_task; queued = s.queue; input = s.input }) idle (c.in_default.ensures.if_none.0 refl) pending)

-- if nothing was queued, nothing changed
pub returns-in_err-go_task-clause-kept : goal.returns-in_err-go_task-clause-kept
returns-in_err-go_task-clause-kept g c =
    let s = c.self.inside in
    rw (← c.self.view_is) (all_kept _ _ (same_view s.state c.queue_answer.new.state s.queue c.queue_answer.new.queue s.input s.go_task c.in_err-go_task.ensures.state_err c.in_err-go_task.ensures.queue_err))

pub returns-clause-ok : goal.returns-clause-ok
returns-clause-ok g c =
    let s = c.self.inside in
    let pending = ap is_pending c.self.view_is ∙ c.requires.pending in
    let idle = ap (λ (t : SessionView). t.go_task) c.self.view_is ∙ c.requires.idle in
    let first : (x : List ℕ) → ahead s.input x ≡ line_of c.in-Some.line ∷ ahead c.drop_line.new.self x = λ x. c.in-Some.ensures.first x ∙ ap (λ xs. line_of c.in-Some.line ∷ xs) (sym (c.drop_line.ensures.rest x)) in
    rw (← c.self.view_is)
    (record {
      known = known_answered s.state c.queue_answer.new.state s.queue c.queue_answer.new.queue s.input c.drop_line.new.self s.go_task c.in_ok-go_task.go_task (line_of c.in-Some.line)
          (pending_alive (record { state = s.state; go_task = s.go_task; queued = s.queue; input = s.input }) pending) idle first c.in_ok-go_task.ensures.answer
          (roots_answered s.state c.queue_answer.new.state s.queue c.queue_answer.new.queue s.input c.drop_line.new.self s.go_task c.in_ok-go_task.go_task (line_of c.in-Some.line) pending idle first c.in_ok-go_task.ensures.answer []);
      fewer = fewer_answered s.state c.queue_answer.new.state s.queue c.queue_answer.new.queue s.input c.drop_line.new.self s.go_task c.in_ok-go_task.go_task (line_of c.in-Some.line) pending idle first c.in_ok-go_task.ensures.answer;
    })
