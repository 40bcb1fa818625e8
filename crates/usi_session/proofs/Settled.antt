-- The replies due of a session that is over or has nothing pending.
use Rattle.std.proofs.Common.{◌≡◌, ℕ, List, [], ◌∷◌, ◌++◌, refl, sym, ap, ◌∙◌, false, true, Bool, append-nil, Option, Some, None}
use Rattle.std.specs.Prelude.{◌&&◌, ◌||◌, not, nat_lt, length, cond, is_some}
use Rattle.usi_lines.specs.Lines.{Line, ahead, lines}
use Rattle.usi_session.specs.declared.state.State.{State}
use Rattle.usi_session.specs.GoTaskView.{GoTaskView, rest_of_go_if, infos_left, bestmove_to}
use Rattle.usi_session.proofs.RunningGoLaws.{write_or_hold-over}
use Rattle.usi_session.specs.Due.{SessionView, due, state_due, owed, owed_after, has_line, is_pending, wants_input, new_session, new_session_under}
use Rattle.usi_session.specs.WholeStream.{replies_from, state_from, is_over_after_under, answer_unless}
use Rattle.usi_texts.specs.declared.setup.Setup.{Setup}
use Rattle.usi_texts.specs.Setup.{default_setup}
use Rattle.usi_session.specs.declared.limits.TheConstants.{QUEUE_FULL}

-- without lines there are no replies
pub replies_from-none : (s : State) → replies_from s [] ≡ []
unfolding replies_from
replies_from-none s = refl

over_line : (over : Bool) (s : State) (line : Line) (rest : List Line) → over ≡ true → replies_from s rest ≡ [] → (answer_unless over s line).bytes ++ replies_from (answer_unless over s line).state rest ≡ []
over_line true s line rest e h = h
over_line false s line rest e h = absurd (cc)

-- a session that is over replies nothing
pub replies_from-over : (s : State) (ahead : List Line) → s.is_over ≡ true → replies_from s ahead ≡ []
unfolding replies_from
replies_from-over s [] over = refl
replies_from-over s (line ∷ rest) over = over_line s.is_over s line rest over (replies_from-over s rest over)

owed-over : (s : State) (go_task : Option GoTaskView) (ahead : List Line) → s.is_over ≡ true → owed s go_task ahead ≡ []
owed-over s go_task ahead over = ap (λ (b : Bool). cond b [] (owed_after (rest_of_go_if s go_task) ahead)) over

-- a session that is over owes its queue
pub due-over : (s : SessionView) (x : List ℕ) → s.state.is_over ≡ true → due s x ≡ s.queued
due-over s x over = ap (λ xs. s.queued ++ xs) (owed-over s.state s.go_task (ahead s.input x) over) ∙ append-nil s.queued

nothing_owed : (over : Bool) (s : State) (go_task : Option GoTaskView) (xs : List Line) → (not over && (is_some go_task || has_line xs)) ≡ false → cond over [] (owed_after (rest_of_go_if s go_task) xs) ≡ []
nothing_owed true s go_task xs e = refl
nothing_owed false s None [] e = replies_from-none s
nothing_owed false s None (line ∷ rest) e = absurd (cc)
nothing_owed false s (Some go) xs e = absurd (cc)

-- a session with nothing pending owes its queue
pub due-settled : (s : SessionView) → is_pending s ≡ false → due s [] ≡ s.queued
due-settled s settled =
    ap (λ xs. s.queued ++ xs) (nothing_owed s.state.is_over s.state s.go_task (ahead s.input []) settled) ∙ append-nil s.queued

-- without lines the state stays
state_from-none : (s : State) → state_from s [] ≡ s
unfolding state_from
state_from-none s = refl

over_stays : (over : Bool) (s : State) (line : Line) → over ≡ true → (answer_unless over s line).state ≡ s
over_stays true s line e = refl
over_stays false s line e = absurd (cc)

-- a session that is over keeps its state
state_from-over : (s : State) (ahead : List Line) → s.is_over ≡ true → state_from s ahead ≡ s
unfolding state_from
state_from-over s [] over = refl
state_from-over s (line ∷ rest) over = ap (λ (t : State). state_from t rest) (over_stays s.is_over s line over) ∙ state_from-over s rest over

rest_of_go-over : (s : State) (go_task : Option GoTaskView) → (rest_of_go_if s go_task).state.is_over ≡ s.is_over
rest_of_go-over s None = refl
rest_of_go-over s (Some go) = write_or_hold-over s (infos_left go) (bestmove_to go.go_request go.go_request.depth) go.go_request.hold

-- a session that is over stays over
pub state_due-over : (s : SessionView) (x : List ℕ) → s.state.is_over ≡ true → (state_due s x).is_over ≡ true
state_due-over s x over =
    let ended : (rest_of_go_if s.state s.go_task).state.is_over ≡ true = rest_of_go-over s.state s.go_task ∙ over in
    ap (λ (t : State). t.is_over) (state_from-over (rest_of_go_if s.state s.go_task).state (ahead s.input x) ended) ∙ ended

-- a session that is over ends in one state, whatever it is sent
pub state_due-over_same : (s : SessionView) (x y : List ℕ) → s.state.is_over ≡ true → state_due s x ≡ state_due s y
state_due-over_same s x y over =
    let ended : (rest_of_go_if s.state s.go_task).state.is_over ≡ true = rest_of_go-over s.state s.go_task ∙ over in
    state_from-over (rest_of_go_if s.state s.go_task).state (ahead s.input x) ended ∙ sym (state_from-over (rest_of_go_if s.state s.go_task).state (ahead s.input y) ended)

idle_state : (over : Bool) (s : State) (go_task : Option GoTaskView) (xs : List Line) → over ≡ false → (not over && (is_some go_task || has_line xs)) ≡ false → state_from (rest_of_go_if s go_task).state xs ≡ s
idle_state true s go_task xs alive e = absurd (cc)
idle_state false s None [] alive e = state_from-none s
idle_state false s None (line ∷ rest) alive e = absurd (cc)
idle_state false s (Some go) xs alive e = absurd (cc)

-- a live session with nothing pending is in the state after all its lines
pub state_due-settled : (s : SessionView) → s.state.is_over ≡ false → is_pending s ≡ false → state_due s [] ≡ s.state
state_due-settled s alive settled = idle_state s.state.is_over s.state s.go_task (ahead s.input []) alive settled

both_false : (over : Bool) → (not over && false) ≡ false
both_false true = refl
both_false false = refl

settled_of : (over line short : Bool) → (not over && not line && short) ≡ true → (not over && line) ≡ false
settled_of over false short e = both_false over
settled_of false true short e = absurd (cc)
settled_of true true short e = absurd (cc)

-- a session that wants input has nothing pending
pub wanting-settled : (s : SessionView) → wants_input s ≡ true → is_pending s ≡ false
wanting-settled s wants = settled_of s.state.is_over (is_some s.go_task || has_line (ahead s.input [])) (nat_lt (length s.queued) QUEUE_FULL) wants

-- a session that wants input owes its queue
pub due-wanting : (s : SessionView) → wants_input s ≡ true → due s [] ≡ s.queued
due-wanting s wants = due-settled s (wanting-settled s wants)

wants_from : (over line short : Bool) → over ≡ false → (not over && line) ≡ false → short ≡ true → (not over && not line && short) ≡ true
wants_from false false true a b c = refl
wants_from false false false a b c = absurd (cc)
wants_from false true short a b c = absurd (cc)
wants_from true line short a b c = absurd (cc)

-- a live session with nothing pending and nothing queued wants input
pub wants_after : (s : SessionView) → s.state.is_over ≡ false → is_pending s ≡ false → s.queued ≡ [] → wants_input s ≡ true
wants_after s alive settled empty =
    wants_from s.state.is_over (is_some s.go_task || has_line (ahead s.input [])) (nat_lt (length s.queued) QUEUE_FULL) alive settled (ap (λ q. nat_lt (length q) QUEUE_FULL) empty)

-- a new session wants input
pub new_wants_under : (setup : Setup) → wants_input (new_session_under setup) ≡ true
unfolding lines
new_wants_under setup = refl

pub new_wants : wants_input new_session ≡ true
new_wants = new_wants_under default_setup

alive_of : (over settled short : Bool) → (not over && not settled && short) ≡ true → over ≡ false
alive_of false settled short e = refl
alive_of true settled short e = absurd (cc)

-- a session that wants input is not over after all its lines
pub state_due-wanting : (s : SessionView) → wants_input s ≡ true → (state_due s []).is_over ≡ false
state_due-wanting s wants =
    let alive : s.state.is_over ≡ false = alive_of s.state.is_over (is_some s.go_task || has_line (ahead s.input [])) (nat_lt (length s.queued) QUEUE_FULL) wants in
    let settled : is_pending s ≡ false = wanting-settled s wants in
    ap (λ (t : State). t.is_over) (state_due-settled s alive settled) ∙ alive

-- no session is over before its first byte
pub initial_state_alive_under : (setup : Setup) → is_over_after_under setup [] ≡ false
unfolding lines state_from
initial_state_alive_under setup = refl
