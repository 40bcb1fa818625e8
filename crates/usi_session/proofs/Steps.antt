-- Answering a line more, or reporting a line more of a `go`.
use Rattle.std.proofs.Common.{◌≡◌, ℕ, ◌+◌, ◌-◌, ◌*◌, ◌<◌, ◌≤◌, List, [], ◌∷◌, ◌++◌, length, refl, sym, ap, ◌∙◌, arith, append_assoc, append-nil, true, false, Bool, Option, Some, None, cond}
use Rattle.std.specs.Prelude.{IfNone, IfSome, OnSome, not, ◌&&◌, ◌||◌, is_some}
use Rattle.usi_lines.specs.Lines.{ahead, Buffer}
use Rattle.usi_session.specs.declared.go_request.GoRequest.{GoRequest}
use Rattle.usi_session.specs.declared.state.HeldBestmove.{HeldBestmove}
use Rattle.usi_session.specs.Answer.{write_or_hold}
use Rattle.usi_session.proofs.RunningGoLaws.{infos_after_line-last, write_or_hold-bytes, write_or_hold-state}
use Rattle.usi_lines.specs.Lines.{Line}
use Rattle.usi_session.specs.declared.state.State.{State}
use Rattle.usi_session.specs.WholeStream.{replies_from, state_from, answer_to, answer_unless}
use Rattle.usi_session.specs.GoTaskView.{GoTaskView, IsSameButForSearch, rest_of_go, rest_of_go_if, with_rest, load_after_search, load_of, load_of_if, infos_left, infos_after, bestmove_to, is_last, reports_of, reports_of_if, roots_of, roots_of_if, is_searching, most_reports}
use Rattle.usi_session.specs.Costs.{costs_from, cost_to}
use Rattle.usi_session.specs.Roots.{Root, roots_to, roots_from}
use Rattle.usi_session.specs.Due.{SessionView, IsMidSearch, KeepsDueAndRoots, KeepsDue, KeepsRoots, QueuesAnswer, QueuesEnd, QueuesLine, owed, owed_after, load_ahead, roots_ahead, roots_due, roots_unless_over, is_pending, has_line, roots_left, turns}
use Rattle.usi_session.proofs.Settled.{replies_from-over}
use Rattle.usi_session.proofs.RootLaws.{roots_of-last}
use Rattle.usi_session.proofs.WholeReplies.{grows_by_none, grows_then}
use Rattle.shogi_search.specs.Calls.{Call}
use Rattle.usi_session.specs.Told.{TellsEnded, TellsEndedFor}

-- a session that is not over answers the line
replies_from-alive : (s : State) (line : Line) (rest : List Line) → s.is_over ≡ false → replies_from s (line ∷ rest) ≡ (answer_to s line).bytes ++ replies_from (answer_to s line).state rest
unfolding replies_from
replies_from-alive s line rest alive =
    ap (λ (over : Bool). (answer_unless over s line).bytes ++ replies_from (answer_unless over s line).state rest) alive

costs_from-alive : (s : State) (line : Line) (rest : List Line) → s.is_over ≡ false → costs_from s (line ∷ rest) ≡ cost_to s line + costs_from (answer_to s line).state rest
unfolding costs_from
costs_from-alive s line rest alive =
    ap (λ (over : Bool). cond over 0 (cost_to s line) + costs_from (answer_unless over s line).state rest) alive

state_from-alive : (s : State) (line : Line) (rest : List Line) → s.is_over ≡ false → state_from s (line ∷ rest) ≡ state_from (answer_to s line).state rest
unfolding state_from
state_from-alive s line rest alive = ap (λ (over : Bool). state_from (answer_unless over s line).state rest) alive

owed_either : (over : Bool) (s : State) (go_task : Option GoTaskView) (ahead : List Line) → s.is_over ≡ over → (over ≡ true → go_task ≡ None) → cond over [] (owed_after (rest_of_go_if s go_task) ahead) ≡ owed_after (rest_of_go_if s go_task) ahead
owed_either false s go_task ahead e h = refl
owed_either true s go_task ahead e h = rw (h refl) (sym (replies_from-over s ahead e))

-- a session that is over has no running `go`
pub owed_on : (s : State) (go_task : Option GoTaskView) (ahead : List Line) → (s.is_over ≡ true → go_task ≡ None) → owed s go_task ahead ≡ owed_after (rest_of_go_if s go_task) ahead
owed_on s go_task ahead h = owed_either s.is_over s go_task ahead refl h

pub owed-alive : (s : State) (go_task : Option GoTaskView) (ahead : List Line) → s.is_over ≡ false → owed s go_task ahead ≡ owed_after (rest_of_go_if s go_task) ahead
owed-alive s go_task ahead alive = ap (λ (over : Bool). cond over [] (owed_after (rest_of_go_if s go_task) ahead)) alive

with_rest-parts : (bytes : List ℕ) (s : State) (go_task : Option GoTaskView) → with_rest bytes s go_task ≡ bytes ++ (rest_of_go_if s go_task).bytes
with_rest-parts bytes s None = sym (append-nil bytes)
with_rest-parts bytes s (Some go) = refl

-- queueing a line's answer, or starting its `go`, keeps the replies due
pub due_on : (s next : State) (queued more reply : List ℕ) (idle go_task : Option GoTaskView) (line : Line) (all rest : List Line) → s.is_over ≡ false → idle ≡ None → all ≡ line ∷ rest → more ≡ queued ++ reply → with_rest reply next go_task ≡ (answer_to s line).bytes → (rest_of_go_if next go_task).state ≡ (answer_to s line).state → (next.is_over ≡ true → go_task ≡ None)
    → more ++ owed next go_task rest ≡ queued ++ owed s idle all
due_on s next queued more reply idle go_task line all rest alive i e f g h over =
    let given : reply ++ (rest_of_go_if next go_task).bytes ≡ (answer_to s line).bytes = sym (with_rest-parts reply next go_task) ∙ g in
    let after : owed s idle all ≡ (answer_to s line).bytes ++ replies_from (answer_to s line).state rest =
    ap (λ (o : Option GoTaskView). owed s o all) i ∙ (owed-alive s None all alive ∙ (ap (replies_from s) e ∙ replies_from-alive s line rest alive)) in
    ap (λ xs. more ++ xs) (owed_on next go_task rest over)
    ∙ (ap (λ xs. xs ++ owed_after (rest_of_go_if next go_task) rest) f
    ∙ (append_assoc queued reply (owed_after (rest_of_go_if next go_task) rest)
    ∙ ap (λ xs. queued ++ xs) (sym (append_assoc reply (rest_of_go_if next go_task).bytes (replies_from (rest_of_go_if next go_task).state rest))
    ∙ (ap (λ xs. xs ++ replies_from (rest_of_go_if next go_task).state rest) given
    ∙ (ap (λ (t : State). (answer_to s line).bytes ++ replies_from t rest) h ∙ sym after)))))

-- a `go` costs at most what its line did
pub load_on : (s next : State) (idle go_task : Option GoTaskView) (line : Line) (all rest : List Line) → s.is_over ≡ false → idle ≡ None → all ≡ line ∷ rest → (rest_of_go_if next go_task).state ≡ (answer_to s line).state → load_of_if go_task ≤ cost_to s line → load_ahead next go_task rest ≤ load_ahead s idle all
load_on s next idle go_task line all rest alive i e h less =
    let whole : costs_from s all ≡ cost_to s line + costs_from (answer_to s line).state rest = ap (costs_from s) e ∙ costs_from-alive s line rest alive in
    let same : costs_from (rest_of_go_if next go_task).state rest ≡ costs_from (answer_to s line).state rest = ap (λ (t : State). costs_from t rest) h in
    rw i (omega arith)

-- the state after all lines is that after a line's `go` and the lines behind it
pub state_on : (s next : State) (idle go_task : Option GoTaskView) (line : Line) (all rest : List Line) → s.is_over ≡ false → idle ≡ None → all ≡ line ∷ rest → (rest_of_go_if next go_task).state ≡ (answer_to s line).state → state_from (rest_of_go_if next go_task).state rest ≡ state_from (rest_of_go_if s idle).state all
state_on s next idle go_task line all rest alive i e h =
    ap (λ (t : State). state_from t rest) h ∙ (sym (state_from-alive s line rest alive) ∙ (ap (state_from s) (sym e) ∙ ap (λ (o : Option GoTaskView). state_from (rest_of_go_if s o).state all) (sym i)))

-- the bestmove of a `go`
abbrev last_bestmove : GoTaskView → HeldBestmove
last_bestmove go = bestmove_to go.go_request go.go_request.depth

rest-bytes : (s : State) (go : GoTaskView) → (rest_of_go s go).bytes ≡ infos_left go ++ (write_or_hold s [] (last_bestmove go) go.go_request.hold).bytes
rest-bytes s go = write_or_hold-bytes s (infos_left go) (last_bestmove go) go.go_request.hold

rest-state : (s : State) (go : GoTaskView) → (rest_of_go s go).state ≡ (write_or_hold s [] (last_bestmove go) go.go_request.hold).state
rest-state s go = write_or_hold-state s (infos_left go) (last_bestmove go) go.go_request.hold

-- reporting a line does not change the state after a `go`
pub rest_reported-state : (s : State) (go more : GoTaskView) → more.go_request ≡ go.go_request → (rest_of_go s more).state ≡ (rest_of_go s go).state
rest_reported-state s go more q =
    rest-state s more ∙ (ap (λ (go_request : GoRequest). (write_or_hold s [] (bestmove_to go_request go_request.depth) go_request.hold).state) q ∙ sym (rest-state s go))

-- reporting a line does not raise the load, with the lines ahead
pub load_reported : (s : State) (go more : GoTaskView) (go_task : Option GoTaskView) (ahead : List Line) → go_task ≡ Some go → more.go_request ≡ go.go_request → load_of more ≤ load_of go → load_ahead s (Some more) ahead ≤ load_ahead s go_task ahead
load_reported s go more go_task ahead i q less =
    let same : costs_from (rest_of_go s more).state ahead ≡ costs_from (rest_of_go s go).state ahead = ap (λ (t : State). costs_from t ahead) (rest_reported-state s go more q) in
    rw i (omega arith)

-- reporting a line of a `go` keeps the replies due
pub due_reported : (s : State) (queued more infos : List ℕ) (go next : GoTaskView) (go_task : Option GoTaskView) (ahead : List Line) → s.is_over ≡ false → go_task ≡ Some go → next.go_request ≡ go.go_request → infos_left next ≡ infos_after go
    → infos ++ infos_after go ≡ infos_left go → more ≡ queued ++ infos → more ++ owed s (Some next) ahead ≡ queued ++ owed s go_task ahead
due_reported s queued more infos go next go_task ahead alive i q f g m =
    let last : (write_or_hold s [] (last_bestmove next) next.go_request.hold).bytes ≡ (write_or_hold s [] (last_bestmove go) go.go_request.hold).bytes = ap (λ (go_request : GoRequest). (write_or_hold s [] (bestmove_to go_request go_request.depth) go_request.hold).bytes) q in
    let bytes : infos ++ (rest_of_go s next).bytes ≡ (rest_of_go s go).bytes = ap (λ xs. infos ++ xs) (rest-bytes s next) ∙ (sym (append_assoc infos (infos_left next) (write_or_hold s [] (last_bestmove next) next.go_request.hold).bytes)
    ∙ (ap (λ xs. (infos ++ xs) ++ (write_or_hold s [] (last_bestmove next) next.go_request.hold).bytes) f ∙ (ap (λ xs. xs ++ (write_or_hold s [] (last_bestmove next) next.go_request.hold).bytes) g ∙ (ap (λ xs. infos_left go ++ xs) last ∙ sym (rest-bytes s go))))) in
    let before : owed s go_task ahead ≡ (rest_of_go s go).bytes ++ replies_from (rest_of_go s go).state ahead = ap (λ (o : Option GoTaskView). owed s o ahead) i ∙ owed-alive s (Some go) ahead alive in
    let after : owed s (Some next) ahead ≡ (rest_of_go s next).bytes ++ replies_from (rest_of_go s go).state ahead = owed-alive s (Some next) ahead alive ∙ ap (λ (t : State). (rest_of_go s next).bytes ++ replies_from t ahead) (rest_reported-state s go next q) in
    ap (λ xs. xs ++ owed s (Some next) ahead) m ∙ (append_assoc queued infos (owed s (Some next) ahead)
    ∙ ap (λ xs. queued ++ xs) (ap (λ xs. infos ++ xs) after ∙ (sym (append_assoc infos (rest_of_go s next).bytes (replies_from (rest_of_go s go).state ahead)) ∙ (ap (λ xs. xs ++ replies_from (rest_of_go s go).state ahead) bytes ∙ sym before))))

-- ending a `go` leads to the state that was owed
pub ends-state : (s next : State) (go : GoTaskView) (held : HeldBestmove) → held ≡ last_bestmove go → next ≡ (write_or_hold s [] held held.until).state → (rest_of_go s go).state ≡ next
ends-state s next go held e h = rest-state s go ∙ (ap (λ (k : HeldBestmove). (write_or_hold s [] k k.until).state) (sym e) ∙ sym h)

-- the last line and the bestmove are all that the `go` still owed
pub ends_bytes : (s : State) (infos reply : List ℕ) (go : GoTaskView) (held : HeldBestmove) → is_last go ≡ true → held ≡ last_bestmove go
    → infos ++ infos_after go ≡ infos_left go → reply ≡ infos ++ (write_or_hold s [] held held.until).bytes → reply ≡ (rest_of_go s go).bytes
ends_bytes s infos reply go held last e f g =
    let lines : infos ≡ infos_left go = sym (append-nil infos) ∙ (ap (λ xs. infos ++ xs) (sym (infos_after_line-last go last)) ∙ f) in
    g ∙ (ap (λ (k : HeldBestmove). infos ++ (write_or_hold s [] k k.until).bytes) e ∙ (ap (λ xs. xs ++ (write_or_hold s [] (last_bestmove go) go.go_request.hold).bytes) lines ∙ sym (rest-bytes s go)))

due_ends : (s next : State) (queued more : List ℕ) (go : GoTaskView) (go_task : Option GoTaskView) (ahead : List Line) → s.is_over ≡ false → go_task ≡ Some go → QueuesEnd go s next queued more → more ++ owed next None ahead ≡ queued ++ owed s go_task ahead
due_ends s next queued more go go_task ahead alive i h =
    let before : owed s go_task ahead ≡ (rest_of_go s go).bytes ++ replies_from (rest_of_go s go).state ahead = ap (λ (o : Option GoTaskView). owed s o ahead) i ∙ owed-alive s (Some go) ahead alive in
    let after : owed next None ahead ≡ replies_from next ahead = owed_on next None ahead (λ _. refl) in
    ap (λ xs. more ++ xs) after ∙ (ap (λ xs. xs ++ replies_from next ahead) h.after_end ∙ (append_assoc queued (rest_of_go s go).bytes (replies_from next ahead)
    ∙ ap (λ xs. queued ++ xs) (ap (λ (t : State). (rest_of_go s go).bytes ++ replies_from t ahead) h.state_is ∙ sym before)))

alive_of : (over some : Bool) → (not over && some) ≡ true → over ≡ false
alive_of false some e = refl
alive_of true some e = absurd (cc)

-- a session with something pending is alive
pub pending_alive : (s : SessionView) → is_pending s ≡ true → s.state.is_over ≡ false
pending_alive s e = alive_of s.state.is_over (is_some s.go_task || has_line (ahead s.input [])) e

-- answering a line lowers the number of turns left
pub turns_on : (s next : State) (idle go_task : Option GoTaskView) (line : Line) (all rest : List Line) → s.is_over ≡ false → idle ≡ None → all ≡ line ∷ rest → (rest_of_go_if next go_task).state ≡ (answer_to s line).state → load_of_if go_task ≤ cost_to s line → reports_of_if go_task ≤ most_reports
    → load_ahead next go_task rest + ((most_reports + 1) * length rest + reports_of_if go_task) < load_ahead s idle all + ((most_reports + 1) * length all + reports_of_if idle)
turns_on s next idle go_task line all rest alive i e h less least =
    let n : length all ≡ length (line ∷ rest) = ap length e in
    omega (arith, load_on s next idle go_task line all rest alive i e h less)

-- a session that is not over searches for the line
roots_from-alive : (s : State) (line : Line) (rest : List Line) → s.is_over ≡ false → roots_from s (line ∷ rest) ≡ roots_to s line ++ roots_from (answer_to s line).state rest
unfolding roots_from
roots_from-alive s line rest alive =
    ap (λ (over : Bool). cond over [] (roots_to s line) ++ roots_from (answer_unless over s line).state rest) alive

-- a session that is over searches for no line
roots_from-over : (s : State) (lines : List Line) → s.is_over ≡ true → roots_from s lines ≡ []
unfolding roots_from
roots_from-over s [] over = refl
roots_from-over s (line ∷ rest) over =
    ap (λ (b : Bool). cond b [] (roots_to s line) ++ roots_from (answer_unless b s line).state rest) over
    ∙ roots_from-over s rest over

-- in a session that is over nothing is searched
roots_either : (over : Bool) (s : State) (go_task : Option GoTaskView) (ahead : List Line) → s.is_over ≡ over → (over ≡ true → go_task ≡ None) → cond over [] (roots_ahead s go_task ahead) ≡ roots_ahead s go_task ahead
roots_either false s go_task ahead e h = refl
roots_either true s go_task ahead e h = rw (h refl) (sym (roots_from-over s ahead e))

roots_where_idle : (s : State) (go_task : Option GoTaskView) (ahead : List Line) → (s.is_over ≡ true → go_task ≡ None) → roots_unless_over s go_task ahead ≡ roots_ahead s go_task ahead
roots_where_idle s go_task ahead h = roots_either s.is_over s go_task ahead refl h

pub roots-alive : (s : State) (go_task : Option GoTaskView) (ahead : List Line) → s.is_over ≡ false → roots_unless_over s go_task ahead ≡ roots_ahead s go_task ahead
roots-alive s go_task ahead alive = ap (λ (over : Bool). cond over [] (roots_ahead s go_task ahead)) alive

nothing_searched : (over : Bool) (s : State) (go_task : Option GoTaskView) (xs : List Line) → (not over && (is_some go_task || has_line xs)) ≡ false → cond over [] (roots_ahead s go_task xs) ≡ []
unfolding roots_from
nothing_searched true s go_task xs e = refl
nothing_searched false s None [] e = refl
nothing_searched false s None (line ∷ rest) e = absurd (cc)
nothing_searched false s (Some go) xs e = absurd (cc)

-- if nothing is pending, no search is left
pub no_roots : (s : SessionView) → is_pending s ≡ false → roots_left s ≡ []
no_roots s settled = nothing_searched s.state.is_over s.state s.go_task (ahead s.input []) settled

-- a `go` has the searches of its line
pub roots_on : (s next : State) (idle go_task : Option GoTaskView) (line : Line) (all rest : List Line) → s.is_over ≡ false → idle ≡ None → all ≡ line ∷ rest → (rest_of_go_if next go_task).state ≡ (answer_to s line).state → roots_of_if go_task ≡ roots_to s line → roots_ahead next go_task rest ≡ roots_ahead s idle all
roots_on s next idle go_task line all rest alive i e h same =
    let whole : roots_from s all ≡ roots_to s line ++ roots_from (answer_to s line).state rest = ap (roots_from s) e ∙ roots_from-alive s line rest alive in
    rw i (rw same (ap (λ (t : State). roots_to s line ++ roots_from t rest) h ∙ sym whole))

-- reporting a line does not change the searches left, with the lines ahead
pub roots_reported : (s : State) (go more : GoTaskView) (go_task : Option GoTaskView) (ahead : List Line) → go_task ≡ Some go → more.go_request ≡ go.go_request → roots_of more ≡ roots_of go → roots_unless_over s (Some more) ahead ≡ roots_unless_over s go_task ahead
roots_reported s go more go_task ahead i q same =
    rw i (ap (λ (roots : List Root). cond s.is_over [] roots) (rw same (ap (λ (t : State). roots_of go ++ roots_from t ahead) (rest_reported-state s go more q))))

less_load : (new old budget : ℕ) (result : Option ℕ) → IfNone result (budget + new ≤ old) → IfSome result (λ made. made + new ≤ old) → new ≤ old
less_load new old budget None spent made = let h : budget + new ≤ old = spent in omega arith
less_load new old budget (Some n) spent made = let h : n + new ≤ old = made in omega arith

-- an unchanged session owes what it did
pub keeps_same : (old new : SessionView) → new ≡ old → KeepsDue old new
keeps_same old new e = rw e (record { due_is = λ x. refl; after_is = λ x. refl; load_most = omega arith; grown = grows_by_none old.queued })

pub all_kept : (old new : SessionView) → new ≡ old → KeepsDueAndRoots old new
all_kept old new e = record { due = keeps_same old new e; roots = λ x. ap (λ (t : SessionView). roots_due t x) e }

-- replies due that stay over two calls
pub keeps_then : (a b c : SessionView) → KeepsDue a b → KeepsDue b c → KeepsDue a c
keeps_then a b c g h = record {
  due_is = λ x. h.due_is x ∙ g.due_is x;
  after_is = λ x. h.after_is x ∙ g.after_is x;
  load_most = omega (arith, g.load_most, h.load_most);
  grown = grows_then g.grown h.grown;
}

-- a `go` that ends leaves no search of its own
pub roots_ended : (s next : State) (queued more : List ℕ) (go : GoTaskView) (go_task : Option GoTaskView) (ahead : List Line) → s.is_over ≡ false → go_task ≡ Some go → is_last go ≡ true → is_searching go ≡ false → QueuesEnd go s next queued more → roots_unless_over next None ahead ≡ roots_unless_over s go_task ahead
roots_ended s next queued more go go_task ahead alive i last whole h =
    let same : roots_ahead next None ahead ≡ roots_ahead s (Some go) ahead = rw (roots_of-last go whole last) (ap (λ (t : State). roots_from t ahead) h.state_is) in
    rw i (roots_where_idle next None ahead (λ _. refl) ∙ (same ∙ sym (roots-alive s (Some go) ahead alive)))

-- continuing a search keeps the replies due
pub keeps_searched : (s : State) (queued : List ℕ) (input : Buffer) (go next : GoTaskView) (go_task : Option GoTaskView) (budget : ℕ) (result : Option ℕ) → go_task ≡ Some go → IsSameButForSearch go next
    → IfNone result (budget + load_of next ≤ load_of go) → IfSome result (λ made. made + load_of next ≤ load_of go)
    → KeepsDue (record { state = s; go_task = go_task; queued = queued; input = input }) (record { state = s; go_task = Some next; queued = queued; input = input })
keeps_searched s queued input go next go_task budget result i e spent made =
    let less : load_of next ≤ load_of go = less_load (load_of next) (load_of go) budget result spent made in
    let same : (rest_of_go s next).state ≡ (rest_of_go s go).state = ap (λ (g : GoTaskView). (rest_of_go s g).state) e in
    let costs : costs_from (rest_of_go s next).state (ahead input []) ≡ costs_from (rest_of_go s go).state (ahead input []) = ap (λ (t : State). costs_from t (ahead input [])) same in
    rw i (record {
      due_is = λ x. ap (λ (g : GoTaskView). queued ++ owed s (Some g) (ahead input x)) e;
      after_is = λ x. ap (λ (t : State). state_from t (ahead input x)) same;
      load_most = omega arith;
      grown = grows_by_none queued;
    })

-- reporting a line keeps the replies due
pub keeps_reported : (s : State) (queued more : List ℕ) (input : Buffer) (go next : GoTaskView) (go_task : Option GoTaskView) → is_pending (record { state = s; go_task = go_task; queued = queued; input = input }) ≡ true → go_task ≡ Some go
    → next.go_request ≡ go.go_request → infos_left next ≡ infos_after go → load_of next ≤ load_of go → QueuesLine go queued more
    → KeepsDue (record { state = s; go_task = go_task; queued = queued; input = input }) (record { state = s; go_task = Some next; queued = more; input = input })
keeps_reported s queued more input go next go_task pending i q f less h =
    let alive : s.is_over ≡ false = pending_alive (record { state = s; go_task = go_task; queued = queued; input = input }) pending in
    record {
      due_is = λ x. due_reported s queued more h.line go next go_task (ahead input x) alive i q f h.writes h.after_line;
      after_is = λ x. ap (λ (t : State). state_from t (ahead input x)) (rest_reported-state s go next q) ∙ sym (ap (λ (o : Option GoTaskView). state_from (rest_of_go_if s o).state (ahead input x)) i);
      load_most = load_reported s go next go_task (ahead input []) i q less;
      grown = record { lines = h.line; after_is = h.after_line; whole = h.whole };
    }

-- ending a `go` keeps the replies due
pub keeps_ended : (s next : State) (queued more : List ℕ) (input : Buffer) (go : GoTaskView) (go_task : Option GoTaskView) → is_pending (record { state = s; go_task = go_task; queued = queued; input = input }) ≡ true → go_task ≡ Some go
    → QueuesEnd go s next queued more
    → KeepsDue (record { state = s; go_task = go_task; queued = queued; input = input }) (record { state = next; go_task = None; queued = more; input = input })
keeps_ended s next queued more input go go_task pending i h =
    let alive : s.is_over ≡ false = pending_alive (record { state = s; go_task = go_task; queued = queued; input = input }) pending in
    let costs : costs_from next (ahead input []) ≡ costs_from (rest_of_go s go).state (ahead input []) = ap (λ (t : State). costs_from t (ahead input [])) h.state_is in
    record {
      due_is = λ x. due_ends s next queued more go go_task (ahead input x) alive i h;
      after_is = λ x. ap (λ (t : State). state_from t (ahead input x)) h.state_is ∙ sym (ap (λ (o : Option GoTaskView). state_from (rest_of_go_if s o).state (ahead input x)) i);
      load_most = rw i (omega arith);
      grown = record { lines = (rest_of_go s go).bytes; after_is = h.after_end; whole = h.whole };
    }

-- answering a line, or starting its `go`, keeps the replies due
pub keeps_answered : (s next : State) (queued more : List ℕ) (input rest : Buffer) (idle go_task : Option GoTaskView) (line : Line) → is_pending (record { state = s; go_task = idle; queued = queued; input = input }) ≡ true → idle ≡ None
    → ((x : List ℕ) → ahead input x ≡ line ∷ ahead rest x) → QueuesAnswer s line next queued more go_task
    → KeepsDue (record { state = s; go_task = idle; queued = queued; input = input }) (record { state = next; go_task = go_task; queued = more; input = rest })
keeps_answered s next queued more input rest idle go_task line pending i first h =
    let alive : s.is_over ≡ false = pending_alive (record { state = s; go_task = idle; queued = queued; input = input }) pending in
    record {
      due_is = λ x. due_on s next queued more h.reply idle go_task line (ahead input x) (ahead rest x) alive i (first x) h.after_reply h.begun.bytes h.begun.state_is h.idle;
      after_is = λ x. state_on s next idle go_task line (ahead input x) (ahead rest x) alive i (first x) h.begun.state_is;
      load_most = load_on s next idle go_task line (ahead input []) (ahead rest []) alive i (first []) h.begun.state_is h.begun.load;
      grown = record { lines = h.reply; after_is = h.after_reply; whole = h.whole };
    }

pub roots_answered : (s next : State) (queued more : List ℕ) (input rest : Buffer) (idle go_task : Option GoTaskView) (line : Line) → is_pending (record { state = s; go_task = idle; queued = queued; input = input }) ≡ true → idle ≡ None
    → ((x : List ℕ) → ahead input x ≡ line ∷ ahead rest x) → QueuesAnswer s line next queued more go_task
    → KeepsRoots (record { state = s; go_task = idle; queued = queued; input = input }) (record { state = next; go_task = go_task; queued = more; input = rest })
roots_answered s next queued more input rest idle go_task line pending i first h =
    let alive : s.is_over ≡ false = pending_alive (record { state = s; go_task = idle; queued = queued; input = input }) pending in
    λ x. roots_where_idle next go_task (ahead rest x) h.idle
    ∙ (roots_on s next idle go_task line (ahead input x) (ahead rest x) alive i (first x) h.begun.state_is h.begun.roots_are
    ∙ sym (roots-alive s idle (ahead input x) alive))

-- answering a line leaves a turn less
pub fewer_answered : (s next : State) (queued more : List ℕ) (input rest : Buffer) (idle go_task : Option GoTaskView) (line : Line) → is_pending (record { state = s; go_task = idle; queued = queued; input = input }) ≡ true → idle ≡ None
    → ((x : List ℕ) → ahead input x ≡ line ∷ ahead rest x) → QueuesAnswer s line next queued more go_task
    → turns (record { state = next; go_task = go_task; queued = more; input = rest }) < turns (record { state = s; go_task = idle; queued = queued; input = input })
fewer_answered s next queued more input rest idle go_task line pending i first h =
    turns_on s next idle go_task line (ahead input []) (ahead rest []) (pending_alive (record { state = s; go_task = idle; queued = queued; input = input }) pending) i (first []) h.begun.state_is h.begun.load h.begun.reports

-- steps made lower the load of the `go`, and that of the session
added : (made new old x y : ℕ) → made + new ≤ old → x ≡ y → made + (new + x) ≤ old + y
added made new old x y less same = omega arith

fewer_added : (new old x y k r t : ℕ) → new < old → x ≡ y → r ≡ t → (new + x) + (k + r) < (old + y) + (k + t)
fewer_added new old x y k r t less same still = omega arith

costs_searched : (s : State) (go next : GoTaskView) (ahead : List Line) → IsSameButForSearch go next → costs_from (rest_of_go s next).state ahead ≡ costs_from (rest_of_go s go).state ahead
costs_searched s go next ahead e = ap (λ (g : GoTaskView). costs_from (rest_of_go s g).state ahead) e

load_searched : (made : ℕ) (s : State) (go next : GoTaskView) (go_task : Option GoTaskView) (ahead : List Line) → go_task ≡ Some go → IsSameButForSearch go next
    → made + load_of next ≤ load_of go → made + load_ahead s (Some next) ahead ≤ load_ahead s go_task ahead
load_searched made s go next go_task ahead i e less =
    rw i (added made (load_of next) (load_of go) (costs_from (rest_of_go s next).state ahead) (costs_from (rest_of_go s go).state ahead) less (costs_searched s go next ahead e))

pub spent_searched : (budget : ℕ) (result : Option ℕ) (s : State) (go next : GoTaskView) (go_task : Option GoTaskView) (ahead : List Line) → go_task ≡ Some go → IsSameButForSearch go next
    → IfNone result (budget + load_of next ≤ load_of go) → IfNone result (budget + load_ahead s (Some next) ahead ≤ load_ahead s go_task ahead)
spent_searched budget None s go next go_task ahead i e spent = load_searched budget s go next go_task ahead i e spent
spent_searched budget (Some n) s go next go_task ahead i e spent = spent

pub made_searched : (result : Option ℕ) (s : State) (go next : GoTaskView) (go_task : Option GoTaskView) (ahead : List Line) → go_task ≡ Some go → IsSameButForSearch go next
    → IfSome result (λ made. made + load_of next ≤ load_of go) → IfSome result (λ made. made + load_ahead s (Some next) ahead ≤ load_ahead s go_task ahead)
made_searched None s go next go_task ahead i e made = made
made_searched (Some n) s go next go_task ahead i e made = load_searched n s go next go_task ahead i e made

pub fewer_searched : (result : Option ℕ) (s : State) (queued : List ℕ) (input : Buffer) (go next : GoTaskView) (go_task : Option GoTaskView) → go_task ≡ Some go → IsSameButForSearch go next → OnSome result (load_of next < load_of go)
    → OnSome result (turns (record { state = s; go_task = Some next; queued = queued; input = input }) < turns (record { state = s; go_task = go_task; queued = queued; input = input }))
fewer_searched None s queued input go next go_task i e fewer = fewer
fewer_searched (Some n) s queued input go next go_task i e fewer =
    rw i (fewer_added (load_of next) (load_of go) (costs_from (rest_of_go s next).state (ahead input [])) (costs_from (rest_of_go s go).state (ahead input [])) ((most_reports + 1) * length (ahead input [])) (reports_of_if (Some next)) (reports_of_if (Some go))
    fewer (costs_searched s go next (ahead input []) e) (ap (λ (g : GoTaskView). reports_of_if (Some g)) e))

-- the searches that a `go` has ended are the first of the session
pub told_searched : {M : Type 0} (called : M → Call → M → Type 0) (old new : M) (s : State) (go next : GoTaskView) (go_task : Option GoTaskView) (ahead : List ℕ → List Line) → s.is_over ≡ false → go_task ≡ Some go → IsSameButForSearch go next
    → TellsEnded called old new (roots_of go) (roots_of next) → TellsEndedFor called old new (λ x. roots_unless_over s go_task (ahead x)) (λ x. roots_unless_over s (Some next) (ahead x))
told_searched called old new s go next go_task ahead alive i e told =
    let same : (x : List ℕ) → roots_from (rest_of_go s next).state (ahead x) ≡ roots_from (rest_of_go s go).state (ahead x) =
    λ x. ap (λ (g : GoTaskView). roots_from (rest_of_go s g).state (ahead x)) e in
    rw i (record {
      ended = told.ended;
      left = λ x. roots-alive s (Some go) (ahead x) alive
          ∙ (ap (λ (roots : List Root). roots ++ roots_from (rest_of_go s go).state (ahead x)) told.left
          ∙ (append_assoc told.ended (roots_of next) (roots_from (rest_of_go s go).state (ahead x))
          ∙ (ap (λ (rest : List Root). told.ended ++ (roots_of next ++ rest)) (sym (same x))
          ∙ ap (λ (roots : List Root). told.ended ++ roots) (sym (roots-alive s (Some next) (ahead x) alive)))));
      told = told.told;
    })

-- two consequences of `None` hold together
pub both_none : (A B : Type 0) (result : Option ℕ) → IfNone result A → IfNone result B → IfNone result (A × B)
both_none A B None a b = (a, b)
both_none A B (Some n) a b = a

-- if no `go` runs and no line is ahead, nothing is pending
not_pending : (over : Bool) → (not over && false) ≡ true → ⊥
not_pending true e = cc
not_pending false e = cc

pub nothing_pending : (s : SessionView) → s.go_task ≡ None → ahead s.input [] ≡ [] → is_pending s ≡ true → ⊥
nothing_pending s idle none pending =
    not_pending s.state.is_over (ap (λ (lines : List Line). not s.state.is_over && (false || has_line lines)) (sym none)
    ∙ (ap (λ (o : Option GoTaskView). not s.state.is_over && (is_some o || has_line (ahead s.input []))) (sym idle) ∙ pending))

-- a session with equal state and queue is equal
pub same_view : (s t : State) (queued more : List ℕ) (input : Buffer) (go_task : Option GoTaskView) → t ≡ s → more ≡ queued
    → ◌≡◌ {A = SessionView} (record { state = t; go_task = go_task; queued = more; input = input }) (record { state = s; go_task = go_task; queued = queued; input = input })
same_view s t queued more input go_task e h = λ k. record { state = e k; go_task = go_task; queued = h k; input = input }

less_added : (new old k r t : ℕ) → new ≤ old → r < t → new + (k + (r + 1)) < old + (k + (t + 1))
less_added new old k r t less fewer = omega arith

ended_added : (x y k load r : ℕ) → x ≡ y → (0 + x) + (k + 0) < (load + y) + (k + (r + 1))
ended_added x y k load r e = omega arith

-- a `go` that reports a line, or ends, leaves a turn less
pub fewer_reported : (s : State) (queued more : List ℕ) (input : Buffer) (go next : GoTaskView) (go_task : Option GoTaskView) → go_task ≡ Some go → next.go_request ≡ go.go_request → load_of next ≤ load_of go → reports_of next < reports_of go
    → turns (record { state = s; go_task = Some next; queued = more; input = input }) < turns (record { state = s; go_task = go_task; queued = queued; input = input })
fewer_reported s queued more input go next go_task i q less fewer =
    rw i (less_added (load_ahead s (Some next) (ahead input [])) (load_ahead s (Some go) (ahead input [])) ((most_reports + 1) * length (ahead input [])) (reports_of next) (reports_of go)
    (load_reported s go next (Some go) (ahead input []) refl q less) fewer)

pub fewer_ended : (s next : State) (queued more : List ℕ) (input : Buffer) (go : GoTaskView) (go_task : Option GoTaskView) → go_task ≡ Some go → QueuesEnd go s next queued more
    → turns (record { state = next; go_task = None; queued = more; input = input }) < turns (record { state = s; go_task = go_task; queued = queued; input = input })
fewer_ended s next queued more input go go_task i h =
    rw i (ended_added (costs_from next (ahead input [])) (costs_from (rest_of_go s go).state (ahead input [])) ((most_reports + 1) * length (ahead input [])) (load_of go) (reports_of go)
    (ap (λ (t : State). costs_from t (ahead input [])) h.state_is))

-- a search with steps left has a load above 0
some_added : (left x y : ℕ) → 0 < left → 0 < (left + x) + y
some_added left x y some = omega arith

pub mid_load : (s : State) (go_task : Option GoTaskView) (ahead : List Line) → IsMidSearch go_task → 0 < load_ahead s go_task ahead
mid_load s None ahead mid = absurd mid
mid_load s (Some go) ahead mid = some_added go.steps_left (load_after_search go) (costs_from (rest_of_go s go).state ahead) mid.1

-- the steps of a slice: those made, and those left of budget and load
pub made_on : (budget left old now made new : ℕ) → budget + now ≤ old + left → made ≤ left → made + new ≤ now → budget + new ≤ old + (left - made)
made_on budget left old now made new before most h = omega arith

pub made_all : (budget left old now new : ℕ) → budget + now ≤ old + left → left + new ≤ now → budget + new ≤ old
made_all budget left old now new before h = omega arith

pub made_so_far : (budget left old now : ℕ) → left ≤ budget → budget + now ≤ old + left → (budget - left) + now ≤ old
made_so_far budget left old now within before = omega arith

pub not_enough : (budget old new : ℕ) → budget + new ≤ old → 0 < new → old ≤ budget → ⊥
not_enough budget old new made some enough = omega arith
