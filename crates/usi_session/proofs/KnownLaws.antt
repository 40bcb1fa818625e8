-- Searches whose values a memo already has.
use Rattle.std.proofs.Common.{◌≡◌, ◌∙◌, ◌<◌, ◌+◌, ◌-◌, ◌==◌, ℕ, ℤ, Bool, true, false, List, [], ◌∷◌, ◌++◌, cond, Option, Some, None, refl, sym, ap, subst, arith}
use Rattle.std.specs.Prelude.{IfSome, IsSome}
use Rattle.shogi_core.specs.Position.{Shogi}
use Rattle.shogi_core.specs.declared.moves.Move.{Move}
use Rattle.shogi_eval.specs.declared.eval.Eval.{Eval}
use Rattle.shogi_moves.specs.After.{after}
use Rattle.minimax.specs.Entries.{IsEnoughBelow, IsExactly}
use Rattle.minimax.specs.Minimax.{best}
use Rattle.minimax.specs.declared.entry.Entry.{Entry}
use Rattle.minimax.specs.declared.entry.Entry.TheVariants.{Exact, AtLeast, AtMost}
use Rattle.shogi_search.specs.Calls.{Call, Probe}
use Rattle.shogi_search.specs.Progress.{IsExactlyAnsweredBy, Progress, untouched}
use Rattle.shogi_search.specs.SearchCalls.{AsksRoot}
use Rattle.shogi_search.specs.declared.found.Found.{Found}
use Rattle.usi_lines.specs.Lines.{Buffer, Line, ahead}
use Rattle.usi_lines.specs.declared.command.Hold.{Hold}
use Rattle.usi_lines.specs.declared.command.Hold.TheVariants.{Nothing, UntilStop, UntilHit}
use Rattle.usi_session.specs.declared.go_request.GoRequest.{GoRequest}
use Rattle.usi_session.specs.declared.state.HeldBestmove.{HeldBestmove}
use Rattle.usi_session.specs.declared.state.State.{State}
use Rattle.usi_session.specs.Answer.{write_or_hold}
use Rattle.usi_session.specs.Due.{QueuesAnswer, QueuesEnd, roots_left}
use Rattle.usi_session.specs.GoTaskView.{GoTaskView, IsNewGo, IsSameButForSearch, bestmove_to, deeper_roots, infos_left, is_searching, lines_roots, rest_of_go, rest_of_go_if, roots_of}
use Rattle.usi_session.specs.Known.{AreKnown, HasOneLine, IsAllKnown, AsksOneQuestion, IsBetweenSearches, IsRootKnown, KeepsAnswers, StaysAllKnown}
use Rattle.usi_session.specs.Roots.{Root, pv_roots, root_of, roots_from, then_pv_roots}
use Rattle.usi_session.specs.Walked.{IsUnder, Walked, first_search, running_go_of}
use Rattle.usi_session.specs.WholeStream.{answer_to, answer_unless}
use Rattle.usi_session.proofs.RootLaws.{pv_roots-above}
use Rattle.usi_session.proofs.Steps.{rest_reported-state, roots-alive}

-- the first search of a depth has not begun
first_of : (one : Bool) (p q : Shogi) (e : Eval) (n m : ℕ)
    → (cond one (untouched p e n) (untouched q e m)).started ≡ false
first_of true p q e n m = refl
first_of false p q e n m = refl

pub first_fresh : (q : GoRequest) (first : Move) (depths_done : ℕ)
    → (first_search q first depths_done).started ≡ false
first_fresh q first depths_done =
    first_of (q.multi_pv == 1) q.position (after q.position first) q.eval (depths_done + 1) depths_done

-- an exact value is enough below any bound
enough_exactly : (beta : ℤ) (answer : Option Entry) → IsExactly answer → IsEnoughBelow beta answer
enough_exactly beta None known = absurd known
enough_exactly beta (Some (Exact v m)) known = tt
enough_exactly beta (Some (AtLeast v)) known = absurd known
enough_exactly beta (Some (AtMost v)) known = absurd known

-- the later ones of known roots are known
pub known_behind : (answers : Shogi → Eval → ℕ → Option Entry) (xs ys : List Root)
    → AreKnown answers (xs ++ ys) → AreKnown answers ys
known_behind answers [] ys all = all
known_behind answers (x ∷ xs) ys all = known_behind answers xs ys all.1

pub known_as : (answers : Shogi → Eval → ℕ → Option Entry) (xs ys : List Root)
    → xs ≡ ys → AreKnown answers xs → AreKnown answers ys
known_as answers xs ys e all = subst (AreKnown answers) e all

-- roots are known to a memo with equal answers
pub known_later : (before after : Shogi → Eval → ℕ → Option Entry)
    → ((q : Shogi) (f : Eval) (n : ℕ) → after q f n ≡ before q f n) → (xs : List Root)
    → AreKnown before xs → AreKnown after xs
known_later before after same [] all = tt
known_later before after same (x ∷ xs) all = (
  subst IsExactly (sym (same x.position x.eval x.depth)) all.0,
  known_later before after same xs all.1,
)

-- the root at the walk's position is the first
pub known_here : (answers : Shogi → Eval → ℕ → Option Entry) (q : GoRequest) (depths_done lines_done : ℕ) (walk : Walked) (search : Progress)
    → walk.eval ≡ q.eval → 0 < walk.plies
    → AreKnown answers (roots_of (running_go_of q depths_done lines_done None walk search))
    → IsRootKnown answers (root_of walk.at walk.eval walk.plies)
known_here answers q depths_done lines_done walk search e some all =
    let roots = pv_roots-above walk.at q.eval walk.plies some in
    let first : AreKnown answers (((root_of walk.at q.eval walk.plies ∷ then_pv_roots (λ next. pv_roots next q.eval (walk.plies - 1)) walk.at (best walk.at q.eval walk.plies)) ++ lines_roots q depths_done (lines_done + 1)) ++ deeper_roots q depths_done) =
    known_as answers _ _ (ap (λ (l : List Root). (l ++ lines_roots q depths_done (lines_done + 1)) ++ deeper_roots q depths_done) roots) all in
    subst (λ (v : Eval). IsExactly (answers walk.at v walk.plies)) (sym e) first.0

-- a search of the walk's position is answered by the memo
pub answered_here : (answers : Shogi → Eval → ℕ → Option Entry) (walk : Walked) (search : Progress) (beta : ℤ)
    → IsUnder search walk.at walk.eval walk.plies beta → IsRootKnown answers (root_of walk.at walk.eval walk.plies)
    → IsExactlyAnsweredBy answers search
answered_here answers walk search beta under known = rw (under.root, under.eval_is, under.depth_is) known

-- a search of a known root asks the memo once, and nothing else
pub asked_here : {M : Type 0} (called : M → Call → M → Type 0) (answers : Shogi → Eval → ℕ → Option Entry) (a b : M)
    (search : Progress) → AsksRoot called answers a b search → IsExactlyAnsweredBy answers search → AsksOneQuestion called a b
asked_here called answers a b search asks known = record {
  position = search.root;
  eval = search.eval;
  depth = search.depth;
  answer = answers search.root search.eval search.depth;
  question = subst (called a (Probe search.root search.eval search.depth (answers search.root search.eval search.depth)))
      (sym (asks.only (enough_exactly search.beta _ known))) asks.first;
}

pub no_steps : (made steps before new old : ℕ) → made ≡ steps - before → steps ≡ new → new ≡ old → before ≡ old → made ≡ 0
no_steps made steps before new old e f g h = omega arith

-- a question leaves all roots known
pub answers_kept : {M : Type 0} (answers : M → Shogi → Eval → ℕ → Option Entry) (called : M → Call → M → Type 0) (a b : M)
    → KeepsAnswers answers called → AsksOneQuestion called a b
    → (q : Shogi) (f : Eval) (n : ℕ) → answers b q f n ≡ answers a q f n
answers_kept answers called a b keeps asked =
    keeps a b asked.position asked.eval asked.depth asked.answer asked.question

-- ---- lines

one_line-here : (s : State) (lines : List Line) → HasOneLine s lines → s.options.multi_pv ≡ 1
unfolding HasOneLine
one_line-here s [] one = one
one_line-here s (line ∷ rest) one = one.0

one_line-rest : (s : State) (line : Line) (rest : List Line) → s.is_over ≡ false → HasOneLine s (line ∷ rest) → HasOneLine (answer_to s line).state rest
unfolding HasOneLine
one_line-rest s line rest alive one = subst (λ (over : Bool). HasOneLine (answer_unless over s line).state rest) alive one.1

-- writing or holding a bestmove changes no option
lines_kept : (s : State) (infos : List ℕ) (held : HeldBestmove) (until : Hold) → (write_or_hold s infos held until).state.options.multi_pv ≡ s.options.multi_pv
lines_kept s infos held Nothing = refl
lines_kept s infos held UntilStop = refl
lines_kept s infos held UntilHit = refl

new_go_between : (s : State) (go_task : Option GoTaskView) → IfSome go_task (IsNewGo s)
    → (rest_of_go_if s go_task).state.options.multi_pv ≡ 1 → IfSome go_task IsBetweenSearches
new_go_between s None new one = tt
new_go_between s (Some go) new one =
    let same = lines_kept s (infos_left go) (bestmove_to go.go_request go.go_request.depth) go.go_request.hold in
    (new.0 ∙ (sym same ∙ one), λ _. new.1)

-- known searches stay known when a line is answered or its `go` started
pub known_answered : (s next : State) (queued more : List ℕ) (input rest : Buffer) (idle go_task : Option GoTaskView) (line : Line)
    → s.is_over ≡ false → idle ≡ None → ((x : List ℕ) → ahead input x ≡ line ∷ ahead rest x) → QueuesAnswer s line next queued more go_task
    → roots_left (record { state = next; go_task = go_task; queued = more; input = rest }) ≡ roots_left (record { state = s; go_task = idle; queued = queued; input = input })
    → StaysAllKnown (record { state = s; go_task = idle; queued = queued; input = input }) (record { state = next; go_task = go_task; queued = more; input = rest })
known_answered s next queued more input rest idle go_task line alive i first h roots = λ answers known.
    let at_line : HasOneLine s (line ∷ ahead rest []) = subst (HasOneLine s) (first []) (subst (λ (o : Option GoTaskView). HasOneLine (rest_of_go_if s o).state (ahead input [])) i known.one_line) in
    let later : HasOneLine (rest_of_go_if next go_task).state (ahead rest []) = subst (λ (t : State). HasOneLine t (ahead rest [])) (sym h.begun.state_is) (one_line-rest s line (ahead rest []) alive at_line) in
    record {
      roots = known_as answers _ _ (sym roots) known.roots;
      between = new_go_between next go_task h.begun.new_go (one_line-here (rest_of_go_if next go_task).state (ahead rest []) later);
      one_line = later;
    }

-- known searches stay known when a line of a `go` is reported
pub known_reported : (s : State) (queued more : List ℕ) (input : Buffer) (go next : GoTaskView) (go_task : Option GoTaskView)
    → go_task ≡ Some go → next.go_request ≡ go.go_request → (is_searching next ≡ true → next.is_begun ≡ false)
    → roots_left (record { state = s; go_task = Some next; queued = more; input = input }) ≡ roots_left (record { state = s; go_task = go_task; queued = queued; input = input })
    → StaysAllKnown (record { state = s; go_task = go_task; queued = queued; input = input }) (record { state = s; go_task = Some next; queued = more; input = input })
known_reported s queued more input go next go_task i q fresh roots = λ answers known.
    let one : HasOneLine (rest_of_go s go).state (ahead input []) = subst (λ (o : Option GoTaskView). HasOneLine (rest_of_go_if s o).state (ahead input [])) i known.one_line in
    let between : IsBetweenSearches go = subst (λ (o : Option GoTaskView). IfSome o IsBetweenSearches) i known.between in
    record {
      roots = known_as answers _ _ (sym roots) known.roots;
      between = (ap (λ (x : GoRequest). x.multi_pv) q ∙ between.0, fresh);
      one_line = subst (λ (t : State). HasOneLine t (ahead input [])) (sym (rest_reported-state s go next q)) one;
    }

-- known searches stay known when a `go` ends
pub known_ended : (s next : State) (queued more : List ℕ) (input : Buffer) (go : GoTaskView) (go_task : Option GoTaskView)
    → go_task ≡ Some go → QueuesEnd go s next queued more
    → roots_left (record { state = next; go_task = None; queued = more; input = input }) ≡ roots_left (record { state = s; go_task = go_task; queued = queued; input = input })
    → StaysAllKnown (record { state = s; go_task = go_task; queued = queued; input = input }) (record { state = next; go_task = None; queued = more; input = input })
known_ended s next queued more input go go_task i h roots = λ answers known.
    let one : HasOneLine (rest_of_go s go).state (ahead input []) = subst (λ (o : Option GoTaskView). HasOneLine (rest_of_go_if s o).state (ahead input [])) i known.one_line in
    record {
      roots = known_as answers _ _ (sym roots) known.roots;
      between = tt;
      one_line = subst (λ (t : State). HasOneLine t (ahead input [])) (sym h.state_is) one;
    }

-- known searches stay known when a search of a `go` is passed
pub known_passed : (before after : Shogi → Eval → ℕ → Option Entry) (s : State) (queued : List ℕ) (input : Buffer) (go next : GoTaskView) (go_task : Option GoTaskView)
    → go_task ≡ Some go → IsSameButForSearch go next → IsBetweenSearches next
    → ((q : Shogi) (f : Eval) (n : ℕ) → after q f n ≡ before q f n) → (ended : List Root)
    → roots_left (record { state = s; go_task = go_task; queued = queued; input = input }) ≡ ended ++ roots_left (record { state = s; go_task = Some next; queued = queued; input = input })
    → IsAllKnown before (record { state = s; go_task = go_task; queued = queued; input = input })
    → IsAllKnown after (record { state = s; go_task = Some next; queued = queued; input = input })
known_passed before after s queued input go next go_task i e between same ended left known =
    let one : HasOneLine (rest_of_go s go).state (ahead input []) = subst (λ (o : Option GoTaskView). HasOneLine (rest_of_go_if s o).state (ahead input [])) i known.one_line in
    let still : (rest_of_go s next).state ≡ (rest_of_go s go).state = ap (λ (g : GoTaskView). (rest_of_go s g).state) e in
    record {
      roots = known_later before after same _ (known_behind before ended _ (known_as before _ _ left known.roots));
      between = between;
      one_line = subst (λ (t : State). HasOneLine t (ahead input [])) (sym still) one;
    }

-- known searches of a session are known searches of its running `go`
pub known_running : (answers : Shogi → Eval → ℕ → Option Entry) (s : State) (queued : List ℕ) (input : Buffer) (go : GoTaskView) (go_task : Option GoTaskView)
    → s.is_over ≡ false → go_task ≡ Some go → IsAllKnown answers (record { state = s; go_task = go_task; queued = queued; input = input })
    → IsBetweenSearches go × AreKnown answers (roots_of go)
known_running answers s queued input go go_task alive i known =
    let all : AreKnown answers (roots_left (record { state = s; go_task = Some go; queued = queued; input = input })) = subst (λ (o : Option GoTaskView). AreKnown answers (roots_left (record { state = s; go_task = o; queued = queued; input = input }))) i known.roots in
    (subst (λ (o : Option GoTaskView). IfSome o IsBetweenSearches) i known.between, known_front answers (roots_of go) (roots_from (rest_of_go s go).state (ahead input [])) (known_as answers _ _ (roots-alive s (Some go) (ahead input []) alive) all))
  where
    known_front : (answers : Shogi → Eval → ℕ → Option Entry) (xs ys : List Root) → AreKnown answers (xs ++ ys) → AreKnown answers xs
    known_front answers [] ys all = tt
    known_front answers (x ∷ xs) ys all = (all.0, known_front answers xs ys all.1)

pub no_result : (result : Option Found) → result ≡ None → IsSome result → ⊥
no_result None e some = absurd (cc)
no_result (Some f) e some = absurd (cc)
