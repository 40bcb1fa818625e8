-- Sessions whose searches a memo already has the values for: no step is left to make (own choice).
use Rattle.std.specs.Prelude.{◌≡◌, ◌<◌, ℕ, List, [], ◌∷◌, true, false, IfOk, IfSome, Option, Some, Result}
use Rattle.std.specs.List.{AllByRecursion}
use Rattle.shogi_core.specs.Position.{Shogi}
use Rattle.shogi_eval.specs.declared.eval.Eval.{Eval}
use Rattle.minimax.specs.Entries.{IsExactly}
use Rattle.minimax.specs.declared.entry.Entry.{Entry}
use Rattle.shogi_search.specs.Calls.{Call, Probe}
use Rattle.shogi_search.specs.Progress.{Progress}
use Rattle.usi_lines.specs.Lines.{Line, ahead}
use Rattle.usi_session.specs.declared.state.State.{State}
use Rattle.usi_session.specs.Due.{SessionView, is_pending, roots_left, turns}
use Rattle.usi_session.specs.GoTaskView.{GoTaskView, is_searching, rest_of_go_if}
use Rattle.usi_session.specs.Roots.{Root}
use Rattle.usi_session.specs.Walked.{Walked}
use Rattle.usi_session.specs.WholeStream.{answer_line}

-- a memo with these answers has the exact value of the root
abbrev pub IsRootKnown : (Shogi → Eval → ℕ → Option Entry) → Root → Type 0
IsRootKnown answers root = IsExactly (answers root.position root.eval root.depth)

-- a memo with these answers has the exact value of each root
abbrev pub AreKnown : (Shogi → Eval → ℕ → Option Entry) → List Root → Type 0
AreKnown answers roots = AllByRecursion (IsRootKnown answers) roots

-- a question does not change the memo's answers
abbrev pub KeepsAnswers : {M : Type 0} → (M → Shogi → Eval → ℕ → Option Entry)
    → (M → Call → M → Type 0) → Type 0
KeepsAnswers {M} answers called =
    (old new : M) (p : Shogi) (e : Eval) (d : ℕ) (answer : Option Entry)
    → called old (Probe p e d answer) new
    → (q : Shogi) (f : Eval) (n : ℕ) → answers new q f n ≡ answers old q f n

-- the memo was asked one question, and nothing else
pub record AsksOneQuestion {M : Type 0} (called : M → Call → M → Type 0) (old new : M)
    : Type 0 where
  pub position : Shogi
  pub eval : Eval
  pub depth : ℕ
  pub answer : Option Entry
  pub question : called old (Probe position eval depth answer) new

-- a `go` with one line that is between two searches: its next one has not begun
abbrev pub IsBetweenSearches : GoTaskView → Type 0
IsBetweenSearches go =
    (go.go_request.multi_pv ≡ 1) × (is_searching go ≡ true → go.is_begun ≡ false)

-- the next search of a `go` took no step and asked one question
pub record PassesSearch {M : Type 0} (called : M → Call → M → Type 0) (old new : M)
    (result : Option ℕ) (after : GoTaskView) : Type 0 where
  pub made : result ≡ Some 0
  pub asked : AsksOneQuestion called old new
  pub between : IsBetweenSearches after

-- a search along a walk took no step and asked one question; the walk's next one has not begun
pub record PassesRoot {M : Type 0} (called : M → Call → M → Type 0) (old new : M)
    (result : Option ℕ) (walk : Walked) (search : Progress) : Type 0 where
  pub made : result ≡ Some 0
  pub asked : AsksOneQuestion called old new
  pub fresh : 0 < walk.plies → search.started ≡ false

-- MultiPV is 1 before and after each of these lines
unfoldable pub HasOneLine : State → List Line → Type 0
HasOneLine state [] = state.options.multi_pv ≡ 1
HasOneLine state (line ∷ rest) =
    (state.options.multi_pv ≡ 1) × HasOneLine (answer_line state line).state rest

-- a memo with these answers knows all searches of a session: no search is under way, all are along pvs with one line, and each root's value is known
pub record IsAllKnown (answers : Shogi → Eval → ℕ → Option Entry) (session : SessionView)
    : Type 0 where
  pub roots : AreKnown answers (roots_left session)
  pub between : IfSome session.go_task IsBetweenSearches
  pub one_line :
      HasOneLine (rest_of_go_if session.state session.go_task).state (ahead session.input [])

-- a session whose searches are all known to some answers is so afterwards
abbrev pub StaysAllKnown : SessionView → SessionView → Type 0
StaysAllKnown before after =
    (answers : Shogi → Eval → ℕ → Option Entry)
    → IsAllKnown answers before → IsAllKnown answers after

-- known searches stay known, and fewer turns are left
pub record TurnsOn (old new : SessionView) : Type 0 where
  pub known : StaysAllKnown old new
  pub fewer : turns new < turns old

-- if the memo knows all searches, a turn that succeeds makes no step and leaves all known
abbrev pub TurnsKnown : {M E : Type 0} → (M → Shogi → Eval → ℕ → Option Entry)
    → (M → Call → M → Type 0) → M → M → Result (Option ℕ) E → SessionView → SessionView → Type 0
TurnsKnown answers called old new result before after =
    KeepsAnswers answers called → IsAllKnown (answers old) before
    → IfOk result (λ made. (made ≡ Some 0) × IsAllKnown (answers new) after)

-- if the memo knows all searches, a call that succeeds makes no step and leaves nothing pending
abbrev pub TakesNoStep : {M E : Type 0} → (M → Shogi → Eval → ℕ → Option Entry)
    → (M → Call → M → Type 0) → M → Result ℕ E → SessionView → SessionView → Type 0
TakesNoStep answers called memory result before after =
    KeepsAnswers answers called → IsAllKnown (answers memory) before
    → IfOk result (λ made. (made ≡ 0) × (is_pending after ≡ false))
