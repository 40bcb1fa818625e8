-- The calls of a search, by its nodes entered and not left.
use Rattle.std.proofs.Common.{◌≡◌, ◌∙◌, ◌<◌, ◌+◌, ℕ, Bool, true, List, [], map, length, Option, Some, None, refl, inl, inr, arith}
use Rattle.std.specs.Prelude.{IfSome}
use Rattle.std.proofs.lemmas.List.{length-map, length-take-le}
use Rattle.std.proofs.lemmas.Option.{slice_get_within}
use Rattle.minimax.specs.Entries.{IsEnoughBelow}
use Rattle.minimax.specs.Minimax.{negated}
use Rattle.minimax.specs.declared.bounds.TheConstants.{INFINITY}
use Rattle.minimax.specs.declared.entry.Entry.{Entry}
use Rattle.shogi_core.specs.Position.{Shogi}
use Rattle.shogi_eval.specs.declared.eval.Eval.{Eval}
use Rattle.shogi_search.specs.Calls.{AreCalled, Call, CallsInSteps, probe_of}
use Rattle.shogi_search.specs.Progress.{Progress, KeepsQuestion}
use Rattle.shogi_search.specs.SearchCalls.{AsksRoot, TellsRoot}
use Rattle.shogi_search.specs.SlicedSearch.{entered_in, entered_of}
use Rattle.shogi_search.specs.Stack.{IsChain, IsStack, frames_of, parents_of}
use Rattle.shogi_search.specs.declared.found.Found.{Found}
use Rattle.shogi_search.specs.declared.stack.Stack.{Stack}
use Rattle.shogi_search.proofs.CallLaws.{ends_after, no_calls}
use Rattle.shogi_search.proofs.Places.{HasTop, has_top}

-- the stack has one frame more than its height
frames_count : (s : Stack) → IsStack s → length (frames_of s) ≡ s.height + 1
frames_count s k =
    let t : HasTop s (IsChain s.root s.eval s.depth (negated INFINITY) s.bound (parents_of s)) = has_top s _ k.chain in
    let fits : s.height < length s.frames = slice_get_within s.frames s.height t.top t.is in
    length-take-le (s.height + 1) s.frames (omega arith)

-- the nodes entered are one more than the height
pub entered_count : (found : Option Found) (started : Bool) (s : Stack) → found ≡ None → started ≡ true
    → IsStack s → length (entered_in found started (map entered_of (frames_of s))) ≡ s.height + 1
entered_count found started s e f k = rw (e, f) (length-map (frames_of s) entered_of ∙ frames_count s k)

-- calls may precede the one that tells the root's result
pub told_after : {M : Type 0} (called : M → Call → M → Type 0) (a b c : M) (s t x y p : ℕ)
    (search later : Progress) (found : Option Found)
    → CallsInSteps called a b s t x y p → KeepsQuestion search later
    → IfSome found (TellsRoot called b c later) → IfSome found (TellsRoot called a c search)
told_after called a b c s t x y p search later None first same told = tt
told_after called a b c s t x y p search later (Some f) first same told = record {
  entry = told.entry;
  says = told.says;
  enough = rw (← same.1.1.1) told.enough;
  last = rw (← same.0, ← same.1.0, ← same.1.1.0) (elim told.last [
    | inl note ↦ inl (ends_after first note)
    | inr probe ↦ inr (ends_after first probe)
  ]);
}

-- the root's probe precedes other calls
pub asks_root : {M : Type 0} {called : M → Call → M → Type 0} {answers : Shogi → Eval → ℕ → Option Entry} {a c : M} {search : Progress} (b : M) (calls : List Call)
    → called a (probe_of answers search.root search.eval search.depth) b
    → (IsEnoughBelow search.beta (answers search.root search.eval search.depth) → ⊥)
    → AreCalled called b calls c → AsksRoot called answers a c search
asks_root b calls first not_enough rest = record { asked = b; first = first; only = λ enough. absurd (not_enough enough); calls = calls; rest = rest }

-- the root's probe may be the only call
pub asks_root_alone : {M : Type 0} {called : M → Call → M → Type 0} {answers : Shogi → Eval → ℕ → Option Entry} {a b : M} {search : Progress}
    → called a (probe_of answers search.root search.eval search.depth) b → AsksRoot called answers a b search
asks_root_alone {called = called} {b = b} first = record { asked = b; first = first; only = λ _. refl; calls = []; rest = no_calls called b }
