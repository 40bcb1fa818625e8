-- The calls that a search makes of its memory, by its progress (own choice).
use Rattle.std.specs.Prelude.{◌≡◌, ◌⊎◌, ℕ, Bool, true, false, IfSome, None, Option, Some, List, length}
use Rattle.minimax.specs.declared.entry.Entry.{Entry}
use Rattle.minimax.specs.declared.entry.Entry.TheVariants.{Exact, AtLeast, AtMost}
use Rattle.minimax.specs.Entries.{IsEnoughBelow}
use Rattle.shogi_search.specs.declared.found.Found.{Found}
use Rattle.shogi_core.specs.Position.{Shogi}
use Rattle.shogi_eval.specs.declared.eval.Eval.{Eval}
use Rattle.shogi_search.specs.Calls.{AreCalled, Call, Probe, Note, CallsInSteps, EndsWith, probe_of}
use Rattle.shogi_search.specs.Progress.{Progress}

-- one probe, that of the root, precedes the first step
abbrev pub asked_before : Bool → ℕ
asked_before false = 1
asked_before true = 0

-- the calls of a search between two states, with `besides` further probes
abbrev pub CallsBetween : {M : Type 0} → (M → Call → M → Type 0) → M → M → Progress → Progress → ℕ
    → Type 0
CallsBetween called old new before after besides =
    CallsInSteps called old new before.steps after.steps (length before.entered)
    (length after.entered) besides

-- the calls of a search between two states, with the probe of the root before the first step
abbrev pub CallsOfSearch : {M : Type 0} → (M → Call → M → Type 0) → M → M → Progress → Progress
    → Type 0
CallsOfSearch called old new before after =
    CallsBetween called old new before after (asked_before before.started)

-- the entry is conclusive and gives this result
abbrev pub Says : Entry → Found → Type 0
Says (Exact v m) f = (f.value ≡ v) × (f.best ≡ m)
Says (AtLeast v) f = (f.value ≡ v) × (f.best ≡ None)
Says (AtMost v) f = ⊥

-- the last call noted the result at the root, or got it as an answer, and would end such a search without a step
pub record TellsRoot {M : Type 0} (called : M → Call → M → Type 0) (old new : M)
    (search : Progress) (f : Found) : Type 0 where
  pub entry : Entry
  pub says : Says entry f
  pub enough : IsEnoughBelow search.beta (Some entry)
  pub last :
      EndsWith called old new (Note search.root search.eval search.depth entry)
      ⊎ EndsWith called old new (Probe search.root search.eval search.depth (Some entry))

-- if the search had no result before, the last call tells its result
abbrev pub TellsFound : {M : Type 0} → (M → Call → M → Type 0) → M → M → Progress → Option Found
    → Type 0
TellsFound called old new search result =
    search.found ≡ None → IfSome result (TellsRoot called old new search)

-- the first call probed the root, and was the only one if the answer is conclusive
pub record AsksRoot {M : Type 0} (called : M → Call → M → Type 0)
    (answers : Shogi → Eval → ℕ → Option Entry) (old new : M) (search : Progress) : Type 0 where
  pub asked : M
  pub first : called old (probe_of answers search.root search.eval search.depth) asked
  pub only :
      IsEnoughBelow search.beta (answers search.root search.eval search.depth) → new ≡ asked
  pub calls : List Call
  pub rest : AreCalled called asked calls new

-- a search that has made no step probes its root first
abbrev pub AsksRootFirst : {M : Type 0} → (M → Call → M → Type 0)
    → (Shogi → Eval → ℕ → Option Entry) → M → M → Progress → Type 0
AsksRootFirst called answers old new search =
    search.started ≡ false → search.found ≡ None → AsksRoot called answers old new search

-- the calls of a whole search, from before its first step to its end
abbrev pub CallsOfWhole : {M : Type 0} → (M → Call → M → Type 0) → M → M → Found → Type 0
CallsOfWhole called old new f = CallsInSteps called old new 0 f.steps 0 0 1
