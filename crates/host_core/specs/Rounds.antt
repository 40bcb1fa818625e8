-- A round: one `Work` for each session that is pending, by rising slot (own choice).
use Rattle.std.specs.Prelude.{◌≡◌, ℕ, ◌+◌, List, [], ◌∷◌, ◌++◌, Bool, true, false, cond, Option, Some, None, length, drop, count_by}
use Rattle.session_slots.specs.declared.id.SessionId.{SessionId}
use Rattle.session_slots.specs.Slots.{OpenSession, find}
use Rattle.shared_table.specs.Recent.{plus}
use Rattle.usi_session.specs.Due.{is_pending, SessionView}
use Rattle.host_core.specs.Bestmoves.{bestmove_count}
use Rattle.host_core.specs.ById.{queued_of}
use Rattle.host_core.specs.Events.{Outcome, Opened, Done, Worked, Gave, Refused, Work}
use Rattle.host_core.specs.Made.{Step}
use Rattle.host_core.specs.Runs.{IsRun}
use Rattle.host_core.specs.Steps.{HostState, Stepped}
use Rattle.host_core.specs.declared.round.Round.{Round}

-- the id of an open session in this slot
abbrev pub id_in : ℕ → OpenSession SessionView → SessionId
id_in slot o = record { slot = slot; generation = o.generation }

-- the ids of the pending sessions in these slots, numbered from `slot` on
abbrev pub pending_from : ℕ → List (Option (OpenSession SessionView)) → List SessionId
pending_from slot [] = []
pending_from slot (None ∷ rest) = pending_from (slot + 1) rest
pending_from slot (Some o ∷ rest) =
    cond (is_pending o.session) (id_in slot o ∷ pending_from (slot + 1) rest)
    (pending_from (slot + 1) rest)

-- the ids of the pending sessions, by rising slot
abbrev pub pending_ids : HostState → List SessionId
pending_ids h = pending_from 0 h.slots.slots

-- one `Work` for each id, with its outcome
abbrev pub works : ℕ → List SessionId → List Outcome → List Step
works budget [] os = []
works budget (id ∷ ids) [] = []
works budget (id ∷ ids) (o ∷ os) =
    record { event = Work id budget; outcome = o } ∷ works budget ids os

abbrev pub has_worked : Outcome → Bool
has_worked (Worked steps) = true
has_worked _ = false

abbrev pub was_refused : Outcome → Bool
was_refused (Refused fault) = true
was_refused _ = false

-- one `Work` for each of these ids in order: this many succeeded, and the others were refused
pub record IsRound (old : HostState) (budget : ℕ) (ids : List SessionId)
    (worked refused : ℕ) (new : HostState) : Type 0 where
  pub outcomes : List Outcome
  pub each : length ids ≡ length outcomes
  pub run : IsRun old (works budget ids outcomes) new
  pub worked_is : worked ≡ count_by has_worked outcomes
  pub refused_is : refused ≡ count_by was_refused outcomes
  pub all : worked + refused ≡ length ids

-- the `bestmove` lines queued for an id behind the bytes that were queued in the old state
abbrev pub bestmoves_since : HostState → SessionId → HostState → ℕ
bestmoves_since old id new =
    bestmove_count
    (drop (length (queued_of (find old.slots id))) (queued_of (find new.slots id)))

-- the steps with those of a `Work`; one that is refused adds none
abbrev pub with_steps : ℕ → Outcome → ℕ
with_steps steps (Worked made) = plus steps made
with_steps steps (Refused fault) = steps
with_steps steps (Opened id) = steps
with_steps steps Done = steps
with_steps steps (Gave bytes) = steps

-- one `Work` for each of these ids in order raises the steps and `bestmove` lines to these numbers
unfoldable pub CountsWorks : HostState → ℕ → List SessionId → ℕ → ℕ → ℕ → ℕ → HostState → Type 0
CountsWorks old budget [] steps bestmoves all_steps all_bestmoves new =
    (new ≡ old) × (all_steps ≡ steps) × (all_bestmoves ≡ bestmoves)
CountsWorks old budget (id ∷ ids) steps bestmoves all_steps all_bestmoves new =
    (outcome : Outcome) × (mid : HostState) × Stepped old (Work id budget) outcome mid
    × CountsWorks mid budget ids (with_steps steps outcome)
    (plus bestmoves (bestmoves_since old id mid)) all_steps all_bestmoves new

-- the steps and `bestmove` lines of a round
abbrev pub CountsRound : HostState → ℕ → ℕ → ℕ → HostState → Type 0
CountsRound old budget steps bestmoves new =
    CountsWorks old budget (pending_ids old) 0 0 steps bestmoves new

-- a round: one `Work` for each session that was pending, by rising slot, with these counts
abbrev pub MakesRound : HostState → ℕ → Round → HostState → Type 0
MakesRound old budget round new =
    IsRound old budget (pending_ids old) round.worked round.refused new

-- a round has come to a slot: it did its part for the first ids, and the rest are pending from this slot on
pub record RoundTo (old : HostState) (budget slot : ℕ) (round : Round)
    (now : HostState) : Type 0 where
  pub ids : List SessionId
  pub so_far : IsRound old budget ids round.worked round.refused now
  pub counted : CountsWorks old budget ids 0 0 round.steps round.bestmoves now
  pub rest : ids ++ pending_from slot (drop slot now.slots.slots) ≡ pending_ids old

-- a round that had come to the slot has come to the next one
abbrev pub PassesSlot : ℕ → ℕ → Round → HostState → Round → HostState → Type 0
PassesSlot budget slot before now after next =
    (old : HostState) → RoundTo old budget slot before now
    → RoundTo old budget (slot + 1) after next
