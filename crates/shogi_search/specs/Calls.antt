-- The calls that a search makes of its memory (own choice).
use Rattle.std.specs.Prelude.{◌≡◌, ◌≤◌, ◌+◌, ◌-◌, ◌*◌, ◌^◌, ℕ, List, [], ◌∷◌, Option, sum_by, min}
use Rattle.shogi_core.specs.Position.{Shogi}
use Rattle.shogi_eval.specs.declared.eval.Eval.{Eval}
use Rattle.minimax.specs.declared.entry.Entry.{Entry}

-- a probe of a position under an evaluation at a depth with its answer, or a note of an entry
pub data Call : Type 0 where
  Probe : (p : Shogi) (e : Eval) (d : ℕ) (answer : Option Entry) → Call
  Note : (p : Shogi) (e : Eval) (d : ℕ) (entry : Entry) → Call

-- the probe of a position that a memory of these answers gives
abbrev pub probe_of : (Shogi → Eval → ℕ → Option Entry) → Shogi → Eval → ℕ → Call
probe_of answers p e d = Probe p e d (answers p e d)

-- a probe counts as one question, a note as one telling
abbrev pub question_of : Call → ℕ
question_of (Probe p e d answer) = 1
question_of (Note p e d entry) = 0

abbrev pub telling_of : Call → ℕ
telling_of (Probe p e d answer) = 0
telling_of (Note p e d entry) = 1

-- the calls were made in this order, and each changed the memory as stated
unfoldable pub AreCalled : {M : Type 0} → (M → Call → M → Type 0) → M → List Call → M → Type 0
AreCalled called old [] new = new ≡ old
AreCalled {M} called old (call ∷ rest) new =
    (mid : M) × (called old call mid × AreCalled called mid rest new)

-- between two counts of steps, at most one note and one probe a step, one probe for each node entered, and `besides` more. A walk along the best line makes at most 14, and takes two steps
pub record CallsInSteps {M : Type 0} (called : M → Call → M → Type 0) (old new : M)
    (steps_before steps_after entered_before entered_after besides : ℕ) : Type 0 where
  pub calls : List Call
  pub made : ℕ
  pub walks : ℕ
  pub each : AreCalled called old calls new
  pub counted : steps_after ≡ min (steps_before + made) (2 ^ 64 - 1)
  pub told : sum_by telling_of calls ≤ made
  pub asked :
      sum_by question_of calls + entered_before
      ≤ made + entered_after + (14 * walks + besides)
  pub walked : 2 * walks + entered_after ≤ made + entered_before

-- the calls end with this one
pub record EndsWith {M : Type 0} (called : M → Call → M → Type 0) (old new : M) (last : Call)
    : Type 0 where
  pub calls : List Call
  pub before : M
  pub each : AreCalled called old calls before
  pub ends : called before last new

-- at most `most` probes were made, and no note
abbrev pub Asks : {M : Type 0} → (M → Call → M → Type 0) → M → M → ℕ → Type 0
Asks called old new most = CallsInSteps called old new 0 0 0 0 most

-- at most one note was made, and no probe
pub record TellsOnce {M : Type 0} (called : M → Call → M → Type 0) (old new : M) : Type 0 where
  pub calls : List Call
  pub each : AreCalled called old calls new
  pub told : sum_by telling_of calls ≤ 1
  pub asked : sum_by question_of calls ≡ 0
