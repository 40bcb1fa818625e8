-- Notes of a host's sessions.
use Rattle.std.proofs.Common.{◌≡◌, ◌≢◌, ℕ, zero, suc, ◌+◌, Bool, true, false, cond, List, [], ◌∷◌, set, Option, Some, None, refl, sym, ap, ◌∙◌, inl, inr}
use Rattle.std.specs.Prelude.{slice_get, slice_index_or, IsSome, replicate, ◌==◌}
use Rattle.std.proofs.lemmas.Bool.{cases_eq, eq-eqb, ne_eqb}
use Rattle.session_slots.specs.declared.id.SessionId.{SessionId}
use Rattle.session_slots.specs.Slots.{OpenSession, OpenSessions, Opens, OthersKept, find, of_generation, with_session}
use Rattle.session_slots.proofs.Finds.{find-with_session, find-with_session-other, slot_of}
use Rattle.usi_session.specs.Due.{SessionView}
use Rattle.host_core.specs.declared.notes.Activity.{Activity}
use Rattle.host_core.specs.declared.notes.Note.{Note}
use Rattle.host_core.specs.ById.{activity_of}
use Rattle.host_core.specs.Steps.{HostState}
use Rattle.host_core.specs.Notes.{AreNoted, AreSettled, noted_activity}
use Rattle.host_core.proofs.Rounds.{is_settled, vacant_settled}

one_of : (n k : ℕ) (x note : Note) → slice_get (replicate n x) k ≡ Some note → x ≡ note
one_of zero k x note e = absurd (cc)
one_of (suc n) zero x note e = cc
one_of (suc n) (suc k) x note e = one_of n k x note e

either : (b : Bool) (a : Activity) → cond b a a ≡ a
either true a = refl
either false a = refl

-- the notes before any session
pub none_noted : (n max next : ℕ) → AreNoted (replicate n (record { generation = 0; activity = activity_of None })) (record { max = max; next = next; slots = [] })
none_noted n max next id note e = rw (← one_of n id.slot (record { generation = 0; activity = activity_of None }) note e) (either (0 == id.generation) (activity_of None))

set_here : (notes : List Note) (k : ℕ) (new note : Note) → slice_get (set notes k new) k ≡ Some note → new ≡ note
set_here [] k new note e = absurd (cc)
set_here (x ∷ xs) zero new note e = cc
set_here (x ∷ xs) (suc k) new note e = set_here xs k new note e

set_other : (notes : List Note) (k i : ℕ) (new : Note) → i ≢ k → slice_get (set notes k new) i ≡ slice_get notes i
set_other [] k i new apart = refl
set_other (x ∷ xs) zero zero new apart = absurd (apart refl)
set_other (x ∷ xs) zero (suc i) new apart = refl
set_other (x ∷ xs) (suc k) zero new apart = refl
set_other (x ∷ xs) (suc k) (suc i) new apart = set_other xs k i new (λ e. apart (ap suc e))

same_id : (a b : SessionId) → a.slot ≡ b.slot → a.generation ≡ b.generation → a ≡ b
same_id a b s g = λ k. record { slot = s k; generation = g k }

-- no other id of this slot finds a session
abbrev pub IsAlone : OpenSessions SessionView → SessionId → Type 0
IsAlone slots at = (id : SessionId) → id ≢ at → id.slot ≡ at.slot → find slots id ≡ None

alone : (slots : OpenSessions SessionView) (at : SessionId) (found : Option SessionView) → find slots at ≡ found → IsSome found → IsAlone slots at
alone slots at None e some = absurd (cc)
alone slots at (Some t) e some = λ id differs same.
    ap (λ key. of_generation id.generation (slice_index_or slots.slots key None)) same
    ∙ (ap (of_generation id.generation) (slot_of at.generation (slice_index_or slots.slots at.slot None) t e)
    ∙ ap (λ (b : Bool). cond b (Some t) None) (ne_eqb at.generation id.generation (λ g. differs (same_id id at same (sym g)))))

noted_here : (slots : OpenSessions SessionView) (at id : SessionId) (found : Option SessionView) → find slots at ≡ found → IsAlone slots at → id.slot ≡ at.slot
    → noted_activity (record { generation = at.generation; activity = activity_of found }) id.generation ≡ activity_of (find slots id)
noted_here slots at id found finds only same =
    elim (cases_eq at.generation id.generation) [
      | inl g ↦ ap (λ (b : Bool). cond b (activity_of found) (activity_of None)) (eq-eqb at.generation id.generation g) ∙ ap activity_of (sym (ap (find slots) (same_id id at same (sym g)) ∙ finds))
      | inr differs ↦ ap (λ (b : Bool). cond b (activity_of found) (activity_of None)) (ne_eqb at.generation id.generation differs) ∙ ap activity_of (sym (only id (λ i. differs (ap (λ (j : SessionId). j.generation) (sym i))) same))
    ]

noted_after : (notes : List Note) (old new : OpenSessions SessionView) (at : SessionId) (found : Option SessionView) → AreNoted notes old → find new at ≡ found → IsAlone new at → OthersKept old new at
    → AreNoted (set notes at.slot (record { generation = at.generation; activity = activity_of found })) new
noted_after notes old new at found were finds only kept id note e =
    let written : Note = record { generation = at.generation; activity = activity_of found } in
    elim (cases_eq id.slot at.slot) [
      | inl same ↦ rw (← set_here notes at.slot written note (ap (slice_get (set notes at.slot written)) (sym same) ∙ e)) (noted_here new at id found finds only same)
      | inr apart ↦ were id note (sym (set_other notes at.slot id.slot written apart) ∙ e) ∙ ap activity_of (sym (kept id (λ i. apart (ap (λ (j : SessionId). j.slot) i))))
    ]

-- the notes after a write to the session of an id
pub noted_written : (notes : List Note) (old : OpenSessions SessionView) (at : SessionId) (t after : SessionView) → find old at ≡ Some t → AreNoted notes old
    → AreNoted (set notes at.slot (record { generation = at.generation; activity = activity_of (Some after) })) (with_session old at after)
noted_written notes old at t after e were =
    let finds = find-with_session old at t after e in
    noted_after notes old (with_session old at after) at (Some after) were finds (alone (with_session old at after) at (Some after) finds refl) (λ id differs. find-with_session-other old at id t after e differs)

-- the notes after a session was opened
pub noted_opened : (notes : List Note) (old new : OpenSessions SessionView) (at : SessionId) (t : SessionView) → Opens old new at t → AreNoted notes old
    → AreNoted (set notes at.slot (record { generation = at.generation; activity = activity_of (Some t) })) new
noted_opened notes old new at t o were = noted_after notes old new at (Some t) were o.now (alone new at (Some t) o.now refl) o.others

-- the notes after a session was closed
pub noted_closed : (notes : List Note) (old new : OpenSessions SessionView) (at : SessionId) → IsSome (find old at) → find new at ≡ None → OthersKept old new at → AreNoted notes old
    → AreNoted (set notes at.slot (record { generation = at.generation; activity = activity_of None })) new
noted_closed notes old new at some none kept were = noted_after notes old new at None were none (λ id differs same. kept id differs ∙ alone old at (find old at) refl some id differs same) kept

abbrev pub has_pending : Activity → Bool
has_pending activity = activity.is_pending

-- a note with nothing pending says so of each session of its slot
quiet : (b : Bool) (note : Note) → note.activity.is_pending ≡ false → has_pending (cond b note.activity (activity_of None)) ≡ false
quiet true note e = e
quiet false note e = refl

settled_by : (h : HostState) (slot : ℕ) (note : Note) (opened : Option (OpenSession SessionView)) → slice_index_or h.slots.slots slot None ≡ opened → ((id : SessionId) → id.slot ≡ slot → noted_activity note id.generation ≡ activity_of (find h.slots id)) → note.activity.is_pending ≡ false → AreSettled slot (slot + 1) h.slots.slots
settled_by h slot note None e says idle = vacant_settled slot h.slots.slots slot e
settled_by h slot note (Some o) e says idle =
    let id : SessionId = record { slot = slot; generation = o.generation } in
    let finds : find h.slots id ≡ Some o.session = ap (of_generation o.generation) e ∙ ap (λ (b : Bool). cond b (Some o.session) None) (eq-eqb o.generation o.generation refl) in
    is_settled h id (rw finds refl) (ap has_pending (sym (says id refl)) ∙ quiet _ note idle)

-- a slot is passed if its note has nothing pending
pub noted_settled : (notes : List Note) (h : HostState) (slot : ℕ) (note : Note) → AreNoted notes h.slots → slice_get notes slot ≡ Some note → note.activity.is_pending ≡ false → AreSettled slot (slot + 1) h.slots.slots
noted_settled notes h slot note are e idle = settled_by h slot note (slice_index_or h.slots.slots slot None) refl (λ id same. are id note (ap (slice_get notes) same ∙ e)) idle
