-- A search that ended is known to all sessions.
use Rattle.std.proofs.Common.{◌≡◌, ◌∙◌, ℕ, List, [], ◌∷◌, ◌++◌, Result, Ok, Err, Some, sym, ap, subst, inl, inr}
use Rattle.std.proofs.lemmas.List.{append_cancel_right}
use Rattle.session_slots.specs.declared.id.SessionId.{SessionId}
use Rattle.session_slots.specs.Slots.{OpenSessions, find, with_session}
use Rattle.session_slots.proofs.Finds.{find-with_session}
use Rattle.shared_table.specs.Recent.{Table}
use Rattle.shared_table.specs.Uses.{IsUsed, answers_of}
use Rattle.shared_table.proofs.UseLaws.{question_keeps, remembers}
use Rattle.usi_session.specs.Due.{SessionView, roots_left, EndsSearches}
use Rattle.usi_session.specs.Known.{IsAllKnown, TakesNoStep}
use Rattle.usi_session.specs.Roots.{Root}
use Rattle.usi_session.specs.Told.{AreTold, HasMadeCalls, TellsValue, entry_of_root}
use Rattle.usi_session.proofs.TellsLaws.{called_after_told}
use Rattle.host_core.specs.Events.{Work, Worked, Outcome}
use Rattle.host_core.specs.Seen.{as_outcome}
use Rattle.host_core.specs.declared.event.HostFault.{HostFault}
use Rattle.host_core.specs.Shared.{IsShared, key_of_root}
use Rattle.host_core.specs.Steps.{HostState, NeedsNoStep, Stepped}

-- the root was noted, or answered
shared_at : (root : Root) (old mid new : Table) → TellsValue IsUsed old mid root → HasMadeCalls IsUsed mid new → IsShared root new
shared_at root old mid new (inl note) since = elim note.ends [
  | inl kept ↦ record {
    ended = mid;
    since = since;
    known = inl (λ later calls each room. remembers note.before mid later (key_of_root root) (entry_of_root root) calls room.others (inl kept) each room.of_others (rw kept at room.fewer));
  }
  | inr refused ↦ record {
    ended = mid;
    since = since;
    known = inr (record { before = note.before; none = refused.0; counted = refused.1 });
  }
]
shared_at root old mid new (inr probe) since = record {
  ended = mid;
  since = since;
  known = inl (λ later calls each room. remembers probe.before mid later (key_of_root root) (entry_of_root root) calls room.others (inr (sym probe.ends.0, probe.ends.1)) each room.of_others (rw probe.ends.1 at room.fewer));
}

shared_among : (root : Root) (front back : List Root) (old new : Table) → AreTold IsUsed old (front ++ root ∷ back) new → IsShared root new
unfolding AreTold
shared_among root [] back old new told = shared_at root old told.0 new told.1.0 (called_after_told IsUsed told.0 new back told.1.1)
shared_among root (first ∷ front) back old new told = shared_among root front back told.0 new told.1.1

pub shares : (old new : HostState) (id : SessionId) (budget : ℕ) (outcome : Outcome) (before after : SessionView) (front : List Root) (root : Root) (back : List Root)
    → Stepped old (Work id budget) outcome new → find old.slots id ≡ Some before → find new.slots id ≡ Some after
    → roots_left before ≡ (front ++ root ∷ back) ++ roots_left after → IsShared root new.table
shares old new id budget outcome before after front root back stepped was now left =
    let tells : EndsSearches IsUsed old.table new.table before after = stepped.1.told before after was now in
    let same : tells.ended ≡ front ++ root ∷ back = append_cancel_right tells.ended (front ++ root ∷ back) (roots_left after) (sym (tells.left []) ∙ left) in
    shared_among root front back old.table new.table (subst (λ (roots : List Root). AreTold IsUsed old.table roots new.table) same tells.told)

-- a session that was written back is the one that is found
pub of_written : (fact : SessionView → SessionView → Type 0) (old new : OpenSessions SessionView) (id : SessionId) (s t : SessionView)
    → find old id ≡ Some s → new ≡ with_session old id t → fact s t
    → (before after : SessionView) → find old id ≡ Some before → find new id ≡ Some after → fact before after
of_written fact old new id s t e is holds before after was now =
    let p : Some s ≡ Some before = sym e ∙ was in
    let q : Some t ≡ Some after = sym (find-with_session old id s t e) ∙ (sym (ap (λ slots. find slots id) is) ∙ now) in
    let b : s ≡ before = cc in
    let a : t ≡ after = cc in
    subst (λ (v : SessionView). fact before v) a (subst (λ (v : SessionView). fact v t) b holds)

-- if the table knows all roots, no step is made
pub no_step : (result : Result ℕ HostFault) (table : Table) (s t : SessionView)
    → TakesNoStep (λ (m : Table). answers_of m) IsUsed table result s t
    → IsAllKnown (answers_of table) s → NeedsNoStep (as_outcome Worked result) t
no_step (Ok steps) table s t takes known = takes question_keeps known
no_step (Err fault) table s t takes known = tt
