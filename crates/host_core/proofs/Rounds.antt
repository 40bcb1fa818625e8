-- A round, session by session.
use Rattle.std.proofs.Common.{◌≡◌, ℕ, zero, suc, ◌+◌, ◌-◌, ◌≤◌, List, [], ◌∷◌, ◌++◌, Bool, true, false, cond, Option, Some, None, length, drop, count_by, refl, sym, ap, ◌∙◌, arith, append_assoc, append-nil, length-append}
use Rattle.std.specs.Prelude.{slice_index_or, IfNone, IfSome, IsSome, ◌||◌}
use Rattle.std.proofs.lemmas.Bool.{or_right}
use Rattle.std.proofs.lemmas.List.{drop-drop, drop-set-lt}
use Rattle.std.proofs.lemmas.List.Sums.{sum_by-cons}
use Rattle.session_slots.specs.declared.id.SessionId.{SessionId}
use Rattle.session_slots.specs.Order.{first_open, next_of, start_of}
use Rattle.session_slots.specs.Slots.{OpenSession, OpenSessions, find, IsBelow}
use Rattle.session_slots.proofs.Finds.{slot_of}
use Rattle.usi_session.specs.Due.{SessionView, is_pending}
use Rattle.host_core.specs.Events.{Outcome, Opened, Done, Worked, Gave, Refused, Work}
use Rattle.host_core.specs.ById.{pending_of}
use Rattle.host_core.specs.Made.{is_same_id}
use Rattle.host_core.specs.Steps.{HostState, Stepped, OnSession}
use Rattle.host_core.specs.Sessions.{Works}
use Rattle.host_core.specs.Notes.{AreSettled, IsNext}
use Rattle.host_core.specs.Rounds.{bestmoves_since, pending_from, pending_ids, with_steps, works, has_worked, was_refused, CountsRound, CountsWorks, IsRound, MakesRound, RoundTo}
use Rattle.host_core.specs.declared.round.Round.{Round}
use Rattle.shared_table.specs.Recent.{plus}
use Rattle.host_core.proofs.Chains.{run-start, run-last}
use Rattle.host_core.proofs.Ids.{is_same_id-refl}

suc_plus : (i : ℕ) → suc i + 1 ≡ suc (i + 1)
suc_plus i = omega arith

-- a slot with a session
pending_opened : (slot : ℕ) (slots_ : List (Option (OpenSession SessionView))) (i : ℕ) (o : OpenSession SessionView) → slice_index_or slots_ i None ≡ Some o → pending_from slot (drop i slots_) ≡ cond (is_pending o.session) (record { slot = slot; generation = o.generation } ∷ pending_from (slot + 1) (drop (i + 1) slots_)) (pending_from (slot + 1) (drop (i + 1) slots_))
pending_opened slot [] zero o e = absurd (cc)
pending_opened slot [] (suc i) o e = absurd (cc)
pending_opened slot (None ∷ rest) zero o e = absurd (cc)
pending_opened slot (Some p ∷ rest) zero o e = (let same : p ≡ o = cc in rw same refl)
pending_opened slot (x ∷ rest) (suc i) o e = rw (suc_plus i) (pending_opened slot rest i o e)

-- a vacant slot
pub vacant_settled : (slot : ℕ) (slots_ : List (Option (OpenSession SessionView))) (i : ℕ) → slice_index_or slots_ i None ≡ None → pending_from slot (drop i slots_) ≡ pending_from (slot + 1) (drop (i + 1) slots_)
vacant_settled slot [] zero e = refl
vacant_settled slot [] (suc i) e = rw (suc_plus i) refl
vacant_settled slot (None ∷ rest) zero e = refl
vacant_settled slot (Some o ∷ rest) zero e = absurd (cc)
vacant_settled slot (x ∷ rest) (suc i) e = rw (suc_plus i) (vacant_settled slot rest i e)

-- from this slot on, the next open session is the id's, and the slots before it add no pending id
record Skips (slot : ℕ) (slots : List (Option (OpenSession SessionView))) (id : SessionId) : Type 0 where
  from : slot ≤ id.slot
  rest : pending_from slot slots ≡ pending_from id.slot (drop (id.slot - slot) slots)

skips_here : (slot : ℕ) (slots : List (Option (OpenSession SessionView))) (id : SessionId) → id.slot ≡ slot → Skips slot slots id
skips_here slot slots id e =
    let none : id.slot - slot ≡ 0 = omega arith in
    record { from = omega arith; rest = rw (none, e) refl }

skips_one : (slot : ℕ) (rest : List (Option (OpenSession SessionView))) (id : SessionId) → Skips (slot + 1) rest id → Skips slot (None ∷ rest) id
skips_one slot rest id s =
    let from : slot + 1 ≤ id.slot = s.from in
    let more : id.slot - slot ≡ suc (id.slot - (slot + 1)) = omega arith in
    record { from = omega arith; rest = s.rest ∙ ap (λ n. pending_from id.slot (drop n (None ∷ rest))) (sym more) }

skips : (slot : ℕ) (slots : List (Option (OpenSession SessionView))) (id : SessionId) → first_open slot slots ≡ Some id → Skips slot slots id
skips slot [] id e = absurd (cc)
skips slot (None ∷ rest) id e = skips_one slot rest id (skips (slot + 1) rest id e)
skips slot (Some o ∷ rest) id e =
    let same : record { slot = slot; generation = o.generation } ≡ id = cc in
    skips_here slot (Some o ∷ rest) id (ap (λ (i : SessionId). i.slot) (sym same))

-- up to the next open session none is pending
next_settled : (slot : ℕ) (slots : List (Option (OpenSession SessionView))) (id : SessionId) → first_open slot (drop slot slots) ≡ Some id → (slot ≤ id.slot) × AreSettled slot id.slot slots
next_settled slot slots id e =
    let s : Skips slot (drop slot slots) id = skips slot (drop slot slots) id e in
    let from : slot ≤ id.slot = s.from in
    let there : slot + (id.slot - slot) ≡ id.slot = omega arith in
    (from, s.rest ∙ ap (pending_from id.slot) (drop-drop (id.slot - slot) slot slots ∙ ap (λ n. drop n slots) there))

-- if no further session is open, none is pending
none_open : (slot : ℕ) (slots : List (Option (OpenSession SessionView))) → first_open slot slots ≡ None → pending_from slot slots ≡ []
none_open slot [] e = refl
none_open slot (None ∷ rest) e = none_open (slot + 1) rest e
none_open slot (Some o ∷ rest) e = absurd (cc)

-- the next open session after slots without a pending one
pub next_found : (slots : OpenSessions SessionView) (from first : ℕ) (after : Option ℕ) (result : Option SessionId) → start_of after ≡ first → result ≡ next_of slots after → from ≤ first → AreSettled from first slots.slots
    → IfSome result (IsNext from slots)
next_found slots from first after None s e on passed = tt
next_found slots from first after (Some id) s e on passed =
    let n : (first ≤ id.slot) × AreSettled first id.slot slots.slots = next_settled first slots.slots id (sym (e ∙ ap (λ n. first_open n (drop n slots.slots)) s)) in
    let further : first ≤ id.slot = n.0 in
    (omega arith, passed ∙ n.1)

pub next_none : (slots : OpenSessions SessionView) (from first : ℕ) (after : Option ℕ) (result : Option SessionId) → start_of after ≡ first → result ≡ next_of slots after → AreSettled from first slots.slots
    → IfNone result (pending_from from (drop from slots.slots) ≡ [])
next_none slots from first after None s e passed = passed ∙ none_open first (drop first slots.slots) (sym (e ∙ ap (λ n. first_open n (drop n slots.slots)) s))
next_none slots from first after (Some id) s e passed = tt

works-last : (budget : ℕ) (ids : List SessionId) (os : List Outcome) (id : SessionId) (o : Outcome) → length ids ≡ length os → works budget (ids ++ id ∷ []) (os ++ o ∷ []) ≡ works budget ids os ++ record { event = Work id budget; outcome = o } ∷ []
works-last budget [] [] id o h = refl
works-last budget [] (p ∷ os) id o h = absurd (omega arith)
works-last budget (i ∷ ids) [] id o h = absurd (omega arith)
works-last budget (i ∷ ids) (p ∷ os) id o h = ap (λ rest. record { event = Work i budget; outcome = p } ∷ rest) (works-last budget ids os id o (omega arith))

count-last : (test : Outcome → Bool) (os : List Outcome) (o : Outcome) → count_by test (os ++ o ∷ []) ≡ count_by test os + cond (test o) 1 0
count-last test [] o = grind (arith, sum_by-cons (λ p. cond (test p) 1 0) o [])
count-last test (p ∷ os) o = omega (arith, count-last test os o, sum_by-cons (λ q. cond (test q) 1 0) p os, sum_by-cons (λ q. cond (test q) 1 0) p (os ++ o ∷ []))

-- a `Work` succeeded or was refused
counted_on : (budget : ℕ) (old new : HostState) (id : SessionId) (o : Outcome) (found : Option SessionView) → OnSession (Works budget) old id found o new → cond (has_worked o) 1 0 + cond (was_refused o) 1 0 ≡ 1
counted_on budget old new id o None u = rw u.refused refl
counted_on budget old new id (Worked steps) (Some s) c = refl
counted_on budget old new id (Refused fault) (Some s) c = refl
counted_on budget old new id Done (Some s) c = absurd c.went
counted_on budget old new id (Opened at) (Some s) c = absurd c.went
counted_on budget old new id (Gave bytes) (Some s) c = absurd c.went

-- one more `Work` is counted
counts_last : (old : HostState) (budget : ℕ) (ids : List SessionId) (steps bestmoves so_far answered : ℕ) (now next : HostState) (id : SessionId) (o : Outcome) (n m : ℕ)
    → CountsWorks old budget ids steps bestmoves so_far answered now → Stepped now (Work id budget) o next
    → n ≡ with_steps so_far o → m ≡ plus answered (bestmoves_since now id next)
    → CountsWorks old budget (ids ++ id ∷ []) steps bestmoves n m next
unfolding CountsWorks
counts_last old budget [] steps bestmoves so_far answered now next id o n m c stepped s b =
    let same : now ≡ old = c.0 in
    let made : so_far ≡ steps = c.1 in
    let lines : answered ≡ bestmoves = c.2 in
    (o, next, rw same at stepped, (refl, rw made at s, rw (same, lines) at b))
counts_last old budget (first ∷ ids) steps bestmoves so_far answered now next id o n m c stepped s b =
    (c.0, c.1, c.2, counts_last c.1 budget ids _ _ so_far answered now next id o n m c.3 stepped s b)

-- no `Work` is counted yet
counts_none : (h : HostState) (budget : ℕ) → CountsWorks h budget [] 0 0 0 0 h
unfolding CountsWorks
counts_none h budget = (refl, refl, refl)

-- a round at the first slot
pub round_start : (h : HostState) (budget : ℕ) → RoundTo h budget 0 (record { worked = 0; refused = 0; steps = 0; bestmoves = 0 }) h
round_start h budget = record { ids = []; so_far = record { outcomes = []; each = refl; run = run-start h; worked_is = refl; refused_is = refl; all = refl }; counted = counts_none h budget; rest = refl }

-- a round at a later slot, if none between is pending
pub round_settled : (old : HostState) (budget slot last : ℕ) (round : Round) (now : HostState) → RoundTo old budget slot round now → AreSettled slot last now.slots.slots → RoundTo old budget last round now
round_settled old budget slot last round now r same = record { ids = r.ids; so_far = r.so_far; counted = r.counted; rest = ap (λ xs. r.ids ++ xs) (sym same) ∙ r.rest }

-- the pending ids from an open session's slot on
pending_at : (h : HostState) (id : SessionId) (t : SessionView) → find h.slots id ≡ Some t → pending_from id.slot (drop id.slot h.slots.slots) ≡ cond (is_pending t) (id ∷ pending_from (id.slot + 1) (drop (id.slot + 1) h.slots.slots)) (pending_from (id.slot + 1) (drop (id.slot + 1) h.slots.slots))
pending_at h id t e = pending_opened id.slot h.slots.slots id.slot (record { generation = id.generation; session = t }) (slot_of id.generation (slice_index_or h.slots.slots id.slot None) t e)

here_settled : (h : HostState) (id : SessionId) (found : Option SessionView) → find h.slots id ≡ found → IsSome found → pending_of found ≡ false → AreSettled id.slot (id.slot + 1) h.slots.slots
here_settled h id None e some idle = absurd (cc)
here_settled h id (Some t) e some idle =
    pending_at h id t e ∙ ap (λ b. cond b (id ∷ pending_from (id.slot + 1) (drop (id.slot + 1) h.slots.slots)) (pending_from (id.slot + 1) (drop (id.slot + 1) h.slots.slots))) idle

-- an open session with nothing pending is passed
pub is_settled : (h : HostState) (id : SessionId) → IsSome (find h.slots id) → pending_of (find h.slots id) ≡ false → AreSettled id.slot (id.slot + 1) h.slots.slots
is_settled h id some idle = here_settled h id (find h.slots id) refl some idle

-- the later slots are unchanged
works_later : (budget : ℕ) (h next : HostState) (id : SessionId) (o : Outcome) (found : Option SessionView) → OnSession (Works budget) h id found o next → drop (id.slot + 1) next.slots.slots ≡ drop (id.slot + 1) h.slots.slots
works_later budget h next id o None u = ap (λ (x : HostState). drop (id.slot + 1) x.slots.slots) u.same
works_later budget h next id o (Some s) c = ap (λ (q : OpenSessions SessionView). drop (id.slot + 1) q.slots) c.slots_are ∙ drop-set-lt (id.slot + 1) h.slots.slots id.slot _ (omega arith)

first_pending : (h : HostState) (id : SessionId) (found : Option SessionView) → find h.slots id ≡ found → pending_of found ≡ true → pending_from id.slot (drop id.slot h.slots.slots) ≡ id ∷ pending_from (id.slot + 1) (drop (id.slot + 1) h.slots.slots)
first_pending h id None e pending = absurd (cc)
first_pending h id (Some t) e pending =
    pending_at h id t e ∙ ap (λ b. cond b (id ∷ pending_from (id.slot + 1) (drop (id.slot + 1) h.slots.slots)) (pending_from (id.slot + 1) (drop (id.slot + 1) h.slots.slots))) pending

-- a round works a session that has something pending
pub round_more : (old : HostState) (budget : ℕ) (id : SessionId) (round : Round) (now next : HostState) (o : Outcome) (after : Round) → RoundTo old budget id.slot round now → pending_of (find now.slots id) ≡ true
    → IsBelow now.slots → Stepped now (Work id budget) o next → after.worked ≡ round.worked + cond (has_worked o) 1 0 → after.refused ≡ round.refused + cond (was_refused o) 1 0
    → after.steps ≡ with_steps round.steps o → after.bestmoves ≡ plus round.bestmoves (bestmoves_since now id next) → RoundTo old budget (id.slot + 1) after next
round_more old budget id round now next o after t pending below stepped f g s b =
    let a : IsRound old budget t.ids round.worked round.refused now = t.so_far in
    let e : pending_from id.slot (drop id.slot now.slots.slots) ≡ id ∷ pending_from (id.slot + 1) (drop (id.slot + 1) now.slots.slots) = first_pending now id (find now.slots id) refl pending in
    let one : cond (has_worked o) 1 0 + cond (was_refused o) 1 0 ≡ 1 = counted_on budget now next id o (find now.slots id) stepped.0 in
    record {
      ids = t.ids ++ id ∷ [];
      so_far = record {
        outcomes = a.outcomes ++ o ∷ [];
        each = omega (arith, a.each, length-append t.ids (id ∷ []), length-append a.outcomes (o ∷ []));
        run = rw (works-last budget t.ids a.outcomes id o a.each) (run-last old now (works budget t.ids a.outcomes) next _ a.run (record { below = below; stepped = stepped }));
        worked_is = f ∙ (ap (λ n. n + cond (has_worked o) 1 0) a.worked_is ∙ sym (count-last has_worked a.outcomes o));
        refused_is = g ∙ (ap (λ n. n + cond (was_refused o) 1 0) a.refused_is ∙ sym (count-last was_refused a.outcomes o));
        all = omega (arith, a.all, one, f, g, length-append t.ids (id ∷ []));
      };
      counted = counts_last old budget t.ids 0 0 round.steps round.bestmoves now next id o after.steps after.bestmoves t.counted stepped s b;
      rest =
          append_assoc t.ids (id ∷ []) (pending_from (id.slot + 1) (drop (id.slot + 1) next.slots.slots))
          ∙ (ap (λ xs. t.ids ++ id ∷ pending_from (id.slot + 1) xs) (works_later budget now next id o (find now.slots id) stepped.0) ∙ (ap (λ xs. t.ids ++ xs) (sym e) ∙ t.rest));
    }

-- a round is done if nothing further is pending
pub round_all : (old : HostState) (budget slot : ℕ) (round : Round) (now : HostState) → RoundTo old budget slot round now → pending_from slot (drop slot now.slots.slots) ≡ [] → MakesRound old budget round now × CountsRound old budget round.steps round.bestmoves now
round_all old budget slot round now t e =
    let all : t.ids ≡ pending_ids old = sym (append-nil t.ids) ∙ (ap (λ xs. t.ids ++ xs) (sym e) ∙ t.rest) in
    let r : IsRound old budget t.ids round.worked round.refused now = t.so_far in
    let counted : CountsWorks old budget t.ids 0 0 round.steps round.bestmoves now = t.counted in
    (rw all at r, rw all at counted)

-- the id is one of these
abbrev pub is_in : SessionId → List SessionId → Bool
is_in id [] = false
is_in id (at ∷ ids) = is_same_id at id || is_in id ids

-- an id pending from a later slot on is pending from an earlier one on
in_more : (b : Bool) (id first : SessionId) (rest : List SessionId) → is_in id rest ≡ true → is_in id (cond b (first ∷ rest) rest) ≡ true
in_more true id first rest e = or_right (is_same_id first id) (is_in id rest) e
in_more false id first rest e = e

in_later : (slot i later : ℕ) (slots : List (Option (OpenSession SessionView))) (id : SessionId) → later ≡ slot + i → is_in id (pending_from later (drop i slots)) ≡ true → is_in id (pending_from slot slots) ≡ true
in_later slot zero later slots id f e = let here : later ≡ slot = omega arith in rw here at e
in_later slot (suc i) later [] id f e = absurd (cc)
in_later slot (suc i) later (None ∷ rest) id f e = in_later (slot + 1) i later rest id (omega arith) e
in_later slot (suc i) later (Some o ∷ rest) id f e = in_more (is_pending o.session) id _ (pending_from (slot + 1) rest) (in_later (slot + 1) i later rest id (omega arith) e)

-- a pending session has a place in the round
pub pending_in : (h : HostState) (id : SessionId) → pending_of (find h.slots id) ≡ true → is_in id (pending_ids h) ≡ true
pending_in h id p =
    in_later 0 id.slot id.slot h.slots.slots id (omega arith)
    (ap (is_in id) (first_pending h id (find h.slots id) refl p) ∙ ap (λ b. b || is_in id (pending_from (id.slot + 1) (drop (id.slot + 1) h.slots.slots))) (is_same_id-refl id))
