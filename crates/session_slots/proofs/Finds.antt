-- The session that an id finds after a write.
use Rattle.std.proofs.Common.{◌≡◌, ◌≢◌, ℕ, ◌<◌, ◌==◌, Bool, true, false, List, length, set, Option, Some, None, cond, refl, sym, ap, ◌∙◌, inl, inr, arith}
use Rattle.std.specs.Prelude.{slice_index_or}
use Rattle.std.proofs.lemmas.Bool.{cases_eq, eqb-true, eq-eqb, ne_eqb}
use Rattle.std.proofs.lemmas.List.{get_or-set_same, get_or-set_other, get_or_past, set-get_or}
use Rattle.session_slots.specs.declared.id.SessionId.{SessionId}
use Rattle.session_slots.specs.Slots.{OpenSession, OpenSessions, of_generation, find, with_session}

same_id : (a b : SessionId) → a.slot ≡ b.slot → a.generation ≡ b.generation → a ≡ b
same_id a b p q = λ k. record { slot = p k; generation = q k }

module _ {T : Type 0} where
  -- the slot of an id that finds a session
  pub record IsAt (generation : ℕ) (slot : Option (OpenSession T)) : Type 0 where
    pub opened : OpenSession T
    pub slot_is : slot ≡ Some opened
    pub generation_is : opened.generation ≡ generation

  at_by : (b : Bool) (generation : ℕ) (o : OpenSession T) (t : T) → (o.generation == generation) ≡ b → cond b (Some o.session) None ≡ Some t → IsAt generation (Some o)
  at_by true generation o t e f = record { opened = o; slot_is = refl; generation_is = eqb-true o.generation generation e }
  at_by false generation o t e f = absurd (cc)

  pub found_at : (generation : ℕ) (slot : Option (OpenSession T)) (t : T) → of_generation generation slot ≡ Some t → IsAt generation slot
  found_at generation None t e = absurd (cc)
  found_at generation (Some o) t e = at_by (o.generation == generation) generation o t refl e

  here : (generation : ℕ) (o : OpenSession T) → o.generation ≡ generation → of_generation generation (Some o) ≡ Some o.session
  here generation o e = ap (λ (b : Bool). cond b (Some o.session) None) (eq-eqb o.generation generation e)

  elsewhere : (generation : ℕ) (o : OpenSession T) → o.generation ≢ generation → of_generation generation (Some o) ≡ None
  elsewhere generation o e = ap (λ (b : Bool). cond b (Some o.session) None) (ne_eqb o.generation generation e)

  within : (slots : List (Option (OpenSession T))) (key : ℕ) (o : OpenSession T) → slice_index_or slots key None ≡ Some o → key < length slots
  within slots key o e = grind (arith, get_or_past)

  -- the id finds the session written
  pub find-with_session : (s : OpenSessions T) (id : SessionId) (t after : T) → find s id ≡ Some t → find (with_session s id after) id ≡ Some after
  find-with_session s id t after e =
      let a : IsAt id.generation (slice_index_or s.slots id.slot None) = found_at id.generation (slice_index_or s.slots id.slot None) t e in
      ap (of_generation id.generation) (get_or-set_same s.slots id.slot (Some (record { generation = id.generation; session = after })) None (within s.slots id.slot a.opened a.slot_is))
      ∙ here id.generation (record { generation = id.generation; session = after }) refl

  in_slot : (s : OpenSessions T) (id other : SessionId) (t after : T) → find s id ≡ Some t → other.slot ≡ id.slot → other.generation ≢ id.generation → find (with_session s id after) other ≡ find s other
  in_slot s id other t after e same differs =
      let a : IsAt id.generation (slice_index_or s.slots id.slot None) = found_at id.generation (slice_index_or s.slots id.slot None) t e in
      let written : OpenSession T = record { generation = id.generation; session = after } in
      ap (λ key. of_generation other.generation (slice_index_or (set s.slots id.slot (Some written)) key None)) same
      ∙ (ap (of_generation other.generation) (get_or-set_same s.slots id.slot (Some written) None (within s.slots id.slot a.opened a.slot_is))
      ∙ (elsewhere other.generation written (λ p. differs (sym p))
      ∙ sym (ap (λ key. of_generation other.generation (slice_index_or s.slots key None)) same ∙ (ap (of_generation other.generation) a.slot_is ∙ elsewhere other.generation a.opened (λ p. differs (sym p ∙ a.generation_is))))))

  -- each other id finds the session that it found
  pub find-with_session-other : (s : OpenSessions T) (id other : SessionId) (t after : T) → find s id ≡ Some t → other ≢ id → find (with_session s id after) other ≡ find s other
  find-with_session-other s id other t after e differs =
      elim (cases_eq other.slot id.slot) [
        | inl same ↦ in_slot s id other t after e same (λ q. differs (same_id other id same q))
        | inr apart ↦ ap (of_generation other.generation) (get_or-set_other s.slots id.slot other.slot (Some (record { generation = id.generation; session = after })) None apart)
      ]

  same_opened : (o : OpenSession T) (generation : ℕ) (t : T) → o.generation ≡ generation → Some o.session ≡ Some t → o ≡ record { generation = generation; session = t }
  same_opened o generation t e f = (let g : o.session ≡ t = cc in λ k. record { generation = e k; session = g k })

  -- an id that finds a session determines the slot
  pub slot_of : (generation : ℕ) (slot : Option (OpenSession T)) (t : T) → of_generation generation slot ≡ Some t → slot ≡ Some (record { generation = generation; session = t })
  slot_of generation slot t e =
      let a : IsAt generation slot = found_at generation slot t e in
      let f : Some a.opened.session ≡ Some t = sym (here generation a.opened a.generation_is) ∙ (sym (ap (of_generation generation) a.slot_is) ∙ e) in
      a.slot_is ∙ ap Some (same_opened a.opened generation t a.generation_is f)

  -- writing the session that is there changes nothing
  pub with_session-same : (s : OpenSessions T) (id : SessionId) (t : T) → find s id ≡ Some t → with_session s id t ≡ s
  with_session-same s id t e =
      let there : slice_index_or s.slots id.slot None ≡ Some (record { generation = id.generation; session = t }) = slot_of id.generation (slice_index_or s.slots id.slot None) t e in
      let same : set s.slots id.slot (Some (record { generation = id.generation; session = t })) ≡ s.slots = ap (λ (o : Option (OpenSession T)). set s.slots id.slot o) (sym there) ∙ set-get_or s.slots id.slot None in
      ap (λ (q : List (Option (OpenSession T))). (let r : OpenSessions T = record s { slots = q } in r)) same
