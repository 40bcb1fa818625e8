-- Names in use, and the changes that lines make under them.
use Rattle.std.proofs.Common.{◌≡◌, ◌≢◌, ℕ, zero, suc, ◌+◌, ◌-◌, ◌^◌, ◌<◌, ◌≤◌, inl, inr, List, [], ◌∷◌, ◌++◌, Bool, true, false, cond, not, Option, Some, None, length, set, get_or, count_by, refl, sym, ap, ◌∙◌, arith, length-set, length-append, ◌==◌}
use Rattle.std.specs.Prelude.{nat_le, ◌&&◌}
use Rattle.std.specs.List.{position_or_len}
use Rattle.std.proofs.lemmas.Bool.{and_parts}
use Rattle.usi_texts.specs.declared.setup.Setup.{Setup}
use Rattle.session_slots.specs.declared.id.SessionId.{SessionId}
use Rattle.session_slots.specs.Slots.{find, count, IsFull}
use Rattle.host_core.specs.Steps.{HostState, Closed, IsClosed}
use Rattle.host_core.specs.Events.{Outcome}
use Rattle.usi_session.specs.Due.{SessionView}
use Rattle.usi_replay.specs.Script.{Opening, is_under, has_session, is_used, change, change_into, closed_opening, new_opening}
use Rattle.usi_replay.specs.Sessions.{IsOpenedAs, IsClosedAs}
use Rattle.usi_replay.specs.Playback.{Transcript, play, no_transcript, no_opening, open_id, is_transcript_under, Owes, HasAllReplies, HasMade, IsTranscriptOf, floor_after, AreTranscripts, IsPlayback, KeepsPlayback}
use Rattle.usi_replay.proofs.Transcripts.{transcripts_get, transcripts_len, transcripts_set, transcripts_text, transcripts_open, transcripts_refused, held_set, held_freed, held_last, HasOpenId, has_open_id, made_live, id_none, none_made, made_none, item_is}

-- a name has the same index among transcripts and `+` lines
under_same : {setup : Setup} (h : HostState) (o : Opening) (e : Transcript) (name : ℕ) → IsTranscriptOf setup h o e → is_under name o ≡ is_transcript_under name e
under_same {setup} h o e name i = rw (i.name_is, i.used_is) refl

place_here : (name : ℕ) (e : Transcript) (es : List Transcript) → is_transcript_under name e ≡ true → position_or_len (is_transcript_under name) (e ∷ es) ≡ 0
place_here name e es p = ap (λ (b : Bool). cond (not b) (1 + position_or_len (is_transcript_under name) es) 0) p

place_later : (name : ℕ) (e : Transcript) (es : List Transcript) → is_transcript_under name e ≡ false → position_or_len (is_transcript_under name) (e ∷ es) ≡ 1 + position_or_len (is_transcript_under name) es
place_later name e es p = ap (λ (b : Bool). cond (not b) (1 + position_or_len (is_transcript_under name) es) 0) p

-- the name is in use for the transcript at its index
used_by : (b : Bool) (name : ℕ) (e : Transcript) (es : List Transcript) (i : ℕ) → is_transcript_under name e ≡ b → i ≡ position_or_len (is_transcript_under name) (e ∷ es) → ((j : ℕ) → i ≡ suc j → j ≡ position_or_len (is_transcript_under name) es → is_transcript_under name (get_or es j no_transcript) ≡ true) → is_transcript_under name (get_or (e ∷ es) i no_transcript) ≡ true
used_by true name e es zero f p more = f
used_by true name e es (suc i) f p more = (let q = place_here name e es f in absurd (omega (arith, q)))
used_by false name e es zero f p more = (let q = place_later name e es f in absurd (omega (arith, q)))
used_by false name e es (suc i) f p more = (let q = place_later name e es f in more i refl (omega (arith, q)))

place_used : (name : ℕ) (es : List Transcript) (i : ℕ) → i ≡ position_or_len (is_transcript_under name) es → i < length es → is_transcript_under name (get_or es i no_transcript) ≡ true
place_used name [] i p lt = absurd (omega arith)
place_used name (e ∷ es) i p lt = used_by (is_transcript_under name e) name e es i refl p (λ j f q. place_used name es j q (omega arith))

pub in_use_there : (name : ℕ) (es : List Transcript) (i : ℕ) → i ≡ position_or_len (is_transcript_under name) es → i < length es → (get_or es i no_transcript).in_use ≡ true
in_use_there name es i p lt = (and_parts (get_or es i no_transcript).in_use ((get_or es i no_transcript).name == name) (place_used name es i p lt)).0

-- the name is in use for no `+` line
pub record NoneUnder (name : ℕ) (by : Opening → Opening) (os : List Opening) : Type 0 where
  pub unused : is_used name os ≡ false
  pub none : change name by os ≡ None

none_by : (b : Bool) (name : ℕ) (by : Opening → Opening) (o : Opening) (os : List Opening) (e : Transcript) (es : List Transcript) → is_transcript_under name e ≡ b → is_under name o ≡ is_transcript_under name e → length (e ∷ es) ≤ position_or_len (is_transcript_under name) (e ∷ es) → (length es ≤ position_or_len (is_transcript_under name) es → NoneUnder name by os) → NoneUnder name by (o ∷ os)
none_by true name by o os e es f u le more = (let p = place_here name e es f in absurd (omega (arith, p)))
none_by false name by o os e es f u le more =
    let p = place_later name e es f in
    let r : NoneUnder name by os = more (omega (arith, p)) in
    let v : is_under name o ≡ false = u ∙ f in
    record {
      unused = ap (λ (b : Bool). cond b true (is_used name os)) v ∙ r.unused;
      none = ap (λ (b : Bool). change_into b by o os (change name by os)) v ∙ ap (change_into false by o os) r.none;
    }

pub none_under : (setup : Setup) (h : HostState) (low name : ℕ) (by : Opening → Opening) (os : List Opening) (es : List Transcript) → AreTranscripts setup h low os es → length es ≤ position_or_len (is_transcript_under name) es → NoneUnder name by os
unfolding AreTranscripts
none_under setup h low name by [] [] t le = record { unused = refl; none = refl }
none_under setup h low name by [] (e ∷ es) t le = absurd t
none_under setup h low name by (o ∷ os) [] t le = absurd t
none_under setup h low name by (o ∷ os) (e ∷ es) t le = none_by (is_transcript_under name e) name by o os e es refl (under_same h o e name t.0) le (λ l. none_under setup h (floor_after low e.id) name by os es t.2 l)

-- the name is in use for a `+` line
pub record OneUnder (name : ℕ) (by : Opening → Opening) (os : List Opening) (i : ℕ) : Type 0 where
  pub used : is_used name os ≡ true
  pub changed : change name by os ≡ Some (set os i (by (get_or os i no_opening)))

one_by : (b : Bool) (name : ℕ) (by : Opening → Opening) (o : Opening) (os : List Opening) (e : Transcript) (es : List Transcript) (i : ℕ) → is_transcript_under name e ≡ b → is_under name o ≡ is_transcript_under name e → i ≡ position_or_len (is_transcript_under name) (e ∷ es) → ((j : ℕ) → i ≡ suc j → j ≡ position_or_len (is_transcript_under name) es → OneUnder name by os j) → OneUnder name by (o ∷ os) i
one_by true name by o os e es zero f u p more =
    let v : is_under name o ≡ true = u ∙ f in
    record { used = ap (λ (b : Bool). cond b true (is_used name os)) v; changed = ap (λ (b : Bool). change_into b by o os (change name by os)) v }
one_by true name by o os e es (suc i) f u p more = (let q = place_here name e es f in absurd (omega (arith, q)))
one_by false name by o os e es zero f u p more = (let q = place_later name e es f in absurd (omega (arith, q)))
one_by false name by o os e es (suc i) f u p more =
    let q = place_later name e es f in
    let v : is_under name o ≡ false = u ∙ f in
    let r : OneUnder name by os i = more i refl (omega (arith, q)) in
    record {
      used = ap (λ (b : Bool). cond b true (is_used name os)) v ∙ r.used;
      changed = ap (λ (b : Bool). change_into b by o os (change name by os)) v ∙ ap (change_into false by o os) r.changed;
    }

pub one_under : (setup : Setup) (h : HostState) (low name : ℕ) (by : Opening → Opening) (os : List Opening) (es : List Transcript) (i : ℕ) → AreTranscripts setup h low os es → i ≡ position_or_len (is_transcript_under name) es → i < length es → OneUnder name by os i
unfolding AreTranscripts
one_under setup h low name by [] [] i t e lt = absurd (omega arith)
one_under setup h low name by [] (k ∷ es) i t e lt = absurd t
one_under setup h low name by (o ∷ os) [] i t e lt = absurd t
one_under setup h low name by (o ∷ os) (k ∷ es) i t e lt = one_by (is_transcript_under name k) name by o os k es i refl (under_same h o k name t.0) e (λ j f q. one_under setup h (floor_after low k.id) name by os es j t.2 q (omega arith))

-- a name opens
refused_by : (slots held : ℕ) → slots ≤ held → nat_le slots held ≡ true
refused_by slots held le = grind arith

granted_by : (slots held : ℕ) → (slots ≤ held → ⊥) → nat_le slots held ≡ false
granted_by slots held free = grind arith

-- the transcript of a name that opens
abbrev pub new_transcript : ℕ → Option SessionId → Transcript
new_transcript name id = record { name = name; in_use = true; id = id; made = [] }

full_count : (h : HostState) (slots held : ℕ) (es : List Transcript) → IsFull h.slots → h.slots.max ≡ slots → count h.slots ≡ held → h.slots.next ≤ length es → length es < 2 ^ 64 - 1 → slots ≤ held
full_count h slots held es (inl le) m c few room = rw (sym m, sym c) le
full_count h slots held es (inr e) m c few room = (let f : h.slots.next ≡ 2 ^ 64 - 1 = e in absurd (omega arith))

pub opened_played : (old mid : HostState) (es : List Transcript) (name : ℕ) (id : Option SessionId) → IsOpenedAs old id mid → length es < 2 ^ 64 - 1 → (setup : Setup) (slots : ℕ) (os : List Opening) → IsPlayback setup slots old os es → IsPlayback setup slots mid (os ++ new_opening slots name os ∷ []) (es ++ new_transcript name id ∷ [])
opened_played old mid es name None o room setup slots os p =
    let refused : nat_le slots (count_by has_session os) ≡ true = refused_by slots (count_by has_session os) (full_count old slots (count_by has_session os) es o.0 p.max_is p.count_is p.few room) in
    let of : IsTranscriptOf setup old (new_opening slots name os) (new_transcript name None) = record { name_is = refl; used_is = refl; made_is = refused } in
    let held : ◌≡◌ {A = ℕ} (cond (has_session (new_opening slots name os)) 1 0) 0 = ap (λ (b : Bool). cond (not b) 1 0) refused in
    let last = held_last os (new_opening slots name os) in
    let len = length-append es (new_transcript name None ∷ []) in
    let few : old.slots.next ≤ length es = p.few in
    let now : IsPlayback setup slots old (os ++ new_opening slots name os ∷ []) (es ++ new_transcript name None ∷ []) = record {
      transcripts = transcripts_refused old 0 os es (new_opening slots name os) (new_transcript name None) refl of p.transcripts;
      count_is = p.count_is ∙ omega (arith, last, held);
      max_is = p.max_is;
      setup_is = p.setup_is;
      few = omega (arith, len);
    } in
    rw o.1 now
opened_played old mid es name (Some at) o room setup slots os p =
    let granted : nat_le slots (count_by has_session os) ≡ false = granted_by slots (count_by has_session os) (λ le. o.room (inl (rw (p.max_is, p.count_is) le))) in
    let owes : Owes setup (find mid.slots at) [] [] = rw (o.opens.now, p.setup_is) (λ x. refl) in
    let of : IsTranscriptOf setup mid (new_opening slots name os) (new_transcript name (Some at)) = record { name_is = refl; used_is = refl; made_is = (granted, owes) } in
    let held : ◌≡◌ {A = ℕ} (cond (has_session (new_opening slots name os)) 1 0) 1 = ap (λ (b : Bool). cond (not b) 1 0) granted in
    let last = held_last os (new_opening slots name os) in
    let len = length-append es (new_transcript name (Some at) ∷ []) in
    let few : old.slots.next ≤ length es = p.few in
    let next : mid.slots.next ≡ old.slots.next + 1 = o.opens.next_is in
    let more : count mid.slots ≡ count old.slots + 1 = o.opens.count_is in
    let was : count old.slots ≡ count_by has_session os = p.count_is in
    record {
      transcripts = transcripts_open old mid at 0 os es (new_opening slots name os) (new_transcript name (Some at)) o.opens.others o.opens.generation_is o.opens.next_is refl of p.transcripts;
      count_is = omega (arith, last, held, more, was);
      max_is = o.opens.max_is ∙ p.max_is;
      setup_is = o.setup_is ∙ p.setup_is;
      few = omega (arith, len);
    }

-- a name closes
found_open : (setup : Setup) (f : Option SessionView) (made text : List ℕ) → Owes setup f made text → f ≡ None → ⊥
found_open setup None made text o e = o
found_open setup (Some s) made text o e = (cc)

closed_of : (setup : Setup) (old new : HostState) (at : SessionId) (found : Option SessionView) (made text : List ℕ) (o : Outcome) → Owes setup found made text → IsClosed old at found o new → Closed old at o new
closed_of setup old new at None made text o w c = absurd w
closed_of setup old new at (Some s) made text o w c = c

held_not : (o : Opening) → o.refused ≡ true → has_session o ≡ false
held_not o e = ap (λ (b : Bool). o.in_use && not b) e ∙ and_false o.in_use where
  and_false : (b : Bool) → (b && false) ≡ false
  and_false true = refl
  and_false false = refl

pub freed_live : (old new : HostState) (at : SessionId) (es : List Transcript) (i : ℕ) (setup : Setup) (slots : ℕ) (os : List Opening) → i < length es → open_id (get_or es i no_transcript) ≡ Some at → IsClosedAs old (Some at) new → HasAllReplies setup (get_or os i no_opening) (get_or es i no_transcript) → IsPlayback setup slots old os es → IsPlayback setup slots new (set os i (closed_opening (get_or os i no_opening))) (set es i (record (get_or es i no_transcript) { in_use = false }))
freed_live old new at es i setup slots os lt l closed all p =
    let li : HasOpenId (get_or es i no_transcript) at = has_open_id (get_or es i no_transcript) at l in
    let of : IsTranscriptOf setup old (get_or os i no_opening) (get_or es i no_transcript) = transcripts_get setup old 0 os es i p.transcripts lt in
    let m = made_live old (get_or os i no_opening) (get_or es i no_transcript) at li of in
    let c : Closed old at closed.0 new = closed_of setup old new at (find old.slots at) (get_or es i no_transcript).made (get_or os i no_opening).text closed.0 m.1 closed.1 in
    let n : length os ≡ length es = transcripts_len setup old 0 os es p.transcripts in
    let used : (get_or os i no_opening).in_use ≡ true = sym of.used_is ∙ li.used in
    let held : has_session (get_or os i no_opening) ≡ true = rw (used, m.0) refl in
    let fewer = held_freed os i (closed_opening (get_or os i no_opening)) (omega arith) refl held in
    let less : count new.slots + 1 ≡ count old.slots = c.count_is in
    let was : count old.slots ≡ count_by has_session os = p.count_is in
    let made : HasMade setup new (get_or es i no_transcript).id false (get_or os i no_opening).refused (get_or os i no_opening).text (get_or es i no_transcript).made = rw li.id_is (m.0, all) in
    record {
      transcripts = transcripts_set old new at 0 os es i (closed_opening (get_or os i no_opening)) (record (get_or es i no_transcript) { in_use = false }) (record { others = c.others; next_is = c.next_is }) p.transcripts lt li.id_is li.id_is (record { name_is = of.name_is; used_is = refl; made_is = made });
      count_is = omega (arith, fewer, less, was);
      max_is = c.max_is ∙ p.max_is;
      setup_is = c.setup_is ∙ p.setup_is;
      few = (let a : new.slots.next ≡ old.slots.next = c.next_is in let b : old.slots.next ≤ length es = p.few in grind (arith, length-set));
    }

pub freed_refused : (h : HostState) (es : List Transcript) (i : ℕ) (setup : Setup) (slots : ℕ) (os : List Opening) → i < length es → (get_or es i no_transcript).in_use ≡ true → open_id (get_or es i no_transcript) ≡ None → IsPlayback setup slots h os es → IsPlayback setup slots h (set os i (closed_opening (get_or os i no_opening))) (set es i (record (get_or es i no_transcript) { in_use = false }))
freed_refused h es i setup slots os lt used l p =
    let none : (get_or es i no_transcript).id ≡ None = id_none (get_or es i no_transcript).in_use (get_or es i no_transcript).id used l in
    let of : IsTranscriptOf setup h (get_or os i no_opening) (get_or es i no_transcript) = transcripts_get setup h 0 os es i p.transcripts lt in
    let refused : (get_or os i no_opening).refused ≡ true = none_made setup h (get_or es i no_transcript).id _ _ _ _ none of.made_is in
    let n : length os ≡ length es = transcripts_len setup h 0 os es p.transcripts in
    record {
      transcripts = transcripts_text h 0 os es i (closed_opening (get_or os i no_opening)) (record (get_or es i no_transcript) { in_use = false }) p.transcripts lt refl (record { name_is = of.name_is; used_is = refl; made_is = made_none setup h (get_or es i no_transcript).id _ _ _ _ none refused });
      count_is = p.count_is ∙ sym (held_set os i (closed_opening (get_or os i no_opening)) (omega arith) (sym (held_not (get_or os i no_opening) refused)));
      max_is = p.max_is;
      setup_is = p.setup_is;
      few = (let b : h.slots.next ≤ length es = p.few in grind (arith, length-set));
    }

pub freed_by : (mid new : HostState) (fs : List Transcript) (i : ℕ) (l : Option SessionId) (setup : Setup) (slots : ℕ) (os : List Opening) → i < length fs → (get_or fs i no_transcript).in_use ≡ true → open_id (get_or fs i no_transcript) ≡ l → IsClosedAs mid l new → (open_id (get_or fs i no_transcript) ≢ None → HasAllReplies setup (get_or os i no_opening) (get_or fs i no_transcript)) → IsPlayback setup slots mid os fs → IsPlayback setup slots new (set os i (closed_opening (get_or os i no_opening))) (set fs i (record (get_or fs i no_transcript) { in_use = false }))
freed_by mid new fs i None setup slots os lt used l c all p = rw c (freed_refused mid fs i setup slots os lt used l p)
freed_by mid new fs i (Some at) setup slots os lt used l c all p = freed_live mid new at fs i setup slots os lt l c (all (λ e. (let f : Some at ≡ None = sym l ∙ e in cc))) p

pub freed_played : (old mid new : HostState) (es fs : List Transcript) (i : ℕ) (x y : Transcript) → KeepsPlayback (play old es) (play mid fs) → ((setup : Setup) (slots : ℕ) (os : List Opening) → IsPlayback setup slots old os es → open_id (get_or fs i no_transcript) ≢ None → HasAllReplies setup (get_or os i no_opening) (get_or fs i no_transcript)) → i < length fs → (get_or fs i no_transcript).in_use ≡ true → x ≡ get_or fs i x → y ≡ get_or fs i y → IsClosedAs mid (open_id x) new
    → (setup : Setup) (slots : ℕ) (os : List Opening) → IsPlayback setup slots old os es → IsPlayback setup slots new (set os i (closed_opening (get_or os i no_opening))) (set fs i (record y { in_use = false }))
freed_played old mid new es fs i x y played all lt used e f c setup slots os p =
    let a : get_or fs i no_transcript ≡ x = item_is fs i x lt e in
    let b : get_or fs i no_transcript ≡ y = item_is fs i y lt f in
    rw (sym b) (freed_by mid new fs i (open_id (get_or fs i no_transcript)) setup slots os lt used refl (rw a c) (all setup slots os p) (played setup slots os p))
