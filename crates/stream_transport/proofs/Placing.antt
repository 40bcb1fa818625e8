-- The places of numbers, and the connections held under them.
use Rattle.std.proofs.Common.{arith, ◌≡◌, ◌≢◌, ℕ, Bool, true, false, ◌<◌, ◌≤◌, ◌%◌, List, [], ◌∷◌, ◌++◌, Option, Some, None, Result, Ok, length, get_or, refl, sym, ap, subst, ◌∙◌, append-nil, inl, inr}
use Rattle.std.specs.Prelude.{◌==◌, ◌||◌, ◌&&◌, cond, is_some, nat_eq, not, suc, zero, IfSome}
use Rattle.std.proofs.KnownBytes.{Appends-nil}
use Rattle.std.proofs.Math.ListN.{set}
use Rattle.std.proofs.lemmas.Bool.{cases_eq}
use Rattle.std.proofs.lemmas.List.{get_or_past, get_or_read, get_or-set_same, get_or-set_other}
use borrow.Author.Tests.{eqb-true, ne_eqb}
use Rattle.stream_transport.specs.declared.connection.BufferedStream.{BufferedStream}
use Rattle.stream_transport.specs.declared.connection.TheConstants.{PLACES}
use Rattle.stream_transport.specs.declared.readiness.Readiness.{Readiness}
use Rattle.stream_transport.specs.Held.{AreTakenBelow, HasPassed, HoldsOthers, IsFree, has_kept, held, kept_in, of_number}
use Rattle.stream_transport.specs.declared.listener.StreamCall.{StreamCall}
use Rattle.stream_transport.specs.Asking.{AsksToGive, IsQuiet, OfHeld, after_read, after_write, found_nothing, readable, took_nothing, writable}
use Rattle.transport.specs.declared.wire.Got.{Got}
use Rattle.transport.specs.declared.wire.WireFault.{WireFault}
use Rattle.transport.specs.declared.wire.Got.TheVariants.{Nothing}

or_false : (b : Bool) → b ≡ (b || false)
or_false true = refl
or_false false = refl

module _ {S A : Type 0} where
  test_is : (t : Bool) (p : BufferedStream S A) → is_some (cond t (Some p) None) ≡ t
  test_is true p = refl
  test_is false p = refl

  test_true : (t : Bool) (p : BufferedStream S A) → is_some (cond t (Some p) None) ≡ true → t ≡ true
  test_true t p e = sym (test_is t p) ∙ e

  -- a connection with the number is found under it
  own : (number : ℕ) (x : Option (BufferedStream S A)) → is_some (of_number number x) ≡ true → of_number number x ≡ x
  own number None e = refl
  own number (Some p) e = ap (λ (t : Bool). cond t (Some p) None) (test_true (p.number == number) p e)

  -- the connection has the number
  pub number_of : (number : ℕ) (x : Option (BufferedStream S A)) → is_some (of_number number x) ≡ true → IfSome x (λ p. p.number ≡ number)
  number_of number None e = tt
  number_of number (Some p) e = eqb-true p.number number (test_true (p.number == number) p e)

  -- a connection is found under no other number
  no_other : (number other : ℕ) (x : Option (BufferedStream S A)) → is_some (of_number number x) ≡ true → other ≢ number → of_number other x ≡ None
  no_other number other None e apart = refl
  no_other number other (Some p) e apart =
      let same : p.number ≡ number = eqb-true p.number number (test_true (p.number == number) p e) in
      ap (λ (t : Bool). cond t (Some p) None) (ne_eqb p.number other (λ o. apart (sym o ∙ same)))

  -- the connection in a number's place is held under it, if it has the number
  pub held_is : (places : List (Option (BufferedStream S A))) (number place : ℕ) (x : Option (BufferedStream S A)) → place ≡ number % PLACES → x ≡ get_or places place x → place < length places → of_number number x ≡ held places number
  held_is places number place x e is lt = ap (λ y. of_number number y) (get_or_read places place x lt is None ∙ ap (λ (k : ℕ). get_or places k None) e)

  -- no connection is held beyond the last place
  pub held_past : (places : List (Option (BufferedStream S A))) (number place : ℕ) → place ≡ number % PLACES → length places ≤ place → held places number ≡ None
  held_past places number place e past = ap (λ y. of_number number y) (ap (λ (k : ℕ). get_or places k None) (sym e) ∙ get_or_past places place None past)

  -- the test whether a connection has the number
  pub held_test : (places : List (Option (BufferedStream S A))) (number place : ℕ) (x : Option (BufferedStream S A)) (p : BufferedStream S A) → place ≡ number % PLACES → x ≡ get_or places place x → place < length places → x ≡ Some p → (p.number == number) ≡ is_some (held places number)
  held_test places number place x p e is lt some =
      sym (test_is (p.number == number) p) ∙ (ap (λ y. is_some (of_number number y)) (sym some) ∙ ap (λ y. is_some y) (held_is places number place x e is lt))

  pub held_none : (x : Option (BufferedStream S A)) → is_some x ≡ false → x ≡ None
  held_none None e = refl
  held_none (Some p) e = absurd (cc)

  pub held_some : (number : ℕ) (p : BufferedStream S A) → is_some (of_number number (Some p)) ≡ true → of_number number (Some p) ≡ Some p
  held_some number p e = ap (λ (b : Bool). cond b (Some p) None) (sym (test_is (p.number == number) p) ∙ e)

  -- a connection was taken out of its place, which now holds `y`
  pub record IsTaken (places : List (Option (BufferedStream S A))) (number place : ℕ) (x y : Option (BufferedStream S A)) : Type 0 where
    pub out : x ≡ held places number
    pub number_is : IfSome x (λ p. p.number ≡ number)
    pub others : HoldsOthers places (set places place y) number
    pub none : held (set places place y) number ≡ None
    pub free : IfSome x (λ p. IsFree (set places place y) number)

  -- no connection is held
  pub none_held : (x : Option (BufferedStream S A)) → is_some x ≡ false → x ≡ None
  none_held None e = refl
  none_held (Some p) e = absurd (let t : true ≡ false = e in cc)

  -- a fact holds of any connection there
  pub if_some : (x : Option (BufferedStream S A)) (P : Type 0) → P → IfSome x (λ _. P)
  if_some None P h = tt
  if_some (Some p) P h = h

  pub taken : (places : List (Option (BufferedStream S A))) (number place : ℕ) (x y : Option (BufferedStream S A)) → place ≡ number % PLACES → number % PLACES < length places → x ≡ get_or places place x → is_some (held places number) ≡ true → y ≡ None → IsTaken places number place x y
  taken places number place x y e room is some none =
      let lt : place < length places = subst (λ (k : ℕ). k < length places) (sym e) room in
      let there : of_number number x ≡ held places number = held_is places number place x e is lt in
      let has : is_some (of_number number x) ≡ true = ap (λ z. is_some z) there ∙ some in
      let left : get_or (set places place y) place None ≡ None = get_or-set_same places place y None lt ∙ none in
      let free : get_or (set places place y) (number % PLACES) None ≡ None = subst (λ (k : ℕ). get_or (set places place y) k None ≡ None) e left in
      record {
        out = sym (own number x has) ∙ there;
        number_is = number_of number x has;
        others = λ other apart. elim (cases_eq (other % PLACES) place) [
          | inl same ↦ ap (λ z. of_number other z) (ap (λ (k : ℕ). get_or (set places place y) k None) same ∙ left) ∙ (sym (no_other number other x has apart) ∙ ap (λ z. of_number other z) (get_or_read places place x lt is None ∙ ap (λ (k : ℕ). get_or places k None) (sym same)))
          | inr away ↦ ap (λ z. of_number other z) (get_or-set_other places place (other % PLACES) y None away)
        ];
        none = ap (λ z. of_number number z) free;
        free = if_some x (IsFree (set places place y) number) free;
      }

  nothing_behind : (places : List (Option (BufferedStream S A))) (place : ℕ) → get_or (places ++ None ∷ []) place None ≡ get_or places place None
  nothing_behind [] zero = refl
  nothing_behind [] (suc n) = refl
  nothing_behind (x ∷ places) zero = refl
  nothing_behind (x ∷ places) (suc n) = nothing_behind places n

  -- an empty place more changes nothing
  pub held_pushed : (places : List (Option (BufferedStream S A))) (number : ℕ) → held (places ++ None ∷ []) number ≡ held places number
  held_pushed places number = ap (λ x. of_number number x) (nothing_behind places (number % PLACES))

  -- ---- a connection taken out and put back

  pub others_then : (old mid new : List (Option (BufferedStream S A))) (number again : ℕ) → again ≡ number → HoldsOthers old mid number → HoldsOthers mid new again → HoldsOthers old new number
  others_then old mid new number again same first second other apart = second other (λ e. apart (e ∙ same)) ∙ first other apart

  pub held_as : (places : List (Option (BufferedStream S A))) (number again : ℕ) (q : BufferedStream S A) → again ≡ number → held places again ≡ Some q → held places number ≡ Some q
  held_as places number again q same e = subst (λ (k : ℕ). held places k ≡ Some q) same e

  pub of_held : (P : BufferedStream S A → BufferedStream S A → Type 0) (a b : Option (BufferedStream S A)) (p q : BufferedStream S A) → a ≡ Some p → b ≡ Some q → P p q → OfHeld P a b
  of_held P a b p q d e h = subst (λ x. OfHeld P x b) (sym d) (subst (λ x. OfHeld P (Some p) x) (sym e) h)

  pub of_none : (P : BufferedStream S A → BufferedStream S A → Type 0) (a b : Option (BufferedStream S A)) → a ≡ None → OfHeld P a b
  of_none P a b d = subst (λ x. OfHeld P x b) (sym d) tt

  -- the bytes kept of a held connection
  pub kept_held : (a : Option (BufferedStream S A)) (p : BufferedStream S A) → a ≡ Some p → kept_in a ≡ p.buffer.kept
  kept_held a p d = ap (λ x. kept_in x) d

  pub none_kept : (a : Option (BufferedStream S A)) → a ≡ None → kept_in a ≡ []
  none_kept a d = ap (λ x. kept_in x) d

  -- ---- a connection that is quiet

  pub quiet_kept : (a : Option (BufferedStream S A)) → IsQuiet a → kept_in a ≡ []
  quiet_kept None q = absurd q
  quiet_kept (Some p) q = q.1

  pub quiet_asks : (calls : S → Option (List StreamCall)) (room : ℕ) (a : Option (BufferedStream S A)) → IsQuiet a → OfHeld (AsksToGive calls room (Ok Nothing)) a a
  quiet_asks calls room None q = absurd q
  quiet_asks calls room (Some p) q = record {
    called = λ may kept some. absurd (let t : p.readable ≡ true = may in let f : p.readable ≡ false = q.0 in cc);
    asleep = λ may kept. (refl, refl);
    awake = λ may found. may;
    takes = λ may. may;
  }

  pub quiet_passes : (given : S → Option (List ℕ)) (a : Option (BufferedStream S A)) → IsQuiet a → OfHeld (λ old new. HasPassed given old new []) a a
  quiet_passes given None q = absurd q
  quiet_passes given (Some p) q = record { came = []; gave = Appends-nil (given p.stream); passed = sym (append-nil p.buffer.kept) }

  pub quiet_sleeps : (a : Option (BufferedStream S A)) → IsQuiet a → readable a ≡ false
  quiet_sleeps None q = absurd q
  quiet_sleeps (Some p) q = q.0

-- a read of a quiet connection leaves the readiness
notes_none : (old : Readiness) (kept may : Bool) → kept ≡ false → may ≡ false → old ≡ record old { has_buffered = old.has_buffered || kept; needs_timeout = old.needs_timeout || may }
notes_none old kept may k m =
    ap (λ (b : Bool). record old { has_buffered = b }) (or_false old.has_buffered ∙ ap (λ (b : Bool). old.has_buffered || b) (sym k))
    ∙ ap (λ (b : Bool). record old { has_buffered = old.has_buffered || kept; needs_timeout = b }) (or_false old.needs_timeout ∙ ap (λ (b : Bool). old.needs_timeout || b) (sym m))

module _ {S A : Type 0} where
  pub quiet_notes : (old : Readiness) (a : Option (BufferedStream S A)) (r : Result Got WireFault) → IsQuiet a → old ≡ after_read old a r
  quiet_notes old a r q = notes_none old (has_kept a) (readable a && found_nothing r) (ap (λ xs. not (nat_eq (length xs) 0)) (quiet_kept a q)) (ap (λ (b : Bool). b && found_nothing r) (quiet_sleeps a q))

  pub none_reads : (old : Readiness) (a : Option (BufferedStream S A)) (r : Result Got WireFault) → a ≡ None → old ≡ after_read old a r
  none_reads old a r e = notes_none old (has_kept a) (readable a && found_nothing r) (ap (λ x. has_kept x) e) (ap (λ x. readable x && found_nothing r) e)

  pub none_writes : (old : Readiness) (a : Option (BufferedStream S A)) (r : Result ℕ WireFault) → a ≡ None → old ≡ after_write old a r
  none_writes old a r e = ap (λ (b : Bool). record old { needs_timeout = b }) (or_false old.needs_timeout ∙ ap (λ x. old.needs_timeout || (writable x && took_nothing r)) (sym e))

  -- a new connection takes the first free place
  pub first_taken : (places new : List (Option (BufferedStream S A))) (number place own : ℕ) (q : Option (BufferedStream S A)) → number % PLACES ≡ place → own ≡ number → new ≡ set places (own % PLACES) q → AreTakenBelow places place → AreTakenBelow new (number % PLACES)
  first_taken places new number place own q e same is least earlier below none =
      let at_place : own % PLACES ≡ place = ap (λ (n : ℕ). n % PLACES) same ∙ e in
      let lt : earlier < place = rw e at below in
      least earlier lt (sym (get_or-set_other places (own % PLACES) earlier q None (omega (arith, at_place, lt))) ∙ (ap (λ xs. get_or xs earlier None) (sym is) ∙ none))
