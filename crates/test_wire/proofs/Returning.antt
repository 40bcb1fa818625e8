-- One more stream came back, or one more thing was told.
use Rattle.std.proofs.Common.{◌≡◌, ◌≢◌, ℕ, ◌+◌, ◌-◌, ◌^◌, ◌<◌, ◌≤◌, Bool, true, false, nat_eq, nat_lt, List, [], ◌∷◌, ◌++◌, Some, None, refl, sym, ap, subst, ◌∙◌, inl, inr, arith}
use Rattle.std.specs.Prelude.{◌==◌, ◌||◌, ◌&&◌, ◌⊎◌, not, cond, max, min}
use Rattle.std.specs.Io.KnownBytes.{Keeps}
use Rattle.std.proofs.KnownBytes.{Keeps-refl}
use Rattle.std.proofs.lemmas.Bool.{cases_eq}
use borrow.Author.Tests.{eqb-true, eq-eqb, lt-ltb, ltb-true, ne_eqb, both_ways, not-true}
use Rattle.stream_transport.specs.Streams.{IsToldFailed, IsToldShut, KeepsElse}
use Rattle.byte_logs.specs.Noted.{is_noted, last_under}
use Rattle.stream_transport.proofs.Telling.{last_else, last_now, noted_else, noted_now, told_failed, told_shut}
use Rattle.test_wire.specs.Below.{are_below}
use Rattle.test_wire.specs.Telling.{told_of}
use Rattle.test_wire.specs.declared.returns.Remains.{Remains}

-- ---- numbers

both : (a b : Bool) → (a && b) ≡ true → (a ≡ true) × (b ≡ true)
both true b e = (refl, e)
both false b e = absurd (cc)

either : (a b : Bool) → (a || b) ≡ true → (a ≡ true) ⊎ (b ≡ true)
either true b e = inl refl
either false b e = inr e

and_of : (a b : Bool) → a ≡ true → b ≡ true → (a && b) ≡ true
and_of a b p q = ap (λ (x : Bool). x && b) p ∙ q

or_left : (a b : Bool) → a ≡ true → (a || b) ≡ true
or_left a b p = ap (λ (x : Bool). x || b) p

or_right : (a b : Bool) → b ≡ true → (a || b) ≡ true
or_right true b p = refl
or_right false b p = p

apart_of : (next m n : ℕ) → (nat_lt m next || (m == 2 ^ 64 - 1)) ≡ true → next ≤ n → (n == 2 ^ 64 - 1) ≡ false → m ≡ n → ⊥
apart_of next m n b le apart same = elim (either (nat_lt m next) (m == 2 ^ 64 - 1) b) [
  | inl below ↦ (let lt : m < next = ltb-true m next below in omega arith)
  | inr top ↦ both_ways (n == 2 ^ 64 - 1) apart (eq-eqb n (2 ^ 64 - 1) (sym same ∙ eqb-true m (2 ^ 64 - 1) top))
]

higher : (next now m : ℕ) → next ≤ now → (nat_lt m next || (m == 2 ^ 64 - 1)) ≡ true → (nat_lt m now || (m == 2 ^ 64 - 1)) ≡ true
higher next now m le b = elim (either (nat_lt m next) (m == 2 ^ 64 - 1) b) [
  | inl below ↦ or_left (nat_lt m now) (m == 2 ^ 64 - 1) (lt-ltb m now (let lt : m < next = ltb-true m next below in omega arith))
  | inr top ↦ or_right (nat_lt m now) (m == 2 ^ 64 - 1) top
]

module _ {X : Type 0} where
  pub new_one : (next : ℕ) (xs : List (ℕ × X)) (n : ℕ) → are_below next xs ≡ true → next ≤ n → not (nat_eq n 18446744073709551615) ≡ true → is_noted xs n ≡ false
  new_one next [] n b le apart = refl
  new_one next (x ∷ xs) n b le apart =
      let parts : ((nat_lt x.0 next || (x.0 == 2 ^ 64 - 1)) ≡ true) × (are_below next xs ≡ true) = both (nat_lt x.0 next || (x.0 == 2 ^ 64 - 1)) (are_below next xs) b in
      ap (λ (t : Bool). t || is_noted xs n) (ne_eqb x.0 n (apart_of next x.0 n parts.0 le (not-true (nat_eq n 18446744073709551615) apart))) ∙ new_one next xs n parts.1 le apart

  below_more : (next now number : ℕ) (xs : List (ℕ × X)) (x : X) → next ≤ now → (nat_lt number now || (number == 2 ^ 64 - 1)) ≡ true → are_below next xs ≡ true → are_below now (xs ++ (number, x) ∷ []) ≡ true
  below_more next now number [] x le is b = and_of (nat_lt number now || (number == 2 ^ 64 - 1)) true is refl
  below_more next now number (y ∷ xs) x le is b =
      let parts : ((nat_lt y.0 next || (y.0 == 2 ^ 64 - 1)) ≡ true) × (are_below next xs ≡ true) = both (nat_lt y.0 next || (y.0 == 2 ^ 64 - 1)) (are_below next xs) b in
      and_of (nat_lt y.0 now || (y.0 == 2 ^ 64 - 1)) (are_below now (xs ++ (number, x) ∷ [])) (higher next now y.0 le parts.0) (below_more next now number xs x le is parts.1)

above : (now number : ℕ) → (number < now) ⊎ (number ≡ 2 ^ 64 - 1) → (nat_lt number now || (number == 2 ^ 64 - 1)) ≡ true
above now number (inl lt) = or_left (nat_lt number now) (number == 2 ^ 64 - 1) (lt-ltb number now lt)
above now number (inr e) = or_right (nat_lt number now) (number == 2 ^ 64 - 1) (eq-eqb number (2 ^ 64 - 1) e)

reached : (number more now : ℕ) → number < 2 ^ 64 → more ≡ min (number + 1) (2 ^ 64 - 1) → more ≤ now → (number < now) ⊎ (number ≡ 2 ^ 64 - 1)
reached number more now fits e le = elim (cases_eq number (2 ^ 64 - 1)) [
  | inl same ↦ inr same
  | inr apart ↦ inl (let a : number ≢ 2 ^ 64 - 1 = apart in omega arith)
]

pub below_now : {X : Type 0} (next more now number : ℕ) (xs all : List (ℕ × X)) (x : X) → number < 2 ^ 64 → more ≡ min (number + 1) (2 ^ 64 - 1) → now ≡ max next more → all ≡ xs ++ (number, x) ∷ [] → are_below next xs ≡ true → are_below now all ≡ true
below_now next more now number xs all x fits e is same b = ap (λ (l : _). are_below now l) same ∙ below_more next now number xs x (omega (arith, is)) (above now number (reached number more now fits e (omega (arith, is)))) b

-- ---- what is told

module _ (back : List (ℕ × Remains)) (shut failed : List (ℕ × Unit {0})) (number : ℕ) where
  pub of_failed : (now : List (ℕ × Unit {0})) → now ≡ failed ++ (number, tt) ∷ [] → IsToldFailed (told_of back shut failed) (told_of back shut now) number
  of_failed now e =
      let t = told_failed [] shut failed number now e in
      record {
        unread = Keeps-refl _;
        given = tt;
        written = Keeps-refl _;
        shut = t.shut;
        failed = t.failed;
        others = λ other apart. record { unread = Keeps-refl _; given = tt; written = Keeps-refl _; shut = (t.others other apart).shut; failed = (t.others other apart).failed };
      }

  pub of_shut : (now : List (ℕ × Unit {0})) → now ≡ shut ++ (number, tt) ∷ [] → IsToldShut (told_of back shut failed) (told_of back now failed) number
  of_shut now e =
      let t = told_shut [] shut failed number now e in
      record {
        unread = Keeps-refl _;
        given = tt;
        written = Keeps-refl _;
        shut = t.shut;
        failed = t.failed;
        others = λ other apart. record { unread = Keeps-refl _; given = tt; written = Keeps-refl _; shut = (t.others other apart).shut; failed = (t.others other apart).failed };
      }

  module _ (f : Remains → List ℕ) (now : List (ℕ × Remains)) (remains : Remains) (e : now ≡ back ++ (number, remains) ∷ []) where
    bytes_now : (bytes : List ℕ) → f remains ≡ bytes → Keeps (Some bytes) (cond (is_noted now number) (Some (last_under f now number)) None)
    bytes_now bytes is =
        let there : is_noted now number ≡ true = ap (λ xs. is_noted xs number) e ∙ noted_now back number remains in
        let last : last_under f now number ≡ bytes = ap (λ xs. last_under f xs number) e ∙ (last_now f [] back number remains ∙ is) in
        subst (λ (t : Bool). Keeps (Some bytes) (cond t (Some (last_under f now number)) None)) (sym there) last

    bytes_else : (other : ℕ) → other ≢ number → Keeps (cond (is_noted back other) (Some (last_under f back other)) None) (cond (is_noted now other) (Some (last_under f now other)) None)
    bytes_else other apart =
        let there : is_noted now other ≡ is_noted back other = ap (λ xs. is_noted xs other) e ∙ noted_else back number other remains apart in
        let last : last_under f now other ≡ last_under f back other = ap (λ xs. last_under f xs other) e ∙ last_else f [] back number other remains apart in
        subst (λ (t : Bool). Keeps (cond (is_noted back other) (Some (last_under f back other)) None) (cond t (Some (last_under f now other)) None)) (sym there)
        (subst (λ (l : List ℕ). Keeps (cond (is_noted back other) (Some (last_under f back other)) None) (cond (is_noted back other) (Some l) None)) (sym last) (Keeps-refl _))

  pub of_left : (now : List (ℕ × Remains)) (remains : Remains) (bytes : List ℕ) → now ≡ back ++ (number, remains) ∷ [] → remains.unread.items ≡ bytes → Keeps (Some bytes) ((told_of now shut failed).unread number)
  of_left now remains bytes e is = bytes_now (λ (r : Remains). r.unread.items) now remains e bytes is

  pub of_taken : (now : List (ℕ × Remains)) (remains : Remains) (bytes : List ℕ) → now ≡ back ++ (number, remains) ∷ [] → remains.written.items ≡ bytes → Keeps (Some bytes) ((told_of now shut failed).written number)
  of_taken now remains bytes e is = bytes_now (λ (r : Remains). r.written.items) now remains e bytes is

  pub of_rest : (now : List (ℕ × Remains)) (remains : Remains) → now ≡ back ++ (number, remains) ∷ [] → KeepsElse (told_of back shut failed) (told_of now shut failed) number
  of_rest now remains e = record {
    shut = refl;
    failed = refl;
    others = λ other apart. record {
      unread = bytes_else (λ (r : Remains). r.unread.items) now remains e other apart;
      given = tt;
      written = bytes_else (λ (r : Remains). r.written.items) now remains e other apart;
      shut = refl;
      failed = refl;
    };
  }

pub noted_bytes : (none kept left first all slice : List ℕ) → none ≡ [] → first ≡ none ++ kept → all ≡ first ++ slice → slice ≡ left → all ≡ kept ++ left
noted_bytes none kept left first all slice e f g h = g ∙ (ap (λ xs. xs ++ slice) (f ∙ ap (λ xs. xs ++ kept) e) ∙ ap (λ xs. kept ++ xs) h)

pub noted_slice : (none left all slice : List ℕ) → none ≡ [] → all ≡ none ++ slice → slice ≡ left → all ≡ left
noted_slice none left all slice e g h = g ∙ (ap (λ xs. xs ++ slice) e ∙ h)
