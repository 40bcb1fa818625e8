-- The records under a number, after one more.
use Rattle.std.proofs.Common.{◌≡◌, ◌≢◌, ℕ, Bool, true, false, List, [], ◌∷◌, ◌++◌, Option, None, Some, append-nil, append_assoc, refl, sym, ap, ◌∙◌}
use Rattle.std.specs.Prelude.{◌==◌, ◌||◌, cond}
use borrow.Author.Tests.{eqb-false, ne_eqb}
use Rattle.std.specs.Io.KnownBytes.{Keeps}
use Rattle.transport.specs.Report.{KeepsAll, Report}
use Rattle.stream_transport.specs.Reporting.{AreBlank}
use Rattle.stream_transport.specs.Held.{given_under, none_given}
use Rattle.stream_transport.specs.Streams.{IsToldFailed, IsToldShut, KeepsElse}
use Rattle.byte_logs.specs.Noted.{all_under, is_noted, last_after, last_under}
use Rattle.stream_transport.specs.Told.{told_by}
use Rattle.byte_logs.specs.declared.log.Bytes.{Bytes}

is_true : (b : Bool) → (b ≡ false → ⊥) → b ≡ true
is_true true h = refl
is_true false h = absurd (h refl)

same : (n : ℕ) → (n == n) ≡ true
same n = is_true (n == n) (λ e. eqb-false n n e refl)

or_true : (b : Bool) → (b || true) ≡ true
or_true true = refl
or_true false = refl

module _ {X : Type 0} where
  noted_at : (number : ℕ) (x : X) → is_noted ((number, x) ∷ []) number ≡ true
  noted_at number x = ap (λ (b : Bool). b || false) (same number)

  pub noted_now : (xs : List (ℕ × X)) (number : ℕ) (x : X) → is_noted (xs ++ (number, x) ∷ []) number ≡ true
  noted_now [] number x = noted_at number x
  noted_now (y ∷ xs) number x = ap (λ (b : Bool). (y.0 == number) || b) (noted_now xs number x) ∙ or_true (y.0 == number)

  pub noted_else : (xs : List (ℕ × X)) (number other : ℕ) (x : X) → other ≢ number → is_noted (xs ++ (number, x) ∷ []) other ≡ is_noted xs other
  noted_else [] number other x apart = ap (λ (b : Bool). b || false) (ne_eqb number other (λ e. apart (sym e)))
  noted_else (y ∷ xs) number other x apart = ap (λ (b : Bool). (y.0 == other) || b) (noted_else xs number other x apart)

  module _ (f : X → List ℕ) where
    pub last_now : (bytes : List ℕ) (xs : List (ℕ × X)) (number : ℕ) (x : X) → last_after f bytes (xs ++ (number, x) ∷ []) number ≡ f x
    last_now bytes [] number x = ap (λ (b : Bool). cond b (f x) bytes) (same number)
    last_now bytes (y ∷ xs) number x = last_now (cond (y.0 == number) (f y.1) bytes) xs number x

    pub last_else : (bytes : List ℕ) (xs : List (ℕ × X)) (number other : ℕ) (x : X) → other ≢ number → last_after f bytes (xs ++ (number, x) ∷ []) other ≡ last_after f bytes xs other
    last_else bytes [] number other x apart = ap (λ (b : Bool). cond b (f x) bytes) (ne_eqb number other (λ e. apart (sym e)))
    last_else bytes (y ∷ xs) number other x apart = last_else (cond (y.0 == other) (f y.1) bytes) xs number other x apart

    pub all_now : (xs : List (ℕ × X)) (number : ℕ) (x : X) → all_under f (xs ++ (number, x) ∷ []) number ≡ all_under f xs number ++ f x
    all_now [] number x = ap (λ (b : Bool). cond b (f x) [] ++ []) (same number) ∙ append-nil (f x)
    all_now (y ∷ xs) number x = ap (λ (l : List ℕ). cond (y.0 == number) (f y.1) [] ++ l) (all_now xs number x) ∙ sym (append_assoc (cond (y.0 == number) (f y.1) []) (all_under f xs number) (f x))

    pub all_else : (xs : List (ℕ × X)) (number other : ℕ) (x : X) → other ≢ number → all_under f (xs ++ (number, x) ∷ []) other ≡ all_under f xs other
    all_else [] number other x apart = ap (λ (b : Bool). cond b (f x) [] ++ []) (ne_eqb number other (λ e. apart (sym e)))
    all_else (y ∷ xs) number other x apart = ap (λ (l : List ℕ). cond (y.0 == other) (f y.1) [] ++ l) (all_else xs number other x apart)

-- the bytes of one more read were recorded
pub given_now : (noted now : List (ℕ × Bytes)) (number : ℕ) (moved : Bytes) (none given : List ℕ) → now ≡ noted ++ (number, moved) ∷ [] → moved.items ≡ none ++ given → none ≡ [] → given_under now number ≡ given_under noted number ++ given
given_now noted now number moved none given e m z =
    let bytes : moved.items ≡ given = m ∙ ap (λ (l : List ℕ). l ++ given) z in
    ap (λ (xs : List (ℕ × Bytes)). given_under xs number) e ∙ (all_now (λ (b : Bytes). b.items) noted number moved ∙ ap (λ (l : List ℕ). given_under noted number ++ l) bytes)

pub given_else : (noted now : List (ℕ × Bytes)) (number other : ℕ) (moved : Bytes) → other ≢ number → now ≡ noted ++ (number, moved) ∷ [] → given_under now other ≡ given_under noted other
given_else noted now number other moved apart e = ap (λ (xs : List (ℕ × Bytes)). given_under xs other) e ∙ all_else (λ (b : Bytes). b.items) noted number other moved apart

module _ (back : List (ℕ × Bytes)) (shut failed : List (ℕ × Unit {0})) (number : ℕ) where
  -- one more call failed
  pub told_failed : (now : List (ℕ × Unit {0})) → now ≡ failed ++ (number, tt) ∷ [] → IsToldFailed (told_by back shut failed) (told_by back shut now) number
  told_failed now e = record {
    unread = tt;
    given = tt;
    written = refl;
    shut = refl;
    failed = ap (λ (b : Bool). Some b) (ap (λ xs. is_noted xs number) e ∙ noted_now failed number tt);
    others = λ other apart. record {
      unread = tt;
      given = tt;
      written = refl;
      shut = refl;
      failed = ap (λ (b : Bool). Some b) (ap (λ xs. is_noted xs other) e ∙ noted_else failed number other tt apart);
    };
  }

  -- one more number is shut
  pub told_shut : (now : List (ℕ × Unit {0})) → now ≡ shut ++ (number, tt) ∷ [] → IsToldShut (told_by back shut failed) (told_by back now failed) number
  told_shut now e = record {
    unread = tt;
    given = tt;
    written = refl;
    shut = ap (λ (b : Bool). Some b) (ap (λ xs. is_noted xs number) e ∙ noted_now shut number tt);
    failed = refl;
    others = λ other apart. record {
      unread = tt;
      given = tt;
      written = refl;
      shut = ap (λ (b : Bool). Some b) (ap (λ xs. is_noted xs other) e ∙ noted_else shut number other tt apart);
      failed = refl;
    };
  }

  -- one more stream came back
  pub told_taken : (now : List (ℕ × Bytes)) (bytes : Bytes) → now ≡ back ++ (number, bytes) ∷ [] → last_under (λ (b : Bytes). b.items) now number ≡ bytes.items
  told_taken now bytes e = ap (λ xs. last_under (λ (b : Bytes). b.items) xs number) e ∙ last_now (λ (b : Bytes). b.items) [] back number bytes

  pub told_rest : (now : List (ℕ × Bytes)) (bytes : Bytes) → now ≡ back ++ (number, bytes) ∷ [] → KeepsElse (told_by back shut failed) (told_by now shut failed) number
  told_rest now bytes e = record {
    shut = refl;
    failed = refl;
    others = λ other apart. record {
      unread = tt;
      given = tt;
      written = ap (λ xs. last_under (λ (b : Bytes). b.items) xs other) e ∙ last_else (λ (b : Bytes). b.items) [] back number other bytes apart;
      shut = refl;
      failed = refl;
    };
  }

-- ---- at the start

keeps_some : (x : List ℕ) (b : Option (List ℕ)) → Keeps (Some x) b → b ≡ Some x
keeps_some x None k = absurd k
keeps_some x (Some y) k = ap (λ (l : List ℕ). Some l) k

pub blank_start : (back : List (ℕ × Bytes)) (shut failed : List (ℕ × Unit {0})) (report : Report) → back ≡ [] → shut ≡ [] → failed ≡ [] → KeepsAll (none_given (told_by back shut failed)) report → AreBlank report
blank_start back shut failed report e f h k n =
    let start : KeepsAll (none_given (told_by [] [] [])) report = rw (e, f, h) at k in
    record {
      given = keeps_some [] (report.given n) (start n).given;
      written = keeps_some [] (report.written n) (start n).written;
      shut = (start n).shut;
      failed = (start n).failed;
    }
