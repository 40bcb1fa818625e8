-- Written hands are read as those hands.
use Rattle.std.proofs.Common.{◌≡◌, ℕ, ◌+◌, ◌*◌, ◌/◌, ◌%◌, ◌≤◌, ◌<◌, true, refl, sym, ◌∙◌, ap, arith, List, [], ◌∷◌, ◌++◌, set, Option, Some, None, inl, inr}
use Rattle.std.specs.Prelude.{◌==◌, ◌&&◌, nat_lt, unwrap_or}
use Rattle.std.specs.Option.{option_and_then}
use Rattle.std.specs.Char.{is_ascii_digit}
use Rattle.std.proofs.lemmas.Bool.{cond-true, cond-false, and_from, and_right, lt-ltb, le-ltb, le-leb, eq-eqb, ne_eqb, cases_lt, cases_eq}
use Rattle.std.proofs.lemmas.List.{set-get_or}
use Rattle.shogi_core.specs.declared.piece.Color.{Color}
use Rattle.shogi_core.specs.declared.piece.Color.TheVariants.{Black, White}
use Rattle.shogi_core.specs.declared.piece.Kind.{Kind}
use Rattle.shogi_core.specs.declared.piece.Kind.TheVariants as kinds
use Rattle.shogi_core.specs.Position.{HandCounts, count_in_hand, place_of}
use Rattle.shogi_sfen.specs.Letters.{letter_of, cased_for, piece_named}
use Rattle.shogi_sfen.specs.HandTexts.{hands_from}
use Rattle.shogi_sfen.specs.Written.{count_digits, held_text}
use Rattle.shogi_sfen.proofs.HoldingLaws.{added}

digit : (n : ℕ) → n < 10 → is_ascii_digit (n + 48) ≡ true
digit n h = and_from _ _ (le-leb 48 (n + 48) (omega arith)) (le-leb (n + 48) 57 (omega arith))

-- a letter is read, after a count or none
pub letter_back : (color : Color) (kind : Kind) (hands : HandCounts) (count : Option ℕ) (rest : List ℕ)
    → hands_from hands count (cased_for color (letter_of kind) ∷ rest) ≡ hands_from (added hands color kind (unwrap_or count 1)) None rest
unfolding piece_named
letter_back Black kinds.Pawn hands None rest = refl
letter_back Black kinds.Pawn hands (Some n) rest = refl
letter_back White kinds.Pawn hands None rest = refl
letter_back White kinds.Pawn hands (Some n) rest = refl
letter_back Black kind hands None rest = refl
letter_back Black kind hands (Some n) rest = refl
letter_back White kind hands None rest = refl
letter_back White kind hands (Some n) rest = refl

-- a digit is read
digit_back : (d : ℕ) (hands : HandCounts) (rest : List ℕ) → 1 ≤ d → d < 10 → hands_from hands None ((d + 48) ∷ rest) ≡ hands_from hands (Some d) rest
digit_back d hands rest low high =
    cond-true (is_ascii_digit (d + 48)) _ _ (digit d high)
    ∙ (ap (option_and_then (λ n. hands_from hands (Some n) rest)) (cond-false (true && (d + 48 == 48)) None _ (and_right true (d + 48 == 48) (ne_eqb (d + 48) 48 (λ e. omega arith))))
    ∙ ap (λ (n : ℕ). hands_from hands (Some n) rest) (omega arith))

next_digit_back : (n d : ℕ) (hands : HandCounts) (rest : List ℕ) → d < 10 → hands_from hands (Some n) ((d + 48) ∷ rest) ≡ hands_from hands (Some (n * 10 + d)) rest
next_digit_back n d hands rest high =
    cond-true (is_ascii_digit (d + 48)) _ _ (digit d high) ∙ ap (λ (m : ℕ). hands_from hands (Some m) rest) (omega arith)

-- a count and a letter are read
pub held_back : (color : Color) (kind : Kind) (n : ℕ) (hands : HandCounts) (rest : List ℕ) → n < 100 → hands_from hands None (held_text color kind n ++ rest) ≡ hands_from (added hands color kind n) None rest
held_back color kind n hands rest small = elim (cases_eq n 0) [
  | inl none ↦
      ap (λ (t : List ℕ). hands_from hands None (t ++ rest)) (cond-true (n == 0) [] _ (eq-eqb n 0 none))
      ∙ ap (λ (h : HandCounts). hands_from h None rest) (sym (ap (set hands (place_of color kind)) (let same : count_in_hand hands color kind + n ≡ count_in_hand hands color kind = omega arith in same) ∙ set-get_or hands (place_of color kind) 0))
  | inr some ↦
      ap (λ (t : List ℕ). hands_from hands None (t ++ rest)) (cond-false (n == 0) [] (count_digits n ++ cased_for color (letter_of kind) ∷ []) (ne_eqb n 0 some))
      ∙ elim (cases_lt n 2) as (λ _. hands_from hands None ((count_digits n ++ cased_for color (letter_of kind) ∷ []) ++ rest) ≡ hands_from (added hands color kind n) None rest) [
        | inl one ↦
            ap (λ (t : List ℕ). hands_from hands None ((t ++ cased_for color (letter_of kind) ∷ []) ++ rest)) (cond-true (nat_lt n 2) [] _ (lt-ltb n 2 one))
            ∙ (letter_back color kind hands None rest ∙ ap (λ (m : ℕ). hands_from (added hands color kind m) None rest) (omega (arith, some)))
        | inr more ↦ elim (cases_lt n 10) as (λ _. hands_from hands None ((count_digits n ++ cased_for color (letter_of kind) ∷ []) ++ rest) ≡ hands_from (added hands color kind n) None rest) [
          | inl short ↦
              ap (λ (t : List ℕ). hands_from hands None ((t ++ cased_for color (letter_of kind) ∷ []) ++ rest)) (cond-false (nat_lt n 2) [] _ (le-ltb n 2 more) ∙ cond-true (nat_lt n 10) ((n + 48) ∷ []) _ (lt-ltb n 10 short))
              ∙ (digit_back n hands (cased_for color (letter_of kind) ∷ rest) (omega arith) short ∙ letter_back color kind hands (Some n) rest)
          | inr long ↦
              ap (λ (t : List ℕ). hands_from hands None ((t ++ cased_for color (letter_of kind) ∷ []) ++ rest)) (cond-false (nat_lt n 2) [] _ (le-ltb n 2 more) ∙ cond-false (nat_lt n 10) ((n + 48) ∷ []) _ (le-ltb n 10 long))
              ∙ (digit_back (n / 10) hands ((n % 10 + 48) ∷ cased_for color (letter_of kind) ∷ rest) (omega arith) (omega arith)
              ∙ (next_digit_back (n / 10) (n % 10) hands (cased_for color (letter_of kind) ∷ rest) (omega arith)
              ∙ (letter_back color kind hands (Some (n / 10 * 10 + n % 10)) rest ∙ ap (λ (m : ℕ). hands_from (added hands color kind m) None rest) (omega arith))))
        ]
      ]
]
