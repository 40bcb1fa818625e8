-- Counts in hand that no set has, saturated or not.
use Rattle.std.proofs.Common.{◌≡◌, ℕ, ◌+◌, ◌≤◌, Bool, true, false, refl, sym, ◌∙◌, ap, subst, arith, List, [], ◌∷◌, length, Option, Some, None, min, inl, inr, length-set}
use Rattle.std.specs.Prelude.{nat_lt, IfSome, unwrap_or, codes}
use Rattle.std.specs.List.{list_any}
use Rattle.std.specs.Option.{option_and_then}
use Rattle.std.specs.Char.{is_ascii_digit}
use Rattle.std.specs.Str.{bytes_eq}
use Rattle.std.proofs.lemmas.Option.{IfSome_then}
use Rattle.std.proofs.lemmas.Bool.{cond-true, cond_both, ltb-false, both_ways, false_from_ne_true, cases_Bool}
use Rattle.std.proofs.lemmas.List.Folds.{list_any_at}
use Rattle.shogi_core.specs.declared.piece.Color.{Color}
use Rattle.shogi_core.specs.declared.piece.Color.TheVariants.{Black, White}
use Rattle.shogi_core.specs.declared.piece.Kind.{Kind}
use Rattle.shogi_core.specs.declared.piece.Kind.TheVariants as kinds
use Rattle.shogi_core.specs.declared.piece.Piece.{Piece}
use Rattle.shogi_core.specs.declared.validity.PositionFault.TheVariants.{TooMany}
use Rattle.shogi_core.specs.Movement.{Cells}
use Rattle.shogi_core.specs.Pieces.{kind_number, all_kinds, set_size, kind_of}
use Rattle.shogi_core.specs.Position.{Shogi, HandCounts, count_in_hand, place_of}
use Rattle.shogi_core.specs.Validity.{fault_of, has_too_many, count_of}
use Rattle.shogi_core.proofs.Faults.{number_below, kind_there}
use Rattle.shogi_sfen.specs.declared.hand_text.TheConstants.{COUNTED_MAX}
use Rattle.shogi_sfen.specs.Words.{has_bytes}
use Rattle.shogi_sfen.specs.Letters.{piece_named}
use Rattle.shogi_sfen.specs.HandTexts.{with_kind, with_piece, with_digit, hands_from, hands_of, no_hands}
use Rattle.shogi_sfen.specs.CappedHands.{capped}
use Rattle.shogi_sfen.specs.Sfen.{judged}
use Rattle.shogi_sfen.proofs.HandLaws.{held-capped, exact_byte}
use Rattle.shogi_sfen.proofs.HoldingLaws.{holding-held, holding_same}

set_small : (kind : Kind) → set_size kind ≤ 18
set_small kinds.Pawn = omega arith
set_small kinds.Bishop = omega arith
set_small kinds.Rook = omega arith
set_small _ = omega arith

counted : (cells : Cells) (hands : HandCounts) (color : Color) (kind : Kind) → count_in_hand hands color kind ≤ count_of kind cells hands
counted cells hands Black kind = omega arith
counted cells hands White kind = omega arith

-- if no kind has more than a set, at most 18 of each are held
pub held_of_set : (cells : Cells) (hands : HandCounts) → has_too_many cells hands ≡ false → (color : Color) (kind : Kind) → count_in_hand hands color kind ≤ 18
held_of_set cells hands e color kind =
    let test : Kind → Bool = λ (k : Kind). nat_lt (set_size k) (count_of k cells hands) in
    let none : test kind ≡ false =
    false_from_ne_true (test kind) (λ found. both_ways (list_any test all_kinds) e (list_any_at test all_kinds (kind_number kind) kinds.Pawn (number_below kind) (subst (λ (k : Kind). test k ≡ true) (sym (kind_there kind)) found))) in
    let all : count_of kind cells hands ≤ set_size kind = ltb-false (set_size kind) (count_of kind cells hands) none in
    let small : set_size kind ≤ 18 = set_small kind in
    let one : count_in_hand hands color kind ≤ count_of kind cells hands = counted cells hands color kind in
    omega arith

few_capped : (hands : HandCounts) → length hands ≡ 14 → ((color : Color) (kind : Kind) → min COUNTED_MAX (count_in_hand hands color kind) ≤ 18) → capped hands ≡ hands
few_capped hands len few =
    ap capped (holding-held hands len)
    ∙ (holding_same (λ color kind. min COUNTED_MAX (count_in_hand hands color kind)) (count_in_hand hands) (λ color kind. let h : min COUNTED_MAX (count_in_hand hands color kind) ≤ 18 = few color kind in omega arith)
    ∙ sym (holding-held hands len))

-- the parts of a position
abbrev pub parts : Cells → HandCounts → Color → Shogi
parts cells hands side = record { cells = cells; hands = hands; side = side }

too_many : (p : Shogi) → has_too_many p.cells p.hands ≡ true → fault_of p ≡ Some TooMany
unfolding fault_of
too_many p e = cond-true (has_too_many p.cells p.hands) _ _ e

-- saturated counts have the same fault as exact counts
pub judged-capped : (cells : Cells) (hands : HandCounts) (side : Color) (end : ℕ) → length hands ≡ 14
    → judged (fault_of (parts cells (capped hands) side)) (parts cells (capped hands) side) end ≡ judged (fault_of (parts cells hands side)) (parts cells hands side) end
judged-capped cells hands side end len = elim (cases_Bool (has_too_many cells hands)) [
  | inr few ↦ ap (λ (hs : HandCounts). judged (fault_of (parts cells hs side)) (parts cells hs side) end) (few_capped hands len (λ color kind. let h : count_in_hand hands color kind ≤ 18 = held_of_set cells hands few color kind in omega arith))
  | inl many ↦ elim (cases_Bool (has_too_many cells (capped hands))) [
    | inr few ↦
        ap (λ (hs : HandCounts). judged (fault_of (parts cells hs side)) (parts cells hs side) end)
        (few_capped hands len (λ color kind. subst (λ (n : ℕ). n ≤ 18) (held-capped hands color kind) (held_of_set cells (capped hands) few color kind)))
    | inl also ↦
        ap (λ o. judged o (parts cells (capped hands) side) end) (too_many (parts cells (capped hands) side) also)
        ∙ sym (ap (λ o. judged o (parts cells hands side) end) (too_many (parts cells hands side) many))
  ]
]

-- reading keeps the fourteen counts
kind_len : (hands : HandCounts) (n : ℕ) (color : Color) (kind : Option Kind) → IfSome (with_kind hands n color kind) (λ more. length more ≡ length hands)
kind_len hands n color None = tt
kind_len hands n color (Some kind) = length-set hands (place_of color kind) (count_in_hand hands color kind + n)

piece_len : (hands : HandCounts) (n : ℕ) (piece : Option Piece) → IfSome (with_piece hands n piece) (λ more. length more ≡ length hands)
piece_len hands n None = tt
piece_len hands n (Some piece) = kind_len hands n piece.color (kind_of piece.role)

after_piece : (o : Option HandCounts) (len : ℕ) (f : HandCounts → Option HandCounts) → IfSome o (λ more. length more ≡ len) → ((more : HandCounts) → IfSome (f more) (λ out. length out ≡ length more)) → IfSome (option_and_then f o) (λ out. length out ≡ len)
after_piece None len f e h = tt
after_piece (Some more) len f e h = IfSome_then (f more) (h more) (λ out g. g ∙ e)

after_digit : (o : Option ℕ) (len : ℕ) (f : ℕ → Option HandCounts) → ((n : ℕ) → IfSome (f n) (λ out. length out ≡ len)) → IfSome (option_and_then f o) (λ out. length out ≡ len)
after_digit None len f h = tt
after_digit (Some n) len f h = h n

pub hands_from-len : (bytes : List ℕ) (hands : HandCounts) (count : Option ℕ) → IfSome (hands_from hands count bytes) (λ out. length out ≡ length hands)
hands_from-len [] hands None = refl
hands_from-len [] hands (Some n) = tt
hands_from-len (byte ∷ bytes) hands count =
    subst (λ (o : Option HandCounts). IfSome o (λ out. length out ≡ length hands)) (sym (exact_byte hands count byte bytes))
    (cond_both (is_ascii_digit byte) _ _ (λ (o : Option HandCounts). IfSome o (λ out. length out ≡ length hands))
    (λ e. after_digit (with_digit count byte) (length hands) (λ n. hands_from hands (Some n) bytes) (λ n. hands_from-len bytes hands (Some n)))
    (λ e. after_piece (with_piece hands (unwrap_or count 1) (piece_named false byte)) (length hands) (λ more. hands_from more None bytes) (piece_len hands (unwrap_or count 1) (piece_named false byte)) (λ more. hands_from-len bytes more None)))

pub hands_of-len : (word : List ℕ) → IfSome (hands_of word) (λ out. length out ≡ 14)
unfolding hands_of
hands_of-len word =
    cond_both (bytes_eq word (codes "-")) _ _ (λ (o : Option HandCounts). IfSome o (λ out. length out ≡ 14))
    (λ e. refl)
    (λ e. cond_both (has_bytes word) _ _ (λ (o : Option HandCounts). IfSome o (λ out. length out ≡ 14)) (λ f. hands_from-len word no_hands None) (λ f. tt))
