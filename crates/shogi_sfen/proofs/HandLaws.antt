-- Hands byte by byte, with counts that saturate at `COUNTED_MAX`.
use Rattle.std.proofs.Common.{◌≡◌, ℕ, ◌+◌, ◌-◌, ◌*◌, ◌<◌, Bool, true, false, cond, refl, sym, ◌∙◌, ap, arith, List, [], ◌∷◌, length, drop, get_or, set, Option, Some, None, min, add-one}
use Rattle.std.specs.Prelude.{◌==◌, ◌&&◌, suc, unwrap_or}
use Rattle.std.specs.Option.{option_map, option_and_then}
use Rattle.std.specs.Char.{is_ascii_digit}
use Rattle.std.specs.Prelude.{codes}
use Rattle.std.specs.Str.{bytes_eq}
use Rattle.std.proofs.Math.Seq.{drop-cons}
use Rattle.std.proofs.Math.ListN.{get_or-map}
use Rattle.std.proofs.lemmas.List.{map-set}
use Rattle.shogi_sfen.specs.declared.hand_text.TheConstants.{COUNTED_MAX}
use Rattle.shogi_sfen.specs.Words.{has_bytes}
use Rattle.std.proofs.lemmas.Bool.{cond-true, cond-false}
use Rattle.shogi_core.specs.declared.piece.Color.{Color}
use Rattle.shogi_core.specs.declared.piece.Kind.{Kind}
use Rattle.shogi_core.specs.declared.piece.Piece.{Piece}
use Rattle.shogi_core.specs.Pieces.{kind_of}
use Rattle.shogi_core.specs.Position.{HandCounts, count_in_hand, place_of}
use Rattle.shogi_sfen.specs.Letters.{piece_named}
use Rattle.shogi_sfen.specs.HandTexts.{with_kind, with_piece, with_digit, hands_from, no_hands, hands_of}
use Rattle.shogi_sfen.specs.CappedHands.{capped_kind, capped_piece, capped_digit, capped_from, capped}

-- the effect of one byte
at_byte : (hands : HandCounts) (count : Option ℕ) (byte : ℕ) (bytes : List ℕ) → capped_from hands count (byte ∷ bytes) ≡ cond (is_ascii_digit byte)
    (option_and_then (λ n. capped_from hands (Some n) bytes) (capped_digit count byte))
    (option_and_then (λ more. capped_from more None bytes) (capped_piece hands (unwrap_or count 1) (piece_named false byte)))
at_byte hands None byte bytes = refl
at_byte hands (Some n) byte bytes = refl

-- numbers may be capped before a sum and again after
pub min-sum : (a n : ℕ) → min COUNTED_MAX (min COUNTED_MAX a + min COUNTED_MAX n) ≡ min COUNTED_MAX (a + n)
min-sum a n = omega arith

min-digit : (n d : ℕ) → min COUNTED_MAX (min COUNTED_MAX n * 10 + d) ≡ min COUNTED_MAX (n * 10 + d)
min-digit n d = omega arith

-- if each step agrees up to capping, the readings do
through : (o : Option ℕ) (f g : ℕ → Option HandCounts) → ((n : ℕ) → g (min COUNTED_MAX n) ≡ option_map capped (f n)) → option_and_then g (option_map (min COUNTED_MAX) o) ≡ option_map capped (option_and_then f o)
through None f g h = refl
through (Some n) f g h = h n

through_held : (o : Option HandCounts) (f g : HandCounts → Option HandCounts) → ((hands : HandCounts) → g (capped hands) ≡ option_map capped (f hands)) → option_and_then g (option_map capped o) ≡ option_map capped (option_and_then f o)
through_held None f g h = refl
through_held (Some hands) f g h = h hands

either_way : (b : Bool) (x y : Option HandCounts) (z w : Option HandCounts) → z ≡ option_map capped x → w ≡ option_map capped y → cond b z w ≡ option_map capped (cond b x y)
either_way true x y z w e f = e
either_way false x y z w e f = f

first : (b : Bool) (x y : ℕ) → x ≡ min COUNTED_MAX y → cond (true && b) None (Some x) ≡ option_map (min COUNTED_MAX) (cond (true && b) None (Some y))
first true x y e = refl
first false x y e = ap Some e

digit_capped : (count : Option ℕ) (byte : ℕ) → capped_digit (option_map (min COUNTED_MAX) count) byte ≡ option_map (min COUNTED_MAX) (with_digit count byte)
digit_capped None byte = first (byte == 48) (min COUNTED_MAX (0 * 10 + (byte - 48))) (0 * 10 + (byte - 48)) refl
digit_capped (Some n) byte = ap Some (min-digit n (byte - 48))

unwrap_capped : (count : Option ℕ) → unwrap_or (option_map (min COUNTED_MAX) count) 1 ≡ min COUNTED_MAX (unwrap_or count 1)
unwrap_capped None = refl
unwrap_capped (Some n) = refl

pub held-capped : (hands : HandCounts) (color : Color) (kind : Kind) → count_in_hand (capped hands) color kind ≡ min COUNTED_MAX (count_in_hand hands color kind)
held-capped hands color kind = get_or-map (min COUNTED_MAX) hands (place_of color kind) 0

kind_capped : (hands : HandCounts) (n : ℕ) (color : Color) (kind : Option Kind) → capped_kind (capped hands) (min COUNTED_MAX n) color kind ≡ option_map capped (with_kind hands n color kind)
kind_capped hands n color None = refl
kind_capped hands n color (Some kind) =
    ap (λ (m : ℕ). Some (set (capped hands) (place_of color kind) m)) (ap (λ (m : ℕ). min COUNTED_MAX (m + min COUNTED_MAX n)) (held-capped hands color kind) ∙ min-sum (count_in_hand hands color kind) n)
    ∙ ap Some (sym (map-set (min COUNTED_MAX) hands (place_of color kind) (count_in_hand hands color kind + n)))

piece_capped : (hands : HandCounts) (n : ℕ) (piece : Option Piece) → capped_piece (capped hands) (min COUNTED_MAX n) piece ≡ option_map capped (with_piece hands n piece)
piece_capped hands n None = refl
piece_capped hands n (Some piece) = kind_capped hands n piece.color (kind_of piece.role)

pub exact_byte : (hands : HandCounts) (count : Option ℕ) (byte : ℕ) (bytes : List ℕ) → hands_from hands count (byte ∷ bytes) ≡ cond (is_ascii_digit byte)
    (option_and_then (λ n. hands_from hands (Some n) bytes) (with_digit count byte))
    (option_and_then (λ more. hands_from more None bytes) (with_piece hands (unwrap_or count 1) (piece_named false byte)))
exact_byte hands None byte bytes = refl
exact_byte hands (Some n) byte bytes = refl

-- saturating counts are the exact counts, capped
hands_capped : (bytes : List ℕ) (hands : HandCounts) (count : Option ℕ) → capped_from (capped hands) (option_map (min COUNTED_MAX) count) bytes ≡ option_map capped (hands_from hands count bytes)
hands_capped [] hands None = refl
hands_capped [] hands (Some n) = refl
hands_capped (byte ∷ bytes) hands count =
    at_byte (capped hands) (option_map (min COUNTED_MAX) count) byte bytes
    ∙ (either_way (is_ascii_digit byte) _ _ _ _
    (ap (option_and_then (λ n. capped_from (capped hands) (Some n) bytes)) (digit_capped count byte)
    ∙ through (with_digit count byte) (λ n. hands_from hands (Some n) bytes) (λ n. capped_from (capped hands) (Some n) bytes) (λ n. hands_capped bytes hands (Some n)))
    (ap (λ (n : ℕ). option_and_then (λ more. capped_from more None bytes) (capped_piece (capped hands) n (piece_named false byte))) (unwrap_capped count)
    ∙ (ap (option_and_then (λ more. capped_from more None bytes)) (piece_capped hands (unwrap_or count 1) (piece_named false byte))
    ∙ through_held (with_piece hands (unwrap_or count 1) (piece_named false byte)) (λ more. hands_from more None bytes) (λ more. capped_from more None bytes) (λ more. hands_capped bytes more None)))
    ∙ ap (option_map capped) (sym (exact_byte hands count byte bytes)))

some_bytes : (word : List ℕ) → 0 < length word → has_bytes word ≡ true
some_bytes [] e = absurd (omega arith)
some_bytes (b ∷ bs) e = refl

pub hands_of-items : (word : List ℕ) → bytes_eq word (codes "-") ≡ false → 0 < length word → capped_from no_hands None word ≡ option_map capped (hands_of word)
unfolding hands_of
hands_of-items word e f = hands_capped word no_hands None ∙ sym (ap (option_map capped) (cond-false (bytes_eq word (codes "-")) _ _ e ∙ cond-true (has_bytes word) _ _ (some_bytes word f)))
