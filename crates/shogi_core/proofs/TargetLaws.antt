-- Masks of the squares that a piece attacks.
use Rattle.std.proofs.Common.{◌≡◌, ◌+◌, ◌%◌, ℕ, Bool, true, false, refl, sym, ap, ◌∙◌, bit_or}
use Rattle.std.specs.Prelude.{◌||◌}
use Rattle.std.specs.List.{list_any}
use Rattle.shogi_core.specs.declared.offset.Offset.{Offset}
use Rattle.shogi_core.specs.declared.piece.Color.{Color}
use Rattle.shogi_core.specs.declared.piece.Color.TheVariants.{Black, White}
use Rattle.shogi_core.specs.Bits.{has_bit}
use Rattle.shogi_core.specs.Movement.{Cells, up, down, left, right, up_left, up_right, down_left, down_right, slides, has_slide, for_side, straight, diagonal}
use Rattle.shogi_core.specs.Rays.{direction_at}
use Rattle.shogi_core.proofs.BitLaws.{has_bit-or, has_bit-none}
use Rattle.shogi_core.proofs.LineBits.{or_fits}
use Rattle.shogi_core.proofs.SeenLaws.{slides_role}
use Rattle.shogi_core.specs.Cell.{is_sliding_role}
use Rattle.shogi_core.specs.declared.piece.Piece.{Piece}
use Rattle.std.proofs.lemmas.Bool.{both_ways, false_from_ne_true}

four : (a b c d : Bool) → (((a || b) || c) || d) ≡ (a || (b || (c || (d || false))))
four true b c d = refl
four false true c d = refl
four false false true d = refl
four false false false true = refl
four false false false false = refl

swap : (a b : Bool) → (a || b) ≡ (b || a)
swap true true = refl
swap true false = refl
swap false true = refl
swap false false = refl

halves : (a b c d : Bool) → (((a || b) || c) || d) ≡ (((c || d) || a) || b)
halves true b true d = refl
halves true b false true = refl
halves true b false false = refl
halves false true true d = refl
halves false true false true = refl
halves false true false false = refl
halves false false true true = refl
halves false false true false = refl
halves false false false true = refl
halves false false false false = refl

pub any_straight : (color : Color) (test : Offset → Bool) → (((test up || test down) || test left) || test right) ≡ list_any (λ o. test (for_side color o)) straight
any_straight Black test = four (test up) (test down) (test left) (test right)
any_straight White test = ap (λ x. (x || test left) || test right) (swap (test up) (test down)) ∙ four (test down) (test up) (test left) (test right)

pub any_diagonal : (color : Color) (test : Offset → Bool) → (((test up_left || test up_right) || test down_left) || test down_right) ≡ list_any (λ o. test (for_side color o)) diagonal
any_diagonal Black test = four (test up_left) (test up_right) (test down_left) (test down_right)
any_diagonal White test = halves (test up_left) (test up_right) (test down_left) (test down_right) ∙ four (test down_left) (test down_right) (test up_left) (test up_right)

pub any_forward : (test : Bool) → test ≡ (test || false)
any_forward true = refl
any_forward false = refl

pub bits_four : (a b c d n : ℕ) (p q r s : Bool) → has_bit a n ≡ p → has_bit b n ≡ q → has_bit c n ≡ r → has_bit d n ≡ s → has_bit (bit_or (bit_or (bit_or a b) c) d) n ≡ (((p || q) || r) || s)
bits_four a b c d n p q r s e f g h = has_bit-or (bit_or (bit_or a b) c) d n ∙ (rw (has_bit-or (bit_or a b) c n, has_bit-or a b n, e, f, g, h) refl)

pub straight_bits : (cells : Cells) (color : Color) (from n a b c d : ℕ) → has_bit a n ≡ slides cells up from n → has_bit b n ≡ slides cells down from n → has_bit c n ≡ slides cells left from n → has_bit d n ≡ slides cells right from n
    → has_bit (bit_or (bit_or (bit_or a b) c) d) n ≡ list_any (λ o. slides cells (for_side color o) from n) straight
straight_bits cells color from n a b c d e f g h = bits_four a b c d n (slides cells up from n) (slides cells down from n) (slides cells left from n) (slides cells right from n) e f g h ∙ any_straight color (λ o. slides cells o from n)

mixed : (a b c d : Bool) → (((a || b) || c) || d) ≡ (((b || d) || c) || a)
mixed true true true true = refl
mixed true true true false = refl
mixed true true false true = refl
mixed true true false false = refl
mixed true false true true = refl
mixed true false true false = refl
mixed true false false true = refl
mixed true false false false = refl
mixed false true true true = refl
mixed false true true false = refl
mixed false true false true = refl
mixed false true false false = refl
mixed false false true true = refl
mixed false false true false = refl
mixed false false false true = refl
mixed false false false false = refl

-- slides down, up and a quarter turn on are those along files and ranks
pub straight_second : (cells : Cells) (color : Color) (first from n a b c d : ℕ) → first ≡ 0 → has_bit a n ≡ slides cells (direction_at ((first + 4) % 8)) from n → has_bit b n ≡ slides cells (direction_at first) from n → has_bit c n ≡ slides cells (direction_at ((first + 2) % 8)) from n → has_bit d n ≡ slides cells (direction_at (((first + 2) % 8 + 4) % 8)) from n
    → has_bit (bit_or (bit_or (bit_or a b) c) d) n ≡ list_any (λ o. slides cells (for_side color o) from n) straight
straight_second cells color first from n a b c d zero e f g h = straight_bits cells color from n a b c d (rw zero at e) (rw zero at f) (rw zero at g) (rw zero at h)

pub diagonal_second : (cells : Cells) (color : Color) (first from n a b c d : ℕ) → first ≡ 1 → has_bit a n ≡ slides cells (direction_at ((first + 4) % 8)) from n → has_bit b n ≡ slides cells (direction_at first) from n → has_bit c n ≡ slides cells (direction_at ((first + 2) % 8)) from n → has_bit d n ≡ slides cells (direction_at (((first + 2) % 8 + 4) % 8)) from n
    → has_bit (bit_or (bit_or (bit_or a b) c) d) n ≡ list_any (λ o. slides cells (for_side color o) from n) diagonal
diagonal_second cells color first from n a b c d one e f g h =
    bits_four a b c d n (slides cells down_right from n) (slides cells up_left from n) (slides cells down_left from n) (slides cells up_right from n) (rw one at e) (rw one at f) (rw one at g) (rw one at h)
    ∙ (mixed (slides cells down_right from n) (slides cells up_left from n) (slides cells down_left from n) (slides cells up_right from n) ∙ any_diagonal color (λ o. slides cells o from n))

pub ruleset one_way = (any_forward)

pub ruleset no_bits = (has_bit-none, has_bit-or, or_fits)

-- ---- a piece that does not slide

pub no_slide : (cells : Cells) (piece : Piece) (from b : ℕ) → is_sliding_role piece.role ≡ false → has_bit 0 b ≡ has_slide cells piece from b
no_slide cells piece from b e = has_bit-none b ∙ sym (false_from_ne_true (has_slide cells piece from b) (λ slide. both_ways (is_sliding_role piece.role) e (slides_role piece.role (λ o. slides cells (for_side piece.color o) from b) slide)))

pub ruleset no_slides = (no_slide)
