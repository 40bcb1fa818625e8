-- Masks in tables, from the bits of the squares that lines and steps reach.
use Rattle.std.proofs.Common.{◌≡◌, ℕ, ◌+◌, ◌/◌, ◌%◌, ◌^◌, ◌<◌, Bool, true, false, cond, sym, refl, ap, ◌∙◌, arith, bit_or, map, get_or, inl, inr, pow_pos, Option, Some, None, List, [], ◌∷◌}
use Rattle.std.specs.Prelude.{zero, suc, ◌==◌, ◌&&◌}
use Rattle.std.specs.List.{list_any, range_with_len}
use Rattle.std.proofs.Math.Bool.{and-true, and-false}
use Rattle.std.proofs.Math.Nat.{mod-lt}
use Rattle.std.proofs.lemmas.Nat.{div-add-mod'}
use Rattle.std.proofs.lemmas.Nat.Bits.{bit_at_cat_low}
use Rattle.std.proofs.lemmas.Bool.{cases_eq, ne_eqb}
use Rattle.std.proofs.lemmas.List.FromFn.{get_or-map-range_with_len}
use Rattle.shogi_core.specs.declared.offset.Offset.{Offset}
use Rattle.shogi_core.specs.Below.{some_below, all_below}
use Rattle.shogi_core.specs.Bits.{has_bit, mask_below}
use Rattle.shogi_core.specs.Movement.{away, is_same_square, is_step_empty, slides_across}
use Rattle.shogi_core.proofs.BitLaws.{has_bit-or, has_bit-none, has_bit-one, has_bit-mask, mask_fits, same_mask}

-- the entry at i of a table of f
pub entry_at : (table : List ℕ) (f : ℕ → ℕ) (n i : ℕ) → table ≡ map f (range_with_len 0 n) → i < n → get_or table i 0 ≡ f i
entry_at table f n i e h = ap (λ xs. get_or xs i 0) e ∙ get_or-map-range_with_len f 0 n i i 0 h (omega arith)

-- the lower 81 bits of a number, told by a test, are the test's mask
pub mask_is : (m : ℕ) (test : ℕ → Bool) → ((b : ℕ) → has_bit m b ≡ test b) → m % 2 ^ 81 ≡ mask_below 81 test
unfolding has_bit
mask_is m test bits = same_mask 81 (m % 2 ^ 81) (mask_below 81 test) (mod-lt m (pow_pos 81)) (mask_fits 81 test) (λ b h.
    ap (λ x. x == 1) (sym (bit_at_cat_low (m / 2 ^ 81) 81 (m % 2 ^ 81) b h)) ∙ (ap (λ x. has_bit x b) (div-add-mod' m (2 ^ 81)) ∙ (bits b ∙ sym (has_bit-mask 81 test b h))))

-- the bit of an optional square, or 0
abbrev pub bit_of : Option ℕ → ℕ
bit_of None = 0
bit_of (Some square) = 2 ^ square

pub has_bit-of : (s : Option ℕ) (b : ℕ) → has_bit (bit_of s) b ≡ is_same_square s b
has_bit-of None b = has_bit-none b
has_bit-of (Some x) b = has_bit-one x b ∙ elim (cases_eq b x) [
  | inl same ↦ rw same refl
  | inr other ↦ ne_eqb b x other ∙ sym (ne_eqb x b (λ e. other (sym e)))
]

-- the bits of all offsets together, by f
unfoldable pub some_bits : (Offset → ℕ) → List Offset → ℕ
some_bits f [] = 0
some_bits f (o ∷ os) = bit_or (f o) (some_bits f os)

pub has_bit-some : (f : Offset → ℕ) (test : Offset → Bool) (os : List Offset) (b : ℕ) → ((o : Offset) → has_bit (f o) b ≡ test o) → has_bit (some_bits f os) b ≡ list_any test os
unfolding some_bits
has_bit-some f test [] b each = has_bit-none b
has_bit-some f test (o ∷ os) b each = has_bit-or (f o) (some_bits f os) b ∙ (rw (each o, has_bit-some f test os b each) refl)

-- the bits of the first n squares on a line
unfoldable pub line_bits : Offset → ℕ → ℕ → ℕ
line_bits o a zero = 0
line_bits o a (suc n) = bit_or (line_bits o a n) (cond (all_below n (is_step_empty [] o a)) (bit_of (away (n + 1) o a)) 0)

pub has_bit-line : (o : Offset) (a n b : ℕ) → has_bit (line_bits o a n) b ≡ some_below n (slides_across [] o a b)
unfolding some_below line_bits
has_bit-line o a zero b = has_bit-none b
has_bit-line o a (suc n) b = has_bit-or (line_bits o a n) _ b ∙ (rw (has_bit-line o a n b, last (all_below n (is_step_empty [] o a))) refl)
  where
    last : (c : Bool) → has_bit (cond c (bit_of (away (n + 1) o a)) 0) b ≡ (is_same_square (away (n + 1) o a) b && c)
    last true = has_bit-of (away (n + 1) o a) b ∙ sym (and-true _)
    last false = has_bit-none b ∙ sym (and-false _)
