-- Bits as tests, and operations on them.
use Rattle.std.proofs.Common.{◌≡◌, ◌≢◌, ℕ, ◌+◌, ◌-◌, ◌*◌, ◌/◌, ◌%◌, ◌^◌, ◌<◌, ◌≤◌, Bool, true, false, cond, not, refl, sym, ap, ◌∙◌, arith, bit_and, bit_or, max, min, inl, inr, shr-shr}
use Rattle.std.specs.Prelude.{zero, suc, ◌==◌, ◌&&◌, ◌||◌}
use Rattle.std.specs.Int.{bit_at, w128}
use Rattle.std.proofs.lemmas.Nat.{and_le_l, one_shl}
use native.Mathlib.Nat.{pow-suc}
use Rattle.std.proofs.lemmas.Nat.Bits.{bit_at_and, bit_at_or, bit_at-lt, bit_at-zero, bit_at_above, bit_at_cat_low, bit_at_cat_high, bit_at-pow_same, bit_at-pow_other, same_from_bits_below, shr_and_one, bit_at_clear_same, bit_at_clear_other}
use Rattle.std.proofs.lemmas.Bool.{cases_lt, cases_eq, eq-eqb, ne_eqb, eqb-true, eqb-false}
use Rattle.shogi_core.specs.Bits.{has_bit, mask_below}

-- ---- one bit

or_tests : (x y : ℕ) → x < 2 → y < 2 → (max x y == 1) ≡ (x == 1 || y == 1)
or_tests zero zero p q = refl
or_tests zero (suc zero) p q = refl
or_tests (suc zero) zero p q = refl
or_tests (suc zero) (suc zero) p q = refl
or_tests zero (suc (suc y)) p q = absurd (omega arith)
or_tests (suc zero) (suc (suc y)) p q = absurd (omega arith)
or_tests (suc (suc x)) y p q = absurd (omega arith)

and_tests : (x y : ℕ) → x < 2 → y < 2 → (min x y == 1) ≡ (x == 1 && y == 1)
and_tests zero zero p q = refl
and_tests zero (suc zero) p q = refl
and_tests (suc zero) zero p q = refl
and_tests (suc zero) (suc zero) p q = refl
and_tests zero (suc (suc y)) p q = absurd (omega arith)
and_tests (suc zero) (suc (suc y)) p q = absurd (omega arith)
and_tests (suc (suc x)) y p q = absurd (omega arith)

pub has_bit-or : (a b n : ℕ) → has_bit (bit_or a b) n ≡ (has_bit a n || has_bit b n)
unfolding has_bit
has_bit-or a b n = ap (λ x. x == 1) (bit_at_or a b n) ∙ or_tests (bit_at a n) (bit_at b n) (bit_at-lt a n) (bit_at-lt b n)

pub has_bit-and : (a b n : ℕ) → has_bit (bit_and a b) n ≡ (has_bit a n && has_bit b n)
unfolding has_bit
has_bit-and a b n = ap (λ x. x == 1) (bit_at_and a b n) ∙ and_tests (bit_at a n) (bit_at b n) (bit_at-lt a n) (bit_at-lt b n)

pub has_bit-none : (n : ℕ) → has_bit 0 n ≡ false
unfolding has_bit
has_bit-none n = ap (λ x. x == 1) (bit_at-zero n)

-- zero has no bit set
pub has_none : (squares n : ℕ) → squares ≡ 0 → has_bit squares n ≡ false
has_none squares n none = ap (λ m. has_bit m n) none ∙ has_bit-none n

pub has_bit-one : (k n : ℕ) → has_bit (2 ^ k) n ≡ (n == k)
unfolding has_bit
has_bit-one k n = elim (cases_eq n k) [
  | inl same ↦ rw same (ap (λ x. x == 1) (bit_at-pow_same k) ∙ sym (eq-eqb k k refl))
  | inr other ↦ ap (λ x. x == 1) (bit_at-pow_other k n other) ∙ sym (ne_eqb n k other)
]

pub has_bit-above : (m k n : ℕ) → m < 2 ^ k → k ≤ n → has_bit m n ≡ false
unfolding has_bit
has_bit-above m k n fits from = ap (λ x. x == 1) (bit_at_above m k n fits from)

-- the bits of `m >> k`
pub has_bit-shr : (m k n : ℕ) → has_bit (m / 2 ^ k) n ≡ has_bit m (k + n)
unfolding has_bit
has_bit-shr m k n = ap (λ x. x % 2 == 1) (shr-shr m k n)

-- a tested bit as a number
pub bit_from : (m n : ℕ) (b : Bool) → has_bit m n ≡ b → bit_at m n ≡ cond b 1 0
unfolding has_bit
bit_from m n true e = eqb-true (bit_at m n) 1 e
bit_from m n false e = let low : bit_at m n < 2 = bit_at-lt m n in let no : bit_at m n ≢ 1 = eqb-false (bit_at m n) 1 e in omega arith

-- two numbers of k bits with the same bits are equal
pub same_mask : (k a b : ℕ) → a < 2 ^ k → b < 2 ^ k → ((n : ℕ) → n < k → has_bit a n ≡ has_bit b n) → a ≡ b
same_mask k a b p q h = same_from_bits_below k a b p q (λ n l. bit_from a n (has_bit b n) (h n l) ∙ sym (bit_from b n (has_bit b n) refl))

-- ---- a mask of a test

pub mask_fits : (n : ℕ) (test : ℕ → Bool) → mask_below n test < 2 ^ n
unfolding mask_below
mask_fits zero test = omega arith
mask_fits (suc n) test = more (test n) (mask_fits n test)
  where
    more : (b : Bool) → mask_below n test < 2 ^ n → cond b 1 0 * 2 ^ n + mask_below n test < 2 ^ suc n
    more true h = omega (arith, pow-suc 2 n)
    more false h = omega (arith, pow-suc 2 n)

pub has_bit-mask : (n : ℕ) (test : ℕ → Bool) (i : ℕ) → i < n → has_bit (mask_below n test) i ≡ test i
unfolding mask_below has_bit
has_bit-mask zero test i h = absurd (omega arith)
has_bit-mask (suc n) test i h = elim (cases_lt i n) [
  | inl below ↦ ap (λ x. x == 1) (bit_at_cat_low (cond (test n) 1 0) n (mask_below n test) i below) ∙ has_bit-mask n test i below
  | inr above ↦ (
      let last : i ≡ n = omega arith in
      let none : i - n ≡ 0 = omega arith in
      ap (λ x. x == 1) (bit_at_cat_high (cond (test n) 1 0) n (mask_below n test) i (mask_fits n test) above) ∙ (rw none (rw last (one (test n)))))
]
  where
    one : (b : Bool) → (bit_at (cond b 1 0) 0 == 1) ≡ b
    one true = refl
    one false = refl

-- ---- what the code computes

-- `(m >> n) & 1 == 1`
pub has_bit_test : (m n : ℕ) → (bit_and (m / 2 ^ n) 1 == 1) ≡ has_bit m n
unfolding has_bit
has_bit_test m n = ap (λ x. x == 1) (shr_and_one m n)

-- `m | (1 << n)`
pub has_bit-with : (m n i : ℕ) → n < 128 → has_bit (bit_or m (1 * 2 ^ n % 2 ^ 128)) i ≡ (has_bit m i || i == n)
has_bit-with m n i h = rw (one_shl n 128 h) (rw (has_bit-or m (2 ^ n) i, has_bit-one n i) refl)

-- `m & !(1 << n)`
pub has_bit-without : (m n i : ℕ) → m < 2 ^ 128 → n < 128 → has_bit (bit_and m (2 ^ 128 - 1 - 1 * 2 ^ n % 2 ^ 128)) i ≡ (has_bit m i && not (i == n))
unfolding has_bit
has_bit-without m n i fits h = elim (cases_eq i n) [
  | inl same ↦ rw same (ap (λ x. x == 1) (bit_at_clear_same w128 m n h) ∙ sym (gone (bit_at m n == 1) (n == n) (eq-eqb n n refl)))
  | inr other ↦ elim (cases_lt i 128) [
    | inl low ↦ ap (λ x. x == 1) (bit_at_clear_other w128 m n h i low other) ∙ sym (kept (bit_at m i == 1) (i == n) (ne_eqb i n other))
    | inr high ↦ ap (λ x. x == 1) (zero_and i high) ∙ sym (kept (bit_at m i == 1) (i == n) (ne_eqb i n other) ∙ ap (λ x. x == 1) (bit_at_above m 128 i fits high))
  ]
]
  where
    gone : (a b : Bool) → b ≡ true → (a && not b) ≡ false
    gone true b e = rw e refl
    gone false b e = refl

    kept : (a b : Bool) → b ≡ false → (a && not b) ≡ a
    kept true b e = rw e refl
    kept false b e = refl

    zero_and : (i : ℕ) → 128 ≤ i → bit_at (bit_and m (2 ^ 128 - 1 - 1 * 2 ^ n % 2 ^ 128)) i ≡ 0
    zero_and i high = bit_at_above _ 128 i (omega (arith, and_le_l m (2 ^ 128 - 1 - 1 * 2 ^ n % 2 ^ 128))) high

-- ---- halves of 64 bits

pub low_half : (m n : ℕ) → n < 64 → has_bit (m % 2 ^ 64) n ≡ has_bit m n
unfolding has_bit
low_half m n h =
    let whole : m / 2 ^ 64 * 2 ^ 64 + m % 2 ^ 64 ≡ m = omega arith in
    ap (λ x. x == 1) (sym (bit_at_cat_low (m / 2 ^ 64) 64 (m % 2 ^ 64) n h) ∙ ap (λ k. bit_at k n) whole)

pub half_low : (low m n : ℕ) → ((i : ℕ) → i < 64 → has_bit low i ≡ has_bit m i) → n < 64 → has_bit low (n % 64) ≡ has_bit m n
half_low low m n bits h =
    let at : n % 64 ≡ n = omega arith in
    ap (has_bit low) at ∙ bits n h

pub half_high : (m n : ℕ) → 64 ≤ n → n < 128 → has_bit (m / 2 ^ 64) (n % 64) ≡ has_bit m n
half_high m n low high =
    let at : 64 + n % 64 ≡ n = omega arith in
    has_bit-shr m 64 (n % 64) ∙ ap (has_bit m) at

pub ruleset halves = (half_low, half_high)

pub ruleset bit_tests = (has_bit_test, has_bit-with, has_bit-without)
