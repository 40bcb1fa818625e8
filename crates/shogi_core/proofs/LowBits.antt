-- The lowest set bit of m, from m and m - 1.
use Rattle.std.proofs.Common.{◌≡◌, ◌≢◌, ℕ, ◌+◌, ◌-◌, ◌*◌, ◌/◌, ◌%◌, ◌^◌, ◌<◌, ◌≤◌, Bool, true, false, not, refl, sym, ap, ◌∙◌, arith, bit_and, min, inl, inr, pow_pos}
use Rattle.std.specs.Prelude.{zero, suc, ◌==◌, ◌&&◌, ◌||◌, bit_xor}
use Rattle.std.specs.Int.{bit_at, trailing_zeros, w128}
use Rattle.std.proofs.Math.Nat.{mod-lt}
use Rattle.std.proofs.lemmas.Nat.{and_le_r, div-add-mod'}
use Rattle.std.proofs.lemmas.Nat.Bits.{bit_at_and, bit_at_xor, bit_at-lt, bit_at-zero, bit_at-suc, bit_at_lowest, bit_at_cat_low, bit_at_cat_high, bit_at_ones, bit_at-trailing_zeros, same_from_bits_below}
use Rattle.std.proofs.lemmas.Bool.{cases_lt, cases_eq, eq-eqb, ne_eqb, eqb-true, both_ways, not_from_false, not-true, or_right}
use Rattle.shogi_core.specs.Below.{some_below}
use Rattle.shogi_core.specs.Bits.{has_bit}
use Rattle.shogi_core.proofs.Below.{some_below_at, some_below_no}
use Rattle.shogi_core.proofs.BitLaws.{has_bit-none, has_bit-and}
use Rattle.shogi_core.proofs.LineBits.{has_bit-not}

-- ---- one less than a number whose lowest bit is k

module _ (m k : ℕ) (set : bit_at m k ≡ 1) (least : (i : ℕ) → i < k → bit_at m i ≡ 0) where
  no_rest : m % 2 ^ k ≡ 0
  no_rest = same_from_bits_below k (m % 2 ^ k) 0 (mod-lt m (pow_pos k)) (pow_pos k) (λ i l.
      sym (bit_at_cat_low (m / 2 ^ k) k (m % 2 ^ k) i l) ∙ (ap (λ (x : ℕ). bit_at x i) (div-add-mod' m (2 ^ k)) ∙ (least i l ∙ sym (bit_at-zero i))))

  half : ℕ
  half = m / 2 ^ k / 2

  odd : m / 2 ^ k ≡ half * 2 + 1
  unfolding half
  odd = omega (arith, set)

  whole : (half * 2 + 1) * 2 ^ k + 0 ≡ m
  whole = ap (λ (x : ℕ). x * 2 ^ k + 0) (sym odd) ∙ (ap (λ (x : ℕ). m / 2 ^ k * 2 ^ k + x) (sym no_rest) ∙ div-add-mod' m (2 ^ k))

  less : half * 2 * 2 ^ k + (2 ^ k - 1) ≡ m - 1
  less = let e : (half * 2 + 1) * 2 ^ k + 0 ≡ m = whole in let p : 0 < 2 ^ k = pow_pos k in omega (arith)

  pub less_low : (i : ℕ) → i < k → bit_at (m - 1) i ≡ 1
  less_low i l = ap (λ (x : ℕ). bit_at x i) (sym less) ∙ (bit_at_cat_low (half * 2) k (2 ^ k - 1) i l ∙ bit_at_ones k i l)

  less_from : (i : ℕ) → k ≤ i → bit_at (m - 1) i ≡ bit_at (half * 2) (i - k)
  less_from i l = ap (λ (x : ℕ). bit_at x i) (sym less) ∙ bit_at_cat_high (half * 2) k (2 ^ k - 1) i (let p : 0 < 2 ^ k = pow_pos k in omega arith) l

  from : (i : ℕ) → k ≤ i → bit_at m i ≡ bit_at (half * 2 + 1) (i - k)
  from i l = ap (λ (x : ℕ). bit_at x i) (sym whole) ∙ bit_at_cat_high (half * 2 + 1) k 0 i (pow_pos k) l

  pub less_at : bit_at (m - 1) k ≡ 0
  less_at = less_from k (omega arith) ∙ (let none : k - k ≡ 0 = omega arith in ap (bit_at (half * 2)) none ∙ (bit_at_lowest (half * 2) ∙ omega arith))

  pub less_above : (i : ℕ) → k < i → bit_at (m - 1) i ≡ bit_at m i
  less_above i l =
      let j : i - k ≡ suc (i - k - 1) = omega arith in
      let one : half * 2 / 2 ≡ half = omega arith in
      let two : (half * 2 + 1) / 2 ≡ half = omega arith in
      less_from i (omega arith) ∙ (ap (bit_at (half * 2)) j ∙ (bit_at-suc (half * 2) (i - k - 1) ∙ (ap (λ (x : ℕ). bit_at x (i - k - 1)) (one ∙ sym two)
      ∙ (sym (bit_at-suc (half * 2 + 1) (i - k - 1)) ∙ (sym (ap (bit_at (half * 2 + 1)) j) ∙ sym (from i (omega arith)))))))

-- ---- up to the lowest bit

odd_test : (x : ℕ) → x < 2 → ((x + x) % 2 == 1) ≡ false
odd_test zero l = refl
odd_test (suc zero) l = refl
odd_test (suc (suc x)) l = absurd (omega arith)

up_to_some : (m n : ℕ) → 0 < m → m < 2 ^ 128 → has_bit (bit_xor m (m - 1)) n ≡ not (some_below n (has_bit m))
unfolding has_bit
up_to_some m n some fits =
    let k : ℕ = trailing_zeros w128 m in
    let low = bit_at-trailing_zeros w128 m some fits in
    elim (cases_lt (trailing_zeros w128 m) n) [
      | inl above ↦
          ap (λ x. x == 1) (bit_at_xor m (m - 1) n) ∙ (ap (λ x. (bit_at m n + x) % 2 == 1) (less_above m (trailing_zeros w128 m) low.1 low.2 n above)
          ∙ (odd_test (bit_at m n) (bit_at-lt m n) ∙ sym (ap not (some_below_at n (λ i. bit_at m i == 1) (trailing_zeros w128 m) above (eq-eqb _ 1 low.1)))))
      | inr up_to ↦
          ap (λ x. x == 1) (bit_at_xor m (m - 1) n) ∙ (ap (λ x. x == 1) (one up_to) ∙ sym (ap not (some_below_no n (λ i. bit_at m i == 1) (λ i l. ne_eqb (bit_at m i) 1 (λ e. (let none : bit_at m i ≡ 0 = low.2 i (omega arith) in omega arith))))))
    ]
  where
    one : n ≤ trailing_zeros w128 m → (bit_at m n + bit_at (m - 1) n) % 2 ≡ 1
    one le =
        let low = bit_at-trailing_zeros w128 m some fits in
        elim (cases_eq n (trailing_zeros w128 m)) [
          | inl same ↦ rw same (let a : bit_at m (trailing_zeros w128 m) ≡ 1 = low.1 in let b : bit_at (m - 1) (trailing_zeros w128 m) ≡ 0 = less_at m (trailing_zeros w128 m) low.1 low.2 in rw (a, b) refl)
          | inr other ↦ (let below : n < trailing_zeros w128 m = omega arith in let a : bit_at m n ≡ 0 = low.2 n below in let b : bit_at (m - 1) n ≡ 1 = less_low m (trailing_zeros w128 m) low.1 low.2 n below in rw (a, b) refl)
        ]

up_to_none : (n : ℕ) → n < 128 → has_bit (bit_xor 0 (2 ^ 128 - 1)) n ≡ not (some_below n (has_bit 0))
unfolding has_bit
up_to_none n l = ap (λ x. x == 1) (bit_at_ones 128 n l) ∙ sym (ap not (some_below_no n (λ i. bit_at 0 i == 1) (λ i h. ap (λ x. x == 1) (bit_at-zero i))))

-- `m ^ m.wrapping_sub(1)`
pub up_to_bits : (m n : ℕ) → m < 2 ^ 128 → n < 81 → has_bit (bit_xor m ((m + (2 ^ 128 - 1)) % 2 ^ 128)) n ≡ not (some_below n (has_bit m))
up_to_bits m n fits h = elim (cases_eq m 0) [
  | inl none ↦ rw none (up_to_none n (omega arith))
  | inr some ↦ (let e : (m + (2 ^ 128 - 1)) % 2 ^ 128 ≡ m - 1 = omega arith in rw e (up_to_some m n (omega arith) fits))
]

-- ---- without the lowest bit

and_test : (x y : ℕ) (b : Bool) → x < 2 → (b ≡ true → y ≡ x) → (b ≡ false → min x y ≡ 0) → (min x y == 1) ≡ (x == 1 && b)
and_test x y true l same none = let e : y ≡ x = same refl in rw e (go x l)
  where
    go : (x : ℕ) → x < 2 → (min x x == 1) ≡ (x == 1 && true)
    go zero l = refl
    go (suc zero) l = refl
    go (suc (suc x)) l = absurd (omega arith)
and_test x y false l same none = rw (none refl) (go (x == 1))
  where
    go : (b : Bool) → false ≡ (b && false)
    go true = refl
    go false = refl

pub without_bits : (m n i : ℕ) → m < 2 ^ 81 → has_bit m n ≡ true → ((j : ℕ) → has_bit m j ≡ true → n ≤ j) → has_bit (bit_and m (m - 1)) i ≡ (has_bit m i && not (i == n))
unfolding has_bit
without_bits m n i fits set least =
    let one : bit_at m n ≡ 1 = eqb-true (bit_at m n) 1 set in
    let none : (j : ℕ) → j < n → bit_at m j ≡ 0 = λ j l. zero_bit j (λ e. (let le : n ≤ j = least j (eq-eqb (bit_at m j) 1 e) in omega arith)) in
    ap (λ x. x == 1) (bit_at_and m (m - 1) i) ∙ elim (cases_eq i n) [
      | inl same ↦ (let z : bit_at (m - 1) n ≡ 0 = less_at m n one none in rw same (and_test (bit_at m n) (bit_at (m - 1) n) (not (n == n)) (bit_at-lt m n) (λ e. absurd (both_ways (n == n) (not-true (n == n) e) (eq-eqb n n refl))) (λ e. (rw z (omega arith)))))
      | inr other ↦ elim (cases_lt i n) [
        | inl below ↦ (let z : bit_at m i ≡ 0 = none i below in rw z (go (bit_at (m - 1) i) (not (i == n))))
        | inr above ↦ (let e : bit_at (m - 1) i ≡ bit_at m i = less_above m n one none i (omega arith) in and_test (bit_at m i) (bit_at (m - 1) i) (not (i == n)) (bit_at-lt m i) (λ _. e) (λ f. absurd (both_ways (not (i == n)) f (not_from_false (i == n) (ne_eqb i n other)))))
      ]
    ]
  where
    zero_bit : (j : ℕ) → (bit_at m j ≢ 1) → bit_at m j ≡ 0
    zero_bit j other = let l : bit_at m j < 2 = bit_at-lt m j in omega arith

    go : (y : ℕ) (b : Bool) → (min 0 y == 1) ≡ (0 == 1 && b)
    go y b = let e : min 0 y ≡ 0 = omega arith in rw e refl

pub without_less : (m n : ℕ) → has_bit m n ≡ true → bit_and m (m - 1) < m
without_less m n set = elim (cases_eq m 0) [
  | inl none ↦ absurd (both_ways (has_bit 0 n) (has_bit-none n) (rw none at set))
  | inr some ↦ omega (arith, and_le_r m (m - 1))
]

pub some_bit : (m n : ℕ) → has_bit m n ≡ true → 1 ≤ m
some_bit m n set = elim (cases_eq m 0) [
  | inl none ↦ absurd (both_ways (has_bit 0 n) (has_bit-none n) (rw none at set))
  | inr some ↦ omega arith
]

pub ruleset low_bits = (up_to_bits, without_bits, without_less, some_bit)

-- ---- the bits above a place

-- a mask of one square has its bit
one_set : (m n i : ℕ) → ((j : ℕ) → has_bit m j ≡ (has_bit 0 j || (j == n))) → i ≡ n → has_bit m i ≡ true
one_set m n i bits same = bits i ∙ or_right (has_bit 0 i) (i == n) (eq-eqb i n same)

one_clear : (m n i : ℕ) → ((j : ℕ) → has_bit m j ≡ (has_bit 0 j || (j == n))) → i ≢ n → has_bit m i ≡ false
one_clear m n i bits other = bits i ∙ (rw (has_bit-none i, ne_eqb i n other) refl)

pub bits_above-above : (mask one low n i : ℕ) → ((j : ℕ) → has_bit one j ≡ (has_bit 0 j || (j == n))) → ((j : ℕ) → j < 81 → has_bit low j ≡ not (some_below j (has_bit one))) → low < 2 ^ 128 → i < 81 → n < i
    → has_bit (bit_and mask (2 ^ 128 - 1 - low)) i ≡ has_bit mask i
bits_above-above mask one low n i ones lows fits h up =
    has_bit-and mask (2 ^ 128 - 1 - low) i ∙ (rw (has_bit-not low i fits (omega arith), lows i h, some_below_at i (has_bit one) n up (one_set one n n ones refl)) (kept (has_bit mask i)))
  where
    kept : (a : Bool) → (a && not (not true)) ≡ a
    kept true = refl
    kept false = refl

pub bits_above-below : (mask one low n i : ℕ) → ((j : ℕ) → has_bit one j ≡ (has_bit 0 j || (j == n))) → ((j : ℕ) → j < 81 → has_bit low j ≡ not (some_below j (has_bit one))) → low < 2 ^ 128 → i < 81 → i ≤ n
    → has_bit (bit_and mask (2 ^ 128 - 1 - low)) i ≡ false
bits_above-below mask one low n i ones lows fits h down =
    has_bit-and mask (2 ^ 128 - 1 - low) i ∙ (rw (has_bit-not low i fits (omega arith), lows i h, some_below_no i (has_bit one) (λ j l. one_clear one n j ones (omega arith))) (gone (has_bit mask i)))
  where
    gone : (a : Bool) → (a && not (not false)) ≡ false
    gone true = refl
    gone false = refl
