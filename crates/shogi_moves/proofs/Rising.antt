-- The numbers that a filter keeps of a range.
use Rattle.std.proofs.Common.{◌≡◌, ◌≤◌, ◌<◌, ◌+◌, ℕ, zero, suc, Bool, true, filter, arith}
use Rattle.std.specs.List.{range_with_len}
use Rattle.shogi_moves.specs.Rising.{is_in, IsRising}

kept_low_step : (t : ℕ → Bool) (n c k : ℕ) → (is_in k (filter t (range_with_len (c + 1) n)) ≡ true → c + 1 ≤ k) → is_in k (filter t (range_with_len c (suc n))) ≡ true → c ≤ k
kept_low_step t n c k ih h = grind arith

-- kept numbers are at or above the start
pub kept_low : (t : ℕ → Bool) (n c k : ℕ) → is_in k (filter t (range_with_len c n)) ≡ true → c ≤ k
kept_low t zero c k h = absurd (cc)
kept_low t (suc n) c k h = kept_low_step t n c k (kept_low t n (c + 1) k) h

kept_passes_step : (t : ℕ → Bool) (n c k : ℕ) → (is_in k (filter t (range_with_len (c + 1) n)) ≡ true → t k ≡ true) → is_in k (filter t (range_with_len c (suc n))) ≡ true → t k ≡ true
kept_passes_step t n c k ih h = grind arith

-- kept numbers pass
pub kept_passes : (t : ℕ → Bool) (n c k : ℕ) → is_in k (filter t (range_with_len c n)) ≡ true → t k ≡ true
kept_passes t zero c k h = absurd (cc)
kept_passes t (suc n) c k h = kept_passes_step t n c k (kept_passes t n (c + 1) k) h

passes_kept_step : (t : ℕ → Bool) (n c k : ℕ) → (c + 1 ≤ k → is_in k (filter t (range_with_len (c + 1) n)) ≡ true) → c ≤ k → t k ≡ true → is_in k (filter t (range_with_len c (suc n))) ≡ true
passes_kept_step t n c k ih low passes = grind arith

-- numbers that pass are kept
pub passes_kept : (t : ℕ → Bool) (n c k : ℕ) → c ≤ k → k < c + n → t k ≡ true → is_in k (filter t (range_with_len c n)) ≡ true
passes_kept t zero c k low high passes = absurd (omega arith)
passes_kept t (suc n) c k low high passes = passes_kept_step t n c k (λ above. passes_kept t n (c + 1) k above (omega arith) passes) low passes

kept_rising_step : (t : ℕ → Bool) (n c : ℕ) → IsRising (filter t (range_with_len (c + 1) n)) → IsRising (filter t (range_with_len c (suc n)))
kept_rising_step t n c rises = grind (arith, kept_low t n (c + 1))

-- kept numbers rise
pub kept_rising : (t : ℕ → Bool) (n c : ℕ) → IsRising (filter t (range_with_len c n))
kept_rising t zero c = tt
kept_rising t (suc n) c = kept_rising_step t n c (kept_rising t n (c + 1))
