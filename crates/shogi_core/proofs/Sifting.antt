-- Loops over the squares of a mask, one by one.
use Rattle.std.proofs.Common.{◌≡◌, ℕ, ◌<◌, ◌≤◌, ◌≢◌, Bool, true, false, not, refl, sym, ap, subst, ◌∙◌, inl, inr, bit_or, arith}
use Rattle.std.specs.Prelude.{◌&&◌, ◌==◌}
use Rattle.std.proofs.lemmas.Bool.{cases_Bool, cases_eq, eq-eqb, ne_eqb, and_from, and_left, and_right, or_left, or_right, or_cases, and_parts, both_ways, not_from_true, false_from_ne_true}
use Rattle.shogi_core.specs.declared.squares.Squares.{Squares}
use Rattle.shogi_core.specs.Bits.{has_bit}
use Rattle.shogi_core.specs.Sets.{IsSifted, IsUnion}
use Rattle.shogi_core.proofs.BitLaws.{has_bit-none, has_bit-or}
use Rattle.shogi_core.proofs.LineBits.{or_fits}

-- `kept` has the squares that passed or are still in `left`
pub record Sifts (post : ℕ → Bool → Type 0) (squares left kept : ℕ) : Type 0 where
  pub out : (n : ℕ) → n < 81 → has_bit squares n ≡ false → has_bit kept n ≡ false
  pub still : (n : ℕ) → n < 81 → has_bit left n ≡ true → (has_bit kept n ≡ true) × (has_bit squares n ≡ true)
  pub tried : (n : ℕ) → n < 81 → has_bit squares n ≡ true → has_bit left n ≡ false → (passes : Bool) × post n passes × (has_bit kept n ≡ passes)

-- a square left after a removal was left before
pub still_left : (left next k n : ℕ) → ((i : ℕ) → has_bit next i ≡ (has_bit left i && not (i == k))) → has_bit next n ≡ true → has_bit left n ≡ true
still_left left next k n bits e = (and_parts (has_bit left n) (not (n == k)) (sym (bits n) ∙ e)).0

-- a square not left after the removal of another was not left before
gone_before : (left next k n : ℕ) → ((i : ℕ) → has_bit next i ≡ (has_bit left i && not (i == k))) → n ≢ k → has_bit next n ≡ false → has_bit left n ≡ false
gone_before left next k n bits other out = false_from_ne_true (has_bit left n) (λ still. both_ways (has_bit next n) out (bits n ∙ and_from _ _ still (ap not (ne_eqb n k other))))

-- at first all squares are left
pub sifts_first : (post : ℕ → Bool → Type 0) (m : ℕ) → Sifts post m m m
sifts_first post m = record {
  out = λ n h e. e;
  still = λ n h e. (e, e);
  tried = λ n h set out. absurd (both_ways (has_bit m n) out set);
}

-- a passing square stays in `kept`
pub sifts_passed : (post : ℕ → Bool → Type 0) (m left next kept k : ℕ) → Sifts post m left kept → has_bit left k ≡ true → post k true → ((i : ℕ) → has_bit next i ≡ (has_bit left i && not (i == k))) → Sifts post m next kept
sifts_passed post m left next kept k s on p bits = record {
  out = s.out;
  still = λ n h e. s.still n h (still_left left next k n bits e);
  tried = λ n h set out. elim (cases_eq n k) [
    | inl same ↦ (true, subst (λ (x : ℕ). post x true) (sym same) p, (s.still n h (ap (has_bit left) same ∙ on)).0)
    | inr other ↦ s.tried n h set (gone_before left next k n bits other out)
  ];
}

kept_beside : (a b : Bool) → b ≡ true → (a && b) ≡ a
kept_beside true b e = e
kept_beside false b e = refl

-- a failing square leaves `kept`
pub sifts_failed : (post : ℕ → Bool → Type 0) (m left next kept fewer k : ℕ) → Sifts post m left kept → post k false → ((i : ℕ) → has_bit next i ≡ (has_bit left i && not (i == k))) → ((i : ℕ) → has_bit fewer i ≡ (has_bit kept i && not (i == k))) → Sifts post m next fewer
sifts_failed post m left next kept fewer k s p bits fewer_bits = record {
  out = λ n h e. fewer_bits n ∙ and_left _ _ (s.out n h e);
  still = λ n h e. (let t = and_parts (has_bit left n) (not (n == k)) (sym (bits n) ∙ e) in
      (fewer_bits n ∙ and_from _ _ (s.still n h t.0).0 t.1, (s.still n h t.0).1));
  tried = λ n h set out. elim (cases_eq n k) [
    | inl same ↦ (false, subst (λ (x : ℕ). post x false) (sym same) p, fewer_bits n ∙ and_right (has_bit kept n) _ (not_from_true (n == k) (eq-eqb n k same)))
    | inr other ↦ (let t = s.tried n h set (gone_before left next k n bits other out) in
        (t.0, t.1, fewer_bits n ∙ (kept_beside (has_bit kept n) _ (ap not (ne_eqb n k other)) ∙ t.2)))
  ];
}

-- all squares tried so far failed
pub failed_more : (post : ℕ → Bool → Type 0) (m left next k : ℕ) → ((n : ℕ) → n < 81 → has_bit m n ≡ true → has_bit left n ≡ false → post n false) → post k false → ((i : ℕ) → has_bit next i ≡ (has_bit left i && not (i == k)))
    → (n : ℕ) → n < 81 → has_bit m n ≡ true → has_bit next n ≡ false → post n false
failed_more post m left next k none p bits n h set out = elim (cases_eq n k) [
  | inl same ↦ subst (λ (x : ℕ). post x false) (sym same) p
  | inr other ↦ none n h set (gone_before left next k n bits other out)
]

-- no square below the lowest one left is left
pub below_least : (left k n : ℕ) → ((i : ℕ) → has_bit left i ≡ true → k ≤ i) → n < k → has_bit left n ≡ false
below_least left k n least l = false_from_ne_true (has_bit left n) (λ e. (let le : k ≤ n = least n e in omega arith))

pub sifted : (post : ℕ → Bool → Type 0) (m kept : ℕ) → Sifts post m 0 kept → IsSifted post m kept
sifted post m kept s = record { out = s.out; tried = λ n h set. s.tried n h set (has_bit-none n) }

-- if each call answers by one test, `kept` are the squares that pass it
pub sifted_mask : (post : ℕ → Bool → Type 0) (m kept : ℕ) (test : ℕ → Bool) → ((n : ℕ) (b : Bool) → n < 81 → post n b → b ≡ test n) → IsSifted post m kept → (n : ℕ) → n < 81 → has_bit kept n ≡ (has_bit m n && test n)
sifted_mask post m kept test answers s n h = elim (cases_Bool (has_bit m n)) [
  | inl set ↦ (let t = s.tried n h set in t.2 ∙ (answers n t.0 h t.1 ∙ sym (ap (λ (b : Bool). b && test n) set)))
  | inr out ↦ s.out n h out ∙ sym (ap (λ (b : Bool). b && test n) out)
]

-- `found` is the union over the squares no longer in `left`
pub record Unites (post : ℕ → Squares → Type 0) (squares left found : ℕ) : Type 0 where
  pub within : (n : ℕ) → has_bit left n ≡ true → has_bit squares n ≡ true
  pub all : (k : ℕ) → k < 81 → has_bit squares k ≡ true → has_bit left k ≡ false → (led : Squares) × post k led × ((n : ℕ) → has_bit led.bits n ≡ true → has_bit found n ≡ true)
  pub only : (n : ℕ) → has_bit found n ≡ true → (k : ℕ) × (k < 81) × (has_bit squares k ≡ true) × (led : Squares) × post k led × (has_bit led.bits n ≡ true)

pub union_first : (post : ℕ → Squares → Type 0) (m : ℕ) → Unites post m m 0
union_first post m = record {
  within = λ n e. e;
  all = λ k h set out. absurd (both_ways (has_bit m k) out set);
  only = λ n e. absurd (both_ways (has_bit 0 n) (has_bit-none n) e);
}

pub union_more : (post : ℕ → Squares → Type 0) (m left next found k : ℕ) (led : Squares) → Unites post m left found → k < 81 → has_bit left k ≡ true → post k led → ((i : ℕ) → has_bit next i ≡ (has_bit left i && not (i == k))) → Unites post m next (bit_or found led.bits)
union_more post m left next found k led u low on p bits = record {
  within = λ n e. u.within n (still_left left next k n bits e);
  all = λ j h set out. elim (cases_eq j k) [
    | inl same ↦ (led, subst (λ (x : ℕ). post x led) (sym same) p, λ n e. has_bit-or found led.bits n ∙ or_right (has_bit found n) (has_bit led.bits n) e)
    | inr other ↦ (let old = u.all j h set (gone_before left next k j bits other out) in
        (old.0, old.1, λ n e. has_bit-or found led.bits n ∙ or_left (has_bit found n) (has_bit led.bits n) (old.2 n e)))
  ];
  only = λ n e. elim (or_cases (has_bit found n) (has_bit led.bits n) (sym (has_bit-or found led.bits n) ∙ e)) [
    | inl before ↦ u.only n before
    | inr now ↦ (k, low, u.within k on, led, p, now)
  ];
}

pub united : (post : ℕ → Squares → Type 0) (m found : ℕ) → Unites post m 0 found → IsUnion post m found
united post m found u = record { all = λ k h set. u.all k h set (has_bit-none k); only = u.only }

pub ruleset uniting = (union_first, union_more, or_fits)
