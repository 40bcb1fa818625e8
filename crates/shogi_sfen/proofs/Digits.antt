-- Numbers digit by digit.
use Rattle.std.proofs.Common.{◌≡◌, ℕ, ◌+◌, ◌-◌, ◌*◌, ◌≤◌, ◌<◌, true, sym, ◌∙◌, ap, arith, List, length, take, get_or, min, subst}
use Rattle.std.specs.Prelude.{nat_le, nat_lt}
use Rattle.std.proofs.lemmas.Bool.{and_parts, and_from, leb-true, le-ltb, lt-ltb, cond-true, cond-false}
use Rattle.std.specs.List.{list_all}
use Rattle.std.specs.Char.{is_ascii_digit, digit_value}
use Rattle.std.proofs.lemmas.Int.Digits.{digits_value_more}
use Rattle.std.proofs.lemmas.List.Folds.{list_all_more}
use Rattle.shogi_sfen.specs.Numbers.{number_written}

pub number_written-more : (bs : List ℕ) (i : ℕ) → i < length bs → number_written (take (i + 1) bs) ≡ number_written (take i bs) * 10 + digit_value (get_or bs i 0)
number_written-more bs i h = digits_value_more 10 bs i h

-- a number may be capped before a digit is appended and again after
pub min-more : (most n m d : ℕ) → m ≡ min most n → min most (m * 10 + d) ≡ min most (n * 10 + d)
min-more most n m d e = omega arith

pub in_range : (c : ℕ) → is_ascii_digit c ≡ true → digit_value c ≡ c - 48
in_range c e =
    let h = and_parts (nat_le 48 c) (nat_le c 57) e in
    let low : 48 ≤ c = leb-true 48 c h.0 in
    let high : c ≤ 57 = leb-true c 57 h.1 in
    cond-false (nat_lt c 48) _ _ (le-ltb c 48 low) ∙ cond-true (nat_lt c 58) _ _ (lt-ltb c 58 (omega arith))

-- the number of the digits so far
pub record IsReadTo (bs : List ℕ) (most m i : ℕ) : Type 0 where
  pub value : m ≡ min most (number_written (take i bs))
  pub digits : list_all is_ascii_digit (take i bs) ≡ true

pub one_more : (bs : List ℕ) (most m i d : ℕ) → i < length bs → d ≡ get_or bs i 0 → is_ascii_digit d ≡ true → m ≡ min most (number_written (take i bs)) → list_all is_ascii_digit (take i bs) ≡ true
    → IsReadTo bs most (min most (m * 10 + (d - 48))) (i + 1)
one_more bs most m i d h e digit value digits =
    let here : is_ascii_digit (get_or bs i 0) ≡ true = subst (λ (x : ℕ). is_ascii_digit x ≡ true) e digit in
    let more : number_written (take (i + 1) bs) ≡ number_written (take i bs) * 10 + (d - 48) = number_written-more bs i h ∙ ap (λ (x : ℕ). number_written (take i bs) * 10 + x) (ap digit_value (sym e) ∙ in_range d digit) in
    record {
      value = min-more most (number_written (take i bs)) m (d - 48) value ∙ ap (min most) (sym more);
      digits = list_all_more is_ascii_digit bs i 0 h ∙ and_from (list_all is_ascii_digit (take i bs)) (is_ascii_digit (get_or bs i 0)) digits here;
    }
