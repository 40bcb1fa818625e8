-- Counts of cells after a write or two.
use Rattle.std.proofs.Common.{◌≡◌, ◌≢◌, ℕ, ◌+◌, ◌-◌, ◌*◌, ◌/◌, ◌<◌, ◌≤◌, Bool, false, cond, List, [], ◌∷◌, length, length-take, length-drop, get_or, set, take, drop, refl, ◌∙◌, ap, subst, arith, inl, inr, Option, None, length-set, get_or-set_same, get_or-set_other, ◌⊎◌}
use Rattle.std.specs.Prelude.{count_by, ◌==◌, zero, suc}
use Rattle.std.proofs.lemmas.List.Sums.{sum_by-set}
use Rattle.std.proofs.lemmas.Grind.{common_steps}
use Rattle.std.proofs.lemmas.Bool.{cases_eq, cases_lt, eq-eqb, ne_eqb}
use Rattle.std.proofs.lemmas.Bool.Decides.{nat_tests}
use Rattle.std.proofs.lemmas.List.{get_or-take, get_or-drop, take-set-le, drop-set-lt, drop-set-add}

-- 1 if the test passed, else 0
abbrev pub tally : Bool → ℕ
tally b = cond b 1 0

-- a count after a write
pub count_by-set : {X : Type 0} (p : X → Bool) (xs : List X) (i : ℕ) (y d : X) → i < length xs → count_by p (set xs i y) + tally (p (get_or xs i d)) ≡ count_by p xs + tally (p y)
count_by-set p xs i y d h = sum_by-set (λ x. cond (p x) 1 0) xs i y d h

-- a count after a move from a to b
pub count_moved : {X : Type 0} (p : Option X → Bool) (xs : List (Option X)) (a b : ℕ) (v : Option X) → p None ≡ false → a < length xs → b < length xs → b ≢ a
    → count_by p (set (set xs a None) b v) + tally (p (get_or xs a None)) + tally (p (get_or xs b None)) ≡ count_by p xs + tally (p v)
count_moved p xs a b v none ha hb other = grind (arith, count_by-set p xs a None None ha, count_by-set p (set xs a None) b v None (rw length-set hb), get_or-set_other xs a b None None other)

-- the nine cells of a file
abbrev pub on_file' : {X : Type 0} → ℕ → List X → List X
on_file' f xs = take 9 (drop (9 * f) xs)

-- a write among the first n stays within them
pub take-set_within : {X : Type 0} (n : ℕ) (xs : List X) (i : ℕ) (v : X) → i < n → take n (set xs i v) ≡ set (take n xs) i v
take-set_within zero xs i v h = absurd (omega arith)
take-set_within (suc n) [] i v h = refl
take-set_within (suc n) (x ∷ xs) zero v h = refl
take-set_within (suc n) (x ∷ xs) (suc i) v h = ap (λ t. x ∷ t) (take-set_within n xs i v (omega arith))

-- a write on the file is a write among its nine cells
pub on_file-set_here : {X : Type 0} (f i : ℕ) (xs : List X) (v : X) → 9 * f ≤ i → i < 9 * f + 9 → on_file' f (set xs i v) ≡ set (on_file' f xs) (i - 9 * f) v
on_file-set_here f i xs v low high =
    let there : 9 * f + (i - 9 * f) ≡ i = omega arith in
    let dropped : drop (9 * f) (set xs (9 * f + (i - 9 * f)) v) ≡ set (drop (9 * f) xs) (i - 9 * f) v = drop-set-add (9 * f) xs (i - 9 * f) v in
    let dropped' : drop (9 * f) (set xs i v) ≡ set (drop (9 * f) xs) (i - 9 * f) v = subst (λ (k : ℕ). drop (9 * f) (set xs k v) ≡ set (drop (9 * f) xs) (i - 9 * f) v) there dropped in
    ap (take 9) dropped' ∙ take-set_within 9 (drop (9 * f) xs) (i - 9 * f) v (omega arith)

-- a write off the file leaves it
pub on_file-set_elsewhere : {X : Type 0} (f i : ℕ) (xs : List X) (v : X) → (i < 9 * f) ⊎ (9 * f + 9 ≤ i) → on_file' f (set xs i v) ≡ on_file' f xs
on_file-set_elsewhere f i xs v (inl below) = ap (take 9) (drop-set-lt (9 * f) xs i v below)
on_file-set_elsewhere f i xs v (inr above) =
    let there : 9 * f + (i - 9 * f) ≡ i = omega arith in
    let dropped : drop (9 * f) (set xs (9 * f + (i - 9 * f)) v) ≡ set (drop (9 * f) xs) (i - 9 * f) v = drop-set-add (9 * f) xs (i - 9 * f) v in
    let dropped' : drop (9 * f) (set xs i v) ≡ set (drop (9 * f) xs) (i - 9 * f) v = subst (λ (k : ℕ). drop (9 * f) (set xs k v) ≡ set (drop (9 * f) xs) (i - 9 * f) v) there dropped in
    ap (take 9) dropped' ∙ take-set-le 9 (drop (9 * f) xs) (i - 9 * f) v (omega arith)

-- 1 if the square is on the file and the test passed, else 0
abbrev pub here : ℕ → ℕ → Bool → ℕ
here f i b = cond (i / 9 == f) (tally b) 0

-- on the file the test decides
pub here_on : (f i : ℕ) (b : Bool) → i / 9 ≡ f → here f i b ≡ tally b
here_on f i b e = rw (eq-eqb (i / 9) f e) refl

pub here_off : (f i : ℕ) (b : Bool) → i / 9 ≢ f → here f i b ≡ 0
here_off f i b e = rw (ne_eqb (i / 9) f e) refl

pub nothing_here : (f i : ℕ) (b : Bool) → b ≡ false → here f i b ≡ 0
nothing_here f i b e = grind arith

not_there : (f i : ℕ) → i / 9 ≢ f → (i < 9 * f) ⊎ (9 * f + 9 ≤ i)
not_there f i e = elim (cases_lt i (9 * f)) [ inl low ↦ inl low | inr high ↦ inr (omega arith) ]

-- a file's count after a write
pub count_on_file-set : {X : Type 0} (p : X → Bool) (f i : ℕ) (xs : List X) (y d : X) → i < length xs → count_by p (on_file' f (set xs i y)) + here f i (p (get_or xs i d)) ≡ count_by p (on_file' f xs) + here f i (p y)
count_on_file-set {X} p f i xs y d h = elim (cases_eq (i / 9) f) [
  | inl same ↦
      (let low : 9 * f ≤ i = omega arith in
      let high : i < 9 * f + 9 = omega arith in
      let within : i - 9 * f < length (on_file' f xs) = simp (length-take, length-drop) (omega arith) in
      let read : get_or (on_file' f xs) (i - 9 * f) d ≡ get_or xs i d =
      get_or-take 9 (drop (9 * f) xs) (i - 9 * f) d (omega arith) ∙ get_or-drop (9 * f) xs (i - 9 * f) d ∙ ap (λ (k : ℕ). get_or xs k d) (omega arith) in
      let step : count_by p (set (on_file' f xs) (i - 9 * f) y) + tally (p (get_or (on_file' f xs) (i - 9 * f) d)) ≡ count_by p (on_file' f xs) + tally (p y) =
      count_by-set p (on_file' f xs) (i - 9 * f) y d within in
      rw (on_file-set_here f i xs y low high, here_on f i (p (get_or xs i d)) same, here_on f i (p y) same, ← read) step)
  | inr other ↦ rw (on_file-set_elsewhere f i xs y (not_there f i other), here_off f i (p (get_or xs i d)) other, here_off f i (p y) other) refl
]

-- a file's count after a move from a to b
pub count_on_file_moved : {X : Type 0} (p : Option X → Bool) (f : ℕ) (xs : List (Option X)) (a b : ℕ) (v : Option X) → p None ≡ false → a < length xs → b < length xs → b ≢ a
    → count_by p (on_file' f (set (set xs a None) b v)) + here f a (p (get_or xs a None)) + here f b (p (get_or xs b None)) ≡ count_by p (on_file' f xs) + here f b (p v)
count_on_file_moved p f xs a b v none ha hb other = grind (arith, count_on_file-set p f a xs None None ha, count_on_file-set p f b (set xs a None) v None (rw length-set hb), get_or-set_other xs a b None None other, nothing_here f a (p None) none)

-- one more of a kind in one of the two hands
pub hand_added : (hands : List ℕ) (at n m : ℕ) → length hands ≡ 14 → n < 7 → m < 7 → (at ≡ n) ⊎ (at ≡ n + 7)
    → get_or (set hands at (get_or hands at 0 + 1)) m 0 + get_or (set hands at (get_or hands at 0 + 1)) (m + 7) 0 ≡ get_or hands m 0 + get_or hands (m + 7) 0 + tally (n == m)
hand_added hands at n m len hn hm place = grind (arith, common_steps, get_or-set_same, get_or-set_other, cases_eq at m, cases_eq at (m + 7), nat_tests)

-- one less of a kind in one of the two hands
pub hand_less : (hands : List ℕ) (at n m : ℕ) → length hands ≡ 14 → n < 7 → m < 7 → (at ≡ n) ⊎ (at ≡ n + 7) → 0 < get_or hands at 0
    → get_or (set hands at (get_or hands at 0 - 1)) m 0 + get_or (set hands at (get_or hands at 0 - 1)) (m + 7) 0 + tally (n == m) ≡ get_or hands m 0 + get_or hands (m + 7) 0
hand_less hands at n m len hn hm place some = grind (arith, common_steps, get_or-set_same, get_or-set_other, cases_eq at m, cases_eq at (m + 7), nat_tests)
