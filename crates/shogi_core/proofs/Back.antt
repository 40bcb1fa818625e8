-- Each step or slide between two squares has an opposite one.
use Rattle.std.proofs.Common.{◌≡◌, ℕ, ℤ, pos, negsuc, ◌+◌, ◌-◌, ◌*◌, ◌/◌, ◌%◌, ◌<◌, ◌+ℤ◌, ◌*ℤ◌, ◌-ℤ◌, Bool, true, false, refl, sym, ap, ◌∙◌, arith, inl, inr, Option, Some, None}
use Rattle.std.specs.Prelude.{◌&&◌, nat_lt, zero, suc}
use Rattle.std.proofs.lemmas.Int.{ints}
use Rattle.std.proofs.Math.IntN.{suc_ℤ-*ℤ, zero-*ℤ}
use Rattle.std.proofs.lemmas.Bool.{cases_Bool, cond-true, cond-false, and_parts, and_from, ltb-true, lt-ltb, eqb-true, eq-eqb}
use Rattle.shogi_core.specs.declared.offset.Offset.{Offset}
use Rattle.shogi_core.specs.Below.{all_below}
use Rattle.shogi_core.specs.Movement.{Cells, square_at, is_same_square, away, leads, offset_by, is_step_empty, is_empty, slides_across}
use Rattle.shogi_core.proofs.Below.{all_below_at, all_below_yes}
use Rattle.shogi_core.specs.Lines.{back}

-- ---- products by a number of steps

pub one_more : (n : ℕ) (x : ℤ) → pos (suc n) *ℤ x ≡ pos n *ℤ x +ℤ x
one_more n x = suc_ℤ-*ℤ (pos n) x

pub times_zero : (x : ℤ) → pos 0 *ℤ x ≡ pos 0
times_zero x = zero-*ℤ x

pub times_add : (n m : ℕ) (x : ℤ) → pos (n + m) *ℤ x ≡ pos n *ℤ x +ℤ pos m *ℤ x
times_add zero m x =
    let e : 0 + m ≡ m = omega arith in
    ap (λ (k : ℕ). pos k *ℤ x) e ∙ omega (arith, ints, times_zero x)
times_add (suc n) m x =
    let e : suc n + m ≡ suc (n + m) = omega arith in
    ap (λ (k : ℕ). pos k *ℤ x) e ∙ omega (arith, ints, one_more (n + m) x, one_more n x, times_add n m x)

pub times_back : (n : ℕ) (x : ℤ) → pos n *ℤ (pos 0 -ℤ x) ≡ pos 0 -ℤ pos n *ℤ x
times_back zero x = omega (arith, ints, times_zero x, times_zero (pos 0 -ℤ x))
times_back (suc n) x = omega (arith, ints, one_more n x, one_more n (pos 0 -ℤ x), times_back n x)

-- ---- the square at a file and a rank

found_pos : (file rank b : ℕ) → square_at (pos file) (pos rank) ≡ Some b → (file ≡ b / 9) × (rank ≡ b % 9) × (b < 81)
found_pos file rank b e = elim (cases_Bool (nat_lt file 9 && nat_lt rank 9)) [
  | inl within ↦ (
      let parts : (nat_lt file 9 ≡ true) × (nat_lt rank 9 ≡ true) = and_parts _ _ within in
      let left : file < 9 = ltb-true file 9 parts.0 in
      let low : rank < 9 = ltb-true rank 9 parts.1 in
      let at : Some (file * 9 + rank) ≡ Some b = sym (cond-true (nat_lt file 9 && nat_lt rank 9) _ _ within) ∙ e in
      let sum : file * 9 + rank ≡ b = cc in
      (omega arith, omega arith, omega arith))
  | inr off ↦ (
      let none : None ≡ Some b = sym (cond-false (nat_lt file 9 && nat_lt rank 9) _ _ off) ∙ e in
      absurd (cc))
]

found : (file rank : ℤ) (b : ℕ) → square_at file rank ≡ Some b → (file ≡ pos (b / 9)) × (rank ≡ pos (b % 9)) × (b < 81)
found (pos file) (pos rank) b e = let at : (file ≡ b / 9) × (rank ≡ b % 9) × (b < 81) = found_pos file rank b e in (ap pos at.0, ap pos at.1, at.2)
found (pos file) (negsuc rank) b e = absurd (cc)
found (negsuc file) rank b e = absurd (cc)

pub square_here : (a : ℕ) → a < 81 → square_at (pos (a / 9)) (pos (a % 9)) ≡ Some a
square_here a h =
    cond-true (nat_lt (a / 9) 9 && nat_lt (a % 9) 9) _ _ (and_from _ _ (lt-ltb (a / 9) 9 (omega arith)) (lt-ltb (a % 9) 9 (omega arith)))
    ∙ ap Some (omega arith)

-- ---- steps back

-- m steps back from where k + m steps lead are k steps
pub away_between : (k m : ℕ) (o : Offset) (a b : ℕ) → away (k + m) o a ≡ Some b → away m (back o) b ≡ away k o a
unfolding away
away_between k m o a b e =
    let at : (pos (a / 9) +ℤ pos (k + m) *ℤ o.file ≡ pos (b / 9)) × (pos (a % 9) +ℤ pos (k + m) *ℤ o.rank ≡ pos (b % 9)) × (b < 81) = found _ _ b e in
    let file : pos (b / 9) +ℤ pos m *ℤ (pos 0 -ℤ o.file) ≡ pos (a / 9) +ℤ pos k *ℤ o.file = omega (arith, ints, at.0, times_add k m o.file, times_back m o.file) in
    let rank : pos (b % 9) +ℤ pos m *ℤ (pos 0 -ℤ o.rank) ≡ pos (a % 9) +ℤ pos k *ℤ o.rank = omega (arith, ints, at.1, times_add k m o.rank, times_back m o.rank) in
    ap (λ f. square_at f (pos (b % 9) +ℤ pos m *ℤ (pos 0 -ℤ o.rank))) file ∙ ap (square_at (pos (a / 9) +ℤ pos k *ℤ o.file)) rank

-- k steps and m more are k + m steps
pub away_on : (k m : ℕ) (o : Offset) (a x : ℕ) → away k o a ≡ Some x → away m o x ≡ away (k + m) o a
unfolding away
away_on k m o a x e =
    let at : (pos (a / 9) +ℤ pos k *ℤ o.file ≡ pos (x / 9)) × (pos (a % 9) +ℤ pos k *ℤ o.rank ≡ pos (x % 9)) × (x < 81) = found _ _ x e in
    let file : pos (x / 9) +ℤ pos m *ℤ o.file ≡ pos (a / 9) +ℤ pos (k + m) *ℤ o.file = omega (arith, ints, at.0, times_add k m o.file) in
    let rank : pos (x % 9) +ℤ pos m *ℤ o.rank ≡ pos (a % 9) +ℤ pos (k + m) *ℤ o.rank = omega (arith, ints, at.1, times_add k m o.rank) in
    ap (λ f. square_at f (pos (x % 9) +ℤ pos m *ℤ o.rank)) file ∙ ap (square_at (pos (a / 9) +ℤ pos (k + m) *ℤ o.file)) rank

-- zero steps stay on the square
pub away_none : (o : Offset) (a : ℕ) → a < 81 → away 0 o a ≡ Some a
unfolding away
away_none o a h =
    let file : pos (a / 9) +ℤ pos 0 *ℤ o.file ≡ pos (a / 9) = omega (arith, ints, times_zero o.file) in
    let rank : pos (a % 9) +ℤ pos 0 *ℤ o.rank ≡ pos (a % 9) = omega (arith, ints, times_zero o.rank) in
    ap (λ f. square_at f (pos (a % 9) +ℤ pos 0 *ℤ o.rank)) file ∙ (ap (square_at (pos (a / 9))) rank ∙ square_here a h)

pub away_back : (m : ℕ) (o : Offset) (a b : ℕ) → a < 81 → away m o a ≡ Some b → away m (back o) b ≡ Some a
away_back m o a b h e =
    let none : 0 + m ≡ m = omega arith in
    away_between 0 m o a b (ap (λ (k : ℕ). away k o a) none ∙ e) ∙ away_none o a h

twice : (x : ℤ) → pos 0 -ℤ (pos 0 -ℤ x) ≡ x
twice x = omega (arith, ints)

pub back_twice : (o : Offset) → back (back o) ≡ o
back_twice o = ap (λ f. offset_by f (pos 0 -ℤ (pos 0 -ℤ o.rank))) (twice o.file) ∙ ap (offset_by o.file) (twice o.rank)

-- the file, the rank and the index n steps away
pub away_is : (n : ℕ) (o : Offset) (a x : ℕ) → away n o a ≡ Some x → (pos (a / 9) +ℤ pos n *ℤ o.file ≡ pos (x / 9)) × (pos (a % 9) +ℤ pos n *ℤ o.rank ≡ pos (x % 9)) × (x < 81)
unfolding away
away_is n o a x e = found _ _ x e

-- ---- slides back

pub leads_is : (s : Option ℕ) (b : ℕ) → is_same_square s b ≡ true → s ≡ Some b
leads_is None b e = absurd (cc)
leads_is (Some a) b e = ap Some (eqb-true a b e)

pub is_leads : (s : Option ℕ) (b : ℕ) → s ≡ Some b → is_same_square s b ≡ true
is_leads s b e = ap (λ (t : Option ℕ). is_same_square t b) e ∙ eq-eqb b b refl

pub same_test : (x y : Bool) → (x ≡ true → y ≡ true) → (y ≡ true → x ≡ true) → x ≡ y
same_test true y f g = sym (f refl)
same_test false true f g = g refl
same_test false false f g = refl

pub all_below_turned : (n : ℕ) (s t : ℕ → Bool) → ((i : ℕ) → i < n → s i ≡ t (n - 1 - i)) → all_below n t ≡ true → all_below n s ≡ true
all_below_turned n s t h e = all_below_yes n s (λ i l. h i l ∙ all_below_at n t (n - 1 - i) e (omega arith))

-- the squares between are empty as seen from either end
clear_back : (cells : Cells) (o : Offset) (a b n i : ℕ) → i < n → away (n + 1) o a ≡ Some b → is_step_empty cells o a i ≡ is_step_empty cells (back o) b (n - 1 - i)
clear_back cells o a b n i h e =
    let sum : i + 1 + (n - 1 - i + 1) ≡ n + 1 = omega arith in
    ap (is_empty cells) (sym (away_between (i + 1) (n - 1 - i + 1) o a b (ap (λ (k : ℕ). away k o a) sum ∙ e)))

pub slides_past_back : (cells : Cells) (o : Offset) (a b n : ℕ) → a < 81 → slides_across cells o a b n ≡ true → slides_across cells (back o) b a n ≡ true
slides_past_back cells o a b n h e =
    let parts : (leads (n + 1) o a b ≡ true) × (all_below n (is_step_empty cells o a) ≡ true) = and_parts _ _ e in
    let there : away (n + 1) o a ≡ Some b = leads_is _ b parts.0 in
    let here : away (n + 1) (back o) b ≡ Some a = away_back (n + 1) o a b h there in
    and_from _ _ (is_leads _ a here) (all_below_turned n (is_step_empty cells (back o) b) (is_step_empty cells o a) (λ i l.
    sym (clear_back cells o a b n (n - 1 - i) (omega arith) there ∙ ap (is_step_empty cells (back o) b) (let e : n - 1 - (n - 1 - i) ≡ i = omega arith in e))) parts.1)
