-- Slides as masks: a line up to its first piece.
use Rattle.std.proofs.Common.{◌≡◌, ℕ, ℤ, pos, ◌+◌, ◌-◌, ◌/◌, ◌%◌, ◌<◌, ◌≤◌, ◌+ℤ◌, ◌*ℤ◌, ◌<ℤ◌, Bool, true, false, not, refl, sym, ap, ◌∙◌, arith, inl, inr, Option, Some, None, []}
use Rattle.std.specs.Prelude.{◌&&◌, zero, suc, is_none}
use Rattle.std.proofs.lemmas.Int.{ints}
use Rattle.std.proofs.lemmas.Bool.{cases_Bool, cases_lt, false_from_ne_true, both_ways, and_parts, and_from, not-true, not_from_false}
use Rattle.shogi_core.specs.declared.offset.Offset.{Offset}
use Rattle.shogi_core.specs.Below.{all_below, some_below}
use Rattle.shogi_core.specs.Movement.{Cells, away, leads, is_step_empty, is_empty, slides_across, slides, piece_at}
use Rattle.shogi_core.proofs.Below.{all_below_at, all_below_yes, some_below_at, some_below_no, some_below_not}
use Rattle.shogi_core.specs.Rays.{is_on_ray}
use Rattle.shogi_core.proofs.Back.{away_on, away_is, leads_is, is_leads, times_zero, times_add, one_more, same_test}
use Rattle.shogi_core.proofs.Discovered.{some_below_which}

-- indexes rise in the direction
abbrev pub rises : Offset → Type 0
rises o = pos 0 <ℤ (pos 9 *ℤ o.file +ℤ o.rank)

-- indexes fall in the direction
abbrev pub falls : Offset → Type 0
falls o = (pos 9 *ℤ o.file +ℤ o.rank) <ℤ pos 0

-- the change of the index after n steps
abbrev change : Offset → ℕ → ℤ
change o n = pos 9 *ℤ (pos n *ℤ o.file) +ℤ pos n *ℤ o.rank

change_more : (o : Offset) (n : ℕ) → rises o → pos 0 <ℤ change o (suc n)
change_more o zero up = omega (arith, ints, one_more 0 o.file, one_more 0 o.rank, times_zero o.file, times_zero o.rank)
change_more o (suc n) up = omega (arith, ints, one_more (suc n) o.file, one_more (suc n) o.rank, change_more o n up)

-- with rising indexes, the square of lower index is nearer
pub nearer : (o : Offset) (a x y m n : ℕ) → rises o → away m o a ≡ Some x → away n o a ≡ Some y → x ≤ y → m ≤ n
nearer o a x y m n up ex ey low = elim (cases_lt n m) [
  | inr le ↦ le
  | inl lt ↦ absurd (
      let k : ℕ = m - n - 1 in
      let sum : n + suc (m - n - 1) ≡ m = omega arith in
      let to_x : (pos (a / 9) +ℤ pos m *ℤ o.file ≡ pos (x / 9)) × (pos (a % 9) +ℤ pos m *ℤ o.rank ≡ pos (x % 9)) × (x < 81) = away_is m o a x ex in
      let to_y : (pos (a / 9) +ℤ pos n *ℤ o.file ≡ pos (y / 9)) × (pos (a % 9) +ℤ pos n *ℤ o.rank ≡ pos (y % 9)) × (y < 81) = away_is n o a y ey in
      let file : pos m *ℤ o.file ≡ pos n *ℤ o.file +ℤ pos (suc (m - n - 1)) *ℤ o.file = ap (λ (j : ℕ). pos j *ℤ o.file) (sym sum) ∙ times_add n (suc (m - n - 1)) o.file in
      let rank : pos m *ℤ o.rank ≡ pos n *ℤ o.rank +ℤ pos (suc (m - n - 1)) *ℤ o.rank = ap (λ (j : ℕ). pos j *ℤ o.rank) (sym sum) ∙ times_add n (suc (m - n - 1)) o.rank in
      let more : pos 0 <ℤ (pos 9 *ℤ (pos (suc (m - n - 1)) *ℤ o.file) +ℤ pos (suc (m - n - 1)) *ℤ o.rank) = change_more o (m - n - 1) up in
      omega (arith, ints, to_x.0, to_x.1, to_y.0, to_y.1))
]

change_less : (o : Offset) (n : ℕ) → falls o → change o (suc n) <ℤ pos 0
change_less o zero down = omega (arith, ints, one_more 0 o.file, one_more 0 o.rank, times_zero o.file, times_zero o.rank)
change_less o (suc n) down = omega (arith, ints, one_more (suc n) o.file, one_more (suc n) o.rank, change_less o n down)

-- with falling indexes, the square of higher index is nearer
pub nearer_down : (o : Offset) (a x y m n : ℕ) → falls o → away m o a ≡ Some x → away n o a ≡ Some y → y ≤ x → m ≤ n
nearer_down o a x y m n down ex ey low = elim (cases_lt n m) [
  | inr le ↦ le
  | inl lt ↦ absurd (
      let sum : n + suc (m - n - 1) ≡ m = omega arith in
      let to_x : (pos (a / 9) +ℤ pos m *ℤ o.file ≡ pos (x / 9)) × (pos (a % 9) +ℤ pos m *ℤ o.rank ≡ pos (x % 9)) × (x < 81) = away_is m o a x ex in
      let to_y : (pos (a / 9) +ℤ pos n *ℤ o.file ≡ pos (y / 9)) × (pos (a % 9) +ℤ pos n *ℤ o.rank ≡ pos (y % 9)) × (y < 81) = away_is n o a y ey in
      let file : pos m *ℤ o.file ≡ pos n *ℤ o.file +ℤ pos (suc (m - n - 1)) *ℤ o.file = ap (λ (j : ℕ). pos j *ℤ o.file) (sym sum) ∙ times_add n (suc (m - n - 1)) o.file in
      let rank : pos m *ℤ o.rank ≡ pos n *ℤ o.rank +ℤ pos (suc (m - n - 1)) *ℤ o.rank = ap (λ (j : ℕ). pos j *ℤ o.rank) (sym sum) ∙ times_add n (suc (m - n - 1)) o.rank in
      let less : (pos 9 *ℤ (pos (suc (m - n - 1)) *ℤ o.file) +ℤ pos (suc (m - n - 1)) *ℤ o.rank) <ℤ pos 0 = change_less o (m - n - 1) down in
      omega (arith, ints, to_x.0, to_x.1, to_y.0, to_y.1))
]

-- a square empty on some board is empty on the empty board
clear_of : (cells : Cells) (o : Offset) (a i : ℕ) → is_step_empty cells o a i ≡ true → is_step_empty [] o a i ≡ true
clear_of cells o a i e = go (away (i + 1) o a) e
  where
    go : (s : Option ℕ) → is_empty cells s ≡ true → is_empty [] s ≡ true
    go None e = e
    go (Some x) e = refl

-- a prefix of an open way is open
prefix : (n m : ℕ) (test : ℕ → Bool) → all_below n test ≡ true → m ≤ n → all_below m test ≡ true
prefix n m test e l = all_below_yes m test (λ i h. all_below_at n test i e (omega arith))

module _ (cells : Cells) (o : Offset) (a : ℕ) where
  -- each square on the way lies on the line
  way : (n i : ℕ) → n < 8 → i < n → all_below n (is_step_empty [] o a) ≡ true → (x : ℕ) × (away (i + 1) o a ≡ Some x) × (is_on_ray o a x ≡ true)
  way n i h l clear = go (away (i + 1) o a) refl (all_below_at n (is_step_empty [] o a) i clear l)
    where
      go : (s : Option ℕ) → away (i + 1) o a ≡ s → is_empty [] s ≡ true → (x : ℕ) × (away (i + 1) o a ≡ Some x) × (is_on_ray o a x ≡ true)
      go None at e = absurd (cc)
      go (Some x) at e = (x, at, some_below_at 8 (slides_across [] o a x) i (omega arith) (and_from _ _ (is_leads _ x at) (prefix n i (is_step_empty [] o a) clear (omega arith))))

  -- a slide over the empty board exists here, if the squares on its way are empty
  slides_over : (b n : ℕ) → n < 8 → slides_across [] o a b n ≡ true → ((i : ℕ) → i < n → is_step_empty cells o a i ≡ true) → slides cells o a b ≡ true
  slides_over b n h past clear =
      let parts : (leads (n + 1) o a b ≡ true) × (all_below n (is_step_empty [] o a) ≡ true) = and_parts _ _ past in
      some_below_at 8 (slides_across cells o a b) n h (and_from _ _ parts.0 (all_below_yes n (is_step_empty cells o a) clear))

  pub slides_bare : (b : ℕ) → slides cells o a b ≡ true → is_on_ray o a b ≡ true
  slides_bare b e =
      let which = some_below_which 8 (slides_across cells o a b) e in
      let parts : (leads (which.0 + 1) o a b ≡ true) × (all_below which.0 (is_step_empty cells o a) ≡ true) = and_parts _ _ which.2 in
      some_below_at 8 (slides_across [] o a b) which.0 which.1 (and_from _ _ parts.0 (all_below_yes which.0 (is_step_empty [] o a) (λ i l. clear_of cells o a i (all_below_at which.0 (is_step_empty cells o a) i parts.1 l))))

  -- a slide reaches the whole line if no piece is on it
  pub slides_free : ((x : ℕ) → is_on_ray o a x ≡ true → is_none (piece_at cells x) ≡ true) → (b : ℕ) → is_on_ray o a b ≡ slides cells o a b
  slides_free free b = same_test (is_on_ray o a b) (slides cells o a b) forth (slides_bare b)
    where
      forth : is_on_ray o a b ≡ true → slides cells o a b ≡ true
      forth e =
          let which = some_below_which 8 (slides_across [] o a b) e in
          let parts : (leads (which.0 + 1) o a b ≡ true) × (all_below which.0 (is_step_empty [] o a) ≡ true) = and_parts _ _ which.2 in
          slides_over b which.0 which.1 which.2 (λ i l. (
          let on = way which.0 i which.1 l parts.1 in
          ap (is_empty cells) on.1 ∙ free on.0 on.2))

  -- a slide reaches the line up to the first piece, which is on f
  module _ (f n : ℕ) (small : n < 8) (past : slides_across [] o a f n ≡ true) (taken : is_none (piece_at cells f) ≡ false)
      (first : (m x : ℕ) → m < 8 → away (m + 1) o a ≡ Some x → is_on_ray o a x ≡ true → is_none (piece_at cells x) ≡ false → n ≤ m)
      (apart : (i j x : ℕ) → away i o a ≡ Some x → away j o a ≡ Some x → i ≤ j) where
    at_first : away (n + 1) o a ≡ Some f
    at_first = leads_is _ f ((and_parts _ _ past).0)

    pub slides_to_first : (b : ℕ) → (is_on_ray o a b && not (is_on_ray o f b)) ≡ slides cells o a b
    slides_to_first b = same_test (is_on_ray o a b && not (is_on_ray o f b)) (slides cells o a b) forth back
      where
        forth : (is_on_ray o a b && not (is_on_ray o f b)) ≡ true → slides cells o a b ≡ true
        forth e =
            let both : (is_on_ray o a b ≡ true) × (not (is_on_ray o f b) ≡ true) = and_parts (is_on_ray o a b) (not (is_on_ray o f b)) e in
            let which = some_below_which 8 (slides_across [] o a b) both.0 in
            let parts : (leads (which.0 + 1) o a b ≡ true) × (all_below which.0 (is_step_empty [] o a) ≡ true) = and_parts _ _ which.2 in
            slides_over b which.0 which.1 which.2 (λ i l. (
            let on = way which.0 i which.1 l parts.1 in
            elim (cases_Bool (is_none (piece_at cells on.0))) [
              | inl free ↦ ap (is_empty cells) on.1 ∙ free
              | inr piece ↦ absurd (
                  let le : n ≤ i = first i on.0 (omega arith) on.1 on.2 piece in
                  let sum : n + 1 + (which.0 - n - 1 + 1) ≡ which.0 + 1 = omega arith in
                  let there : away (which.0 - n - 1 + 1) o f ≡ Some b = away_on (n + 1) (which.0 - n - 1 + 1) o a f at_first ∙ (ap (λ (k : ℕ). away k o a) sum ∙ leads_is _ b parts.0) in
                  let beyond : is_on_ray o f b ≡ true = some_below_at 8 (slides_across [] o f b) (which.0 - n - 1) (omega arith) (and_from _ _ (is_leads _ b there) (all_below_yes (which.0 - n - 1) (is_step_empty [] o f) (λ j k.
                  let further : n + 1 + (j + 1) ≡ n + 1 + j + 1 = omega arith in
                  ap (is_empty []) (away_on (n + 1) (j + 1) o a f at_first ∙ ap (λ (k : ℕ). away k o a) further) ∙ all_below_at which.0 (is_step_empty [] o a) (n + 1 + j) parts.1 (omega arith)))) in
                  both_ways (is_on_ray o f b) (not-true _ both.1) beyond)
            ]))

        back : slides cells o a b ≡ true → (is_on_ray o a b && not (is_on_ray o f b)) ≡ true
        back e =
            let which = some_below_which 8 (slides_across cells o a b) e in
            let parts : (leads (which.0 + 1) o a b ≡ true) × (all_below which.0 (is_step_empty cells o a) ≡ true) = and_parts _ _ which.2 in
            and_from (is_on_ray o a b) (not (is_on_ray o f b)) (slides_bare b e) (not_from_false _ (false_from_ne_true (is_on_ray o f b) (λ beyond.
            let j = some_below_which 8 (slides_across [] o f b) beyond in
            let there : away (j.0 + 1) o f ≡ Some b = leads_is _ b ((and_parts _ _ j.2).0) in
            let far : away (n + 1 + (j.0 + 1)) o a ≡ Some b = sym (away_on (n + 1) (j.0 + 1) o a f at_first) ∙ there in
            let steps : n + 1 + (j.0 + 1) ≤ which.0 + 1 = apart (n + 1 + (j.0 + 1)) (which.0 + 1) b far (leads_is _ b parts.0) in
            let clear : is_step_empty cells o a n ≡ true = all_below_at which.0 (is_step_empty cells o a) n parts.1 (omega arith) in
            both_ways (is_none (piece_at cells f)) taken (ap (is_empty cells) (sym at_first) ∙ clear))))

  -- with rising indexes, a slide reaches the squares before which no piece is on the line
  module _ (up : rises o) (taken : ℕ → Bool)
      (pieces : (x : ℕ) → is_on_ray o a x ≡ true → taken x ≡ not (is_none (piece_at cells x)))
      (on_line : (x : ℕ) → taken x ≡ true → is_on_ray o a x ≡ true) where
    pub slides_rising : (b : ℕ) → (is_on_ray o a b && not (some_below b taken)) ≡ slides cells o a b
    slides_rising b = same_test (is_on_ray o a b && not (some_below b taken)) (slides cells o a b) forth back
      where
        forth : (is_on_ray o a b && not (some_below b taken)) ≡ true → slides cells o a b ≡ true
        forth e =
            let both : (is_on_ray o a b ≡ true) × (not (some_below b taken) ≡ true) = and_parts (is_on_ray o a b) (not (some_below b taken)) e in
            let which = some_below_which 8 (slides_across [] o a b) both.0 in
            let parts : (leads (which.0 + 1) o a b ≡ true) × (all_below which.0 (is_step_empty [] o a) ≡ true) = and_parts _ _ which.2 in
            slides_over b which.0 which.1 which.2 (λ i l. (
            let on = way which.0 i which.1 l parts.1 in
            let below : on.0 < b = elim (cases_lt on.0 b) [
              | inl lt ↦ lt
              | inr le ↦ absurd (let back : which.0 + 1 ≤ i + 1 = nearer o a b on.0 (which.0 + 1) (i + 1) up (leads_is _ b parts.0) on.1 le in omega arith)
            ] in
            ap (is_empty cells) on.1 ∙ not-false-back (is_none (piece_at cells on.0)) (sym (pieces on.0 on.2) ∙ some_below_not b taken on.0 (not-true _ both.1) below)))
          where
            not-false-back : (x : Bool) → not x ≡ false → x ≡ true
            not-false-back true f = refl
            not-false-back false f = absurd (cc)

        back : slides cells o a b ≡ true → (is_on_ray o a b && not (some_below b taken)) ≡ true
        back e =
            let which = some_below_which 8 (slides_across cells o a b) e in
            let parts : (leads (which.0 + 1) o a b ≡ true) × (all_below which.0 (is_step_empty cells o a) ≡ true) = and_parts _ _ which.2 in
            and_from (is_on_ray o a b) (not (some_below b taken)) (slides_bare b e) (not_from_false _ (some_below_no b taken (λ x l. false_from_ne_true (taken x) (λ t. (
            let line : is_on_ray o a x ≡ true = on_line x t in
            let j = some_below_which 8 (slides_across [] o a x) line in
            let at : away (j.0 + 1) o a ≡ Some x = leads_is _ x ((and_parts _ _ j.2).0) in
            let le : j.0 + 1 ≤ which.0 + 1 = nearer o a x b (j.0 + 1) (which.0 + 1) up at (leads_is _ b parts.0) (omega arith) in
            elim (cases_lt j.0 which.0) [
              | inl lt ↦ (
                  let clear : is_step_empty cells o a j.0 ≡ true = all_below_at which.0 (is_step_empty cells o a) j.0 parts.1 lt in
                  let empty : is_none (piece_at cells x) ≡ true = ap (is_empty cells) (sym at) ∙ clear in
                  both_ways (taken x) (pieces x line ∙ ap not empty) t)
              | inr ge ↦ (
                  let same : j.0 ≡ which.0 = omega arith in
                  let there : Some x ≡ Some b = sym at ∙ (ap (λ (k : ℕ). away (k + 1) o a) same ∙ leads_is _ b parts.0) in
                  let equal : x ≡ b = cc in
                  omega arith)
            ])))))
