-- Attacks on a square: a step, a jump, or a slide against one of the eight directions.
use Rattle.std.proofs.Common.{◌≡◌, ◌⊎◌, ℕ, ◌+◌, ◌%◌, ◌<◌, Bool, true, false, refl, sym, ap, subst, ◌∙◌, arith, inl, inr, Option, Some, None, bit_and, List, [], ◌∷◌}
use Rattle.std.specs.Prelude.{◌==◌, ◌&&◌, ◌||◌, zero, suc, is_none}
use Rattle.std.specs.List.{list_any, list_all}
use Rattle.std.proofs.lemmas.Bool.{cases_Bool, cases_eq, eq-eqb, ne_eqb, false_from_ne_true, both_ways, and_parts, and_from, or_cases, or_from, or_left, or_right}
use Rattle.shogi_core.specs.declared.offset.Offset.{Offset}
use Rattle.shogi_core.specs.declared.piece.Color.{Color}
use Rattle.shogi_core.specs.declared.piece.Color.TheVariants.{Black, White}
use Rattle.shogi_core.specs.declared.piece.Piece.{Piece}
use Rattle.shogi_core.specs.Attack.{is_attacked_from, is_attacked, is_sniper, cell_steps, cell_slides_back, is_step_from, is_step_among, is_slide_below, slider_attacks_from, slider_attacks_along}
use Rattle.shogi_core.specs.Below.{some_below}
use Rattle.shogi_core.specs.Bits.{has_bit}
use Rattle.shogi_core.specs.Cell.{is_piece_of, is_slider}
use Rattle.shogi_core.specs.Lines.{back, around, are_aligned, are_lined, is_near, is_same_offset}
use Rattle.shogi_core.specs.Movement.{Cells, up, down, left, right, up_left, up_right, down_left, down_right, straight, diagonal, forward, slides, for_side, slides_of, has_slide, has_step, cell_reaches, reaches, piece_at}
use Rattle.shogi_core.specs.Rays.{direction_at, ray_of}
use Rattle.shogi_core.proofs.Back.{back_twice}
use Rattle.shogi_core.proofs.Below.{some_below_at, some_below_more, some_below_no, some_below_not, some_below_found}
use Rattle.shogi_core.proofs.BitLaws.{has_bit-and, has_bit-none}
use Rattle.shogi_core.proofs.Discovered.{same_way, same_way_is, one_of, list_any_kept, some_below_which}
use Rattle.shogi_core.proofs.LineBits.{has_bit-ray}
use Rattle.shogi_core.proofs.Nearest.{one_piece}
use Rattle.shogi_core.proofs.RayLaws.{slides_bare}
use Rattle.shogi_core.proofs.SeenLaws.{Covers, covers_less, covers_none, slides_back, slides_back_around, slides_role, step_near, lined_aligned}

or_none : (b : Bool) → b ≡ (b || false)
or_none b = grind arith

eq_either : (a b : ℕ) → (a == b) ≡ (b == a)
eq_either a b = elim (cases_eq a b) [
  | inl same ↦ eq-eqb a b same ∙ sym (eq-eqb b a (sym same))
  | inr other ↦ ne_eqb a b other ∙ sym (ne_eqb b a (λ same. other (sym same)))
]

-- ---- directions

pub direction_around : (d : ℕ) → d < 8 → list_any (same_way (direction_at d)) around ≡ true
direction_around zero h = refl
direction_around (suc zero) h = refl
direction_around (suc (suc zero)) h = refl
direction_around (suc (suc (suc zero))) h = refl
direction_around (suc (suc (suc (suc zero)))) h = refl
direction_around (suc (suc (suc (suc (suc zero))))) h = refl
direction_around (suc (suc (suc (suc (suc (suc zero)))))) h = refl
direction_around (suc (suc (suc (suc (suc (suc (suc zero))))))) h = refl
direction_around (suc (suc (suc (suc (suc (suc (suc (suc d)))))))) h = absurd (omega arith)

-- each direction has a number
pub direction_of : (p : Offset) → list_any (same_way p) around ≡ true → (d : ℕ) × (d < 8) × (same_way p (direction_at d) ≡ true)
direction_of p e = elim (or_cases (same_way p up) _ e) [
  | inl here ↦ (4, omega arith, here)
  | inr e ↦ elim (or_cases (same_way p down) _ e) [
    | inl here ↦ (0, omega arith, here)
    | inr e ↦ elim (or_cases (same_way p left) _ e) [
      | inl here ↦ (2, omega arith, here)
      | inr e ↦ elim (or_cases (same_way p right) _ e) [
        | inl here ↦ (6, omega arith, here)
        | inr e ↦ elim (or_cases (same_way p up_left) _ e) [
          | inl here ↦ (1, omega arith, here)
          | inr e ↦ elim (or_cases (same_way p up_right) _ e) [
            | inl here ↦ (7, omega arith, here)
            | inr e ↦ elim (or_cases (same_way p down_left) _ e) [
              | inl here ↦ (3, omega arith, here)
              | inr e ↦ elim (or_cases (same_way p down_right) false e) [
                | inl here ↦ (5, omega arith, here)
                | inr none ↦ absurd (cc)
              ]
            ]
          ]
        ]
      ]
    ]
  ]
]

-- ---- which pieces slide against a direction

pub back_forward_black : (d : ℕ) → d < 8 → (d == 0) ≡ list_any (λ p. is_same_offset (back (for_side Black p)) (direction_at d)) forward
back_forward_black zero h = refl
back_forward_black (suc zero) h = refl
back_forward_black (suc (suc zero)) h = refl
back_forward_black (suc (suc (suc zero))) h = refl
back_forward_black (suc (suc (suc (suc zero)))) h = refl
back_forward_black (suc (suc (suc (suc (suc zero))))) h = refl
back_forward_black (suc (suc (suc (suc (suc (suc zero)))))) h = refl
back_forward_black (suc (suc (suc (suc (suc (suc (suc zero))))))) h = refl
back_forward_black (suc (suc (suc (suc (suc (suc (suc (suc d)))))))) h = absurd (omega arith)

pub back_forward_white : (d : ℕ) → d < 8 → (d == 4) ≡ list_any (λ p. is_same_offset (back (for_side White p)) (direction_at d)) forward
back_forward_white zero h = refl
back_forward_white (suc zero) h = refl
back_forward_white (suc (suc zero)) h = refl
back_forward_white (suc (suc (suc zero))) h = refl
back_forward_white (suc (suc (suc (suc zero)))) h = refl
back_forward_white (suc (suc (suc (suc (suc zero))))) h = refl
back_forward_white (suc (suc (suc (suc (suc (suc zero)))))) h = refl
back_forward_white (suc (suc (suc (suc (suc (suc (suc zero))))))) h = refl
back_forward_white (suc (suc (suc (suc (suc (suc (suc (suc d)))))))) h = absurd (omega arith)

back_diagonal_at : (color : Color) (d : ℕ) → d < 8 → (d % 2 == 1) ≡ list_any (λ p. is_same_offset (back (for_side color p)) (direction_at d)) diagonal
back_diagonal_at Black zero h = refl
back_diagonal_at White zero h = refl
back_diagonal_at Black (suc zero) h = refl
back_diagonal_at White (suc zero) h = refl
back_diagonal_at Black (suc (suc zero)) h = refl
back_diagonal_at White (suc (suc zero)) h = refl
back_diagonal_at Black (suc (suc (suc zero))) h = refl
back_diagonal_at White (suc (suc (suc zero))) h = refl
back_diagonal_at Black (suc (suc (suc (suc zero)))) h = refl
back_diagonal_at White (suc (suc (suc (suc zero)))) h = refl
back_diagonal_at Black (suc (suc (suc (suc (suc zero))))) h = refl
back_diagonal_at White (suc (suc (suc (suc (suc zero))))) h = refl
back_diagonal_at Black (suc (suc (suc (suc (suc (suc zero)))))) h = refl
back_diagonal_at White (suc (suc (suc (suc (suc (suc zero)))))) h = refl
back_diagonal_at Black (suc (suc (suc (suc (suc (suc (suc zero))))))) h = refl
back_diagonal_at White (suc (suc (suc (suc (suc (suc (suc zero))))))) h = refl
back_diagonal_at color (suc (suc (suc (suc (suc (suc (suc (suc d)))))))) h = absurd (omega arith)

back_straight_at : (color : Color) (d : ℕ) → d < 8 → (d % 2 == 0) ≡ list_any (λ p. is_same_offset (back (for_side color p)) (direction_at d)) straight
back_straight_at Black zero h = refl
back_straight_at White zero h = refl
back_straight_at Black (suc zero) h = refl
back_straight_at White (suc zero) h = refl
back_straight_at Black (suc (suc zero)) h = refl
back_straight_at White (suc (suc zero)) h = refl
back_straight_at Black (suc (suc (suc zero))) h = refl
back_straight_at White (suc (suc (suc zero))) h = refl
back_straight_at Black (suc (suc (suc (suc zero)))) h = refl
back_straight_at White (suc (suc (suc (suc zero)))) h = refl
back_straight_at Black (suc (suc (suc (suc (suc zero))))) h = refl
back_straight_at White (suc (suc (suc (suc (suc zero))))) h = refl
back_straight_at Black (suc (suc (suc (suc (suc (suc zero)))))) h = refl
back_straight_at White (suc (suc (suc (suc (suc (suc zero)))))) h = refl
back_straight_at Black (suc (suc (suc (suc (suc (suc (suc zero))))))) h = refl
back_straight_at White (suc (suc (suc (suc (suc (suc (suc zero))))))) h = refl
back_straight_at color (suc (suc (suc (suc (suc (suc (suc (suc d)))))))) h = absurd (omega arith)

pub back_diagonal : (color : Color) (d : ℕ) → d < 8 → (d % 2 == 1) ≡ list_any (λ p. is_same_offset (back (for_side color p)) (direction_at d)) diagonal
back_diagonal color d h = back_diagonal_at color d h

pub back_straight : (color : Color) (d : ℕ) → d < 8 → (d % 2 == 0) ≡ list_any (λ p. is_same_offset (back (for_side color p)) (direction_at d)) straight
back_straight color d h = back_straight_at color d h

pub ruleset backing = (back_forward_black, back_forward_white, back_diagonal, back_straight)

-- a square with a piece is not empty
pub some_of : (color : Color) (cell : Option Piece) → is_piece_of color cell ≡ true → is_none cell ≡ false
some_of color None e = absurd (cc)
some_of color (Some piece) e = refl

-- ---- a slide is one against a direction

pub shot_by : (cells : Cells) (color : Color) (a b : ℕ) → a < 81 → (os : List Offset) → list_all (λ o. list_any (same_way (back (for_side color o))) around) os ≡ true → list_any (λ o. slides cells (for_side color o) a b) os ≡ true
    → (d : ℕ) × (d < 8) × (list_any (λ p. same_way (back (for_side color p)) (direction_at d)) os ≡ true) × (slides cells (direction_at d) b a ≡ true)
shot_by cells color a b h [] all e = absurd (cc)
shot_by cells color a b h (o ∷ os) all e =
    let parts : (list_any (same_way (back (for_side color o))) around ≡ true) × (list_all (λ p. list_any (same_way (back (for_side color p))) around) os ≡ true) = and_parts _ _ all in
    elim (or_cases (slides cells (for_side color o) a b) (list_any (λ p. slides cells (for_side color p) a b) os) e) [
      | inl here ↦ (
          let which = direction_of (back (for_side color o)) parts.0 in (
            which.0,
            which.1,
            or_left _ _ which.2,
            ap (λ p. slides cells p b a) (sym (same_way_is (back (for_side color o)) (direction_at which.0) which.2)) ∙ slides_back cells (for_side color o) a b h here,
          ))
      | inr later ↦ (
          let rest = shot_by cells color a b h os parts.1 later in
          (rest.0, rest.1, or_right (same_way (back (for_side color o)) (direction_at rest.0)) _ rest.2, rest.3))
    ]

-- a piece that slides against a direction slides to where the direction begins
pub slide_by : (cells : Cells) (o : Offset) (piece : Piece) (a b : ℕ) → b < 81 → cell_slides_back o (Some piece) ≡ true → slides cells o b a ≡ true → has_slide cells piece a b ≡ true
slide_by cells o piece a b h against line =
    list_any_kept (λ p. same_way (back (for_side piece.color p)) o) (λ p. slides cells (for_side piece.color p) a b) (slides_of piece.role)
    (λ p e. ap (λ q. slides cells q a b) (sym (back_twice (for_side piece.color p)) ∙ ap back (same_way_is (back (for_side piece.color p)) o e)) ∙ slides_back cells o b a h line) against

module _ (cells : Cells) (color : Color) (square : ℕ) (low : square < 81) where
  shot_on : (a : ℕ) → a < 81 → (piece : Piece) → piece_at cells a ≡ Some piece → is_piece_of color (piece_at cells a) ≡ true → has_slide cells piece a square ≡ true → some_below 8 (slider_attacks_along cells color square) ≡ true
  unfolding slider_attacks_along
  shot_on a h piece at own e =
      let s = shot_by cells piece.color a square h (slides_of piece.role) (slides_back_around piece.color piece.role) e in
      some_below_at 8 (slider_attacks_along cells color square) s.0 s.1
      (some_below_at 81 (slider_attacks_from cells color square (direction_at s.0)) a h (and_from _ _ (and_from _ _ own (ap (cell_slides_back (direction_at s.0)) at ∙ s.2)) s.3))

  step_or_shot : (a : ℕ) → a < 81 → is_attacked_from cells color square a ≡ true → (some_below 81 (is_step_from cells color square) ≡ true) ⊎ (some_below 8 (slider_attacks_along cells color square) ≡ true)
  unfolding reaches
  step_or_shot a h e =
      let parts : (is_piece_of color (piece_at cells a) ≡ true) × (reaches cells a square ≡ true) = and_parts _ _ e in
      go (piece_at cells a) refl parts.0 parts.1
    where
      go : (cell : Option Piece) → piece_at cells a ≡ cell → is_piece_of color (piece_at cells a) ≡ true → cell_reaches cells cell a square ≡ true → (some_below 81 (is_step_from cells color square) ≡ true) ⊎ (some_below 8 (slider_attacks_along cells color square) ≡ true)
      go None at own f = absurd (cc)
      go (Some piece) at own f = elim (or_cases (has_step piece a square) (has_slide cells piece a square) f) [
        | inl step ↦ inl (some_below_at 81 (is_step_from cells color square) a h (and_from _ _ own (ap (λ cell. cell_steps cell a square) at ∙ step)))
        | inr slide ↦ inr (shot_on a h piece at own slide)
      ]

  -- a piece attacks by a step or a slide
  slide_from : (a : ℕ) → a < 81 → is_attacked_from cells color square a ≡ true → (is_step_from cells color square a || is_slide_below cells color square a 8) ≡ true
  unfolding reaches
  slide_from a h e =
      let parts : (is_piece_of color (piece_at cells a) ≡ true) × (reaches cells a square ≡ true) = and_parts _ _ e in
      go (piece_at cells a) refl parts.0 parts.1
    where
      go : (cell : Option Piece) → piece_at cells a ≡ cell → is_piece_of color (piece_at cells a) ≡ true → cell_reaches cells cell a square ≡ true → (is_step_from cells color square a || is_slide_below cells color square a 8) ≡ true
      go None at own f = absurd (cc)
      go (Some piece) at own f = elim (or_cases (has_step piece a square) (has_slide cells piece a square) f) [
        | inl step ↦ or_left _ _ (and_from _ _ own (ap (λ cell. cell_steps cell a square) at ∙ step))
        | inr slide ↦ (
            let s = shot_by cells piece.color a square h (slides_of piece.role) (slides_back_around piece.color piece.role) slide in
            or_right _ _ (some_below_at 8 (λ d. slider_attacks_from cells color square (direction_at d) a) s.0 s.1 (and_from _ _ (and_from _ _ own (ap (cell_slides_back (direction_at s.0)) at ∙ s.2)) s.3)))
      ]

  from_step : (a : ℕ) → is_step_from cells color square a ≡ true → is_attacked_from cells color square a ≡ true
  unfolding reaches
  from_step a e =
      let parts : (is_piece_of color (piece_at cells a) ≡ true) × (cell_steps (piece_at cells a) a square ≡ true) = and_parts _ _ e in
      and_from _ _ parts.0 (go (piece_at cells a) parts.1)
    where
      go : (cell : Option Piece) → cell_steps cell a square ≡ true → cell_reaches cells cell a square ≡ true
      go None f = absurd (cc)
      go (Some piece) f = or_left _ _ f

  from_slide : (a : ℕ) → is_slide_below cells color square a 8 ≡ true → is_attacked_from cells color square a ≡ true
  unfolding reaches
  from_slide a e =
      let way = some_below_which 8 (λ d. slider_attacks_from cells color square (direction_at d) a) e in
      let outer = and_parts _ _ way.2 in
      let inner = and_parts _ _ outer.0 in
      and_from _ _ inner.0 (go (direction_at way.0) (piece_at cells a) inner.1 outer.1)
    where
      go : (o : Offset) (cell : Option Piece) → cell_slides_back o cell ≡ true → slides cells o square a ≡ true → cell_reaches cells cell a square ≡ true
      go o None against line = absurd (cc)
      go o (Some piece) against line = or_right (has_step piece a square) _ (slide_by cells o piece a square low against line)

  pub attacked_from : (a : ℕ) → a < 81 → (is_step_from cells color square a || is_slide_below cells color square a 8) ≡ is_attacked_from cells color square a
  attacked_from a h = elim (cases_Bool (is_attacked_from cells color square a)) [
    | inl does ↦ slide_from a h does ∙ sym does
    | inr not_so ↦ or_from _ _ (false_from_ne_true (is_step_from cells color square a) (λ e. both_ways (is_attacked_from cells color square a) not_so (from_step a e)))
        (false_from_ne_true (is_slide_below cells color square a 8) (λ e. both_ways (is_attacked_from cells color square a) not_so (from_slide a e))) ∙ sym not_so
  ]

  -- against a direction in which none slides to the square no piece does
  pub none_from : (d : ℕ) → false ≡ slider_attacks_along cells color square d → (n : ℕ) → n < 81 → false ≡ slider_attacks_from cells color square (direction_at d) n
  unfolding slider_attacks_along
  none_from d none n h = sym (some_below_not 81 (slider_attacks_from cells color square (direction_at d)) n (sym none) h)

  step_attacks : some_below 81 (is_step_from cells color square) ≡ true → true ≡ is_attacked cells color square
  unfolding reaches
  step_attacks e =
      let which = some_below_which 81 (is_step_from cells color square) e in
      let parts : (is_piece_of color (piece_at cells which.0) ≡ true) × (cell_steps (piece_at cells which.0) which.0 square ≡ true) = and_parts _ _ which.2 in
      some_below_found 81 (is_attacked_from cells color square) which.0 which.1 (and_from _ _ parts.0 (go (piece_at cells which.0) which.0 parts.1))
    where
      go : (cell : Option Piece) (a : ℕ) → cell_steps cell a square ≡ true → cell_reaches cells cell a square ≡ true
      go None a f = absurd (cc)
      go (Some piece) a f = or_left _ _ f

  pub shot_attacks : some_below 8 (slider_attacks_along cells color square) ≡ true → is_attacked cells color square ≡ true
  unfolding reaches slider_attacks_along
  shot_attacks e =
      let way = some_below_which 8 (slider_attacks_along cells color square) e in
      let which = some_below_which 81 (slider_attacks_from cells color square (direction_at way.0)) way.2 in
      let outer = and_parts _ _ which.2 in
      let inner = and_parts _ _ outer.0 in
      some_below_at 81 (is_attacked_from cells color square) which.0 which.1 (and_from _ _ inner.0 (go (direction_at way.0) (piece_at cells which.0) which.0 inner.1 outer.1))
    where
      go : (o : Offset) (cell : Option Piece) (a : ℕ) → cell_slides_back o cell ≡ true → slides cells o square a ≡ true → cell_reaches cells cell a square ≡ true
      go o None a against line = absurd (cc)
      go o (Some piece) a against line = or_right (has_step piece a square) _ (slide_by cells o piece a square low against line)

  pub attacked_by_step : some_below 81 (is_step_from cells color square) ≡ true → true ≡ is_attacked cells color square
  attacked_by_step e = step_attacks e

  pub attacked_by_slide : (shot : Bool) → some_below 81 (is_step_from cells color square) ≡ false → shot ≡ some_below 8 (slider_attacks_along cells color square) → shot ≡ is_attacked cells color square
  attacked_by_slide true none e = sym (shot_attacks (sym e))
  attacked_by_slide false none e = sym (some_below_no 81 (is_attacked_from cells color square) (λ a h. false_from_ne_true (is_attacked_from cells color square a) (λ f. elim (step_or_shot a h f) [
    | inl step ↦ both_ways (some_below 81 (is_step_from cells color square)) none step
    | inr shot ↦ both_ways (some_below 8 (slider_attacks_along cells color square)) (sym e) shot
  ])))

  -- an attacker that slides against a direction is a sniper
  shot_sniper : (d a : ℕ) → d < 8 → slider_attacks_from cells color square (direction_at d) a ≡ true → is_sniper cells color square a ≡ true
  unfolding are_lined
  shot_sniper d a h e =
      let outer = and_parts _ _ e in
      let inner = and_parts _ _ outer.0 in
      and_from _ _ (and_from _ _ inner.0 (slider (piece_at cells a) inner.1)) (lined_aligned cells square a (one_of (λ q. slides cells q square a) (direction_at d) around (direction_around d h) outer.1))
    where
      slider : (cell : Option Piece) → cell_slides_back (direction_at d) cell ≡ true → is_slider cell ≡ true
      slider None f = absurd (cc)
      slider (Some piece) f = slides_role piece.role (λ p. is_same_offset (back (for_side piece.color p)) (direction_at d)) f

  module _ (snipers : ℕ) (shots : (b : ℕ) → b < 81 → has_bit snipers b ≡ is_sniper cells color square b) where
    no_slider_attack_from : (d : ℕ) → d < 8 → ((a : ℕ) → a < 81 → slider_attacks_from cells color square (direction_at d) a ≡ true → has_bit snipers a ≡ false) → slider_attacks_along cells color square d ≡ false
    unfolding slider_attacks_along
    no_slider_attack_from d h none = some_below_no 81 (slider_attacks_from cells color square (direction_at d)) (λ a l. false_from_ne_true (slider_attacks_from cells color square (direction_at d) a) (λ e. both_ways (has_bit snipers a) (none a l e) (shots a l ∙ shot_sniper d a h e)))

    pub no_sniper : snipers ≡ 0 → some_below 81 (is_step_from cells color square) ≡ false → false ≡ is_attacked cells color square
    no_sniper bare none = attacked_by_slide false none (sym (some_below_no 8 (slider_attacks_along cells color square) (λ d h. no_slider_attack_from d h (λ a l e. ap (λ (m : ℕ). has_bit m a) bare ∙ has_bit-none a))))

    -- where there is no sniper, each piece that attacks steps there
    pub no_slide_from : snipers ≡ 0 → (a : ℕ) → a < 81 → is_step_from cells color square a ≡ is_attacked_from cells color square a
    no_slide_from bare a h =
        let none : is_slide_below cells color square a 8 ≡ false = some_below_no 8 (λ d. slider_attacks_from cells color square (direction_at d) a) (λ d l. false_from_ne_true (slider_attacks_from cells color square (direction_at d) a) (λ e. both_ways (has_bit snipers a) (ap (λ (m : ℕ). has_bit m a) bare ∙ has_bit-none a) (shots a h ∙ shot_sniper d a l e))) in
        or_none (is_step_from cells color square a) ∙ (ap (λ b. is_step_from cells color square a || b) (sym none) ∙ attacked_from a h)

    pub no_sniper_ahead : (d : ℕ) → d < 8 → bit_and (ray_of (direction_at d) square) snipers ≡ 0 → slider_attacks_along cells color square d ≡ false
    no_sniper_ahead d h bare = no_slider_attack_from d h (λ a l e. false_from_ne_true (has_bit snipers a) (λ set.
        both_ways (has_bit (bit_and (ray_of (direction_at d) square) snipers) a) (ap (λ (m : ℕ). has_bit m a) bare ∙ has_bit-none a)
        (has_bit-and (ray_of (direction_at d) square) snipers a ∙ and_from _ _ (has_bit-ray (direction_at d) square a l ∙ slides_bare cells (direction_at d) square a ((and_parts _ _ e).1)) set)))

    pub shots_first : (d clear : ℕ) → d < 8 → ((b : ℕ) → b < 81 → has_bit clear b ≡ slides cells (direction_at d) square b) → Covers (bit_and clear snipers) (slider_attacks_from cells color square (direction_at d))
    shots_first d clear h lines = record {
      all = λ a l e. has_bit-and clear snipers a ∙ and_from _ _ (lines a l ∙ (and_parts _ _ e).1) (shots a l ∙ shot_sniper d a h e);
    }

    pub shots_open : (d clear n : ℕ) → ((b : ℕ) → b < 81 → has_bit clear b ≡ slides cells (direction_at d) square b) → n < 81 → has_bit (bit_and clear snipers) n ≡ true → (is_piece_of color (piece_at cells n) ≡ true) × (slides cells (direction_at d) square n ≡ true)
    shots_open d clear n lines l e =
        let parts : (has_bit clear n ≡ true) × (has_bit snipers n ≡ true) = and_parts _ _ (sym (has_bit-and clear snipers n) ∙ e) in
        let sniper : is_sniper cells color square n ≡ true = sym (shots n l) ∙ parts.1 in
        let inner = and_parts _ _ ((and_parts _ _ sniper).0) in
        (inner.0, sym (lines n l) ∙ parts.0)

    -- no slide comes from an open line
    pub none_shoots : (d : ℕ) → ((n : ℕ) → slides cells (direction_at d) square n ≡ true → is_none (piece_at cells n) ≡ true) → false ≡ slider_attacks_along cells color square d
    unfolding slider_attacks_along
    none_shoots d free = sym (some_below_no 81 (slider_attacks_from cells color square (direction_at d)) (λ a l. false_from_ne_true (slider_attacks_from cells color square (direction_at d) a) (λ e. (
        let outer = and_parts _ _ e in
        both_ways (is_none (piece_at cells a)) (some_of color (piece_at cells a) ((and_parts _ _ outer.0).0)) (free a outer.1)))))

    module _ (d f : ℕ) (range : d < 8) (inside : f < 81) (line : slides cells (direction_at d) square f ≡ true) (piece : is_none (piece_at cells f) ≡ false) where
      -- only the first piece in a direction attacks by a slide
      first_alone : (a : ℕ) → slider_attacks_from cells color square (direction_at d) a ≡ true → a ≡ f
      first_alone a e =
          let outer = and_parts _ _ e in
          one_piece cells (direction_at d) square a f outer.1 line (some_of color (piece_at cells a) ((and_parts _ _ outer.0).0)) piece

      pub first_shoots : has_bit snipers f ≡ true → cell_slides_back (direction_at d) (piece_at cells f) ≡ slider_attacks_along cells color square d
      unfolding slider_attacks_along
      first_shoots set = elim (cases_Bool (cell_slides_back (direction_at d) (piece_at cells f))) [
        | inl against ↦ (
            let sniper : is_sniper cells color square f ≡ true = sym (shots f inside) ∙ set in
            let own : is_piece_of color (piece_at cells f) ≡ true = (and_parts _ _ ((and_parts _ _ sniper).0)).0 in
            against ∙ some_below_found 81 (slider_attacks_from cells color square (direction_at d)) f inside (and_from _ _ (and_from _ _ own against) line))
        | inr away ↦ away ∙ sym (some_below_no 81 (slider_attacks_from cells color square (direction_at d)) (λ a l. false_from_ne_true (slider_attacks_from cells color square (direction_at d) a) (λ e. (
            let inner = and_parts _ _ ((and_parts _ _ e).0) in
            both_ways (cell_slides_back (direction_at d) (piece_at cells f)) away (ap (λ (k : ℕ). cell_slides_back (direction_at d) (piece_at cells k)) (sym (first_alone a e)) ∙ inner.1)))))
      ]

      -- it alone, if it slides back
      pub first_from : has_bit snipers f ≡ true → cell_slides_back (direction_at d) (piece_at cells f) ≡ true → (n : ℕ) → (f == n) ≡ slider_attacks_from cells color square (direction_at d) n
      first_from set against n = elim (cases_eq f n) [
        | inl same ↦ (
            let sniper : is_sniper cells color square f ≡ true = sym (shots f inside) ∙ set in
            let own : is_piece_of color (piece_at cells f) ≡ true = (and_parts _ _ ((and_parts _ _ sniper).0)).0 in
            eq-eqb f n same ∙ sym (subst (λ (x : ℕ). slider_attacks_from cells color square (direction_at d) x ≡ true) same (and_from _ _ (and_from _ _ own against) line)))
        | inr other ↦ ne_eqb f n other ∙ sym (false_from_ne_true (slider_attacks_from cells color square (direction_at d) n) (λ e. other (sym (first_alone n e))))
      ]

      pub first_harmless : has_bit snipers f ≡ false → false ≡ slider_attacks_along cells color square d
      first_harmless clear = sym (no_slider_attack_from d range (λ a l e. ap (has_bit snipers) (first_alone a e) ∙ clear))

-- ---- sliders direction by direction

pub one_more_slider : (cells : Cells) (color : Color) (square n d found more first : ℕ) → has_bit found n ≡ is_slide_below cells color square n d → has_bit more n ≡ (has_bit found n || n == first) → (first == n) ≡ slider_attacks_from cells color square (direction_at d) n → has_bit more n ≡ is_slide_below cells color square n (d + 1)
one_more_slider cells color square n d found more first before bits at =
    bits ∙ (ap (λ b. b || n == first) before ∙ (ap (λ b. is_slide_below cells color square n d || b) (eq_either n first ∙ at) ∙ sym (some_below_more d (λ d. slider_attacks_from cells color square (direction_at d) n))))

pub no_more_slider : (cells : Cells) (color : Color) (square n d found : ℕ) → has_bit found n ≡ is_slide_below cells color square n d → false ≡ slider_attacks_from cells color square (direction_at d) n → has_bit found n ≡ is_slide_below cells color square n (d + 1)
no_more_slider cells color square n d found before at =
    before ∙ (or_none (is_slide_below cells color square n d) ∙ (ap (λ b. is_slide_below cells color square n d || b) at ∙ sym (some_below_more d (λ d. slider_attacks_from cells color square (direction_at d) n))))

-- ---- steps

cell_near : (cell : Option Piece) (a b : ℕ) → a < 81 → cell_steps cell a b ≡ true → is_near b a ≡ true
cell_near None a b h e = absurd (cc)
cell_near (Some piece) a b h e = step_near piece a b h e

pub steps_first : (cells : Cells) (square among near : ℕ) → ((b : ℕ) → b < 81 → has_bit near b ≡ is_near square b) → Covers (bit_and near among) (is_step_among cells among square)
steps_first cells square among near nears = record {
  all = λ a h e. (
      let parts : (has_bit among a ≡ true) × (cell_steps (piece_at cells a) a square ≡ true) = and_parts _ _ e in
      has_bit-and near among a ∙ and_from _ _ (nears a h ∙ cell_near (piece_at cells a) a square h parts.1) parts.0);
}

near_implied : (near among step : Bool) → (step ≡ true → near ≡ true) → ((near && among) && step) ≡ (among && step)
near_implied true among step h = grind arith
near_implied false among true h = absurd (both_ways false refl (h refl))
near_implied false among false h = grind arith

-- nothing else than what is near steps there
pub steps_near : (cells : Cells) (square among near n : ℕ) → n < 81 → ((b : ℕ) → b < 81 → has_bit near b ≡ is_near square b) → (has_bit (bit_and near among) n && cell_steps (piece_at cells n) n square) ≡ is_step_among cells among square n
steps_near cells square among near n h nears =
    ap (λ b. b && cell_steps (piece_at cells n) n square) (has_bit-and near among n)
    ∙ near_implied (has_bit near n) (has_bit among n) (cell_steps (piece_at cells n) n square) (λ e. nears n h ∙ cell_near (piece_at cells n) n square h e)

pub steps_among : (near among n : ℕ) → has_bit (bit_and near among) n ≡ true → has_bit among n ≡ true
steps_among near among n e = (and_parts _ _ (sym (has_bit-and near among n) ∙ e)).1

-- ---- the pieces of a mask, and another board on which a side has just these

some_below_alike : (n : ℕ) (s t : ℕ → Bool) → ((i : ℕ) → i < n → s i ≡ t i) → some_below n s ≡ some_below n t
unfolding some_below
some_below_alike zero s t h = refl
some_below_alike (suc n) s t h = ap (λ b. b || s n) (some_below_alike n s t (λ i l. h i (omega arith))) ∙ ap (λ b. some_below n t || b) (h n (omega arith))

module _ (cells seen : Cells) (color : Color) (among : ℕ) (own : (n : ℕ) → n < 81 → has_bit among n ≡ is_piece_of color (piece_at seen n)) (same : (n : ℕ) → n < 81 → has_bit among n ≡ true → piece_at seen n ≡ piece_at cells n) where
  -- tests of the side's pieces agree on both boards
  pieces_alike : (test : Option Piece → Bool) (n : ℕ) → n < 81 → (has_bit among n && test (piece_at cells n)) ≡ (is_piece_of color (piece_at seen n) && test (piece_at seen n))
  pieces_alike test n l = elim (cases_Bool (has_bit among n)) [
    | inl set ↦ ap (λ b. b && test (piece_at cells n)) (own n l) ∙ ap (λ cell. is_piece_of color (piece_at seen n) && test cell) (sym (same n l set))
    | inr clear ↦ ap (λ b. b && test (piece_at cells n)) clear ∙ sym (ap (λ b. b && test (piece_at seen n)) (sym (own n l) ∙ clear))
  ]

  pub step_alike : (square n : ℕ) → n < 81 → is_step_among cells among square n ≡ is_step_from seen color square n
  step_alike square n l = pieces_alike (λ cell. cell_steps cell n square) n l

  pub steps_alike : (square : ℕ) → some_below 81 (is_step_among cells among square) ≡ some_below 81 (is_step_from seen color square)
  steps_alike square = some_below_alike 81 (is_step_among cells among square) (is_step_from seen color square) (λ n l. step_alike square n l)

  pub snipers_alike : (square sliders line n : ℕ) → n < 81 → has_bit sliders n ≡ is_slider (piece_at cells n) → has_bit line n ≡ are_aligned square n → has_bit (bit_and (bit_and among sliders) line) n ≡ is_sniper seen color square n
  snipers_alike square sliders line n l e f =
      has_bit-and (bit_and among sliders) line n
      ∙ (ap (λ b. b && has_bit line n) (has_bit-and among sliders n ∙ (ap (λ b. has_bit among n && b) e ∙ pieces_alike is_slider n l))
      ∙ ap (λ b. is_piece_of color (piece_at seen n) && is_slider (piece_at seen n) && b) f)

-- a sniper is a piece of its side
pub sniper_own : (cells : Cells) (color : Color) (square n : ℕ) → is_sniper cells color square n ≡ true → is_piece_of color (piece_at cells n) ≡ true
sniper_own cells color square n e = (and_parts _ _ ((and_parts _ _ e).0)).0

pub ruleset stepping = (covers_less, covers_none)

pub ruleset attacking = (attacked_by_step, attacked_by_slide, no_sniper)
