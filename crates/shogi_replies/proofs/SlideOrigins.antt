-- A new slide leads over a square left empty, on a line with the slider.
use Rattle.std.proofs.Common.{◌≡◌, ◌≢◌, ◌⊎◌, ℕ, ◌+◌, ◌-◌, ◌<◌, true, false, refl, sym, ap, ◌∙◌, arith, inl, inr, Option, Some, None, List, [], ◌∷◌}
use Rattle.std.specs.Prelude.{is_none}
use Rattle.std.specs.List.{list_any, list_all}
use Rattle.std.proofs.lemmas.Bool.{cases_lt, cases_eq, false_from_ne_true, both_ways, and_parts, and_from, or_cases, or_left, or_right}
use Rattle.shogi_core.specs.declared.offset.Offset.{Offset}
use Rattle.shogi_core.specs.declared.piece.Color.{Color}
use Rattle.shogi_core.specs.declared.piece.Piece.{Piece}
use Rattle.shogi_core.specs.Attack.{is_attacked_from, is_attacked}
use Rattle.shogi_core.specs.Below.{all_below}
use Rattle.shogi_core.specs.Cell.{is_piece_of, is_slider}
use Rattle.shogi_core.specs.Lines.{around, are_aligned, are_lined, back}
use Rattle.shogi_core.specs.Movement.{Cells, away, leads, is_step_empty, slides_across, slides, for_side, slides_of, has_slide, has_step, cell_reaches, reaches, piece_at}
use Rattle.shogi_core.specs.Rays.{is_on_ray}
use Rattle.shogi_core.proofs.Back.{away_back, away_between, leads_is, is_leads}
use Rattle.shogi_core.proofs.Below.{all_below_at, all_below_yes, some_below_at, some_below_not, some_below_no}
use Rattle.shogi_core.proofs.RayLaws.{slides_bare}
use Rattle.shogi_core.proofs.SeenLaws.{lined_back, slides_role}
use Rattle.shogi_core.proofs.Discovered.{same_way, one_of, slides_around, slides_was, some_below_which}

-- ---- two squares of one line

-- of two squares that lead to a third in one direction, the farther leads to the nearer
leads_between : (o : Offset) (far near s m n : ℕ) → near < 81 → m < 8 → n < m → slides_across [] o far s m ≡ true → away (n + 1) o near ≡ Some s → is_on_ray o far near ≡ true
leads_between o far near s m n hn small less past led =
    let parts : (leads (m + 1) o far s ≡ true) × (all_below m (is_step_empty [] o far) ≡ true) = and_parts _ _ past in
    let sum : m - n + (n + 1) ≡ m + 1 = omega arith in
    let less_one : m - n - 1 + 1 ≡ m - n = omega arith in
    let at : away (m - n) o far ≡ Some near = sym (away_between (m - n) (n + 1) o far s (ap (λ (k : ℕ). away k o far) sum ∙ leads_is _ s parts.0)) ∙ away_back (n + 1) o near s hn led in
    some_below_at 8 (slides_across [] o far near) (m - n - 1) (omega arith)
    (and_from _ _ (is_leads _ near (ap (λ (k : ℕ). away k o far) less_one ∙ at)) (all_below_yes (m - n - 1) (is_step_empty [] o far) (λ i l. all_below_at m (is_step_empty [] o far) i parts.1 (omega arith))))

-- two squares that lead to a third in one direction lie on a line
pub aligned_from : (o : Offset) (a x s : ℕ) → list_any (same_way o) around ≡ true → a < 81 → x < 81 → a ≢ x → is_on_ray o a s ≡ true → is_on_ray o x s ≡ true → are_aligned x a ≡ true
unfolding are_lined
aligned_from o a x s among ha hx apart one other =
    let m = some_below_which 8 (slides_across [] o a s) one in
    let n = some_below_which 8 (slides_across [] o x s) other in
    let led_a : away (m.0 + 1) o a ≡ Some s = leads_is _ s ((and_parts _ _ m.2).0) in
    let led_x : away (n.0 + 1) o x ≡ Some s = leads_is _ s ((and_parts _ _ n.2).0) in
    elim (cases_lt m.0 n.0) [
      | inl nearer ↦ one_of (λ d. slides [] d x a) o around among (leads_between o x a s n.0 m.0 ha n.1 nearer n.2 led_a)
      | inr least ↦ elim (cases_eq m.0 n.0) [
        | inl same ↦ absurd (apart (
            let back_a : away (m.0 + 1) (back o) s ≡ Some a = away_back (m.0 + 1) o a s ha led_a in
            let back_x : away (n.0 + 1) (back o) s ≡ Some x = away_back (n.0 + 1) o x s hx led_x in
            let one : Some a ≡ Some x = sym back_a ∙ (ap (λ (k : ℕ). away (k + 1) (back o) s) same ∙ back_x) in
            cc))
        | inr other ↦ lined_back [] a x ha (one_of (λ d. slides [] d a x) o around among (leads_between o a x s m.0 n.0 hx m.1 (omega arith) m.2 led_x))
      ]
    ]

-- ---- attacks after a move

-- no slider of the color is on a line with a square left empty
module _ (old new : Cells) (Left : ℕ → Type 0) (opened : (x : ℕ) → is_none (piece_at new x) ≡ true → (is_none (piece_at old x) ≡ true) ⊎ Left x) (color : Color)
    (bare : (x a : ℕ) → Left x → a < 81 → is_piece_of color (piece_at new a) ≡ true → is_slider (piece_at new a) ≡ true → (x < 81) × (a ≢ x) × (are_aligned x a ≡ false)) where
  -- a slide of a piece of the color was there before
  origin_slide : (piece : Piece) (a s : ℕ) → a < 81 → piece_at new a ≡ Some piece → is_piece_of color (piece_at new a) ≡ true → has_slide new piece a s ≡ true → has_slide old piece a s ≡ true
  origin_slide piece a s ha at own e = each (slides_of piece.role) (slides_around piece.color piece.role) e
    where
      slider : is_slider (piece_at new a) ≡ true
      slider = ap is_slider at ∙ slides_role piece.role (λ o. slides new (for_side piece.color o) a s) e

      over : (o : Offset) (x : ℕ) → list_any (same_way o) around ≡ true → Left x → slides new o a s ≡ true → slides old o x s ≡ true → ⊥
      over o x among left here lined =
          let off : (x < 81) × (a ≢ x) × (are_aligned x a ≡ false) = bare x a left ha own slider in
          both_ways (are_aligned x a) off.2 (aligned_from o a x s among ha off.0 off.1 (slides_bare new o a s here) (slides_bare old o x s lined))

      each : (os : List Offset) → list_all (λ o. list_any (same_way (for_side piece.color o)) around) os ≡ true → list_any (λ o. slides new (for_side piece.color o) a s) os ≡ true → list_any (λ o. slides old (for_side piece.color o) a s) os ≡ true
      each [] all e = e
      each (o ∷ os) all e =
          let parts : (list_any (same_way (for_side piece.color o)) around ≡ true) × (list_all (λ p. list_any (same_way (for_side piece.color p)) around) os ≡ true) = and_parts _ _ all in
          elim (or_cases _ _ e) [
            | inl here ↦ elim (slides_was old new Left opened (for_side piece.color o) a s here) [
              | inl lined ↦ absurd (over (for_side piece.color o) lined.0 parts.0 lined.1 here lined.2)
              | inr was ↦ or_left _ _ was
            ]
            | inr later ↦ or_right (slides old (for_side piece.color o) a s) _ (each os parts.1 later)
          ]

  origin_reach : (cell : Option Piece) (a s : ℕ) → a < 81 → piece_at new a ≡ cell → is_piece_of color (piece_at new a) ≡ true → cell_reaches new cell a s ≡ true → cell_reaches old cell a s ≡ true
  origin_reach None a s ha at own e = e
  origin_reach (Some piece) a s ha at own e = elim (or_cases (has_step piece a s) (has_slide new piece a s) e) [
    | inl step ↦ or_left (has_step piece a s) (has_slide old piece a s) step
    | inr slide ↦ or_right (has_step piece a s) (has_slide old piece a s) (origin_slide piece a s ha at own slide)
  ]

  -- an attacked square was attacked before unless a new piece reaches it
  pub attacked_from_origin : (s : ℕ) → ((a : ℕ) → is_piece_of color (piece_at new a) ≡ true → (piece_at old a ≡ piece_at new a) ⊎ (reaches new a s ≡ false)) → is_attacked old color s ≡ false → is_attacked new color s ≡ false
  unfolding reaches
  attacked_from_origin s kept safe = some_below_no 81 (is_attacked_from new color s) (λ a l. false_from_ne_true (is_attacked_from new color s a) (λ e.
      let parts : (is_piece_of color (piece_at new a) ≡ true) × (reaches new a s ≡ true) = and_parts _ _ e in
      elim (kept a parts.0) [
        | inl same ↦ (
            let was : is_attacked_from old color s a ≡ true = and_from _ _ (ap (is_piece_of color) same ∙ parts.0) (ap (λ cell. cell_reaches old cell a s) same ∙ origin_reach (piece_at new a) a s l refl parts.0 parts.1) in
            both_ways (is_attacked_from old color s a) (some_below_not 81 (is_attacked_from old color s) a safe l) was)
        | inr short ↦ both_ways (reaches new a s) short parts.1
      ]))
