-- A side's only king is attacked on its destination exactly if it would be with its old square left empty.
use Rattle.std.proofs.Common.{◌≡◌, ◌≢◌, ◌⊎◌, ℕ, ◌<◌, Bool, true, false, refl, sym, ap, subst, ◌∙◌, arith, inl, inr, Option, Some, None, set, length, get_or-set_same, get_or-set_other, length-set}
use Rattle.std.specs.Prelude.{◌&&◌, not, is_none}
use Rattle.std.proofs.lemmas.Bool.{agree_below_at, cases_Bool, cases_eq, or_cases, or_left, or_right, false_from_ne_true, true_from_ne_false, both_ways, and_parts, and_from, not-true}
use Rattle.shogi_core.specs.declared.piece.Color.{Color}
use Rattle.shogi_core.specs.declared.piece.Piece.{Piece}
use Rattle.shogi_core.specs.declared.moves.Move.TheVariants.{Board}
use Rattle.shogi_core.specs.Attack.{in_check, is_attacked, is_attacked_from, is_open_king}
use Rattle.shogi_core.specs.Below.{some_below}
use Rattle.shogi_core.specs.Cell.{is_piece_of, is_king}
use Rattle.shogi_core.specs.Lines.{are_aligned, are_lined, is_near}
use Rattle.shogi_core.specs.Movement.{Cells, away, piece_at, reaches, cell_reaches, has_step, has_slide, slides, slides_of}
use Rattle.shogi_core.specs.Pieces.{opponent_of}
use Rattle.shogi_core.specs.Position.{Shogi}
use Rattle.shogi_core.specs.Rays.{direction_at}
use Rattle.shogi_core.proofs.Below.{some_below_at, some_below_not}
use Rattle.shogi_core.proofs.Discovered.{attacked_was, attacked_was_but, slides_was, some_below_which}
use Rattle.shogi_core.proofs.SeenLaws.{lined_aligned, reaches_near, slides_back_around}
use Rattle.shogi_core.proofs.SliderAttacks.{shot_by, slide_by}
use Rattle.shogi_moves.specs.After.{piece_moved}
use Rattle.shogi_moves.specs.Destinations.{leaves_king_safe}
use Rattle.shogi_moves.proofs.CheckInfoLaws.{king_set, other_side}
use Rattle.shogi_moves.proofs.MovedPieces.{is_king-piece_moved}

-- ---- no piece reaches the square on which it stands

abbrev is_apart : ℕ → Bool
is_apart s = not (is_near s s) && not (are_aligned s s)

apart : (s : ℕ) → s < 81 → is_apart s ≡ true
unfolding away are_lined some_below
apart s h = agree_below_at is_apart (λ _. true) 81 s refl h

unlined : (cells : Cells) (s : ℕ) → s < 81 → are_lined cells s s ≡ false
unlined cells s h = false_from_ne_true (are_lined cells s s) (λ e. both_ways (are_aligned s s) (not-true _ ((and_parts (not (is_near s s)) _ (apart s h)).1)) (lined_aligned cells s s e))

pub unreached : (cells : Cells) (s : ℕ) → s < 81 → reaches cells s s ≡ false
unreached cells s h = false_from_ne_true (reaches cells s s) (λ e. elim (reaches_near cells s s h e) [
  | inl near ↦ both_ways (is_near s s) (not-true _ ((and_parts (not (is_near s s)) _ (apart s h)).0)) near
  | inr slide ↦ both_ways (are_lined cells s s) (unlined cells s h) slide.1
])

-- ---- the king

module _ (cells : Cells) (side : Color) (from to : ℕ) (v : Option Piece) (len : length cells ≡ 81) (ht : to < 81) where
  filled_at : piece_at (set (set cells from None) to v) to ≡ v
  filled_at = get_or-set_same (set cells from None) to v None (omega (arith, length-set cells from None))

  -- an attacker of a square attacks any piece put there
  still_attacked : is_attacked (set cells from None) (opponent_of side) to ≡ true → is_attacked (set (set cells from None) to v) (opponent_of side) to ≡ true
  still_attacked e = true_from_ne_false (is_attacked (set (set cells from None) to v) (opponent_of side) to) (λ safe.
      both_ways (is_attacked (set cells from None) (opponent_of side) to)
      (attacked_was_but (set (set cells from None) to v) (set cells from None) (λ x. x ≡ to)
      (λ x f. grind (arith, cases_eq x to, get_or-set_other (set cells from None) to x v None))
      (opponent_of side) to
      (λ a own. elim (cases_eq a to) [
        | inl at ↦ inr (subst (λ (y : ℕ). reaches (set cells from None) y to ≡ false) (sym at) (unreached (set cells from None) to ht))
        | inr other ↦ inl (get_or-set_other (set cells from None) to a v None other)
      ])
      (λ x at. subst (λ (y : ℕ). are_lined (set (set cells from None) to v) y to ≡ false) (sym at) (unlined (set (set cells from None) to v) to ht))
      safe)
      e)

  pub king_lost : is_king side v ≡ true → is_attacked (set cells from None) (opponent_of side) to ≡ true → in_check (set (set cells from None) to v) side ≡ true
  unfolding in_check
  king_lost king e = some_below_at 81 (is_open_king (set (set cells from None) to v) side) to ht (and_from _ _ (ap (is_king side) filled_at ∙ king) (still_attacked e))

-- a king is a piece of its side
pub king_own : (side : Color) (cell : Option Piece) → is_king side cell ≡ true → is_piece_of side cell ≡ true
king_own side cell e = grind arith

pub king_steps : (p : Shogi) (from to : ℕ) (found : Bool) → length p.cells ≡ 81 → from < 81 → to < 81 → is_king p.side (piece_at p.cells from) ≡ true → ((x : ℕ) → x < 81 → x ≢ from → is_king p.side (piece_at p.cells x) ≡ false)
    → found ≡ is_attacked (set p.cells from None) (opponent_of p.side) to → not found ≡ leaves_king_safe p (Board from to false)
king_steps p from to found len hf ht king lone is =
    let moved : is_king p.side (piece_moved false (piece_at p.cells from)) ≡ true = is_king-piece_moved p.side false (piece_at p.cells from) ∙ king in
    grind (arith, king_lost p.cells p.side from to (piece_moved false (piece_at p.cells from)) len ht moved, king_set p.cells p.side from to (piece_moved false (piece_at p.cells from)) len hf ht (king_own p.side _ moved) lone)

-- ---- a king out of check blocks no attack

module _ (cells : Cells) (side : Color) (from : ℕ) (len : length cells ≡ 81) (hf : from < 81) (king : is_king side (piece_at cells from) ≡ true) (safe : in_check cells side ≡ false) where
  lifted_at : piece_at (set cells from None) from ≡ None
  lifted_at = get_or-set_same cells from None None (omega arith)

  -- an enemy piece on the board without the king stood there with it
  foe_there : (a : ℕ) → is_piece_of (opponent_of side) (piece_at (set cells from None) a) ≡ true → piece_at (set cells from None) a ≡ piece_at cells a
  foe_there a own = grind (arith, cases_eq a from, lifted_at, get_or-set_other cells from a None None)

  foe_kept : (a : ℕ) → is_piece_of (opponent_of side) (piece_at cells a) ≡ true → piece_at (set cells from None) a ≡ piece_at cells a
  foe_kept a own = grind (arith, cases_eq a from, other_side side (piece_at cells from) (king_own side (piece_at cells from) king), get_or-set_other cells from a None None)

  opened : (x : ℕ) → is_none (piece_at (set cells from None) x) ≡ true → (is_none (piece_at cells x) ≡ true) ⊎ (x ≡ from)
  opened x e = elim (cases_eq x from) [ inl here ↦ inr here | inr other ↦ inl (ap is_none (sym (get_or-set_other cells from x None None other)) ∙ e) ]

  closed : (x : ℕ) → is_none (piece_at cells x) ≡ true → (is_none (piece_at (set cells from None) x) ≡ true) ⊎ ⊥
  closed x e = grind (arith, cases_eq x from, lifted_at, get_or-set_other cells from x None None)

  unattacked : is_attacked cells (opponent_of side) from ≡ false
  unfolding in_check
  unattacked = false_from_ne_true (is_attacked cells (opponent_of side) from) (λ e. both_ways (is_open_king cells side from) (some_below_not 81 (is_open_king cells side) from safe hf) (and_from _ _ king e))

  module _ (to : ℕ) (ht : to < 81) where
    slide_was : (a : ℕ) (piece : Piece) → a < 81 → piece_at cells a ≡ Some piece → is_piece_of (opponent_of side) (piece_at cells a) ≡ true → has_slide (set cells from None) piece a to ≡ true → has_slide cells piece a to ≡ true
    unfolding reaches
    slide_was a piece ha at own e =
        let s = shot_by (set cells from None) piece.color a to ha (slides_of piece.role) (slides_back_around piece.color piece.role) e in
        elim (slides_was cells (set cells from None) (λ x. x ≡ from) opened (direction_at s.0) to a s.3) [
          | inl left ↦ absurd (
              let far : slides cells (direction_at s.0) from a ≡ true = subst (λ (x : ℕ). slides cells (direction_at s.0) x a ≡ true) left.1 left.2 in
              let hit : has_slide cells piece a from ≡ true = slide_by cells (direction_at s.0) piece a from hf s.2 far in
              both_ways (is_attacked_from cells (opponent_of side) from a) (some_below_not 81 (is_attacked_from cells (opponent_of side) from) a unattacked ha)
              (and_from _ _ own (ap (λ cell. cell_reaches cells cell a from) at ∙ or_right (has_step piece a from) _ hit)))
          | inr still ↦ slide_by cells (direction_at s.0) piece a to ht s.2 still
        ]

    reach_kept : (a : ℕ) (cell : Option Piece) → a < 81 → piece_at cells a ≡ cell → is_piece_of (opponent_of side) (piece_at cells a) ≡ true → cell_reaches (set cells from None) cell a to ≡ true → cell_reaches cells cell a to ≡ true
    reach_kept a None ha at own e = e
    reach_kept a (Some piece) ha at own e = elim (or_cases (has_step piece a to) (has_slide (set cells from None) piece a to) e) [
      | inl step ↦ or_left (has_step piece a to) _ step
      | inr slide ↦ or_right (has_step piece a to) _ (slide_was a piece ha at own slide)
    ]

    attacked_before : is_attacked (set cells from None) (opponent_of side) to ≡ true → is_attacked cells (opponent_of side) to ≡ true
    unfolding reaches
    attacked_before e =
        let who = some_below_which 81 (is_attacked_from (set cells from None) (opponent_of side) to) e in
        let parts : (is_piece_of (opponent_of side) (piece_at (set cells from None) who.0) ≡ true) × (reaches (set cells from None) who.0 to ≡ true) = and_parts _ _ who.2 in
        let same : piece_at (set cells from None) who.0 ≡ piece_at cells who.0 = foe_there who.0 parts.0 in
        let own : is_piece_of (opponent_of side) (piece_at cells who.0) ≡ true = ap (is_piece_of (opponent_of side)) (sym same) ∙ parts.0 in
        some_below_at 81 (is_attacked_from cells (opponent_of side) to) who.0 who.1
        (and_from _ _ own (reach_kept who.0 (piece_at cells who.0) who.1 refl own (ap (λ cell. cell_reaches (set cells from None) cell who.0 to) (sym same) ∙ parts.1)))

    pub in_no_way : is_attacked cells (opponent_of side) to ≡ is_attacked (set cells from None) (opponent_of side) to
    in_no_way = elim (cases_Bool (is_attacked (set cells from None) (opponent_of side) to)) [
      | inl hit ↦ attacked_before hit ∙ sym hit
      | inr none ↦ attacked_was (set cells from None) cells (λ x. ⊥) closed (opponent_of side) to foe_kept (λ x left. absurd left) none ∙ sym none
    ]
