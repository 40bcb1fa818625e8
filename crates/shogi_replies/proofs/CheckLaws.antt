-- The squares from which a piece attacks a king are those that it would reach from the king's square in the other colour.
use Rattle.std.proofs.Common.{◌≡◌, ℕ, ◌<◌, Bool, true, false, not, sym, ap, subst, ◌∙◌, inl, inr, Option, Some, List, [], ◌∷◌, bit_and, bit_or, arith}
use Rattle.std.specs.Prelude.{◌&&◌, ◌==◌}
use Rattle.std.specs.List.{list_any, list_all}
use Rattle.std.proofs.lemmas.Bool.{cases_Bool, cases_eq, false_from_ne_true, both_ways, and_parts, and_from, or_parts, or_cases, or_left, or_right}
use Rattle.shogi_core.specs.declared.offset.Offset.{Offset}
use Rattle.shogi_core.specs.declared.piece.Color.{Color}
use Rattle.shogi_core.specs.declared.piece.Piece.{Piece}
use Rattle.shogi_core.specs.declared.piece.Role.{Role}
use Rattle.shogi_core.specs.Bits.{has_bit}
use Rattle.shogi_core.specs.Cell.{is_king}
use Rattle.shogi_core.specs.Lines.{back}
use Rattle.shogi_core.specs.Movement.{Cells, piece_at, cell_reaches, has_step, has_slide, leads, slides, for_side, steps_of, slides_of}
use Rattle.shogi_core.specs.Pieces.{opponent_of}
use Rattle.shogi_core.proofs.BitLaws.{has_bit-and, has_bit-or}
use Rattle.shogi_core.proofs.Discovered.{same_way, same_way_is, list_any_kept}
use Rattle.shogi_core.proofs.SeenLaws.{leads_back, slides_back}
use Rattle.shogi_replies.specs.ReplyInfo.{IsHarmless, Sees}
use Rattle.shogi_replies.proofs.ReplyLaws.{harmless_far}

-- from squares outside the set the piece attacks none of the side's kings that are not left to look at
pub record ChecksWithin (cells : Cells) (side : Color) (cell : Option Piece)
    (left checks : ℕ) : Type 0 where
  pub harmless : (k n : ℕ) → k < 81 → n < 81 → is_king side (piece_at cells k) ≡ true
      → has_bit left k ≡ false → has_bit checks n ≡ false → cell_reaches cells cell n k ≡ false

-- ---- moves run both ways

-- a test that holds for one of some offsets holds for one of a list that includes them
among_ways : (test : Offset → Bool) (g h : Offset → Offset) (os ds : List Offset) → list_all (λ o. list_any (λ d. same_way (g o) (h d)) ds) os ≡ true → list_any (λ o. test (g o)) os ≡ true → list_any (λ d. test (h d)) ds ≡ true
among_ways test g h [] ds each e = absurd (cc)
among_ways test g h (o ∷ os) ds each e =
    let parts : (list_any (λ d. same_way (g o) (h d)) ds ≡ true) × (list_all (λ p. list_any (λ d. same_way (g p) (h d)) ds) os ≡ true) = and_parts _ _ each in
    elim (or_cases (test (g o)) _ e) [
      | inl here ↦ list_any_kept (λ d. same_way (g o) (h d)) (λ d. test (h d)) ds (λ d same. ap test (sym (same_way_is (g o) (h d) same)) ∙ here) parts.0
      | inr later ↦ among_ways test g h os ds parts.1 later
    ]

steps_both_ways : (color : Color) (role : Role) → list_all (λ o. list_any (λ d. same_way (back (for_side color o)) (for_side (opponent_of color) d)) (steps_of role)) (steps_of role) ≡ true
steps_both_ways color role = grind arith

slides_both_ways : (color : Color) (role : Role) → list_all (λ o. list_any (λ d. same_way (back (for_side color o)) (for_side (opponent_of color) d)) (slides_of role)) (slides_of role) ≡ true
slides_both_ways color role = grind arith

pub step_both_ways : (piece : Piece) (a b : ℕ) → a < 81 → has_step piece a b ≡ true → has_step (record { color = opponent_of piece.color; role = piece.role }) b a ≡ true
step_both_ways piece a b h e =
    among_ways (λ o. leads 1 o b a) (λ o. back (for_side piece.color o)) (for_side (opponent_of piece.color)) (steps_of piece.role) (steps_of piece.role) (steps_both_ways piece.color piece.role)
    (list_any_kept (λ o. leads 1 (for_side piece.color o) a b) (λ o. leads 1 (back (for_side piece.color o)) b a) (steps_of piece.role) (λ o f. leads_back (for_side piece.color o) a b h f) e)

slide_both_ways : (cells : Cells) (piece : Piece) (a b : ℕ) → a < 81 → has_slide cells piece a b ≡ true → has_slide cells (record { color = opponent_of piece.color; role = piece.role }) b a ≡ true
slide_both_ways cells piece a b h e =
    among_ways (λ o. slides cells o b a) (λ o. back (for_side piece.color o)) (for_side (opponent_of piece.color)) (slides_of piece.role) (slides_of piece.role) (slides_both_ways piece.color piece.role)
    (list_any_kept (λ o. slides cells (for_side piece.color o) a b) (λ o. slides cells (back (for_side piece.color o)) b a) (slides_of piece.role) (λ o f. slides_back cells (for_side piece.color o) a b h f) e)

pub reach_both_ways : (cells : Cells) (piece : Piece) (a b : ℕ) → a < 81 → cell_reaches cells (Some piece) a b ≡ true → cell_reaches cells (Some (record { color = opponent_of piece.color; role = piece.role })) b a ≡ true
reach_both_ways cells piece a b h e = elim (or_cases (has_step piece a b) (has_slide cells piece a b) e) [
  | inl step ↦ or_left (has_step (record { color = opponent_of piece.color; role = piece.role }) b a) _ (step_both_ways piece a b h step)
  | inr slide ↦ or_right (has_step (record { color = opponent_of piece.color; role = piece.role }) b a) _ (slide_both_ways cells piece a b h slide)
]

-- ---- the kings one by one

pub checks_more : (cells : Cells) (side : Color) (piece : Piece) (left next checks king squares : ℕ) → ChecksWithin cells side (Some piece) left checks → ((i : ℕ) → has_bit next i ≡ (has_bit left i && not (i == king)))
    → ((n : ℕ) → n < 81 → has_bit squares n ≡ cell_reaches cells (Some (record { color = opponent_of piece.color; role = piece.role })) king n) → ChecksWithin cells side (Some piece) next (bit_or checks squares)
checks_more cells side piece left next checks king squares c bits s = record {
  harmless = λ k n h l crown gone out.
      let off : (has_bit checks n ≡ false) × (has_bit squares n ≡ false) = or_parts (has_bit checks n) (has_bit squares n) (sym (has_bit-or checks squares n) ∙ out) in
      elim (cases_eq k king) [
        | inl same ↦ false_from_ne_true (cell_reaches cells (Some piece) n k) (λ r. both_ways (has_bit squares n) off.1
            (s n l ∙ subst (λ (j : ℕ). cell_reaches cells (Some (record { color = opponent_of piece.color; role = piece.role })) j n ≡ true) same (reach_both_ways cells piece n k l r)))
        | inr other ↦ c.harmless k n h l crown (grind (arith, bits k, cases_eq k king)) off.0
      ];
}

-- ---- squares on which a piece gives check

-- destinations outside the king view
pub unseen_squares : (destinations king_view n : ℕ) → has_bit destinations n ≡ true → has_bit (bit_and destinations king_view) n ≡ false → has_bit king_view n ≡ false
unseen_squares destinations king_view n set out = false_from_ne_true (has_bit king_view n) (λ seen. both_ways (has_bit (bit_and destinations king_view) n) out (has_bit-and destinations king_view n ∙ and_from _ _ set seen))

-- outside the set the piece gives no check, whether in the king view or not
pub not_checking : (cells : Cells) (side : Color) (cell : Option Piece) (destinations king_view checks n : ℕ) → Sees cells side 0 king_view → ((i : ℕ) → i < 81 → has_bit checks i ≡ false → IsHarmless cells side cell i) → n < 81 → has_bit destinations n ≡ true → has_bit (bit_and (bit_and destinations king_view) checks) n ≡ false → IsHarmless cells side cell n
not_checking cells side cell destinations king_view checks n s c h set out = elim (cases_Bool (has_bit king_view n)) [
  | inl seen ↦ c n h (grind (arith, has_bit-and (bit_and destinations king_view) checks n, has_bit-and destinations king_view n))
  | inr unseen ↦ harmless_far cells side king_view cell n s h unseen
]
