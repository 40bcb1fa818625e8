-- Drops after which the opponent's king has an escape left.
use Rattle.std.proofs.Common.{◌≡◌, ◌≢◌, ◌<◌, ◌^◌, ◌-◌, ℕ, Bool, true, false, not, Option, Some, None, bit_and, bit_or, refl, sym, ap, ◌∙◌, subst, set, arith, inl, inr}
use Rattle.std.specs.Prelude.{◌==◌, ◌||◌}
use Rattle.std.specs.Int.{trailing_zeros, w128}
use Rattle.std.proofs.lemmas.Bool.{and_from, or_cases, or_parts, cases_eq, both_ways, false_from_ne_true, true_from_ne_false, eq-eqb, ne_eqb}
use Rattle.shogi_core.specs.declared.moves.Move.TheVariants.{Board, Drop}
use Rattle.shogi_core.specs.declared.piece.Kind.{Kind}
use Rattle.shogi_core.specs.declared.piece.Piece.{Piece}
use Rattle.shogi_core.specs.Bits.{has_bit, mask_below}
use Rattle.shogi_core.specs.Cell.{is_king, is_sliding_role}
use Rattle.shogi_core.specs.Lines.{are_aligned}
use Rattle.shogi_core.specs.Movement.{piece_at, cell_reaches, has_step, has_slide, for_side, slides}
use Rattle.shogi_core.specs.Pieces.{opponent_of}
use Rattle.shogi_core.specs.Position.{Shogi}
use Rattle.shogi_core.specs.Validity.{IsValid}
use Rattle.shogi_core.proofs.BitLaws.{has_bit-and, has_bit-or, has_bit-mask}
use Rattle.shogi_core.proofs.LineBits.{lowest_set, has_bit-not}
use Rattle.shogi_core.proofs.SeenLaws.{slide_seen, lined_aligned, slides_role}
use Rattle.shogi_moves.specs.After.{dropped, piece_moved}
use Rattle.shogi_moves.specs.Escapes.{AreEscapes}
use Rattle.shogi_replies.specs.ReplyInfo.{IsAnswered}
use Rattle.shogi_replies.proofs.CheckLaws.{step_both_ways}
use Rattle.shogi_replies.proofs.EscapeLaws.{escaped_board, escaped_drop}
use Rattle.shogi_replies.proofs.KingReplies.{taken_drop}
use Rattle.shogi_moves.proofs.Keeps.{is_safe_from_legal}
use Rattle.shogi_moves.proofs.KeepsDrop.{IsSafeDrop, safe_drop}
use Rattle.last_ply.specs.LastPly.{IsOutOfReach}

-- ---- squares from which a piece does not reach another square

not_stepping : (piece : Piece) (steps square n : ℕ) → n < 81 → ((i : ℕ) → i < 81 → has_bit steps i ≡ has_step (record { color = opponent_of piece.color; role = piece.role }) square i) → has_bit steps n ≡ false → has_step piece n square ≡ false
not_stepping piece steps square n h s out = false_from_ne_true (has_step piece n square) (λ e. both_ways (has_bit steps n) out (s n h ∙ step_both_ways piece n square h e))

pub out_of_steps : (piece : Piece) (steps square n : ℕ) → n < 81 → is_sliding_role piece.role ≡ false → ((i : ℕ) → i < 81 → has_bit steps i ≡ has_step (record { color = opponent_of piece.color; role = piece.role }) square i) → has_bit steps n ≡ false → IsOutOfReach piece n square
out_of_steps piece steps square n h still s out cells = false_from_ne_true (cell_reaches cells (Some piece) n square) (λ r. elim (or_cases (has_step piece n square) (has_slide cells piece n square) r) [
  | inl step ↦ both_ways (has_step piece n square) (not_stepping piece steps square n h s out) step
  | inr slide ↦ both_ways (is_sliding_role piece.role) still (slides_role piece.role (λ o. slides cells (for_side piece.color o) n square) slide)
])

pub out_of_lines : (piece : Piece) (steps lines square n : ℕ) → n < 81 → ((i : ℕ) → i < 81 → has_bit steps i ≡ has_step (record { color = opponent_of piece.color; role = piece.role }) square i) → ((i : ℕ) → i < 81 → has_bit lines i ≡ are_aligned square i) → has_bit (bit_or steps lines) n ≡ false → IsOutOfReach piece n square
out_of_lines piece steps lines square n h s l out cells =
    let off : (has_bit steps n ≡ false) × (has_bit lines n ≡ false) = or_parts (has_bit steps n) (has_bit lines n) (sym (has_bit-or steps lines n) ∙ out) in
    false_from_ne_true (cell_reaches cells (Some piece) n square) (λ r. elim (or_cases (has_step piece n square) (has_slide cells piece n square) r) [
      | inl step ↦ both_ways (has_step piece n square) (not_stepping piece steps square n h s off.0) step
      | inr slide ↦ both_ways (has_bit lines n) off.1 (l n h ∙ lined_aligned cells square n (slide_seen cells piece n square h slide))
    ])

-- ---- a drop that does not reach an escape leaves a reply

pub answered_drop : (p : Shogi) (kind : Kind) (escapes kings n e : ℕ) (piece : Piece) → IsValid p → AreEscapes p escapes → ((k : ℕ) → k < 81 → has_bit kings k ≡ is_king (opponent_of p.side) (piece_at p.cells k)) → kings < 2 ^ 81 → kings ≢ 0 → n < 81 → e < 81 → has_bit escapes e ≡ true → has_bit escapes n ≡ false → Some piece ≡ dropped p.side kind → IsOutOfReach piece n e → IsAnswered p (Drop kind n)
answered_drop p kind escapes kings n e piece v a bits fits some hn he among off is out = λ legal.
    let safe : IsSafeDrop p kind n = safe_drop p kind n (is_safe_from_legal p (Drop kind n) legal) in
    let low = lowest_set kings some fits in
    let k : ℕ = trailing_zeros w128 kings in
    let crown : is_king (opponent_of p.side) (piece_at p.cells (trailing_zeros w128 kings)) ≡ true = sym (bits (trailing_zeros w128 kings) low.0) ∙ low.1 in
    escaped_drop p kind n (mask_below 81 (λ m. not (m == e))) v hn
    (record {
      king_on = trailing_zeros w128 kings;
      end = e;
      on_board = (low.0, he);
      king = crown;
      escape = a (trailing_zeros w128 kings) e low.0 crown he among;
      open_end = has_bit-mask 81 (λ m. not (m == e)) e he ∙ ap not (eq-eqb e e refl);
      elsewhere = (
        λ same. both_ways (is_king (opponent_of p.side) (piece_at p.cells n)) (ap (is_king (opponent_of p.side)) safe.free) (subst (λ (x : ℕ). is_king (opponent_of p.side) (piece_at p.cells x) ≡ true) same crown),
        λ same. both_ways (has_bit escapes n) off (subst (λ (x : ℕ). has_bit escapes x ≡ true) same among),
      );
    })
    (λ j m hj hm king lone gone. elim (cases_eq m e) [
      | inl same ↦ subst (λ (x : ℕ). cell_reaches (set p.cells j None) (dropped p.side kind) n x ≡ false) (sym same) (subst (λ (cell : Option Piece). cell_reaches (set p.cells j None) cell n e ≡ false) is (out (set p.cells j None)))
      | inr other ↦ absurd (both_ways (has_bit (mask_below 81 (λ i. not (i == e))) m) gone (has_bit-mask 81 (λ i. not (i == e)) m hm ∙ ap not (ne_eqb m e other)))
    ])

-- a move on the board that does not reach an escape leaves a reply if the escape is on no line with the square left
pub answered_board : (p : Shogi) (from : ℕ) (promote : Bool) (escapes kings n e : ℕ) (piece : Piece) → IsValid p → AreEscapes p escapes → ((k : ℕ) → k < 81 → has_bit kings k ≡ is_king (opponent_of p.side) (piece_at p.cells k)) → kings < 2 ^ 81 → kings ≢ 0 → from < 81 → n < 81 → e < 81 → has_bit escapes e ≡ true → are_aligned from e ≡ false
    → piece_moved promote (piece_at p.cells from) ≡ Some piece → has_bit kings n ≡ false → e ≢ n → IsOutOfReach piece n e → IsAnswered p (Board from n promote)
answered_board p from promote escapes kings n e piece v a bits fits some hf hn he among apart is off other out = λ legal.
    let low = lowest_set kings some fits in
    let crown : is_king (opponent_of p.side) (piece_at p.cells (trailing_zeros w128 kings)) ≡ true = sym (bits (trailing_zeros w128 kings) low.0) ∙ low.1 in
    escaped_board p from n (bit_or (mask_below 81 (λ m. not (m == e))) (mask_below 81 (λ m. are_aligned from m))) (mask_below 81 (λ m. not (m == e))) (mask_below 81 (λ m. are_aligned from m)) promote v hf hn legal
    (record {
      king_on = trailing_zeros w128 kings;
      end = e;
      on_board = (low.0, he);
      king = crown;
      escape = a (trailing_zeros w128 kings) e low.0 crown he among;
      open_end = has_bit-or (mask_below 81 (λ m. not (m == e))) (mask_below 81 (λ m. are_aligned from m)) e
          ∙ (ap (λ (b : Bool). b || has_bit (mask_below 81 (λ m. are_aligned from m)) e) (has_bit-mask 81 (λ m. not (m == e)) e he ∙ ap not (eq-eqb e e refl))
          ∙ (has_bit-mask 81 (λ m. are_aligned from m) e he ∙ apart));
      elsewhere = (
        λ same. both_ways (has_bit kings n) off (subst (λ (x : ℕ). has_bit kings x ≡ true) same low.1),
        other,
      );
    })
    refl
    (λ j m hj hm king lone gone. elim (cases_eq m e) [
      | inl same ↦ subst (λ (x : ℕ). cell_reaches (set p.cells j None) (piece_moved promote (piece_at p.cells from)) n x ≡ false) (sym same) (subst (λ (cell : Option Piece). cell_reaches (set p.cells j None) cell n e ≡ false) (sym is) (out (set p.cells j None)))
      | inr differs ↦ absurd (both_ways (has_bit (mask_below 81 (λ i. not (i == e))) m) gone (has_bit-mask 81 (λ i. not (i == e)) m hm ∙ ap not (ne_eqb m e differs)))
    ])
    (λ m hm. has_bit-mask 81 (λ i. are_aligned from i) m hm)

-- a square outside the closing squares, the kings and the escape is in none of these
pub apart_from : (closing marked kings e n : ℕ) → ((i : ℕ) → has_bit marked i ≡ (has_bit kings i || (i == e))) → has_bit (bit_or closing marked) n ≡ false → (has_bit closing n ≡ false) × (has_bit kings n ≡ false) × (e ≢ n)
apart_from closing marked kings e n bits out =
    let two : (has_bit closing n ≡ false) × (has_bit marked n ≡ false) = or_parts (has_bit closing n) (has_bit marked n) (sym (has_bit-or closing marked n) ∙ out) in
    let off : (has_bit kings n ≡ false) × ((n == e) ≡ false) = or_parts (has_bit kings n) (n == e) (sym (bits n) ∙ two.1) in
    (two.0, off.0, λ same. both_ways (n == e) off.1 (eq-eqb n e (sym same)))

-- the king captures a piece dropped on an escape
pub taken_there : (p : Shogi) (kind : Kind) (squares escapes kings n : ℕ) → IsValid p → escapes < 2 ^ 81 → AreEscapes p escapes → ((k : ℕ) → k < 81 → has_bit kings k ≡ is_king (opponent_of p.side) (piece_at p.cells k)) → kings < 2 ^ 81 → kings ≢ 0 → n < 81 → has_bit squares n ≡ true → has_bit (bit_and squares (2 ^ 128 - 1 - escapes)) n ≡ false → IsAnswered p (Drop kind n)
taken_there p kind squares escapes kings n v among a bits fits some hn e out = λ legal. taken_drop p kind escapes kings n v hn a fits bits some
    (true_from_ne_false (has_bit escapes n) (λ off. both_ways (has_bit (bit_and squares (2 ^ 128 - 1 - escapes)) n) out (has_bit-and squares (2 ^ 128 - 1 - escapes) n ∙ and_from _ _ e (has_bit-not escapes n (omega (arith, among)) (omega arith) ∙ ap not off))))

-- a square that leaves the kept set is not a closing square
pub not_closing : (kept closing n : ℕ) → has_bit (bit_and kept closing) n ≡ false → has_bit kept n ≡ true → has_bit closing n ≡ false
not_closing kept closing n out still = false_from_ne_true (has_bit closing n) (λ set. both_ways (has_bit (bit_and kept closing) n) out (has_bit-and kept closing n ∙ and_from _ _ still set))
