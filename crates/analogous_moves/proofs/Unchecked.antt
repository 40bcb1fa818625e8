-- A king stays unattacked if a piece that does not attack it arrives from a square on no open line with it.
use Rattle.std.proofs.Common.{◌≡◌, ◌⊎◌, ℕ, ◌<◌, true, false, Option, None, sym, ap, subst, ◌∙◌, inl, inr, arith, set, length, get_or-set_same, get_or-set_other}
use Rattle.std.specs.Prelude.{is_none}
use Rattle.std.specs.List.{list_any}
use Rattle.std.proofs.lemmas.Bool.{and_parts, both_ways, cases_eq, false_from_ne_true}
use Rattle.shogi_core.specs.declared.piece.Color.{Color}
use Rattle.shogi_core.specs.declared.piece.Piece.{Piece}
use Rattle.shogi_core.specs.Attack.{in_check}
use Rattle.shogi_core.specs.Cell.{HasNoOtherKing, is_king, is_piece_of}
use Rattle.shogi_core.specs.Lines.{are_lined, around, is_line_to_king, is_lined_with_king}
use Rattle.shogi_core.specs.Movement.{Cells, cell_reaches, piece_at, slides}
use Rattle.shogi_core.specs.Pieces.{opponent_of}
use Rattle.shogi_core.proofs.Below.{some_below_no}
use Rattle.shogi_core.proofs.Discovered.{list_any_kept, reach_was, slides_was}
use Rattle.shogi_core.proofs.Replies.{no_check}
use Rattle.shogi_moves.proofs.CheckInfoLaws.{other_side, own_some}
use Rattle.shogi_moves.proofs.KingLaws.{king_own}
use Rattle.shogi_replies.specs.ReplyInfo.{IsHarmless}

-- ---- the board without the king

kingless : (cells : Cells) (king : ℕ) → length cells ≡ 81 → king < 81 → (x : ℕ) → is_none (piece_at cells x) ≡ true → is_none (piece_at (set cells king None) x) ≡ true
kingless cells king len low x n = elim (cases_eq x king) [
  | inl at ↦ ap (λ (y : ℕ). is_none (piece_at (set cells king None) y)) at ∙ ap is_none (get_or-set_same cells king None None (omega (arith, len, low)))
  | inr off ↦ ap is_none (get_or-set_other cells king x None None off) ∙ n
]

-- if no further square is empty, an attack stands on the board without the king too
pub reached_kingless : (cells now : Cells) (king : ℕ) → length cells ≡ 81 → king < 81 → ((x : ℕ) → is_none (piece_at now x) ≡ true → is_none (piece_at cells x) ≡ true) → (cell : Option Piece) (a s : ℕ) → cell_reaches now cell a s ≡ true → cell_reaches (set cells king None) cell a s ≡ true
reached_kingless cells now king len low emptied cell a s r = reach_was (set cells king None) now (λ x. ⊥) (λ x n. inl (kingless cells king len low x (emptied x n))) cell a s (λ x left. absurd left) r

-- a square on no open line with the king on the board without it is on none with it
unlined_before : (cells : Cells) (king a : ℕ) → length cells ≡ 81 → king < 81 → are_lined (set cells king None) a king ≡ false → are_lined cells a king ≡ false
unfolding are_lined
unlined_before cells king a len low out = false_from_ne_true _ (λ lined. both_ways (list_any (λ o. slides (set cells king None) o a king) around) out (list_any_kept (λ o. slides cells o a king) (λ o. slides (set cells king None) o a king) around (λ o s. elim (slides_was (set cells king None) cells (λ x. ⊥) (λ x n. inl (kingless cells king len low x n)) o a king s) [ inl met ↦ absurd met.1 | inr was ↦ was ]) lined))

-- the square is on no open line with any king of that side
pub unlined_with : (cells : Cells) (color : Color) (king a : ℕ) → HasNoOtherKing cells color king → are_lined cells a king ≡ false → is_lined_with_king cells color a ≡ false
unfolding is_lined_with_king
unlined_with cells color king a only_king out = some_below_no 81 (is_line_to_king cells color a) (λ k hk. false_from_ne_true _ (λ on. (
    let parts : (is_king color (piece_at cells k) ≡ true) × (are_lined cells a k ≡ true) = and_parts _ _ on in
    elim (cases_eq k king) [
      | inl at ↦ both_ways (are_lined cells a king) out (subst (λ (x : ℕ). are_lined cells a x ≡ true) at parts.1)
      | inr other ↦ both_ways (is_king color (piece_at cells k)) (only_king k hk other) parts.0
    ])))

pub unlined_with_king : (cells : Cells) (color : Color) (king a : ℕ) → length cells ≡ 81 → king < 81 → HasNoOtherKing cells color king → are_lined (set cells king None) a king ≡ false → is_lined_with_king cells color a ≡ false
unlined_with_king cells color king a len low only_king out = unlined_with cells color king a only_king (unlined_before cells king a len low out)

-- a piece that does not attack the king on the board without it gives no check
pub harmless_there : (old : Cells) (color : Color) (king : ℕ) (cells : Cells) (cell : Option Piece) (b : ℕ) → length cells ≡ 81 → king < 81 → HasNoOtherKing old color king → ((x : ℕ) → is_none (piece_at old x) ≡ true → is_none (piece_at cells x) ≡ true) → cell_reaches (set cells king None) cell b king ≡ false → IsHarmless old color cell b
harmless_there old color king cells cell b len low only_king emptied far k hk crown = elim (cases_eq k king) [
  | inl here ↦ subst (λ (x : ℕ). cell_reaches old cell b x ≡ false) (sym here) (false_from_ne_true _ (λ r. both_ways (cell_reaches (set cells king None) cell b king) far (reached_kingless cells old king len low emptied cell b king r)))
  | inr other ↦ absurd (both_ways (is_king color (piece_at old k)) (only_king k hk other) crown)
]

-- ---- a piece arrives on a square, and others leave theirs

module _ (old new : Cells) (side : Color) (Left : ℕ → Type 0) (d : ℕ) (cell : Option Piece) (hd : d < 81) (own : is_piece_of side cell ≡ true) (see : (x : ℕ) → ((x ≡ d) × (piece_at new x ≡ cell)) ⊎ ((Left x × (piece_at new x ≡ None)) ⊎ (piece_at new x ≡ piece_at old x))) where
  no_king : is_king (opponent_of side) cell ≡ false
  no_king = false_from_ne_true _ (λ crown. both_ways (is_piece_of (opponent_of side) cell) (other_side side cell own) (king_own (opponent_of side) cell crown))

  pub unchecked_by : piece_at new d ≡ cell → ((x : ℕ) → Left x → is_lined_with_king old (opponent_of side) x ≡ false) → IsHarmless old (opponent_of side) cell d → in_check old (opponent_of side) ≡ false → in_check new (opponent_of side) ≡ false
  unchecked_by there free far safe =
      no_check old new Left
      (λ x e. elim (see x) [
        | inl on ↦ absurd (both_ways (is_none cell) (own_some side cell own) (ap is_none (sym on.1) ∙ e))
        | inr rest ↦ elim rest [ inl gone ↦ inr gone.0 | inr same ↦ inl (ap is_none (sym same) ∙ e) ]
      ])
      (opponent_of side) d hd
      (λ x e. elim (see x) [
        | inl on ↦ inr on.0
        | inr rest ↦ elim rest [
          | inl gone ↦ absurd (let clash : false ≡ true = ap (is_piece_of (opponent_of (opponent_of side))) (sym gone.1) ∙ e in cc)
          | inr same ↦ inl (sym same)
        ]
      ])
      (λ k e. elim (see k) [
        | inl on ↦ absurd (both_ways (is_king (opponent_of side) cell) no_king (ap (is_king (opponent_of side)) (sym on.1) ∙ e))
        | inr rest ↦ elim rest [
          | inl gone ↦ absurd (let clash : false ≡ true = ap (is_king (opponent_of side)) (sym gone.1) ∙ e in cc)
          | inr same ↦ sym same
        ]
      ])
      free
      (λ k l e. ap (λ (x : Option Piece). cell_reaches old x d k) there ∙ far k l e)
      safe
