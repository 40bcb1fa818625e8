-- Moves that give no check.
use Rattle.std.proofs.Common.{◌≡◌, ℕ, ◌<◌, ◌⊎◌, true, false, ap, subst, ◌∙◌, inl, inr}
use Rattle.std.specs.Prelude.{is_none}
use Rattle.std.proofs.lemmas.Bool.{false_from_ne_true, both_ways, and_from}
use Rattle.shogi_core.specs.declared.piece.Color.{Color}
use Rattle.shogi_core.specs.Attack.{in_check}
use Rattle.shogi_core.specs.Cell.{is_piece_of, is_king}
use Rattle.shogi_core.specs.Lines.{are_lined, is_line_to_king, is_lined_with_king}
use Rattle.shogi_core.specs.Movement.{Cells, piece_at, reaches, cell_reaches}
use Rattle.shogi_core.specs.Pieces.{opponent_of}
use Rattle.shogi_core.proofs.Below.{some_below_not}
use Rattle.shogi_core.proofs.Discovered.{check_was_but, reach_was}

module _ (old new : Cells) (Left : ℕ → Type 0) (opened : (x : ℕ) → is_none (piece_at new x) ≡ true → (is_none (piece_at old x) ≡ true) ⊎ Left x) where
  -- a move gives no check if its piece reaches no king and no king has an open line to a vacated square
  pub no_check : (color : Color) (to : ℕ) → to < 81
      → ((a : ℕ) → is_piece_of (opponent_of color) (piece_at new a) ≡ true → (piece_at old a ≡ piece_at new a) ⊎ (a ≡ to))
      → ((k : ℕ) → is_king color (piece_at new k) ≡ true → piece_at old k ≡ piece_at new k)
      → ((x : ℕ) → Left x → is_lined_with_king old color x ≡ false)
      → ((k : ℕ) → k < 81 → is_king color (piece_at old k) ≡ true → cell_reaches old (piece_at new to) to k ≡ false)
      → in_check old color ≡ false → in_check new color ≡ false
  unfolding reaches is_lined_with_king
  no_check color to h kept kings free far safe =
      check_was_but old new Left opened color
      (λ a e. elim (kept a e) [
        | inl same ↦ inl same
        | inr there ↦ inr (λ k l crown. false_from_ne_true (reaches new a k) (λ r. (
            let king : is_king color (piece_at old k) ≡ true = ap (is_king color) (kings k crown) ∙ crown in
            let was : cell_reaches old (piece_at new a) a k ≡ true = reach_was old new Left opened (piece_at new a) a k (λ x left. false_from_ne_true (are_lined old x k) (λ lined. both_ways (is_line_to_king old color x k) (some_below_not 81 (is_line_to_king old color x) k (free x left) l) (and_from _ _ king lined))) r in
            both_ways (cell_reaches old (piece_at new to) to k) (far k l king) (subst (λ (y : ℕ). cell_reaches old (piece_at new y) y k ≡ true) there was))))
      ])
      kings free safe
