-- A king goes to its escape, even if it captures a piece that has just come there.
use Rattle.std.proofs.Common.{◌≡◌, ◌≢◌, ◌⊎◌, ℕ, zero, suc, ◌<◌, true, false, not, [], ◌∷◌, Option, None, refl, sym, ap, subst, ◌∙◌, inl, inr, set, length, get_or-set_other, arith}
use Rattle.std.specs.Prelude.{is_none}
use Rattle.std.proofs.lemmas.Bool.{and_from, both_ways, cases_eq, false_from_ne_true}
use Rattle.shogi_core.specs.declared.moves.Move.TheVariants.{Board}
use Rattle.shogi_core.specs.declared.piece.Color.{Color}
use Rattle.shogi_core.specs.declared.piece.Piece.{Piece}
use Rattle.shogi_core.specs.Attack.{is_attacked}
use Rattle.shogi_core.specs.Cell.{is_king, is_piece_of}
use Rattle.shogi_core.specs.Lines.{are_lined}
use Rattle.shogi_core.specs.Movement.{Cells, cell_reaches, piece_at, reaches}
use Rattle.shogi_core.specs.Pieces.{opponent_of}
use Rattle.shogi_core.specs.Position.{HandCounts}
use Rattle.shogi_core.proofs.Discovered.{attacked_was_but, reach_was}
use Rattle.shogi_moves.specs.After.{piece_moved}
use Rattle.shogi_moves.specs.Escapes.{IsEscape}
use Rattle.shogi_moves.specs.Legal.{is_legal}
use Rattle.shogi_moves.proofs.CheckInfoLaws.{is_piece_of-piece_moved, king_set, other_side, own_some}
use Rattle.shogi_moves.proofs.DestinationLaws.{legal_board}
use Rattle.shogi_moves.proofs.EscapeLaws.{crowned, king_reach}
use Rattle.shogi_moves.proofs.KingLaws.{king_own}
use Rattle.shogi_replies.proofs.ReplyLaws.{right_step}
use Rattle.shogi_moves.proofs.ExistenceLaws.{king_lives}

-- a cleared square is empty
pub cleared_none : (cells : Cells) (a : ℕ) → piece_at (set cells a None) a ≡ None
cleared_none [] a = refl
cleared_none (cell ∷ cells) zero = refl
cleared_none (cell ∷ cells) (suc a) = cleared_none cells a

-- a side puts a piece on one square and leaves some others
module _ (old new : Cells) (hands : HandCounts) (side : Color) (Left : ℕ → Type 0) (to : ℕ) (cell : Option Piece) (len : length new ≡ 81) (mine : is_piece_of side cell ≡ true)
    (see : (x : ℕ) → ((x ≡ to) × (piece_at new x ≡ cell)) ⊎ ((Left x × (piece_at new x ≡ None)) ⊎ (piece_at new x ≡ piece_at old x)))
    (k e : ℕ) (hk : k < 81) (he : e < 81) (crown : is_king (opponent_of side) (piece_at old k) ≡ true) (stays : Left k → ⊥) (apart : k ≢ to) (escape : IsEscape old (opponent_of side) k e)
    (short : cell_reaches (set old k None) cell to e ≡ false) (free : (x : ℕ) → Left x → are_lined (set old k None) x e ≡ false) where
  king_there : piece_at new k ≡ piece_at old k
  king_there = grind (arith, see k)

  crown_there : is_king (opponent_of side) (piece_at new k) ≡ true
  crown_there = ap (is_king (opponent_of side)) king_there ∙ crown

  own_there : is_piece_of (opponent_of side) (piece_at new k) ≡ true
  own_there = king_own (opponent_of side) (piece_at new k) crown_there

  lone_there : (x : ℕ) → x < 81 → x ≢ k → is_king (opponent_of side) (piece_at new x) ≡ false
  lone_there x h other = grind (arith, see x, crowned (opponent_of side) cell (other_side side cell mine), escape.step.lone x h other)

  open_there : is_piece_of (opponent_of side) (piece_at new e) ≡ false
  open_there = grind (arith, see e, other_side side cell mine, escape.step.open_end)

  reached_there : reaches new k e ≡ true
  unfolding reaches
  reached_there = ap (λ (x : Option Piece). cell_reaches new x k e) king_there ∙ king_reach old new (opponent_of side) (piece_at old k) k e crown escape.step.reached

  opened : (x : ℕ) → is_none (piece_at (set new k None) x) ≡ true → (is_none (piece_at (set old k None) x) ≡ true) ⊎ Left x
  opened x n = grind (arith, see x, cases_eq x k, own_some side cell mine, cleared_none old k, get_or-set_other old k x None None, get_or-set_other new k x None None)

  short_there : cell_reaches (set new k None) cell to e ≡ false
  short_there = false_from_ne_true _ (λ r. both_ways (cell_reaches (set old k None) cell to e) short (reach_was (set old k None) (set new k None) Left opened cell to e free r))

  -- a piece on any other square stood there before
  kept : (color : Color) (a : ℕ) → is_piece_of color (piece_at (set new k None) a) ≡ true → (piece_at (set old k None) a ≡ piece_at (set new k None) a) ⊎ (reaches (set new k None) a e ≡ false)
  unfolding reaches
  kept color a own = elim (cases_eq a k) [
    | inl here ↦ inl (subst (λ (y : ℕ). piece_at (set old k None) y ≡ piece_at (set new k None) y) (sym here) (cleared_none old k ∙ sym (cleared_none new k)))
    | inr off ↦ elim (see a) [
      | inl at ↦ inr (ap (λ (x : Option Piece). cell_reaches (set new k None) x a e) (get_or-set_other new k a None None off ∙ at.1) ∙ subst (λ (y : ℕ). cell_reaches (set new k None) cell y e ≡ false) (sym at.0) short_there)
      | inr rest ↦ grind (arith, rest, get_or-set_other new k a None None off, get_or-set_other old k a None None off)
    ]
  ]

  unattacked_there : is_attacked (set new k None) (opponent_of (opponent_of side)) e ≡ false
  unattacked_there = attacked_was_but (set old k None) (set new k None) Left opened (opponent_of (opponent_of side)) e (kept (opponent_of (opponent_of side))) free escape.safe

  pub king_goes : is_legal (record { cells = new; hands = hands; side = opponent_of side }) (Board k e false) ≡ true
  king_goes =
      legal_board (record { cells = new; hands = hands; side = opponent_of side }) k e false
      ∙ and_from _ _ (right_step new (opponent_of side) k e own_there open_there reached_there (king_lives (opponent_of side) (piece_at new k) e crown_there))
      (ap not (king_set new (opponent_of side) k e (piece_moved false (piece_at new k)) len hk he (is_piece_of-piece_moved (opponent_of side) false (piece_at new k) ∙ own_there) lone_there unattacked_there))
