-- The board after a move, by sets of squares of the board before.
use Rattle.std.proofs.Common.{◌≡◌, ◌≢◌, ℕ, ◌<◌, ◌⊎◌, Bool, true, false, refl, sym, ap, ◌∙◌, arith, Option, None, set, length, get_or-set_same, get_or-set_other, length-set}
use Rattle.std.specs.Prelude.{◌==◌, ◌&&◌, ◌||◌, not, is_none}
use Rattle.std.proofs.lemmas.Bool.{cases_eq, both_ways, ne_eqb, eq-eqb}
use Rattle.shogi_core.specs.declared.piece.Color.{Color}
use Rattle.shogi_core.specs.declared.piece.Kind.{Kind}
use Rattle.shogi_core.specs.declared.piece.Piece.{Piece}
use Rattle.shogi_core.specs.declared.moves.Move.TheVariants.{Board, Drop}
use Rattle.shogi_core.specs.Attack.{in_check, is_attacked, is_open_king, IsSeenAs}
use Rattle.shogi_core.specs.Bits.{has_bit}
use Rattle.shogi_core.specs.Cell.{is_piece_of, is_king, HasNoOtherKing}
use Rattle.shogi_core.specs.Movement.{Cells, piece_at}
use Rattle.shogi_core.specs.Pieces.{opponent_of}
use Rattle.shogi_core.specs.Position.{Shogi}
use Rattle.shogi_core.proofs.Below.{some_below_at}
use Rattle.shogi_moves.specs.After.{piece_moved, dropped}
use Rattle.shogi_moves.specs.Destinations.{leaves_king_safe}
use Rattle.shogi_moves.proofs.CheckInfoLaws.{other_side, own_some, is_piece_of-piece_moved, dropped_of, dropped_plain}
use Rattle.shogi_moves.proofs.KingLaws.{king_own}
use Rattle.shogi_moves.proofs.MovedPieces.{is_king-piece_moved}
use Rattle.shogi_core.proofs.Discovered.{some_below_which}

-- a side is in check exactly if its only king is attacked
pub lone_attacked : (cells : Cells) (side : Color) (k : ℕ) → k < 81 → is_king side (piece_at cells k) ≡ true → HasNoOtherKing cells side k → is_attacked cells (opponent_of side) k ≡ in_check cells side
unfolding in_check
lone_attacked cells side k h king lone = grind (arith, some_below_at 81 (is_open_king cells side) k h, some_below_which 81 (is_open_king cells side), lone)

-- on the new board `to` holds the piece, the squares left are empty, and all else is as before
abbrev Stands : Cells → Cells → ℕ → Option Piece → (ℕ → Bool) → ℕ → Type 0
Stands cells new to v gone x = ((x ≡ to) × (piece_at new x ≡ v)) ⊎ ((x ≢ to) × (((gone x ≡ true) × (piece_at new x ≡ None)) ⊎ ((gone x ≡ false) × (piece_at new x ≡ piece_at cells x))))

module _ (cells new : Cells) (side : Color) (to : ℕ) (v : Option Piece) (gone : ℕ → Bool) (own : is_piece_of side v ≡ true)
    (left : (x : ℕ) → gone x ≡ true → is_piece_of (opponent_of side) (piece_at cells x) ≡ false) (stands : (x : ℕ) → Stands cells new to v gone x) where
  module _ (theirs among occ lifted occupied : ℕ) (t : (n : ℕ) → n < 81 → has_bit theirs n ≡ is_piece_of (opponent_of side) (piece_at cells n)) (a : (n : ℕ) → n < 81 → has_bit among n ≡ (has_bit theirs n && not (n == to)))
      (o : (n : ℕ) → n < 81 → has_bit occ n ≡ not (is_none (piece_at cells n))) (l : (n : ℕ) → n < 81 → has_bit lifted n ≡ (has_bit occ n && not (gone n))) (f : (n : ℕ) → n < 81 → has_bit occupied n ≡ (has_bit lifted n || n == to)) where
    attackers_after : (n : ℕ) → n < 81 → has_bit among n ≡ is_piece_of (opponent_of side) (piece_at new n)
    attackers_after n h = grind (arith, stands n, a n h, t n h, left n, other_side side v own)

    pieces_after : (n : ℕ) → n < 81 → has_bit occupied n ≡ not (is_none (piece_at new n))
    pieces_after n h = grind (arith, stands n, f n h, l n h, o n h, own_some side v own)

    same_after : (n : ℕ) → n < 81 → has_bit among n ≡ true → piece_at new n ≡ piece_at cells n
    same_after n h e = grind (arith, stands n, attackers_after n h, other_side side v own)

    seen_after : IsSeenAs cells among occupied (opponent_of side) new
    seen_after = record { attackers = attackers_after; pieces = pieces_after; same = same_after }

  -- the only king has gone to `to`
  lone_moved : (k : ℕ) → gone k ≡ true → HasNoOtherKing cells side k → HasNoOtherKing new side to
  lone_moved k away lone x h other = grind (arith, stands x, lone x h)

  -- another piece moved or was dropped, and the king stays
  king_kept : (k : ℕ) → gone k ≡ false → k ≢ to → piece_at new k ≡ piece_at cells k
  king_kept k stays off = grind (arith, stands k)

  lone_kept : (k : ℕ) → is_king side v ≡ false → HasNoOtherKing cells side k → HasNoOtherKing new side k
  lone_kept k non_promoting lone x h other = grind (arith, stands x, lone x h)

-- ---- a piece on the board moves

-- the piece that comes to stand on `to`, and the cells then
abbrev mover : Shogi → ℕ → Bool → Option Piece
mover p from promote = piece_moved promote (piece_at p.cells from)

abbrev pub moved : Shogi → ℕ → ℕ → Bool → Cells
moved p from to promote = set (set p.cells from None) to (piece_moved promote (piece_at p.cells from))

module _ (p : Shogi) (from to : ℕ) (promote : Bool) (len : length p.cells ≡ 81) (hf : from < 81) (ht : to < 81) (own : is_piece_of p.side (piece_at p.cells from) ≡ true) where
  v_own : is_piece_of p.side (mover p from promote) ≡ true
  v_own = is_piece_of-piece_moved p.side promote (piece_at p.cells from) ∙ own

  v_there : piece_at (moved p from to promote) to ≡ mover p from promote
  v_there = get_or-set_same (set p.cells from None) to (mover p from promote) None (omega (arith, length-set p.cells from None))

  board_left : (x : ℕ) → (x == from) ≡ true → is_piece_of (opponent_of p.side) (piece_at p.cells x) ≡ false
  board_left x e = grind (arith, other_side p.side (piece_at p.cells from) own)

  board_stands : (x : ℕ) → Stands p.cells (moved p from to promote) to (mover p from promote) (λ x. x == from) x
  board_stands x = grind (arith, cases_eq x to, cases_eq x from, v_there, get_or-set_other (set p.cells from None) to x (mover p from promote) None, get_or-set_same p.cells from None None, get_or-set_other p.cells from x None None)

  module _ (theirs among occ lifted occupied : ℕ) (t : (n : ℕ) → n < 81 → has_bit theirs n ≡ is_piece_of (opponent_of p.side) (piece_at p.cells n)) (a : (n : ℕ) → n < 81 → has_bit among n ≡ (has_bit theirs n && not (n == to)))
      (o : (n : ℕ) → n < 81 → has_bit occ n ≡ not (is_none (piece_at p.cells n))) (l : (n : ℕ) → n < 81 → has_bit lifted n ≡ (has_bit occ n && not (n == from))) (f : (n : ℕ) → n < 81 → has_bit occupied n ≡ (has_bit lifted n || n == to)) where
    pub board_seen : IsSeenAs p.cells among occupied (opponent_of p.side) (moved p from to promote)
    board_seen = seen_after p.cells (moved p from to promote) p.side to (mover p from promote) (λ x. x == from) v_own board_left board_stands theirs among occ lifted occupied t a o l f

  -- the only king moves
  pub king_goes : (found : Bool) → is_king p.side (piece_at p.cells from) ≡ true → HasNoOtherKing p.cells p.side from → found ≡ is_attacked (moved p from to promote) (opponent_of p.side) to → not found ≡ leaves_king_safe p (Board from to promote)
  king_goes found king lone e =
      ap not (e ∙ lone_attacked (moved p from to promote) p.side to ht (ap (is_king p.side) v_there ∙ (is_king-piece_moved p.side promote (piece_at p.cells from) ∙ king))
      (lone_moved p.cells (moved p from to promote) p.side to (mover p from promote) (λ x. x == from) v_own board_left board_stands from (eq-eqb from from refl) lone))

  -- another piece moves
  pub king_left : (k : ℕ) (found : Bool) → k < 81 → k ≢ from → is_king p.side (piece_at p.cells k) ≡ true → HasNoOtherKing p.cells p.side k → is_piece_of p.side (piece_at p.cells to) ≡ false
      → found ≡ is_attacked (moved p from to promote) (opponent_of p.side) k → not found ≡ leaves_king_safe p (Board from to promote)
  king_left k found h apart king lone bare e =
      ap not (e ∙ lone_attacked (moved p from to promote) p.side k h
      (ap (is_king p.side) (king_kept p.cells (moved p from to promote) p.side to (mover p from promote) (λ x. x == from) v_own board_left board_stands k (ne_eqb k from apart)
      (λ at. both_ways (is_piece_of p.side (piece_at p.cells to)) bare (ap (λ (y : ℕ). is_piece_of p.side (piece_at p.cells y)) (sym at) ∙ king_own p.side (piece_at p.cells k) king))) ∙ king)
      (lone_kept p.cells (moved p from to promote) p.side to (mover p from promote) (λ x. x == from) v_own board_left board_stands k
      (is_king-piece_moved p.side promote (piece_at p.cells from) ∙ lone from hf (λ at. apart (sym at))) lone))

-- ---- a piece is dropped

abbrev pub with_drop : Shogi → Kind → ℕ → Cells
with_drop p kind to = set p.cells to (dropped p.side kind)

module _ (p : Shogi) (kind : Kind) (to : ℕ) (len : length p.cells ≡ 81) (ht : to < 81) (bare : is_none (piece_at p.cells to) ≡ true) where
  drop_stands : (x : ℕ) → Stands p.cells (with_drop p kind to) to (dropped p.side kind) (λ x. false) x
  drop_stands x = grind (arith, cases_eq x to, get_or-set_same p.cells to (dropped p.side kind) None, get_or-set_other p.cells to x (dropped p.side kind) None)

  no_piece : (color : Color) (cell : Option Piece) → is_none cell ≡ true → is_piece_of color cell ≡ false
  no_piece color cell e = grind arith

  pub drop_seen : (theirs occ occupied : ℕ) → ((n : ℕ) → n < 81 → has_bit theirs n ≡ is_piece_of (opponent_of p.side) (piece_at p.cells n)) → ((n : ℕ) → n < 81 → has_bit occ n ≡ not (is_none (piece_at p.cells n)))
      → ((n : ℕ) → n < 81 → has_bit occupied n ≡ (has_bit occ n || n == to)) → IsSeenAs p.cells theirs occupied (opponent_of p.side) (with_drop p kind to)
  drop_seen theirs occ occupied t o f =
      seen_after p.cells (with_drop p kind to) p.side to (dropped p.side kind) (λ x. false) (dropped_of p.side kind) (λ x e. absurd (let clash : false ≡ true = e in cc)) drop_stands theirs theirs occ occ occupied t
      (λ n h. grind (arith, t n h, no_piece (opponent_of p.side) (piece_at p.cells to) bare))
      o (λ n h. grind arith) f

  pub king_left_by_drop : (k : ℕ) (found : Bool) → k < 81 → is_king p.side (piece_at p.cells k) ≡ true → HasNoOtherKing p.cells p.side k → found ≡ is_attacked (with_drop p kind to) (opponent_of p.side) k → not found ≡ leaves_king_safe p (Drop kind to)
  king_left_by_drop k found h king lone e =
      ap not (e ∙ lone_attacked (with_drop p kind to) p.side k h
      (ap (is_king p.side) (king_kept p.cells (with_drop p kind to) p.side to (dropped p.side kind) (λ x. false) (dropped_of p.side kind) (λ x e. absurd (let clash : false ≡ true = e in cc)) drop_stands k refl
      (λ at. both_ways (is_piece_of p.side (piece_at p.cells to)) (no_piece p.side (piece_at p.cells to) bare) (ap (λ (y : ℕ). is_piece_of p.side (piece_at p.cells y)) (sym at) ∙ king_own p.side (piece_at p.cells k) king))) ∙ king)
      (lone_kept p.cells (with_drop p kind to) p.side to (dropped p.side kind) (λ x. false) (dropped_of p.side kind) (λ x e. absurd (let clash : false ≡ true = e in cc)) drop_stands k (dropped_plain p.side kind) lone))
