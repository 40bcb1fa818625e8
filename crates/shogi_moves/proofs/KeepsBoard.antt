-- A safe board move leaves a position without a fault.
use Rattle.std.proofs.Common.{◌≡◌, ◌≢◌, ℕ, ◌/◌, ◌<◌, ◌≤◌, Bool, true, false, length, set, refl, sym, subst, arith, inl, inr, Option, None, length-set, get_or-set_same, get_or-set_other, le_trans}
use Rattle.std.specs.Prelude.{count_by}
use Rattle.std.proofs.lemmas.Bool.{cases_Bool, cases_eq}
use Rattle.shogi_core.specs.declared.moves.Move.TheVariants.{Board}
use Rattle.shogi_core.specs.Movement.{Cells, piece_at, reaches}
use Rattle.shogi_core.specs.Position.{Shogi, HandCounts}
use Rattle.shogi_core.proofs.Faultless.{IsFaultless}
use Rattle.shogi_core.proofs.Faults.{faultless_from}
use Rattle.shogi_moves.specs.Legal.{is_safe}
use Rattle.shogi_core.specs.declared.piece.Color.{Color}
use Rattle.shogi_core.specs.declared.piece.Kind.{Kind}
use Rattle.shogi_core.specs.declared.piece.Piece.{Piece}
use Rattle.shogi_core.specs.Pieces.{is_of_kind, set_size}
use Rattle.shogi_core.specs.Attack.{in_check}
use Rattle.shogi_core.specs.Cell.{is_king, is_pawn, is_piece_of, is_immobile, is_immobile_on}
use Rattle.shogi_core.specs.Validity.{pawns_on_file, count_of, IsValid}
use Rattle.shogi_moves.specs.After.{piece_moved, with_captured, after}
use Rattle.shogi_moves.proofs.Counts.{count_moved, count_on_file_moved, nothing_here, here}
use Rattle.shogi_moves.proofs.MovedPieces.{is_of_kind-piece_moved, is_king-piece_moved, is_pawn-piece_moved, hands-with_captured, pawn_stays_on_file, opponent_twice}

-- what the rules say of a safe board move
pub record IsSafeBoardMove (p : Shogi) (from to : ℕ) (promote : Bool) : Type 0 where
  pub own : is_piece_of p.side (piece_at p.cells from) ≡ true
  pub free : is_piece_of p.side (piece_at p.cells to) ≡ false
  pub reached : reaches p.cells from to ≡ true
  pub alive : is_immobile to (piece_moved promote (piece_at p.cells from)) ≡ false
  pub shut : in_check (after p (Board from to promote)).cells p.side ≡ false

-- a safe board move obeys each of its rules
pub safe_board_move : (p : Shogi) (from to : ℕ) (promote : Bool) → is_safe p (Board from to promote) ≡ true → IsSafeBoardMove p from to promote
unfolding is_safe
safe_board_move p from to promote e = grind arith

-- origin and destination differ
apart : (cells : Cells) (side : Color) (from to : ℕ) → is_piece_of side (piece_at cells from) ≡ true → is_piece_of side (piece_at cells to) ≡ false → to ≢ from
apart cells side from to own free same = grind arith

-- no piece comes or goes
counts_after_board : (cells : Cells) (hands : HandCounts) (side : Color) (from to : ℕ) (promote : Bool) (kind : Kind) → length cells ≡ 81 → length hands ≡ 14 → from < 81 → to < 81 → to ≢ from
    → count_of kind (set (set cells from None) to (piece_moved promote (piece_at cells from))) (with_captured hands side (piece_at cells to)) ≡ count_of kind cells hands
counts_after_board cells hands side from to promote kind lc lh hf ht other =
    let board = count_moved (is_of_kind kind) cells from to (piece_moved promote (piece_at cells from)) refl (omega arith) (omega arith) other in
    let board' = rw (is_of_kind-piece_moved kind promote (piece_at cells from)) at board in
    let hand = hands-with_captured hands side (piece_at cells to) kind lh in
    omega arith

-- no king is added
kings_after_board : (cells : Cells) (from to : ℕ) (promote : Bool) (color : Color) → length cells ≡ 81 → from < 81 → to < 81 → to ≢ from
    → count_by (is_king color) (set (set cells from None) to (piece_moved promote (piece_at cells from))) ≤ count_by (is_king color) cells
kings_after_board cells from to promote color lc hf ht other =
    let board = count_moved (is_king color) cells from to (piece_moved promote (piece_at cells from)) refl (omega arith) (omega arith) other in
    let board' = rw (is_king-piece_moved color promote (piece_at cells from)) at board in
    omega arith

-- no file gets a second pawn, since a pawn stays on its file
pawns_after_board : (cells : Cells) (from to : ℕ) (promote : Bool) (color : Color) (file : ℕ) → length cells ≡ 81 → from < 81 → to < 81 → to ≢ from → reaches cells from to ≡ true
    → pawns_on_file color file (set (set cells from None) to (piece_moved promote (piece_at cells from))) ≤ pawns_on_file color file cells
pawns_after_board cells from to promote color file lc hf ht other reached =
    let board = count_on_file_moved (is_pawn color) file cells from to (piece_moved promote (piece_at cells from)) refl (omega arith) (omega arith) other in
    elim (cases_Bool (is_pawn color (piece_moved promote (piece_at cells from)))) [
      | inl pawn ↦
          (let before : is_pawn color (piece_at cells from) ≡ true = is_pawn-piece_moved color promote (piece_at cells from) pawn in
          let stays : from / 9 ≡ to / 9 = pawn_stays_on_file cells color from to before reached in
          let board' = rw (pawn, before, stays) at board in
          omega arith)
      | inr other_piece ↦
          (let none : here file to (is_pawn color (piece_moved promote (piece_at cells from))) ≡ 0 = nothing_here file to _ other_piece in
          omega arith)
    ]

-- no piece stands where it could never move again
alive_after_board : (cells : Cells) (from to : ℕ) (v : Option Piece) (square : ℕ) → length cells ≡ 81 → from < 81 → to < 81 → is_immobile to v ≡ false → is_immobile_on cells square ≡ false
    → is_immobile_on (set (set cells from None) to v) square ≡ false
alive_after_board cells from to v square lc hf ht alive before = grind (arith, cases_eq square to, cases_eq square from, length-set cells from None, get_or-set_same (set cells from None) to v None, get_or-set_same cells from None None, get_or-set_other (set cells from None) to square v None, get_or-set_other cells from square None None)

-- a safe board move leaves no fault
pub faultless_after_board : (p : Shogi) (from to : ℕ) (promote : Bool) → IsValid p → from < 81 → to < 81 → is_safe p (Board from to promote) ≡ true → IsFaultless (after p (Board from to promote))
faultless_after_board p from to promote valid hfrom hto safe =
    let fine = faultless_from p valid.no_fault in
    let m = safe_board_move p from to promote safe in
    let other = apart p.cells p.side from to m.own m.free in
    record {
      counts = λ kind. subst (λ (n : ℕ). n ≤ set_size kind) (sym (counts_after_board p.cells p.hands p.side from to promote kind valid.cells_fit valid.hands_fit hfrom hto other)) (fine.counts kind);
      kings = λ color. le_trans (kings_after_board p.cells from to promote color valid.cells_fit hfrom hto other) (fine.kings color);
      pawns = λ color file h. le_trans (pawns_after_board p.cells from to promote color file valid.cells_fit hfrom hto other m.reached) (fine.pawns color file h);
      alive = λ square h. alive_after_board p.cells from to (piece_moved promote (piece_at p.cells from)) square valid.cells_fit hfrom hto m.alive (fine.alive square h);
      shut = rw (opponent_twice p.side) m.shut;
    }
