-- A legal move leaves a valid position.
use Rattle.std.proofs.Common.{◌≡◌, ℕ, ◌-◌, ◌/◌, ◌%◌, ◌<◌, ◌≤◌, Bool, true, Option, Some, None, arith, inl, inr, ◌∙◌, sym, subst}
use Rattle.std.specs.Prelude.{◌==◌, nat_lt, length}
use Rattle.std.proofs.lemmas.Grind.{common_steps}
use Rattle.std.proofs.lemmas.Bool.{cases_lt, cond-true, cond-false, lt-ltb, le-ltb}
use Rattle.shogi_core.specs.declared.moves.TheConstants.{FIRST_DROP, MOVE_CODE_COUNT}
use Rattle.shogi_core.specs.declared.moves.Move.{Move}
use Rattle.shogi_core.specs.declared.moves.Move.TheVariants.{Board, Drop}
use Rattle.shogi_core.specs.declared.piece.Color.{Color}
use Rattle.shogi_core.specs.declared.piece.Kind.{Kind}
use Rattle.shogi_core.specs.declared.piece.Piece.{Piece}
use Rattle.shogi_core.specs.Codes.{move_of, kind_at}
use Rattle.shogi_core.specs.Position.{Shogi, HandCounts}
use Rattle.shogi_core.specs.Validity.{IsValid}
use Rattle.shogi_core.specs.Movement.{piece_at}
use Rattle.shogi_core.specs.Pieces.{kind_of}
use Rattle.shogi_moves.specs.After.{after, after_code, with_captured, with_one_more}
use Rattle.shogi_moves.specs.Legal.{is_legal}
use Rattle.shogi_moves.specs.LegalMoves.{legal_codes}
use Rattle.shogi_moves.specs.Rising.{is_in}
use Rattle.shogi_moves.proofs.Keeps.{no_fault_after_board, no_fault_after_drop, is_safe_from_legal}
use Rattle.shogi_moves.proofs.LegalLaws.{legal_in, legal_code_below, is_legal_code_of, after_code_at}

pub board_of : (code : ℕ) → code < FIRST_DROP → move_of code ≡ Some (Board (code / 2 / 81) (code / 2 % 81) (code % 2 == 1))
board_of code h = cond-true (nat_lt code FIRST_DROP) _ _ (lt-ltb code FIRST_DROP h)

pub drop_of : (code : ℕ) → FIRST_DROP ≤ code → code < MOVE_CODE_COUNT → move_of code ≡ Some (Drop (kind_at ((code - FIRST_DROP) / 81)) ((code - FIRST_DROP) % 81))
drop_of code h k = cond-false (nat_lt code FIRST_DROP) _ _ (le-ltb code FIRST_DROP h) ∙ cond-true (nat_lt code MOVE_CODE_COUNT) _ _ (lt-ltb code MOVE_CODE_COUNT k)

length-with_one_more : (hands : HandCounts) (color : Color) (kind : Option Kind) → length (with_one_more hands color kind) ≡ length hands
length-with_one_more hands color None = grind (arith, common_steps)
length-with_one_more hands color (Some kind) = grind (arith, common_steps)

length-with_captured : (hands : HandCounts) (color : Color) (cell : Option Piece) → length (with_captured hands color cell) ≡ length hands
length-with_captured hands color None = grind (arith, common_steps)
length-with_captured hands color (Some piece) = length-with_one_more hands color (kind_of piece.role)

board_valid : (p : Shogi) (from to : ℕ) (promote : Bool) → IsValid p → from < 81 → to < 81 → is_legal p (Board from to promote) ≡ true → IsValid (after p (Board from to promote))
board_valid p from to promote v f t l = record {
  cells_fit = grind (arith, common_steps, v.cells_fit);
  hands_fit = length-with_captured p.hands p.side (piece_at p.cells to) ∙ v.hands_fit;
  no_fault = no_fault_after_board p from to promote (is_safe_from_legal p (Board from to promote) l) v f t;
}

drop_valid : (p : Shogi) (kind : Kind) (to : ℕ) → IsValid p → to < 81 → is_legal p (Drop kind to) ≡ true → IsValid (after p (Drop kind to))
drop_valid p kind to v t l = record {
  cells_fit = grind (arith, common_steps, v.cells_fit);
  hands_fit = grind (arith, common_steps, v.hands_fit);
  no_fault = no_fault_after_drop p kind to (is_safe_from_legal p (Drop kind to) l) v t;
}

at_move : (p : Shogi) (code : ℕ) (m : Move) → is_in code (legal_codes p) ≡ true → move_of code ≡ Some m → (is_legal p m ≡ true → IsValid (after p m)) → IsValid (after_code p code)
at_move p code m i e h = subst IsValid (sym (after_code_at p code m e)) (h (sym (is_legal_code_of p code m e) ∙ legal_in p 0 code i))

pub after_valid : (p : Shogi) (code : ℕ) → IsValid p → is_in code (legal_codes p) ≡ true → IsValid (after_code p code)
after_valid p code v i =
    let below : code < MOVE_CODE_COUNT = legal_code_below p code (legal_in p 0 code i) in
    elim (cases_lt code FIRST_DROP) [
      | inl low ↦ at_move p code _ i (board_of code low) (board_valid p (code / 2 / 81) (code / 2 % 81) (code % 2 == 1) v (omega arith) (omega arith))
      | inr high ↦ at_move p code _ i (drop_of code high below) (drop_valid p (kind_at ((code - FIRST_DROP) / 81)) ((code - FIRST_DROP) % 81) v (omega arith))
    ]
