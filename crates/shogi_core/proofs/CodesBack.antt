-- Codes and moves are in one-to-one correspondence.
use Rattle.std.proofs.Common.{◌≡◌, ℕ, ◌+◌, ◌-◌, ◌*◌, ◌/◌, ◌%◌, ◌<◌, ◌≤◌, Bool, true, false, Some, refl, ◌∙◌, arith, inl, inr}
use Rattle.std.specs.Prelude.{◌==◌, nat_lt, zero, suc}
use Rattle.std.proofs.lemmas.Bool.{cond-true, cond-false, lt-ltb, le-ltb, eq-eqb, ne_eqb, cases_eq}
use Rattle.shogi_core.specs.declared.moves.TheConstants.{MOVE_CODE_COUNT, FIRST_DROP}
use Rattle.shogi_core.specs.declared.piece.Kind.{Kind}
use Rattle.shogi_core.specs.declared.piece.Kind.TheVariants as kinds
use Rattle.shogi_core.specs.declared.moves.Move.TheVariants.{Board, Drop}
use Rattle.shogi_core.specs.Pieces.{kind_number}
use Rattle.shogi_core.specs.Codes.{code_of, move_of, kind_at}
use Rattle.shogi_core.proofs.Faults.{number_below}

kind_at-kind_number : (kind : Kind) → kind_at (kind_number kind) ≡ kind
kind_at-kind_number kinds.Pawn = refl
kind_at-kind_number _ = refl

board_back : (code from to : ℕ) (promote : Bool) → code < FIRST_DROP → code / 2 / 81 ≡ from → code / 2 % 81 ≡ to → (code % 2 == 1) ≡ promote → move_of code ≡ Some (Board from to promote)
board_back code from to promote h e f g = cond-true (nat_lt code FIRST_DROP) _ _ (lt-ltb code FIRST_DROP h) ∙ rw (e, f, g) refl

pub move_of-board : (from to : ℕ) (promote : Bool) → from < 81 → to < 81 → move_of (code_of (Board from to promote)) ≡ Some (Board from to promote)
move_of-board from to true hf ht = board_back ((from * 81 + to) * 2 + 1) from to true (omega arith) (omega arith) (omega arith) (eq-eqb (((from * 81 + to) * 2 + 1) % 2) 1 (omega arith))
move_of-board from to false hf ht = board_back ((from * 81 + to) * 2 + 0) from to false (omega arith) (omega arith) (omega arith) (ne_eqb (((from * 81 + to) * 2 + 0) % 2) 1 (λ e. omega arith))

drop_back : (code n to : ℕ) (kind : Kind) → FIRST_DROP ≤ code → code < MOVE_CODE_COUNT → (code - FIRST_DROP) / 81 ≡ n → (code - FIRST_DROP) % 81 ≡ to → kind_at n ≡ kind → move_of code ≡ Some (Drop kind to)
drop_back code n to kind h k e f g =
    cond-false (nat_lt code FIRST_DROP) _ _ (le-ltb code FIRST_DROP h) ∙ (cond-true (nat_lt code MOVE_CODE_COUNT) _ _ (lt-ltb code MOVE_CODE_COUNT k) ∙ rw (e, f, g) refl)

pub move_of-drop : (kind : Kind) (to : ℕ) → to < 81 → move_of (code_of (Drop kind to)) ≡ Some (Drop kind to)
move_of-drop kind to h =
    let n : kind_number kind < 7 = number_below kind in
    drop_back (FIRST_DROP + kind_number kind * 81 + to) (kind_number kind) to kind (omega arith) (omega arith) (omega arith) (omega arith) (kind_at-kind_number kind)

pub code_of-board : (code : ℕ) → code_of (Board (code / 2 / 81) (code / 2 % 81) (code % 2 == 1)) ≡ code
code_of-board code = elim (cases_eq (code % 2) 1) [
  | inl odd ↦ rw (eq-eqb (code % 2) 1 odd) (omega arith)
  | inr even ↦ rw (ne_eqb (code % 2) 1 even) (omega arith)
]

kind_number-kind_at : (n : ℕ) → n < 7 → kind_number (kind_at n) ≡ n
kind_number-kind_at zero h = refl
kind_number-kind_at (suc zero) h = refl
kind_number-kind_at (suc (suc zero)) h = refl
kind_number-kind_at (suc (suc (suc zero))) h = refl
kind_number-kind_at (suc (suc (suc (suc zero)))) h = refl
kind_number-kind_at (suc (suc (suc (suc (suc zero))))) h = refl
kind_number-kind_at (suc (suc (suc (suc (suc (suc zero)))))) h = refl
kind_number-kind_at (suc (suc (suc (suc (suc (suc (suc n))))))) h = absurd (omega arith)

pub code_of-drop : (code : ℕ) → FIRST_DROP ≤ code → code < MOVE_CODE_COUNT → code_of (Drop (kind_at ((code - FIRST_DROP) / 81)) ((code - FIRST_DROP) % 81)) ≡ code
code_of-drop code h k = let n : kind_number (kind_at ((code - FIRST_DROP) / 81)) ≡ (code - FIRST_DROP) / 81 = kind_number-kind_at ((code - FIRST_DROP) / 81) (omega arith) in omega arith

pub ruleset codes_back = (move_of-board, move_of-drop, code_of-board, code_of-drop)
