-- Minimax at a fixed depth (own choice: the depth is exact, a side without a legal move has lost, and among equal moves the least code is best).
use Rattle.std.specs.Prelude.{◌≡◌, ◌≤ℤ◌, ℕ, zero, suc, ℤ, pos, ◌-ℤ◌, ◌+◌, ◌*◌, List, [], ◌∷◌, Option, Some, None, find, sum_by, ◌+ℤ◌}
use Rattle.std.specs.Int.{int_max}
use Rattle.std.specs.Ordering.{int_eq}
use Rattle.shogi_core.specs.declared.moves.Move.{Move}
use Rattle.shogi_core.specs.Codes.{move_of}
use Rattle.shogi_core.specs.Position.{Shogi}
use Rattle.shogi_moves.specs.After.{after, after_code}
use Rattle.shogi_moves.specs.LegalMoves.{legal_codes}
use Rattle.shogi_eval.specs.declared.eval.Eval.{Eval}
use Rattle.shogi_eval.specs.Material.{material_of}
use Rattle.shogi_eval.specs.Exchange.{leaf_after}
use Rattle.minimax.specs.declared.entry.Entry.{Entry}
use Rattle.minimax.specs.declared.entry.Entry.TheVariants.{Exact, AtLeast, AtMost}
use Rattle.minimax.specs.declared.bounds.TheConstants.{MATE}

-- Here e is an evaluation, d the number of plies left, and a code the number of a move. A step of a search enters a node or leaves it.

-- a value as the opponent sees it
abbrev pub negated : ℤ → ℤ
negated v = pos 0 -ℤ v

-- the value for a side without a legal move, in check or not, with d plies left
abbrev pub lost_value : ℕ → ℤ
lost_value d = negated (MATE +ℤ pos d)

-- the greatest worth among the code and those of the list
abbrev pub greatest : (ℕ → ℤ) → ℕ → List ℕ → ℤ
greatest worth_of code [] = worth_of code
greatest worth_of code (next ∷ more) = int_max (worth_of code) (greatest worth_of next more)

-- the greatest worth of the codes, or `otherwise` if there are none
abbrev pub greatest_or : ℤ → (ℕ → ℤ) → List ℕ → ℤ
greatest_or otherwise worth_of [] = otherwise
greatest_or otherwise worth_of (code ∷ codes) = greatest worth_of code codes

-- the value `lost` if no move is legal, else `static_value`
abbrev pub if_no_move_else : ℤ → ℤ → List ℕ → ℤ
if_no_move_else lost static_value [] = lost
if_no_move_else lost static_value (code ∷ codes) = static_value

-- the value of the position after the move that ends a line, for the side to move then
abbrev pub ended : Shogi → Eval → ℕ → ℤ
ended p e code =
    if_no_move_else (lost_value 0) (leaf_after p e code) (legal_codes (after_code p code))

-- the value of a position at a depth, for the side to move
unfoldable pub value : Shogi → Eval → ℕ → ℤ
value p e zero = if_no_move_else (lost_value 0) (material_of p e) (legal_codes p)
value p e (suc zero) =
    greatest_or (lost_value 1) (λ code. negated (ended p e code)) (legal_codes p)
value p e (suc (suc d)) =
    greatest_or (lost_value (suc (suc d))) (λ code. negated (value (after_code p code) e (suc d)))
    (legal_codes p)

-- the worth of a move to its mover, with d plies after it
abbrev pub worth : Shogi → Eval → ℕ → ℕ → ℤ
worth p e zero code = negated (ended p e code)
worth p e (suc d) code = negated (value (after_code p code) e (suc d))

-- the least code whose move is worth the position's value; none at depth 0 or without a legal move
unfoldable pub best_code : Shogi → Eval → ℕ → Option ℕ
best_code p e zero = None
best_code p e (suc d) = find (λ code. int_eq (worth p e d code) (value p e (suc d))) (legal_codes p)

-- the move of an optional code
abbrev pub move_of_some : Option ℕ → Option Move
move_of_some None = None
move_of_some (Some code) = move_of code

-- the best move; none at depth 0 or without a legal move
unfoldable pub best : Shogi → Eval → ℕ → Option Move
best p e d = move_of_some (best_code p e d)

-- a move and the pv of the position after it, as `rest` gives it; empty without a move
abbrev pub then_pv : (Shogi → List Move) → Shogi → Option Move → List Move
then_pv rest p None = []
then_pv rest p (Some m) = m ∷ rest (after p m)

-- the principal variation: the best move, then the principal variation of the position after it, one ply shallower
unfoldable pub pv : Shogi → Eval → ℕ → List Move
pv p e zero = []
pv p e (suc d) = then_pv (λ q. pv q e d) p (best p e (suc d))

-- the number of nodes in the whole tree, root included
unfoldable pub tree_size : Shogi → ℕ → ℕ
tree_size p zero = 1
tree_size p (suc d) = 1 + sum_by (λ code. tree_size (after_code p code) d) (legal_codes p)

-- the nodes of the trees after the moves of these codes, each of depth d, in all
abbrev pub sum_of_tree_sizes : Shogi → ℕ → List ℕ → ℕ
sum_of_tree_sizes p d codes = sum_by (λ code. tree_size (after_code p code) d) codes

-- the search steps for the pv after a move, as `rest` gives them; 0 without a move
abbrev pub then_pv_cost : (Shogi → ℕ) → Shogi → Option Move → ℕ
then_pv_cost rest p None = 0
then_pv_cost rest p (Some m) = rest (after p m)

-- the most search steps for the pv of this depth if each of its positions is searched anew: four for each node of the trees along it, to enter and leave it twice
unfoldable pub pv_cost : Shogi → Eval → ℕ → ℕ
pv_cost p e zero = 0
pv_cost p e (suc d) =
    4 * tree_size p (suc d) + then_pv_cost (λ q. pv_cost q e d) p (best p e (suc d))

-- the entry tells the truth about the position at the depth
abbrev pub IsTrueEntry : Shogi → Eval → ℕ → Entry → Type 0
IsTrueEntry p e d (Exact v m) = (value p e d ≡ v) × (best p e d ≡ m)
IsTrueEntry p e d (AtLeast v) = v ≤ℤ value p e d
IsTrueEntry p e d (AtMost v) = value p e d ≤ℤ v
