-- The moves of a node on the stack, and what is known of it by what it waits for (own choice).
use Rattle.std.specs.Prelude.{◌≡◌, ◌≢◌, true, Some, None, ℕ, zero, suc, ◌-◌, ℤ, ◌≤ℤ◌, List, [], ◌∷◌, Option}
use Rattle.std.proofs.Props.{props}
use Rattle.shogi_core.specs.declared.moves.Move.{Move}
use Rattle.shogi_core.specs.Codes.{code_of}
use Rattle.shogi_core.specs.Position.{Shogi}
use Rattle.shogi_moves.specs.LegalMoves.{legal_codes}
use Rattle.shogi_moves.specs.Rising.{is_in}
use Rattle.shogi_eval.specs.declared.eval.Eval.{Eval}
use Rattle.shogi_eval.specs.Evaluated.{Evaluated}
use Rattle.search_nodes.specs.declared.frame.NodeState.{NodeState}
use Rattle.search_nodes.specs.declared.frame.NodeState.TheVariants.{Expanding, AwaitingChild, CutOff}
use Rattle.search_nodes.specs.declared.move_picker.MovePicker.{MovePicker}
use Rattle.search_nodes.specs.Order.{todo}
use Rattle.minimax.specs.Minimax.{value, worth}
use Rattle.minimax.specs.Window.{IsCovered, code_at}

-- the moves that a search at a depth goes through: none at depth 0
abbrev pub moves_at : Shogi → ℕ → List ℕ
moves_at p zero = []
moves_at p (suc d) = legal_codes p

-- what holds of the move that the node has asked for and not taken in
abbrev pub WhereCurrent : NodeState → (Move → Type 0) → Type 0
WhereCurrent Expanding fact = ⊥
WhereCurrent (AwaitingChild m) fact = fact m
WhereCurrent (CutOff v) fact = ⊥

-- this move is that one
abbrev pub IsCurrent : NodeState → Move → Type 0
IsCurrent state m = WhereCurrent state (λ k. k ≡ m)

-- the node has asked for a move and not taken it in
abbrev pub IsAsked : NodeState → Type 0
IsAsked state = WhereCurrent state (λ _. Unit {0})

-- between two steps no move is asked for
abbrev pub IsFree : NodeState → Type 0
IsFree Expanding = Unit {0}
IsFree (AwaitingChild m) = ⊥
IsFree (CutOff v) = Unit {0}

-- the node is cut off, or no move is to be visited
abbrev pub IsOver : NodeState → List ℕ → Type 0
IsOver Expanding codes = codes ≡ []
IsOver (AwaitingChild m) codes = ⊥
IsOver (CutOff v) codes = Unit {0}

-- the best move is there, legal, and worth this much or more
abbrev pub IsReachedBy : Shogi → Eval → ℕ → ℤ → Option ℕ → Type 0
IsReachedBy p e d v best_move = (best_move ≢ None)
    × ((b : ℕ) → best_move ≡ Some b
    → (is_in b (legal_codes p) ≡ true) × (v ≤ℤ worth p e (d - 1) b))

-- what is known of a node with these moves to visit: the worth of all others but the current one, or that the node is worth enough, and by which move
abbrev pub IsKnownWhile : Shogi → Eval → ℕ → ℤ → ℤ → ℤ → Option ℕ → List ℕ → NodeState → Type 0
IsKnownWhile p e d alpha beta best_value best_move codes Expanding =
    IsCovered (worth p e (d - 1)) (moves_at p d) codes alpha best_value best_move
IsKnownWhile p e d alpha beta best_value best_move codes (AwaitingChild m) =
    IsCovered (worth p e (d - 1)) (moves_at p d) (code_of m ∷ codes) alpha best_value best_move
IsKnownWhile p e d alpha beta best_value best_move codes (CutOff v) =
    ((v ≤ℤ value p e d) × (beta ≤ℤ v)) × IsReachedBy p e d v best_move

-- it has one proof at most, so it may be a ghost field
pub IsKnownWhile-prop :
    (p : Shogi) (e : Eval) (d : ℕ) (alpha beta best_value : ℤ) (best_move : Option ℕ)
    (codes : List ℕ) (state : NodeState)
    → IsProp (IsKnownWhile p e d alpha beta best_value best_move codes state)
IsKnownWhile-prop p e d alpha beta best_value best_move codes Expanding = Prim.hlevel props
IsKnownWhile-prop p e d alpha beta best_value best_move codes (AwaitingChild m) = Prim.hlevel props
IsKnownWhile-prop p e d alpha beta best_value best_move codes (CutOff v) = Prim.hlevel props

-- the set for `by` after a ghost field of this
pub ruleset known_props = (props, IsKnownWhile-prop)

-- what is known of a node with the moves that its picker has still to visit
abbrev pub IsKnownSoFar :
    Evaluated → ℕ → ℤ → ℤ → ℤ → Option Move → MovePicker → NodeState → Type 0
IsKnownSoFar node d alpha beta best_value best_move picker state =
    IsKnownWhile node.position node.eval d alpha beta best_value (code_at best_move)
    (todo node.position picker) state
