-- The order of a node's moves: legal priority moves, then captures, then quiet moves and drops, each by rising code (own choice).
use Rattle.std.specs.Prelude.{ℕ, ◌+◌, ◌-◌, ◌*◌, ◌<◌, ◌≤◌, ◌≡◌, Bool, true, false, ◌&&◌, not, Option, List, [], ◌++◌, filter, take}
use denote.Struct.Props as logic
use Rattle.shogi_core.specs.declared.moves.TheConstants.{FIRST_DROP}
use Rattle.shogi_core.specs.declared.moves.Move.{Move}
use Rattle.shogi_core.specs.declared.piece.Kind.{Kind}
use Rattle.shogi_core.specs.Codes.{code_of}
use Rattle.shogi_core.specs.Position.{Shogi}
use Rattle.shogi_moves.specs.Captures.{matches_kind}
use Rattle.shogi_moves.specs.Legal.{is_legal}
use Rattle.shogi_moves.specs.LegalMoves.{legal_from}
use Rattle.shogi_moves.specs.Rising.{is_in}
use Rattle.shogi_moves.specs.Sweeps.{IsBoardSweep, IsDropSweep}
use Rattle.shogi_replies.specs.declared.move_filter.MoveFilter.{MoveFilter}
use Rattle.shogi_replies.specs.Passes.{IsSkipped, IsGuaranteedMove, IsGuaranteedDrop}
use Rattle.shogi_moves.specs.Walks.{IsNextOf, TakesNext}
use Rattle.shogi_moves.specs.declared.sweep.BoardSweep.{BoardSweep}
use Rattle.shogi_moves.specs.declared.sweep.DropSweep.{DropSweep}
use Rattle.analogous_moves.specs.declared.moves.AnalogousMoves.{AnalogousMoves}
use Rattle.analogous_moves.specs.Analogies.{IsOneOf, IsOnSquares, IsQuietMove}
use Rattle.minimax.specs.Minimax.{sum_of_tree_sizes, tree_size}
use Rattle.search_nodes.specs.PriorityMoves.{legal_priority_moves}
use Rattle.search_nodes.specs.declared.priority_moves.PriorityMoves.{PriorityMoves}
use Rattle.search_nodes.specs.declared.move_picker.MovePicker.{MovePicker}
use Rattle.search_nodes.specs.declared.move_picker.MovePicker.TheVariants.{First, Captures, Quiets, Drops, Done}

-- the code is no priority move's, and that of a capture, or of any other move without `capture`
abbrev pub matches_other : Shogi → List ℕ → Bool → ℕ → Bool
matches_other p priority_moves capture code =
    matches_kind p capture code && not (is_in code priority_moves)

-- the legal moves of this kind from a code on
abbrev pub matching_others_from : Shogi → List ℕ → Bool → ℕ → List ℕ
matching_others_from p priority_moves capture code =
    filter (matches_other p priority_moves capture) (legal_from p code)

-- the legal moves that are no priority moves: captures, then all others
abbrev pub others_to_come : Shogi → List ℕ → List ℕ
others_to_come p priority_moves =
    matching_others_from p priority_moves true 0 ++ matching_others_from p priority_moves false 0

-- the codes of the priority moves, in order
abbrev pub codes_of : PriorityMoves → List ℕ
codes_of priority_moves = take priority_moves.len priority_moves.codes

-- the moves to visit from the priority move at index `from` on
abbrev pub todo_from : Shogi → PriorityMoves → ℕ → List ℕ
todo_from p priority_moves from =
    legal_priority_moves p (codes_of priority_moves) from ++ others_to_come p (codes_of priority_moves)

-- the moves still to visit
abbrev pub todo : Shogi → MovePicker → List ℕ
todo p (First priority_moves from) = todo_from p priority_moves from
todo p (Captures priority_moves s) =
    matching_others_from p (codes_of priority_moves) true s.code
    ++ matching_others_from p (codes_of priority_moves) false 0
todo p (Quiets priority_moves s) = matching_others_from p (codes_of priority_moves) false s.code
todo p (Drops priority_moves s) = matching_others_from p (codes_of priority_moves) false s.code
todo p Done = []

-- one step, and two for each node of the trees after the moves to visit, are fewer than two for each node of the node's tree
abbrev pub IsWithinTree : Shogi → ℕ → MovePicker → Type 0
IsWithinTree p d picker = 1 + 2 * sum_of_tree_sizes p (d - 1) (todo p picker) < 2 * tree_size p d

-- the moves still to visit once the present sweep has ended
abbrev pub todo_after : Shogi → MovePicker → List ℕ
todo_after p (First priority_moves from) = todo p (First priority_moves from)
todo_after p (Captures priority_moves s) = matching_others_from p (codes_of priority_moves) false 0
todo_after p (Quiets priority_moves s) = matching_others_from p (codes_of priority_moves) false FIRST_DROP
todo_after p (Drops priority_moves s) = []
todo_after p Done = []

-- a sweep over the board yields its next move that is no priority move, or has ended
abbrev pub TakesBoardPick :
    Shogi → List ℕ → Bool → Option Move → BoardSweep → BoardSweep → Type 0
TakesBoardPick p priority_moves capture picked old new =
    IsNextOf picked (matching_others_from p priority_moves capture old.code)
    (matching_others_from p priority_moves capture new.code)
    (matching_others_from p priority_moves capture FIRST_DROP)

-- a sweep over the drops yields its next move that is no priority move, or has ended
abbrev pub TakesDropPick : Shogi → List ℕ → Option Move → DropSweep → DropSweep → Type 0
TakesDropPick p priority_moves picked old new =
    IsNextOf picked (matching_others_from p priority_moves false old.code)
    (matching_others_from p priority_moves false new.code) []

-- the present sweep yields its next move, or has ended
abbrev pub TakesFromSweep : Shogi → Option Move → MovePicker → MovePicker → Type 0
TakesFromSweep p picked old new = IsNextOf picked (todo p old) (todo p new) (todo_after p new)

-- the first of the codes is picked, and those after it are still to visit; if there is none, nothing is
abbrev pub TakesPriorityMove : Shogi → Option Move → List ℕ → MovePicker → Type 0
TakesPriorityMove p picked codes new = TakesNext picked codes (todo p new)

-- the first quiet move or drop is picked, if there is one
abbrev pub TakesFirstQuiet : Shogi → List ℕ → Option Move → MovePicker → Type 0
TakesFirstQuiet p priority_moves picked new =
    TakesPriorityMove p picked (matching_others_from p priority_moves false 0) new

-- the first drop is picked, if there is one
abbrev pub TakesFirstDrop : Shogi → List ℕ → Option Move → MovePicker → Type 0
TakesFirstDrop p priority_moves picked new =
    TakesPriorityMove p picked (matching_others_from p priority_moves false FIRST_DROP) new

-- the picker is at quiet board moves, from `code` on
abbrev pub IsAtQuiets : MovePicker → ℕ → Type 0
IsAtQuiets (First priority_moves from) code = ⊥
IsAtQuiets (Captures priority_moves s) code = ⊥
IsAtQuiets (Quiets priority_moves s) code = s.code ≡ code
IsAtQuiets (Drops priority_moves s) code = ⊥
IsAtQuiets Done code = ⊥

-- the picker is at drops of the kind, from `code` on
abbrev pub IsAtDrops : MovePicker → Kind → ℕ → Type 0
IsAtDrops (First priority_moves from) kind code = ⊥
IsAtDrops (Captures priority_moves s) kind code = ⊥
IsAtDrops (Quiets priority_moves s) kind code = ⊥
IsAtDrops (Drops priority_moves s) kind code = (s.kind ≡ kind) × (s.code ≡ code)
IsAtDrops Done kind code = ⊥

-- if the picker is at quiet board moves, it skips only such as the filter has and guarantee a reply
abbrev pub SkipsQuiets : Shogi → MoveFilter → ℕ → MovePicker → MovePicker → Type 0
SkipsQuiets p move_filter escapes old new =
    (code : ℕ) → IsAtQuiets old code
    → IsSkipped (IsGuaranteedMove p false move_filter escapes code) (todo p old) (todo p new)

-- if the picker is at drops of a kind, it skips only such as end on `squares` and guarantee a reply
abbrev pub SkipsDrops : Shogi → ℕ → ℕ → MovePicker → MovePicker → Type 0
SkipsDrops p squares escapes old new =
    (kind : Kind) (code : ℕ) → IsAtDrops old kind code
    → IsSkipped (IsGuaranteedDrop p kind squares escapes code) (todo p old) (todo p new)

-- the picker is at quiet board moves or drops, from `code` on
abbrev pub IsAtCode : MovePicker → ℕ → Type 0
IsAtCode (First priority_moves from) code = ⊥
IsAtCode (Captures priority_moves s) code = ⊥
IsAtCode (Quiets priority_moves s) code = s.code ≡ code
IsAtCode (Drops priority_moves s) code = s.code ≡ code
IsAtCode Done code = ⊥

-- the code, at or above `first`, is that of a legal analogous move that neither captures nor promotes
pub record IsAnalogousFrom (p : Shogi) (d : AnalogousMoves) (first code : ℕ) : Type 0 where
  pub above : first ≤ code
  pub move : Move
  pub is : code ≡ code_of move
  pub on_board : IsOnSquares move
  pub among : IsOneOf d move
  pub quiet : IsQuietMove p move
  pub legal : is_legal p move ≡ true

-- if the picker is at quiet board moves or drops, it skips only analogous moves
abbrev pub SkipsAnalogous : Shogi → AnalogousMoves → MovePicker → MovePicker → Type 0
SkipsAnalogous p d old new = (code : ℕ) → IsAtCode old code
    → IsSkipped (IsAnalogousFrom p d code) (todo p old) (todo p new)

-- the state of the picker's sweep is true of the position
abbrev pub IsKept : Shogi → MovePicker → Type 0
IsKept p (First priority_moves from) = Unit {0}
IsKept p (Captures priority_moves s) = IsBoardSweep p true s
IsKept p (Quiets priority_moves s) = IsBoardSweep p false s
IsKept p (Drops priority_moves s) = IsDropSweep p s
IsKept p Done = Unit {0}

-- `IsKept` is a proposition, so it may be a ghost field
pub IsKept-prop : (p : Shogi) (picker : MovePicker) → IsProp (IsKept p picker)
IsKept-prop p (First priority_moves from) = Prim.hlevel logic.props
IsKept-prop p (Captures priority_moves s) = Prim.hlevel logic.props
IsKept-prop p (Quiets priority_moves s) = Prim.hlevel logic.props
IsKept-prop p (Drops priority_moves s) = Prim.hlevel logic.props
IsKept-prop p Done = Prim.hlevel logic.props
