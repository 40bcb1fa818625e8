-- What a call changes of a node on the stack, and how many steps the node may still take (own choice).
use Rattle.std.specs.Prelude.{◌≡◌, ◌<◌, ◌≤◌, ℕ, ◌+◌, ◌*◌, ◌-◌, ℤ, [], IfNone, Option, MatchOption}
use Rattle.shogi_core.specs.declared.moves.Move.{Move}
use Rattle.shogi_core.specs.Position.{Shogi}
use Rattle.shogi_eval.specs.declared.eval.Eval.{Eval}
use Rattle.search_nodes.specs.declared.frame.Frame.{Frame}
use Rattle.search_nodes.specs.declared.frame.NodeState.{NodeState}
use Rattle.search_nodes.specs.declared.frame.NodeState.TheVariants.{Expanding, AwaitingChild}
use Rattle.search_nodes.specs.Frames.{position_after}
use Rattle.minimax.specs.Minimax.{sum_of_tree_sizes, tree_size}
use Rattle.search_nodes.specs.Order.{todo}
use Rattle.search_nodes.specs.Visits.{IsFree}

-- the frame is a node of this position, evaluation, depth (at least 2) and window
pub record IsAt (p : Shogi) (e : Eval) (d : ℕ) (alpha beta : ℤ) (frame : Frame) : Type 0 where
  pub position : frame.node.position ≡ p
  pub eval : frame.node.eval ≡ e
  pub depth : frame.depth ≡ d
  pub alpha_is : frame.alpha ≡ alpha
  pub beta_is : frame.beta ≡ beta
  pub deep : 1 < frame.depth

-- the two frames are a node of one position, evaluation, depth and window
abbrev pub IsSame : Frame → Frame → Type 0
IsSame f g = (g.node ≡ f.node) × ((g.depth ≡ f.depth) × ((g.alpha ≡ f.alpha) × (g.beta ≡ f.beta)))

-- the frame keeps its node, its moves to visit, its state, and its best move with the value
abbrev pub KeepsMoves : Frame → Frame → Type 0
KeepsMoves old new =
    IsSame old new
    × ((new.picker ≡ old.picker)
    × ((new.state ≡ old.state)
    × ((new.best_value ≡ old.best_value) × (new.best_move ≡ old.best_move))))

-- the frame keeps all of this too, except for beta
abbrev pub KeepsAsked : Frame → Frame → Type 0
KeepsAsked old new =
    (new.node ≡ old.node)
    × ((new.depth ≡ old.depth)
    × ((new.alpha ≡ old.alpha)
    × ((new.picker ≡ old.picker)
    × ((new.state ≡ old.state)
    × ((new.best_value ≡ old.best_value) × (new.best_move ≡ old.best_move))))))

-- the steps left to a frame: one, and two for each node of the trees after the moves still to visit
abbrev pub left_of_frame : Frame → ℕ
left_of_frame f =
    1 + 2 * sum_of_tree_sizes f.node.position (f.depth - 1) (todo f.node.position f.picker)

-- the most steps for the tree after a move of the node: two for each of its nodes
abbrev pub steps_after : Frame → Move → ℕ
steps_after f m = 2 * tree_size (position_after f m) (f.depth - 1)

-- the steps for the tree after the picked move are taken off those left to the frame; if none is picked, no more are left than before
abbrev pub HandsOver : Option Move → Frame → Frame → Type 0
HandsOver asked old new =
    MatchOption asked (left_of_frame new ≤ left_of_frame old)
    (λ m. steps_after new m + left_of_frame new ≤ left_of_frame old)

-- the node waits for the answer of the picked move or, if none is picked, is expanding
abbrev pub WaitsFor : Option Move → NodeState → Type 0
WaitsFor asked state = MatchOption asked (state ≡ Expanding) (λ m. state ≡ AwaitingChild m)

-- the node picks its next move and waits for its answer; if none is picked, no move is left to visit
abbrev pub AsksFor : Option Move → Frame → Frame → Type 0
AsksFor asked old new =
    IsSame old new
    × (WaitsFor asked new.state
    × (HandsOver asked old new × IfNone asked (todo new.node.position new.picker ≡ [])))

-- the visit of the current move ends, and the moves still to visit stay
abbrev pub EndsVisit : Frame → Frame → Type 0
EndsVisit old new =
    IsSame old new
    × ((new.picker ≡ old.picker) × IsFree new.state)

-- moves still to visit are pruned, and nothing else changes that matters
abbrev pub PrunesFiltered : Frame → Frame → Type 0
PrunesFiltered old new =
    IsSame old new
    × ((new.state ≡ old.state) × (left_of_frame new ≤ left_of_frame old))
