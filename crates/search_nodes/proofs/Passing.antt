-- The steps left to a node of which only its moves to visit changed.
use Rattle.std.proofs.Common.{◌≡◌, ◌-◌, ℕ, ap, ◌∙◌, arith}
use Rattle.shogi_eval.specs.Evaluated.{Evaluated}
use Rattle.search_nodes.specs.declared.frame.Frame.{Frame}
use Rattle.search_nodes.specs.declared.move_picker.MovePicker.{MovePicker}
use Rattle.minimax.specs.Minimax.{sum_of_tree_sizes}
use Rattle.search_nodes.specs.Order.{todo}
use Rattle.search_nodes.specs.Changes.{IsSame, left_of_frame}

pub moves_same : (f g : Frame) → IsSame f g → g.picker ≡ f.picker → sum_of_tree_sizes g.node.position (g.depth - 1) (todo g.node.position g.picker) ≡ sum_of_tree_sizes f.node.position (f.depth - 1) (todo f.node.position f.picker)
moves_same f g s k =
    ap (λ (x : Evaluated). sum_of_tree_sizes x.position (g.depth - 1) (todo x.position g.picker)) s.0
    ∙ ap (λ (x : ℕ). sum_of_tree_sizes f.node.position (x - 1) (todo f.node.position g.picker)) s.1.0
    ∙ ap (λ (x : MovePicker). sum_of_tree_sizes f.node.position (f.depth - 1) (todo f.node.position x)) k

-- with equal moves to visit, equally many steps are left
pub left_kept : (f g : Frame) → IsSame f g → g.picker ≡ f.picker → left_of_frame g ≡ left_of_frame f
left_kept f g s k = omega (arith, moves_same f g s k)
