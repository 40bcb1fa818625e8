-- The steps left to a frame, those of a second search included, since children of the root may be searched twice.
use Rattle.std.proofs.Common.{◌≡◌, ◌<◌, ◌≤◌, ◌+◌, ◌-◌, ◌*◌, ◌==◌, ◌<ℤ◌, ℕ, ℤ, arith}
use Rattle.std.specs.Prelude.{cond}
use Rattle.std.proofs.lemmas.Int.{ints}
use Rattle.std.proofs.lemmas.Bool.Decides.{Decides-int_eq, nat_tests}
use Rattle.shogi_core.specs.declared.moves.Move.{Move}
use Rattle.minimax.specs.Minimax.{tree_size}
use Rattle.search_nodes.specs.declared.frame.Frame.{Frame}
use Rattle.search_nodes.specs.Frames.{position_after}
use Rattle.search_nodes.specs.Changes.{IsSame, left_of_frame}
use Rattle.shogi_search.specs.Stack.{left_at, steps_for}

-- a root counts its steps left twice
pub left_root : (d : ℕ) (bound beta : ℤ) (f : Frame) → f.depth ≡ d → left_at d bound beta f ≡ left_of_frame f + left_of_frame f
left_root d bound beta f e = grind (arith, nat_tests)

-- a child of the root under a narrow window counts its tree once more
pub left_narrow : (d : ℕ) (bound beta : ℤ) (f : Frame) → f.depth + 1 ≡ d → bound <ℤ beta → left_at d bound beta f ≡ left_of_frame f + 2 * tree_size f.node.position f.depth
left_narrow d bound beta f e less = grind (arith, ints, nat_tests, Decides-int_eq)

-- any other node counts its steps left once
pub left_whole : (d : ℕ) (bound beta : ℤ) (f : Frame) → f.depth < d → bound ≡ beta → left_at d bound beta f ≡ left_of_frame f
left_whole d bound beta f low same = grind (arith, nat_tests, Decides-int_eq)

-- a child that is entered has fewer steps left than its move is allowed
pub left_pushed : (d : ℕ) (bound beta : ℤ) (f g : Frame) (m : Move) → f.depth ≤ d → g.depth + 1 ≡ f.depth → g.node.position ≡ position_after f m → left_of_frame g < 2 * tree_size (position_after f m) (f.depth - 1) → left_at d bound beta g + 1 ≤ steps_for d f m
left_pushed d bound beta f g m high below is less = grind (arith, nat_tests)

-- with equal steps left, a frame of the same node counts equally many
pub left_stays : (d : ℕ) (bound beta : ℤ) (f g : Frame) → IsSame f g → left_of_frame g ≡ left_of_frame f → left_at d bound beta g ≡ left_at d bound beta f
left_stays d bound beta f g s e = grind (arith, nat_tests)

-- the steps for a move are taken off, at the root twice
pub left_taken : (d : ℕ) (bound beta : ℤ) (f g : Frame) (n : ℕ) → IsSame f g → left_of_frame g + n ≤ left_of_frame f → left_at d bound beta g + (n + cond (g.depth == d) n 0) ≤ left_at d bound beta f
left_taken d bound beta f g n s less = grind (arith, nat_tests)
