use Rattle.std.proofs.Common.{◌-◌, arith}
use Rattle.shogi_core.specs.Codes.{code_of}
use Rattle.shogi_moves.specs.After.{after_code}
use Rattle.search_nodes.proofs.Passing.{left_kept}
use Rattle.minimax.proofs.MinimaxLaws.{tree_size-positive}
use Rattle.search_nodes.proofs.frame.Frame.next_unrefuted.Goals as goal

pub moves-smaller : goal.moves-smaller
moves-smaller c =
    omega (arith, left_kept c.pick_move.new.self c.prune_analogous.new.self c.prune_analogous.ensures.unchanged c.prune_analogous.ensures.picker, c.in-Some.ensures.1.1.0, tree_size-positive (after_code c.pick_move.new.self.node.position (code_of c.in-Some.current)) (c.pick_move.new.self.depth - 1))
