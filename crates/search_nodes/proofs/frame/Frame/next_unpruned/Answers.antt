use Rattle.std.proofs.Common.{◌-◌, arith}
use Rattle.shogi_core.specs.Codes.{code_of}
use Rattle.shogi_moves.specs.After.{after_code}
use Rattle.search_nodes.specs.declared.frame.Frame.{Frame}
use Rattle.search_nodes.proofs.Passing.{left_kept}
use Rattle.search_nodes.proofs.Rows.{same_again, same_at}
use Rattle.minimax.proofs.MinimaxLaws.{tree_size-positive}
use Rattle.search_nodes.proofs.frame.Frame.next_unpruned.Goals as goal

pub moves-smaller : goal.moves-smaller
moves-smaller c =
    omega (arith, left_kept c.pick_move.new.self c.fail_low.new.self c.fail_low.ensures.ended.0 c.fail_low.ensures.ended.1.0, c.prune_in_bulk.ensures.pruned.1.1, c.in-Some.ensures.1.1.0, tree_size-positive (after_code c.pick_move.new.self.node.position (code_of c.in-Some.current)) (c.pick_move.new.self.depth - 1))

pub is_lost-requires-clause-at : goal.is_lost-requires-clause-at
is_lost-requires-clause-at c = same_at c.prune_in_bulk.new.self c.pick_move.new.self c.prune_in_bulk.new.cache c.pick_move.ensures.0 c.prune_in_bulk.ensures.at

pub moves-preserved : goal.moves-preserved
moves-preserved c =
    let f : Frame = c.prune_in_bulk.new.self in
    let g : Frame = c.pick_move.new.self in
    let h : Frame = c.fail_low.new.self in
    record {
      next = c.fail_low.ensures.next;
      left = omega (arith, left_kept g h c.fail_low.ensures.ended.0 c.fail_low.ensures.ended.1.0, c.prune_in_bulk.ensures.pruned.1.1, c.in-Some.ensures.1.1.0, c.moves.invariant.left);
      same = same_again c.args.self.now g h (same_again c.args.self.now f g (same_again c.args.self.now c.moves.self f c.moves.invariant.same c.prune_in_bulk.ensures.pruned.0) c.pick_move.ensures.0) c.fail_low.ensures.ended.0;
      at = same_at g h c.is_lost.new.cache c.fail_low.ensures.ended.0 c.is_lost.ensures.at;
    }

pub returns-in_default-clause-at : goal.returns-in_default-clause-at
returns-in_default-clause-at c = same_at c.prune_in_bulk.new.self c.pick_move.new.self c.prune_in_bulk.new.cache c.pick_move.ensures.0 c.prune_in_bulk.ensures.at
