use Rattle.std.proofs.Common.{◌≤ℤ◌, ◌-ℤ◌, ◌-◌, arith}
use Rattle.std.proofs.lemmas.Int.{ints}
use Rattle.search_nodes.specs.declared.frame.Frame.{Frame}
use Rattle.shogi_core.specs.declared.moves.Move.{Move}
use Rattle.search_nodes.proofs.AskedMoves.{IsMove, asked_move}
use Rattle.shogi_core.specs.Codes.{code_of}
use Rattle.shogi_moves.specs.After.{after}
use Rattle.shogi_eval.specs.Material.{material_of}
use Rattle.minimax.specs.Minimax.{worth, negated}
use Rattle.search_nodes.proofs.Ahead.{material_left, worth_below}
use Rattle.search_nodes.proofs.asked_move.AskedMove.most_after.Goals as goal

pub score_after-requires : goal.score_after-requires
score_after-requires c = (asked_move c.args.self.now.frame.now c.args.self.now.current.now c.args.self.now.asked c.reveal_invariant.ensures.back).legal

pub overflow_sub-result : goal.overflow_sub-result
overflow_sub-result c =
    let k : _ = asked_move c.args.self.now.frame.now c.args.self.now.current.now c.args.self.now.asked c.reveal_invariant.ensures.back in
    omega (arith, ints, k.least, k.most, c.score_after.ensures)

pub returns : goal.returns
returns c = λ some.
    let f : Frame = c.args.self.now.frame.now in
    let m : Move = c.args.self.now.current.now in
    let k : IsMove f m = asked_move f m c.args.self.now.asked c.reveal_invariant.ensures.back in
    let most : worth f.node.position f.node.eval (f.depth - 1) (code_of m) ≤ℤ negated (material_of (after f.node.position m) f.node.eval -ℤ c.loss_after.result) = worth_below f.node.position f.node.eval f.depth m _ c.reveal_invariant.ensures.back c.args.self.now.last (material_left f.node.position f.node.eval _ m f.valid c.reveal_invariant.ensures.back k.legal c.loss_after.ensures.least c.loss_after.ensures.loss some) in
    omega (arith, ints, most, k.least, k.most, c.score_after.ensures)
