use Rattle.std.proofs.Common.{◌≤ℤ◌, ◌+ℤ◌, ◌-◌, pos, arith, rules, FitsSigned, w32}
use Rattle.std.proofs.lemmas.Int.{ints}
use Rattle.shogi_core.specs.declared.moves.Move.{Move}
use Rattle.shogi_core.specs.Codes.{code_of}
use Rattle.shogi_moves.specs.After.{after}
use Rattle.shogi_eval.specs.Material.{material_of}
use Rattle.minimax.specs.Minimax.{worth, negated}
use Rattle.search_nodes.specs.declared.frame.Frame.{Frame}
use Rattle.search_nodes.proofs.Ahead.{worth_below}
use Rattle.search_nodes.proofs.AskedMoves.{IsMove, asked_move}
use Rattle.search_nodes.proofs.asked_move.AskedMove.fails_low_by.Goals as goal

pub score_after-requires : goal.score_after-requires
score_after-requires c = (asked_move c.args.self.now.frame.now c.args.self.now.current.now c.args.self.now.asked c.reveal_invariant.ensures.back).legal

pub overflow_sub-result : goal.overflow_sub-result
overflow_sub-result c =
    let k : _ = asked_move c.args.self.now.frame.now c.args.self.now.current.now c.args.self.now.asked c.reveal_invariant.ensures.back in
    omega (arith, ints, k.least, k.most, c.score_after.ensures)

pub overflow_sub-result-2 : goal.overflow_sub-result-2
overflow_sub-result-2 c =
    let k : _ = asked_move c.args.self.now.frame.now c.args.self.now.current.now c.args.self.now.asked c.reveal_invariant.ensures.back in
    omega (arith, ints, k.least, k.most, c.score_after.ensures, c.requires)

pub returns : goal.returns
returns c = λ low least.
    let f : Frame = c.args.self.now.frame.now in
    let m : Move = c.args.self.now.current.now in
    let k : IsMove f m = asked_move f m c.args.self.now.asked c.reveal_invariant.ensures.back in
    let most : worth f.node.position f.node.eval (f.depth - 1) (code_of m) ≤ℤ negated (material_of (after f.node.position m) f.node.eval +ℤ pos c.args.gain) = worth_below f.node.position f.node.eval f.depth m _ c.reveal_invariant.ensures.back c.args.self.now.last least in
    let fits : FitsSigned w32 c.move_alpha.result = search rules in
    omega (arith, ints, most, k.least, k.most, c.score_after.ensures, c.requires, c.move_alpha.ensures.move_alpha, low)
