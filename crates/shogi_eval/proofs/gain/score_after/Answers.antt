use Rattle.std.proofs.Common.{arith, ◌≡◌, ◌∙◌, ap}
use Rattle.std.proofs.lemmas.Int.{ints}
use Rattle.shogi_core.specs.Movement.{piece_at}
use Rattle.shogi_eval.specs.Material.{taken_gain, promotion_gain}
use Rattle.shogi_eval.proofs.Bounds.{material_bounds}
use Rattle.shogi_eval.proofs.Gains.{material_at_board, material_at_drop}
use Rattle.shogi_eval.proofs.gain.score_after.Goals as goal

pub overflow_add-result : goal.overflow_add-result
overflow_add-result c = let b : _ = material_bounds c.args.p.now c.args.e c.reveal_invariant.ensures in omega (arith, ints, b.0, b.1, c.requires.score)

pub overflow_sub-result : goal.overflow_sub-result
overflow_sub-result c = let b : _ = material_bounds c.args.p.now c.args.e c.reveal_invariant.ensures in omega (arith, ints, b.0, b.1, c.requires.score)

pub overflow_add-result-in-Drop : goal.overflow_add-result-in-Drop
overflow_add-result-in-Drop c = let b : _ = material_bounds c.args.p.now c.args.e c.reveal_invariant.ensures in omega (arith, ints, b.0, b.1, c.requires.score)

pub overflow_sub-result-in-Drop : goal.overflow_sub-result-in-Drop
overflow_sub-result-in-Drop c = let b : _ = material_bounds c.args.p.now c.args.e c.reveal_invariant.ensures in omega (arith, ints, b.0, b.1, c.requires.score)

pub returns-in-Board : goal.returns-in-Board
returns-in-Board c =
    let b : _ = material_bounds c.args.p.now c.args.e c.reveal_invariant.ensures in
    let law : _ = material_at_board c.args.p.now c.args.e c.args.m.now c.in-Board.from c.in-Board.to c.in-Board.promote c.in-Board.is c.reveal_invariant.ensures c.reveal_invariant-in-Board.ensures c.reveal_invariant-in-Board-2.ensures c.requires.legal in
    let taken : c.taken_gain.result ≡ taken_gain c.args.e (piece_at c.args.p.now.cells c.in-Board.to) = c.taken_gain.ensures.value ∙ ap (taken_gain c.args.e) c.at.ensures in
    let promotion : c.promotion_gain.result ≡ promotion_gain c.in-Board.promote (piece_at c.args.p.now.cells c.in-Board.from) = c.promotion_gain.ensures.value ∙ ap (promotion_gain c.in-Board.promote) c.at-in-Board.ensures in
    omega (arith, ints, b.0, b.1, c.requires.score, law)

pub returns-in-Drop : goal.returns-in-Drop
returns-in-Drop c =
    let b : _ = material_bounds c.args.p.now c.args.e c.reveal_invariant.ensures in
    let law : _ = material_at_drop c.args.p.now c.args.e c.args.m.now c.in-Drop.kind c.in-Drop.to c.in-Drop.is c.reveal_invariant.ensures c.reveal_invariant-in-Drop.ensures c.requires.legal in
    omega (arith, ints, b.0, b.1, c.requires.score, law)
