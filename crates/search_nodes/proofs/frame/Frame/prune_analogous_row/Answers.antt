use Rattle.std.proofs.Common.{◌≤ℤ◌, FitsSigned, arith, refl, rules, w32}
use Rattle.std.proofs.lemmas.Int.{ints, to_z-of_z}
use Rattle.analogous_moves.specs.declared.moves.AnalogousMoves.{AnalogousMoves}
use Rattle.minimax.specs.Window.{move_alpha, code_at}
use Rattle.search_nodes.specs.declared.frame.Frame.{Frame}
use Rattle.search_nodes.specs.Order.{IsAnalogousFrom}
use Rattle.search_nodes.proofs.AnalogousRows.{deep, analogous_known}
use Rattle.search_nodes.proofs.Passed.{left_passed}
use Rattle.search_nodes.proofs.RefutedMoves.{found_analogous}
use Rattle.search_nodes.proofs.frame.Frame.prune_analogous_row.Goals as goal

pub move_alpha_at-move_alpha-requires-clause-deep : goal.move_alpha_at-move_alpha-requires-clause-deep
move_alpha_at-move_alpha-requires-clause-deep c = deep c.args.self.now (c.prunes_analogous.ensures c.if-not-prunes_analogous.false)

pub invariant_of-self-then-analogous-move_alpha-clause-known : goal.invariant_of-self-then-analogous-move_alpha-clause-known
invariant_of-self-then-analogous-move_alpha-clause-known c =
    let f : Frame = c.args.self.now in
    let d : AnalogousMoves = c.in-Analogous.analogous in
    let most : FitsSigned w32 d.most = search rules in
    let same = to_z-of_z w32 d.most most in
    let fits : FitsSigned w32 c.move_alpha_at-move_alpha.result = search rules in
    let value = to_z-of_z w32 c.move_alpha_at-move_alpha.result fits in
    let low : d.most ≤ℤ move_alpha f.best_value (code_at f.best_move) c.in-Some.code = omega (arith, ints, c.if-analogous-move_alpha.true, same, value, c.move_alpha_at-move_alpha.ensures.move_alpha) in
    analogous_known f d c.in-Some.code c.skip_analogous.new.self c.requires.next (c.prunes_analogous.ensures c.if-not-prunes_analogous.false) (found_analogous f.node.position f.node.eval f.depth f.refutations d c.in-Analogous.is f.refuted) low (rw c.as_position.ensures at (c.skip_analogous.ensures.passed c.in-Some.code c.in-Some.ensures))

pub returns-then-analogous-move_alpha : goal.returns-then-analogous-move_alpha
returns-then-analogous-move_alpha c = ((refl, (refl, (refl, refl))), (refl, left_passed c.args.self.now c.skip_analogous.new.self (IsAnalogousFrom c.args.self.now.node.position c.in-Analogous.analogous c.in-Some.code) (rw c.as_position.ensures at (c.skip_analogous.ensures.passed c.in-Some.code c.in-Some.ensures))))
