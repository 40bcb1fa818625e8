use Rattle.std.proofs.Common.{◌≡◌, ℕ, true, bit_and, arith}
use Rattle.std.proofs.lemmas.Int.{ints}
use Rattle.shogi_core.specs.declared.moves.Move.TheVariants.{Board}
use Rattle.shogi_core.specs.Codes.{code_of}
use Rattle.last_ply.specs.LastPly.{is_legal_board_move, score_at, NodeHasScore}
use Rattle.last_ply.proofs.Squares.{one_more, carried}
use Rattle.last_ply.proofs.moving_piece.MovingPiece.best_score_among.Goals as goal

pub ends-preserved : goal.ends-preserved
ends-preserved c =
    let node = c.args.self.now.frontier.now.node.now in
    record {
      least = omega (arith, ints, c.ends.invariant.least, c.best_score_to-best.ensures.least);
      all = one_more (bit_and c.args.self.now.targets.bits c.args.squares.bits) c.ends.left c.next.new.self c.in-Some.to (λ n. is_legal_board_move node.position c.args.self.now.from n c.args.promote ≡ true) (λ (n : ℕ). score_at node.position node.eval (code_of (Board c.args.self.now.from n c.args.promote))) _ _ c.in-Some.ensures.some.rest c.ends.invariant.all
          (omega (arith, ints, c.best_score_to-best.ensures.least)) (λ legal. omega (arith, ints, c.best_score_to-best.ensures.at legal));
      some = carried (NodeHasScore node) _ _ c.best_score_to-best.result _ c.ends.invariant.some c.best_score_to-best.ensures.some c.best_score_to-best.ensures.least (omega (arith, ints));
    }
