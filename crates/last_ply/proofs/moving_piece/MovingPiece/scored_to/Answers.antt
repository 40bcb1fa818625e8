use Rattle.std.proofs.Common.{arith, sym, w32}
use Rattle.std.proofs.lemmas.Int.{to_z-of_z}
use Rattle.shogi_moves.proofs.LegalLaws.{in_legal}
use Rattle.last_ply.proofs.Settled.{legal_to}
use Rattle.last_ply.proofs.moving_piece.MovingPiece.scored_to.Goals as goal

pub invariant_of-result : goal.invariant_of-result
invariant_of-result c = record {
  valid = c.args.self.now.frontier.now.valid;
  legal = legal_to c.args.self.now.frontier.now.node.now.position c.args.self.now.from c.args.to c.args.promote c.reveal_invariant.ensures c.reveal_invariant-2.ensures c.requires.legal;
  listed = in_legal c.args.self.now.frontier.now.node.now.position 0 _ (omega arith) c.requires.legal;
  value = rw (to_z-of_z w32 c.args.raw c.ranges.raw) (sym (c.requires.raw c.requires.legal));
}
