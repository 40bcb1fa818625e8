use Rattle.std.proofs.Common.{arith}
use Rattle.shogi_moves.proofs.DestinationLaws.{plain_destinations, promoting_destinations}
use Rattle.shogi_moves.proofs.destinations.OwnPiece.legal_destinations.Goals as goal

pub returns : goal.returns
returns c = record {
  non_promoting = λ n h. plain_destinations c.args.self.now.known.now.position.now c.args.self.now.from n c.args.among.bits c.safe_destinations-destinations.result.bits c.with_promotions.result.non_promoting.bits c.reveal_invariant.ensures.cells_fit (omega arith) h c.args.self.now.own (c.requires n h)
      (c.safe_destinations-destinations.ensures.squares n h) (rw c.at.ensures at c.with_promotions.ensures.non_promoting n h);
  promoting = λ n h. promoting_destinations c.args.self.now.known.now.position.now c.args.self.now.from n c.args.among.bits c.safe_destinations-destinations.result.bits c.with_promotions.result.promoting.bits c.reveal_invariant.ensures.cells_fit (omega arith) h c.args.self.now.own (c.requires n h)
      (c.safe_destinations-destinations.ensures.squares n h) (rw c.at.ensures at c.with_promotions.ensures.promoting n h);
}
