use Rattle.std.proofs.Common.{arith, true, false, rules}
use Rattle.shogi_moves.proofs.DestinationLaws.{matching_among, matching_ways}
use Rattle.shogi_moves.proofs.SweepLaws.{no_destinations}
use Rattle.shogi_moves.proofs.sweep.destinations_on.Goals as goal

pub legal_destinations-requires : goal.legal_destinations-requires
legal_destinations-requires c = rw c.bitand-among.ensures (λ n h. matching_ways c.args.known.now.position.now.side c.args.capture _ c.targets.result.bits c.matching_destinations.result.bits n _ (rw c.as_board.ensures at c.targets.ensures.squares n h) (c.matching_destinations.ensures.squares n h))

pub returns-then-is_piece_of : goal.returns-then-is_piece_of
returns-then-is_piece_of c = record {
  non_promoting = matching_among c.args.known.now.position.now c.args.capture false c.args.from c.targets.result.bits c.matching_destinations.result.bits c.legal_destinations.result.non_promoting.bits (omega arith) (rw c.as_board.ensures at c.targets.ensures.squares) c.matching_destinations.ensures.squares (rw c.bitand-among.ensures at c.legal_destinations.ensures.non_promoting);
  promoting = matching_among c.args.known.now.position.now c.args.capture true c.args.from c.targets.result.bits c.matching_destinations.result.bits c.legal_destinations.result.promoting.bits (omega arith) (rw c.as_board.ensures at c.targets.ensures.squares) c.matching_destinations.ensures.squares (rw c.bitand-among.ensures at c.legal_destinations.ensures.promoting);
}

pub returns-else-is_piece_of : goal.returns-else-is_piece_of
returns-else-is_piece_of c = record {
  non_promoting = rw c.none.ensures (λ n h. no_destinations c.args.known.now.position.now c.args.capture false c.args.from n (omega arith) h (search rules));
  promoting = rw c.none-else-is_piece_of.ensures (λ n h. no_destinations c.args.known.now.position.now c.args.capture true c.args.from n (omega arith) h (search rules));
}
