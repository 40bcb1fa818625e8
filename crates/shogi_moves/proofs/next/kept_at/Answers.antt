use Rattle.std.proofs.Common.{rules, arith, false, true}
use Rattle.shogi_moves.proofs.NextLaws.{nowhere}
use Rattle.shogi_moves.proofs.next.kept_at.Goals as goal

pub returns-then-not-is_piece_of-clause-consistent : goal.returns-then-not-is_piece_of-clause-consistent
returns-then-not-is_piece_of-clause-consistent c = record {
  non_promoting = rw c.none.ensures (λ n h. nowhere c.args.known.now.position.now false c.args.from n (omega arith) h (search rules));
  promoting = rw c.none-then-not-is_piece_of.ensures (λ n h. nowhere c.args.known.now.position.now true c.args.from n (omega arith) h (search rules));
}
