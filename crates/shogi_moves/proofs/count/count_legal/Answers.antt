use Rattle.std.proofs.Common.{arith}
use Rattle.shogi_moves.proofs.PerftLaws.{perft_one}
use Rattle.shogi_moves.proofs.count.count_legal.Goals as goal

pub returns-clause-count : goal.returns-clause-count
returns-clause-count c = omega (arith, perft_one c.args.p.now, rw c.at-known.ensures at c.count_board.ensures.count, rw c.at-known.ensures at c.count_drops.ensures.count)
