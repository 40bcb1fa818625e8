use Rattle.std.proofs.Common.{bit_or}
use Rattle.shogi_moves.proofs.TallyLaws.{IsCounted}
use Rattle.shogi_moves.proofs.count.count_board.Given as goal

abbrev pub invariant-low : goal.invariant-low
invariant-low l = IsCounted l.known.position.now (bit_or l.low l.high) l.total

abbrev pub decreases-low : goal.decreases-low
decreases-low l = l.low

abbrev pub invariant-high : goal.invariant-high
invariant-high l = IsCounted l.known.position.now l.left l.total

abbrev pub decreases-high : goal.decreases-high
decreases-high l = l.left
