use Rattle.std.proofs.Common.{◌-◌}
use Rattle.commuting_moves.proofs.refuted_moves.RefutedMoves.has.Given as goal

abbrev pub decreases-moves : goal.decreases-moves
decreases-moves l = l.self.len - l.n
