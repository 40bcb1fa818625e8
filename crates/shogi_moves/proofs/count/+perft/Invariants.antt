use Rattle.std.proofs.Common.{◌≡◌, ◌+◌, ◌-◌, ◌<◌, ◌^◌, length}
use Rattle.shogi_moves.specs.LegalMoves.{perft}
use Rattle.shogi_moves.proofs.PerftLaws.{perft_by}
use Rattle.shogi_moves.proofs.count.+perft.Given as goal

abbrev pub decreases-perft : goal.decreases-perft
decreases-perft l = l.n

-- the count and what is left make the whole
abbrev pub invariant-moves : goal.invariant-moves
invariant-moves l = record {
  whole : l.total + perft_by l.p (l.n - 1) l.walk.codes ≡ perft l.p l.n;
  same : l.walk.position ≡ l.p;
  fits : l.total < 2 ^ 64;
}

abbrev pub decreases-moves : goal.decreases-moves
decreases-moves l = length l.walk.codes
