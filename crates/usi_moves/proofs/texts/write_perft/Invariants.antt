use Rattle.std.proofs.Common.{◌≡◌, ◌+◌, ◌-◌, ◌<◌, ◌^◌, ◌++◌, ℕ, List, length}
use Rattle.shogi_moves.specs.LegalMoves.{legal_codes, perft}
use Rattle.shogi_moves.proofs.PerftLaws.{perft_by}
use Rattle.usi_moves.specs.Listings.{shares_text}
use Rattle.usi_moves.specs.Told.{IsTold}
use Rattle.usi_moves.proofs.texts.write_perft.Given as goal

-- the count so far and that of the moves left make the whole, and so do the lines
abbrev pub invariant-moves : goal.invariant-moves
invariant-moves g l = record {
  whole : l.total + perft_by l.p (l.depth - 1) l.walk.codes ≡ perft l.p l.depth;
  same : l.walk.position ≡ l.p;
  fits : l.total < 2 ^ 64;
  text : l.out.items ++ shares_text l.p (l.depth - 1) l.divide l.walk.codes ≡ l.fn.out.items ++ shares_text l.p (l.depth - 1) l.divide (legal_codes l.p);
  told : (first : List ℕ) × ((first ++ l.walk.codes ≡ legal_codes l.p) × IsTold (g.P.Progress.told l.fn.progress) (g.P.Progress.told l.progress) first);
}

abbrev pub decreases-moves : goal.decreases-moves
decreases-moves g l = length l.walk.codes
