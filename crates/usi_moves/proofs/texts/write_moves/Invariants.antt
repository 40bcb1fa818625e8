use Rattle.std.proofs.Common.{◌≡◌, ◌++◌, length}
use Rattle.usi_moves.specs.Listings.{lines_of, moves_text}
use Rattle.usi_moves.proofs.texts.write_moves.Given as goal

-- the lines written and the lines left make the whole
abbrev pub invariant-moves : goal.invariant-moves
invariant-moves g l = l.out.items ++ lines_of l.walk.codes ≡ l.fn.out.items ++ moves_text l.p

abbrev pub decreases-moves : goal.decreases-moves
decreases-moves g l = length l.walk.codes
