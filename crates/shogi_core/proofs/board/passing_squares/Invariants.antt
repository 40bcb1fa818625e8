use Rattle.std.proofs.Common.{◌≡◌, Bool, Option}
use Rattle.shogi_core.specs.Bits.{mask_below}
use Rattle.shogi_core.specs.declared.piece.Piece.{Piece}
use Rattle.shogi_core.specs.Masks.{passes}
use Rattle.shogi_core.proofs.board.passing_squares.Given as goal

abbrev pub invariant-loop-square : goal.invariant-loop-square
invariant-loop-square g l = (test : Option Piece → Bool)
    → ((cell : Option Piece) (passed : Bool) → goal.F-post g l.test cell passed → passed ≡ test cell)
    → l.mask ≡ mask_below l.square (passes test l.cells)
