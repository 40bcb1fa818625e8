-- Moves whose squares are on the board.
use Rattle.std.proofs.Common.{◌≡◌, Some}
use Rattle.shogi_core.specs.declared.moves.Move.{Move}
use Rattle.shogi_core.specs.declared.moves.Move.TheVariants.{Board, Drop}
use Rattle.shogi_core.specs.Codes.{code_of, move_of}
use Rattle.analogous_moves.specs.Analogies.{IsOnSquares}
use Rattle.shogi_core.proofs.CodesBack.{move_of-board, move_of-drop}

-- a move on board squares is the move of its code
pub move_back : (m : Move) → IsOnSquares m → move_of (code_of m) ≡ Some m
move_back (Board from to promote) on = move_of-board from to promote on.0 on.1
move_back (Drop kind to) on = move_of-drop kind to on
