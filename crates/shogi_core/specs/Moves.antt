-- Moves, whether or not they are legal.
use Rattle.std.specs.Prelude.{ℕ}
use Rattle.shogi_core.specs.declared.moves.Move.{Move}
use Rattle.shogi_core.specs.declared.moves.Move.TheVariants.{Board, Drop}

-- the destination of a move
abbrev pub end_of : Move → ℕ
end_of (Board from to promote) = to
end_of (Drop kind to) = to
