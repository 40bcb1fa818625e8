-- Codes of moves: 0 to 13,121 are board moves, 13,122 to 13,688 drops (own choice).
use Rattle.std.specs.Prelude.{ℕ, List, ◌+◌, ◌*◌, ◌-◌, ◌/◌, ◌%◌, ◌==◌, Option, Some, None, nat_lt, cond}
use Rattle.std.specs.List.{range_with_len}
use Rattle.shogi_core.specs.declared.moves.TheConstants.{MOVE_CODE_COUNT, FIRST_DROP}
use Rattle.shogi_core.specs.declared.piece.Kind.{Kind}
use Rattle.shogi_core.specs.declared.piece.Kind.TheVariants as kinds
use Rattle.shogi_core.specs.declared.moves.Move.{Move}
use Rattle.shogi_core.specs.declared.moves.Move.TheVariants.{Board, Drop}
use Rattle.shogi_core.specs.Pieces.{kind_number}

-- the kind with this number, from 0 to 6
abbrev pub kind_at : ℕ → Kind
kind_at n =
    cond (n == 0) kinds.Pawn (cond (n == 1) kinds.Lance
    (cond (n == 2) kinds.Knight (cond (n == 3) kinds.Silver
    (cond (n == 4) kinds.Gold (cond (n == 5) kinds.Bishop kinds.Rook)))))

-- the code of a move: board moves by `from`, `to` and promotion, then drops by kind and `to`
abbrev pub code_of : Move → ℕ
code_of (Board from to promote) = (from * 81 + to) * 2 + cond promote 1 0
code_of (Drop kind to) = FIRST_DROP + kind_number kind * 81 + to

-- the move with this code, if any
abbrev pub move_of : ℕ → Option Move
move_of code =
    cond (nat_lt code FIRST_DROP) (Some (Board (code / 2 / 81) (code / 2 % 81) (code % 2 == 1)))
    (cond (nat_lt code MOVE_CODE_COUNT)
    (Some (Drop (kind_at ((code - FIRST_DROP) / 81)) ((code - FIRST_DROP) % 81))) None)

-- the codes of all moves from `first` on, by rising code
unfoldable pub codes_from : ℕ → List ℕ
codes_from first = range_with_len first (MOVE_CODE_COUNT - first)

-- the codes of all moves, by rising code
abbrev pub all_codes : List ℕ
all_codes = codes_from 0
