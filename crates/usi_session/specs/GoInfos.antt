-- What `go` says of a position (USI, go, and info for several pvs; a fixed depth is an own choice).
use Rattle.std.specs.Prelude.{ℕ, zero, suc, ◌+◌, ◌-◌, ◌==◌, List, [], ◌∷◌, ◌++◌, Option, slice_get, take, cond}
use Rattle.shogi_core.specs.Codes.{move_of}
use Rattle.shogi_core.specs.declared.moves.Move.{Move}
use Rattle.shogi_core.specs.Position.{Shogi}
use Rattle.shogi_eval.specs.declared.eval.Eval.{Eval}
use Rattle.shogi_moves.specs.LegalMoves.{legal_codes}
use Rattle.minimax.specs.Minimax.{worth, pv, then_pv}
use Rattle.shogi_search.specs.Ranked.{ranked_codes}
use Rattle.usi_texts.specs.Texts.{info_line, numbered_info_text}

-- the move to play: the first of a pv
abbrev pub move_to_play : List Move → Option Move
move_to_play moves = slice_get moves 0

-- the reply to the move to play: the second move of a pv
abbrev pub move_to_ponder : List Move → Option Move
move_to_ponder moves = slice_get moves 1

-- the codes of the best moves at a depth of at least 1, at most as many as there are lines
abbrev pub listed_codes : Shogi → Eval → ℕ → ℕ → List ℕ
listed_codes position eval multi_pv depth = take multi_pv (ranked_codes position eval depth)

-- the pv that begins with the move of a code
abbrev pub pv_by : Shogi → Eval → ℕ → ℕ → List Move
pv_by position eval depth code = then_pv (λ next. pv next eval (depth - 1)) position (move_of code)

-- the info line of a listed move at a depth: its number, its worth and its pv
abbrev pub numbered_line : Shogi → Eval → ℕ → ℕ → ℕ → List ℕ
numbered_line position eval depth number code =
    numbered_info_text depth number (worth position eval (depth - 1) code)
    (pv_by position eval depth code)

-- the info lines of these moves at a depth, numbered from `number` on
unfoldable pub numbered_lines : Shogi → Eval → ℕ → ℕ → List ℕ → List ℕ
numbered_lines position eval depth number [] = []
numbered_lines position eval depth number (code ∷ rest) =
    numbered_line position eval depth number code
    ++ numbered_lines position eval depth (number + 1) rest

-- the info lines of a depth: value and pv, or with several lines one for each listed move
abbrev pub depth_lines : Shogi → Eval → ℕ → ℕ → List ℕ
depth_lines position eval multi_pv depth =
    cond (multi_pv == 1) (info_line position eval depth)
    (numbered_lines position eval depth 1 (listed_codes position eval multi_pv depth))

-- the info lines of each depth from 1 to this one
unfoldable pub info_lines : Shogi → Eval → ℕ → ℕ → List ℕ
info_lines position eval multi_pv zero = []
info_lines position eval multi_pv (suc depth) =
    info_lines position eval multi_pv depth ++ depth_lines position eval multi_pv (suc depth)

-- the info lines of a `go`; none if no move is legal
abbrev pub go_infos_where : Shogi → Eval → ℕ → ℕ → List ℕ → List ℕ
go_infos_where position eval multi_pv depth [] = []
go_infos_where position eval multi_pv depth (code ∷ codes) = info_lines position eval multi_pv depth

-- the info lines that a `go` writes before the bestmove
abbrev pub go_infos : Shogi → Eval → ℕ → ℕ → List ℕ
go_infos position eval multi_pv depth =
    go_infos_where position eval multi_pv depth (legal_codes position)
