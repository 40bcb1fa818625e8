-- The lines that a session writes, each with its LF (USI, the replies of an engine; names, options and the texts after `info string` are an own choice).
use Rattle.std.specs.Prelude.{◌≡◌, ℕ, ℤ, pos, negsuc, ◌+◌, ◌-◌, List, [], ◌++◌, codes, flat_map, Option, Some, None, Result, OnOk, Vec, nat_abs, nat_lt, cond, decimal}
use Rattle.shogi_core.specs.declared.moves.Move.{Move}
use Rattle.shogi_core.specs.Position.{Shogi}
use Rattle.shogi_eval.specs.declared.eval.Eval.{Eval}
use Rattle.minimax.specs.Minimax.{value, pv}
use Rattle.minimax.specs.declared.bounds.TheConstants.{MATE}
use Rattle.shogi_sfen.specs.MoveTexts.{text_of}
use Rattle.usi_texts.specs.Options.{option_lines}
use Rattle.usi_texts.specs.declared.setup.Setup.{Setup}

-- if the call succeeds, it appended the text; a failure may leave anything
abbrev pub Writes : {A E : Type 0} → Result (Unit {0}) E → Vec ℕ A → Vec ℕ A → List ℕ → Type 0
Writes result before after text = OnOk result (after.items ≡ before.items ++ text)

-- the answer to `usi`
abbrev pub usi_reply : Setup → List ℕ
usi_reply setup =
    codes "id name Shared Shogi Host\nid author Shared Shogi Host Team\n"
    ++ (option_lines setup ++ codes "usiok\n")

-- the answer to `isready`
abbrev pub ready_reply : List ℕ
ready_reply = codes "readyok\n"

-- the answer to `go mate`
abbrev pub mate_not_implemented_reply : List ℕ
mate_not_implemented_reply = codes "checkmate notimplemented\n"

-- the answer to a `position` line that sets no position: 0 for its form, 1 to 8 for the first fault of its SFEN
abbrev pub bad_position_line : ℕ → List ℕ
bad_position_line fault = codes "info string bad position " ++ (decimal fault ++ codes "\n")

-- the answer if the word of this number after `moves` is no legal move
abbrev pub illegal_move_line : ℕ → List ℕ
illegal_move_line number = codes "info string illegal move " ++ (decimal number ++ codes "\n")

-- the answer to a line of 65,536 bytes or more
abbrev pub too_long_reply : List ℕ
too_long_reply = codes "info string line too long\n"

-- a score after its sign: centipawns, or from `MATE` up a mate in plies (plies are an own choice)
abbrev pub size_text : List ℕ → ℕ → ℕ → List ℕ
size_text sign depth size =
    cond (nat_lt size (nat_abs MATE)) (codes "cp " ++ (sign ++ decimal size))
    (codes "mate " ++ (sign ++ decimal (depth - (size - nat_abs MATE))))

-- a score at a depth, negative if the side to move is worse
abbrev pub score_text : ℕ → ℤ → List ℕ
score_text depth (pos size) = size_text [] depth size
score_text depth (negsuc size) = size_text (codes "-") depth (size + 1)

-- each move after a space
abbrev pub moves_text : List Move → List ℕ
moves_text moves = flat_map (λ played. codes " " ++ text_of played) moves

-- the start of an info line: its depth, and the words that say which pv
abbrev pub head_text : ℕ → List ℕ → List ℕ
head_text depth which = codes "info depth " ++ (decimal depth ++ (which ++ codes " score "))

-- the pv of an info line, to its end
abbrev pub pv_text : List Move → List ℕ
pv_text moves = codes " pv" ++ (moves_text moves ++ codes "\n")

-- an info line with a score and a pv at a depth, and the words that say which pv
abbrev pub info_for : List ℕ → ℕ → ℤ → List Move → List ℕ
info_for which depth value moves =
    head_text depth which ++ (score_text depth value ++ pv_text moves)

-- `info_for` with the words that say which pv given as a word and its number
abbrev pub info_with : List ℕ → List ℕ → ℕ → ℤ → List Move → List ℕ
info_with word number depth value moves = info_for (word ++ number) depth value moves

-- an info line with a score and a pv at a depth
abbrev pub info_text : ℕ → ℤ → List Move → List ℕ
info_text depth value moves = info_for [] depth value moves

-- an info line with a score at a depth and the pv of this number among several
abbrev pub numbered_info_text : ℕ → ℕ → ℤ → List Move → List ℕ
numbered_info_text depth number value moves =
    info_for (codes " multipv " ++ decimal number) depth value moves

-- the info line of a position at a depth: its value and its pv
abbrev pub info_line : Shogi → Eval → ℕ → List ℕ
info_line position eval depth = info_text depth (value position eval depth) (pv position eval depth)

-- the move to play, with the reply to ponder on; `resign` if no move is legal
abbrev pub bestmove_line : Option Move → Option Move → List ℕ
bestmove_line None ponder = codes "bestmove resign\n"
bestmove_line (Some best) None = codes "bestmove " ++ (text_of best ++ codes "\n")
bestmove_line (Some best) (Some ponder) =
    codes "bestmove " ++ (text_of best ++ (codes " ponder " ++ (text_of ponder ++ codes "\n")))
