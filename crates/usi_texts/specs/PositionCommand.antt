-- The position that a `position` command sets (USI, position; the order of refusals is an own choice).
use Rattle.std.specs.Prelude.{ℕ, ◌+◌, List, [], ◌∷◌, codes, cond, Option, Some, None, Result, Ok, Err, drop}
use Rattle.std.specs.Str.{bytes_eq}
use Rattle.shogi_core.specs.Position.{Shogi}
use Rattle.shogi_core.specs.Start.{start}
use Rattle.shogi_core.specs.declared.moves.Move.{Move}
use Rattle.shogi_moves.specs.After.{after}
use Rattle.shogi_moves.specs.Legal.{is_legal}
use Rattle.shogi_sfen.specs.MoveTexts.{move_of_text}
use Rattle.shogi_sfen.specs.Sfen.{position_at, number_of_sfen_fault}
use Rattle.shogi_sfen.specs.Words.{words}
use Rattle.shogi_sfen.specs.declared.position.SfenFault.{SfenFault}
use Rattle.usi_texts.specs.declared.position_command.Refusal.{Refusal}
use Rattle.usi_texts.specs.declared.position_command.Refusal.TheVariants.{BadPosition, IllegalMove}

-- the position after the move if it is legal, else none
unfoldable pub after_legal : Shogi → Option Move → Option Shogi
after_legal position None = None
after_legal position (Some played) =
    cond (is_legal position played) (Some (after position played)) None

-- the moves after a legal one, or the number of the word that is no legal move
abbrev pub then_moves : (Shogi → Result Shogi Refusal) → ℕ → Option Shogi → Result Shogi Refusal
then_moves more number None = Err (IllegalMove number)
then_moves more number (Some next) = more next

-- the position after the words, each a legal move in turn, or the number of the first that is not
unfoldable pub after_moves : ℕ → Shogi → List (List ℕ) → Result Shogi Refusal
after_moves number position [] = Ok position
after_moves number position (word ∷ rest) =
    then_moves (λ next. after_moves (number + 1) next rest) number
    (after_legal position (move_of_text word))

-- the position after the rest of its line: nothing, or the word `moves` followed by moves
abbrev pub after_words : Shogi → List (List ℕ) → Result Shogi Refusal
after_words position [] = Ok position
after_words position (word ∷ rest) =
    cond (bytes_eq word (codes "moves")) (after_moves 1 position rest) (Err (BadPosition 0))

-- the position of `position startpos ..`, by the bytes after `startpos`
abbrev pub position_of_startpos : List ℕ → Result Shogi Refusal
position_of_startpos rest = after_words start (words rest)

-- the position after the rest of its line, or the number of the SFEN's fault
abbrev pub after_sfen : List ℕ → Result (Shogi × ℕ) SfenFault → Result Shogi Refusal
after_sfen rest (Ok (position, end)) = after_words position (words (drop end rest))
after_sfen rest (Err fault) = Err (BadPosition (number_of_sfen_fault fault))

-- the position of `position sfen ..`, by the bytes after `sfen`
abbrev pub position_of_sfen : List ℕ → Result Shogi Refusal
position_of_sfen rest = after_sfen rest (position_at rest)
