-- The command of a line (USI, commands of a front end).
use Rattle.std.specs.Prelude.{ℕ, Bool, List, [], ◌∷◌, Option, None, cond, codes}
use Rattle.std.specs.List.{list_any}
use Rattle.std.specs.Str.{bytes_eq}
use Rattle.shogi_sfen.specs.Words.{words, rest_after}
use Rattle.usi_lines.specs.declared.command.Hold.{Hold}
use Rattle.usi_lines.specs.declared.command.Hold.TheVariants.{Nothing, UntilStop, UntilHit}
use Rattle.usi_lines.specs.Commands.{Command, Usi, IsReady, NewGame, Startpos, Sfen, BadPosition, Go, GoMate, Stop, PonderHit, GameOver, Quit, Other}
use Rattle.usi_lines.specs.Options.{depth_read, option_of}

-- the word is among the words
abbrev pub has_word : List ℕ → List (List ℕ) → Bool
has_word name ws = list_any (λ word. bytes_eq word name) ws

-- the command of a `position` line, by the words after that word and the bytes after the first of them
abbrev pub position_of : List (List ℕ) → List ℕ → Command
position_of [] rest = BadPosition
position_of (word ∷ more) rest =
    cond (bytes_eq word (codes "startpos")) (Startpos rest)
    (cond (bytes_eq word (codes "sfen")) (Sfen rest) BadPosition)

-- the depth that the first of the words writes
abbrev pub depth_in_first : List (List ℕ) → Option ℕ
depth_in_first [] = None
depth_in_first (word ∷ more) = depth_read word

-- the depth in the word right after the first word `depth`
abbrev pub depth_of : List (List ℕ) → Option ℕ
depth_of [] = None
depth_of (word ∷ more) = cond (bytes_eq word (codes "depth")) (depth_in_first more) (depth_of more)

-- `infinite` takes precedence over `ponder`
abbrev pub hold_of : List (List ℕ) → Hold
hold_of ws =
    cond (has_word (codes "infinite") ws) UntilStop
    (cond (has_word (codes "ponder") ws) UntilHit Nothing)

-- `mate` takes precedence over all other words
abbrev pub go_of : List (List ℕ) → Command
go_of ws = cond (has_word (codes "mate") ws) GoMate (Go (depth_of ws) (hold_of ws))

-- a command by its name, the words after that, and the bytes after the first of those words
abbrev pub named_by : List ℕ → List (List ℕ) → List ℕ → Command
named_by name ws rest =
    cond (bytes_eq name (codes "usi")) Usi
    (cond (bytes_eq name (codes "isready")) IsReady
    (cond (bytes_eq name (codes "usinewgame")) NewGame
    (cond (bytes_eq name (codes "stop")) Stop
    (cond (bytes_eq name (codes "ponderhit")) PonderHit
    (cond (bytes_eq name (codes "gameover")) GameOver
    (cond (bytes_eq name (codes "quit")) Quit
    (cond (bytes_eq name (codes "setoption")) (option_of ws)
    (cond (bytes_eq name (codes "position")) (position_of ws rest)
    (cond (bytes_eq name (codes "go")) (go_of ws) Other)))))))))

-- a command by all words of its line, and the bytes after the second
abbrev pub by_words : List (List ℕ) → List ℕ → Command
by_words [] rest = Other
by_words (name ∷ ws) rest = named_by name ws rest

-- the command of a line
unfoldable pub command_of : List ℕ → Command
command_of line = by_words (words line) (rest_after 2 line)
