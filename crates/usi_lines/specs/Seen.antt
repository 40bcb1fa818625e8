-- Lines and commands of the code, with their bytes as lists.
use Rattle.usi_lines.specs.declared.line.Line as code_line
use Rattle.usi_lines.specs.declared.line.Line.TheVariants as code_lines
use Rattle.usi_lines.specs.declared.command.Command as code_command
use Rattle.usi_lines.specs.declared.command.Command.TheVariants as code
use Rattle.usi_lines.specs.Lines as lines
use Rattle.usi_lines.specs.Commands as commands

-- the line, with its bytes as a list
abbrev pub line_of : code_line.Line → lines.Line
line_of (code_lines.Text text) = lines.Text text.now
line_of code_lines.TooLong = lines.TooLong

-- the command, with its bytes as a list
abbrev pub meaning_of : code_command.Command → commands.Command
meaning_of code.Usi = commands.Usi
meaning_of code.IsReady = commands.IsReady
meaning_of (code.SetDepth depth) = commands.SetDepth depth
meaning_of (code.SetEval eval) = commands.SetEval eval
meaning_of (code.SetLines lines) = commands.SetLines lines
meaning_of code.NewGame = commands.NewGame
meaning_of (code.Startpos text) = commands.Startpos text.now
meaning_of (code.Sfen text) = commands.Sfen text.now
meaning_of code.BadPosition = commands.BadPosition
meaning_of (code.Go depth hold) = commands.Go depth hold
meaning_of code.GoMate = commands.GoMate
meaning_of code.Stop = commands.Stop
meaning_of code.PonderHit = commands.PonderHit
meaning_of code.GameOver = commands.GameOver
meaning_of code.Quit = commands.Quit
meaning_of code.Other = commands.Other
