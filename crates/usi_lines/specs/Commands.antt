-- The commands of USI (USI, commands of a front end).
use Rattle.std.specs.Prelude.{ℕ, List, Option}
use Rattle.shogi_eval.specs.declared.eval.Eval.{Eval}
use Rattle.usi_lines.specs.declared.command.Hold.{Hold}

-- a command, with the bytes after `startpos` or `sfen` as a list
pub data Command : Type 0 where
  Usi IsReady NewGame BadPosition GoMate Stop PonderHit GameOver Quit Other : Command
  SetDepth : (depth : ℕ) → Command
  SetEval : (eval : Eval) → Command
  SetLines : (lines : ℕ) → Command
  Startpos Sfen : (text : List ℕ) → Command
  Go : (depth : Option ℕ) (hold : Hold) → Command
