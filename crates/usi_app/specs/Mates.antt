-- How the program seeks mates by checks, and the status with which it ends then (own choice).
use Rattle.std.specs.Prelude.{◌≡◌, ◌⊎◌, ◌+◌, ◌||◌, ℕ, Bool, true, false, List, [], ◌∷◌, ◌++◌, Option, Some, None, Result, Ok, Err, IfOk, OnErr}
use Rattle.std.specs.List.{list_any}
use Rattle.std.specs.Io.KnownBytes.{Appends, Consumes, IsAtEnd}
use Rattle.shogi_core.specs.Position.{Shogi}
use Rattle.usi_lines.specs.Lines.{Buffer, Line, ahead, lines}
use Rattle.usi_moves.specs.Asked.{position_of_text}
use Rattle.usi_texts.specs.declared.position_command.Refusal.{Refusal}
use Rattle.usi_moves.specs.MateAnswers.{has_bad_line, input_answers, is_bad, line_answer, line_answers}
use Rattle.usi_moves.specs.Solutions.{mate_text}
use Rattle.usi_moves.specs.declared.solutions.MateOptions.{MateOptions}
use Rattle.usi_stdio.specs.Calls.{CallsGive, StdioReport, CallsTake}
use Rattle.usi_stdio.specs.Saying.{SaysFlushed, SaysPrefix}
use Rattle.usi_stdio.specs.declared.streams.StdioFault.{StdioFault}
use Rattle.usi_app.specs.Counts.{IsNotAsked, IsWant}
use Rattle.usi_app.specs.Runs.{IsPrint}
use Rattle.usi_app.specs.declared.mates.Answered.{Answered}

-- the shortest mate in the position was printed, or memory ran out; without a position nothing was
abbrev pub IsSolution : Result Shogi Refusal → MateOptions → StdioReport → StdioReport → ℕ → Type 0
IsSolution (Ok p) options old new status =
    IsPrint (mate_text p options) old new status ⊎ IsWant old new status
IsSolution (Err refusal) options old new status = IsNotAsked old new status

-- ---- the lines of the input

-- the front end gave these bytes and took those
pub record IsExchange (old new : StdioReport) (read written : List ℕ) : Type 0 where
  pub consumed : Consumes old.unread new.unread read
  pub given : CallsGive old.calls new.calls read
  pub appended : Appends old.written new.written written
  pub taken : CallsTake old.calls new.calls written

-- all was read, and its answers were written; it is told whether a line has no position
pub record IsInputAnswered (options : MateOptions) (old new : StdioReport) (bad : Bool)
    : Type 0 where
  pub read : List ℕ
  pub exchanged : IsExchange old new read (input_answers options read)
  pub ended : IsAtEnd new.unread
  pub told : bad ≡ has_bad_line read

-- a prefix of the answers to what was read was written
pub record IsAnsweredInPart (options : MateOptions) (old new : StdioReport) : Type 0 where
  pub read : List ℕ
  pub written : List ℕ
  pub left : List ℕ
  pub exchanged : IsExchange old new read written
  pub split : input_answers options read ≡ written ++ left

-- 0 if each line has a position or is empty, 2 if one has none, and 1 after a fault
abbrev pub answers_status : Result Bool StdioFault → ℕ
answers_status (Ok false) = 0
answers_status (Ok true) = 2
answers_status (Err fault) = 1

-- the lines of the input were answered, with this status; or a part of them, after a fault
pub record AreAnswers (options : MateOptions) (old new : StdioReport) (status : ℕ) : Type 0 where
  pub ended : Result Bool StdioFault
  pub ok : IfOk ended (IsInputAnswered options old new)
  pub err : OnErr ended (IsAnsweredInPart options old new)
  pub status_is : status ≡ answers_status ended

-- the position of a text was solved, or, without one, that of each line
abbrev pub IsSolving : Option (List ℕ) → MateOptions → StdioReport → StdioReport → ℕ → Type 0
IsSolving (Some text) options old new status =
    IsSolution (position_of_text text) options old new status
IsSolving None options old new status = AreAnswers options old new status

-- ---- between two reads

-- the answers to the lines ahead, once these bytes follow
abbrev pub owed_answers : MateOptions → Answered → Buffer → List ℕ → List ℕ
owed_answers options answered buffer bytes =
    line_answers options (answered.lines + 1) (ahead buffer bytes)

-- a line that was answered has no position, or one of those ahead
abbrev pub owes_bad : Answered → Buffer → List ℕ → Bool
owes_bad answered buffer bytes = answered.bad || list_any is_bad (ahead buffer bytes)

-- one line more was answered, and the answer was written
pub record IsLineAnswered (options : MateOptions) (line : Line) (before after : Answered)
    (old new : StdioReport) : Type 0 where
  pub said : SaysFlushed old new (line_answer options (before.lines + 1) line)
  pub number : after.lines ≡ before.lines + 1
  pub bad : after.bad ≡ (before.bad || is_bad line)

-- the front end took a prefix of the answer to a line
abbrev pub IsLineCutShort : MateOptions → Line → Answered → StdioReport → StdioReport → StdioFault
    → Type 0
IsLineCutShort options line before old new fault =
    SaysPrefix old new (line_answer options (before.lines + 1) line) fault

-- of the answers that are owed once this chunk comes, these were written, and the rest is still owed
pub record IsPartAnswered (options : MateOptions) (chunk : List ℕ) (before : Answered)
    (buffered : Buffer) (after : Answered) (left : Buffer) (old new : StdioReport) : Type 0 where
  pub made : List ℕ
  pub written : SaysFlushed old new made
  pub owes : (x : List ℕ) → owed_answers options before buffered (chunk ++ x)
      ≡ made ++ owed_answers options after left x
  pub bad : (x : List ℕ) →
      owes_bad before buffered (chunk ++ x) ≡ owes_bad after left x

-- all lines that end in the chunk were answered
pub record IsChunkAnswered (options : MateOptions) (chunk : List ℕ) (before : Answered)
    (buffered : Buffer) (after : Answered) (left : Buffer) (old new : StdioReport) : Type 0 where
  pub part : IsPartAnswered options chunk before buffered after left old new
  pub settled : ahead left [] ≡ []

-- the front end took a prefix of what is owed, whatever bytes follow the chunk
abbrev pub IsChunkCutShort : MateOptions → List ℕ → Answered → Buffer → StdioReport → StdioReport
    → StdioFault → Type 0
IsChunkCutShort options chunk before buffered old new fault =
    (x : List ℕ) → SaysPrefix old new (owed_answers options before buffered (chunk ++ x)) fault
