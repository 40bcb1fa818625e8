-- The replies of a session to a stream of bytes (USI).
use Rattle.std.specs.Prelude.{ℕ, List, [], ◌∷◌, ◌++◌, Bool, true, false, None}
use Rattle.usi_lines.specs.CommandLines.{command_of}
use Rattle.usi_lines.specs.Lines.{Line, Text, TooLong, lines}
use Rattle.usi_session.specs.declared.state.State.{State}
use Rattle.usi_session.specs.Answer.{Answer, answer, answer_with, initial_state_under}
use Rattle.usi_texts.specs.declared.setup.Setup.{Setup}
use Rattle.usi_texts.specs.Setup.{default_setup}
use Rattle.usi_texts.specs.Texts.{too_long_reply}

-- the answer to a line; one that is too long ends the session
abbrev pub answer_to : State → Line → Answer
answer_to state (Text text) = answer state (command_of text)
answer_to state TooLong = answer_with (record state { held = None; is_over = true }) too_long_reply

-- the answer, or none if the session is over
abbrev pub answer_unless : Bool → State → Line → Answer
answer_unless true state line = answer_with state []
answer_unless false state line = answer_to state line

abbrev pub answer_line : State → Line → Answer
answer_line state line = answer_unless state.is_over state line

-- the replies to these lines, answered in order from a state on
unfoldable pub replies_from : State → List Line → List ℕ
replies_from state [] = []
replies_from state (line ∷ rest) =
    (answer_line state line).bytes ++ replies_from (answer_line state line).state rest

-- the state after these lines
unfoldable pub state_from : State → List Line → State
state_from state [] = state
state_from state (line ∷ rest) = state_from (answer_line state line).state rest

-- whether a session under a setup is over after these bytes
abbrev pub is_over_after_under : Setup → List ℕ → Bool
is_over_after_under setup bytes = (state_from (initial_state_under setup) (lines bytes)).is_over

-- the replies of a new session under a setup to these bytes
abbrev pub replies_under : Setup → List ℕ → List ℕ
replies_under setup bytes = replies_from (initial_state_under setup) (lines bytes)

-- the replies of a new session under the default setup to these bytes
abbrev pub replies : List ℕ → List ℕ
replies bytes = replies_under default_setup bytes
