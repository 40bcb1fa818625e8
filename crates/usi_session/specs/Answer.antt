-- The answer to a command in a state: the bytes that are written, and the state after it (USI; what keeps and what drops a held `bestmove` is an own choice).
use Rattle.std.specs.Prelude.{◌≡◌, ℕ, List, [], ◌++◌, Option, Some, None, Result, Ok, Err, OnOk, Vec, true, false, unwrap_or, min, cond}
use Rattle.shogi_core.specs.Position.{Shogi}
use Rattle.shogi_core.specs.declared.moves.Move.{Move}
use Rattle.shogi_core.specs.Start.{start}
use Rattle.shogi_eval.specs.declared.eval.Eval.{Eval}
use Rattle.minimax.specs.Minimax.{pv}
use Rattle.usi_lines.specs.Commands.{Command, Usi, IsReady, SetDepth, SetEval, SetLines, NewGame, Startpos, Sfen, BadPosition, Go, GoMate, Stop, PonderHit, GameOver, Quit, Other}
use Rattle.usi_lines.specs.declared.command.Hold.{Hold}
use Rattle.usi_lines.specs.declared.command.Hold.TheVariants.{Nothing, UntilStop, UntilHit}
use Rattle.usi_texts.specs.declared.position_command.Refusal.{Refusal}
use Rattle.usi_texts.specs.declared.position_command.Refusal.TheVariants as refusals
use Rattle.usi_session.specs.declared.state.HeldBestmove.{HeldBestmove}
use Rattle.usi_session.specs.declared.state.State.{State}
use Rattle.usi_texts.specs.declared.options.Options.{Options}
use Rattle.usi_texts.specs.Options.{options_under}
use Rattle.usi_texts.specs.declared.setup.Setup.{Setup}
use Rattle.usi_texts.specs.Setup.{default_setup, offers}
use Rattle.usi_texts.specs.PositionCommand.{position_of_startpos, position_of_sfen}
use Rattle.usi_session.specs.GoInfos.{move_to_play, move_to_ponder, go_infos}
use Rattle.usi_texts.specs.Texts.{usi_reply, ready_reply, mate_not_implemented_reply, bad_position_line, illegal_move_line, bestmove_line}

-- A bestmove is held until: `Nothing`, written at once; `UntilStop`; `UntilHit`, until `ponderhit` or `stop`. Command `BadPosition`: a `position` line whose second word is missing, or neither `startpos` nor `sfen`. Refusal `BadPosition`: a line that begins with `position startpos` or `position sfen` and names no position; `rest` is the text after these two words. `Other`: a line that is no command, or a `setoption` that sets nothing.

-- an answer: the bytes written, and the state after them
pub record Answer : Type 0 where
  pub state : State
  pub bytes : List ℕ

-- the answer with this state and these bytes
abbrev pub answer_with : State → List ℕ → Answer
answer_with state bytes = record { state = state; bytes = bytes }

-- the state in which a session begins under a setup
abbrev pub initial_state_under : Setup → State
initial_state_under setup = record {
  position = start;
  options = options_under setup;
  setup = setup;
  held = None;
  is_over = false;
}

-- the state in which a session begins under the default setup
abbrev pub initial_state : State
initial_state = initial_state_under default_setup

-- the answer was given: its bytes were appended, and its state taken
pub record IsAnswerGiven (answer : Answer) (before after : List ℕ) (state : State) : Type 0 where
  pub bytes : after ≡ before ++ answer.bytes
  pub state_is : state ≡ answer.state

-- on success, the answer was given
abbrev pub GivesAnswer : {A E : Type 0} → Result (Unit {0}) E → Answer → Vec ℕ A → Vec ℕ A → State
    → Type 0
GivesAnswer result answer before after state =
    OnOk result (IsAnswerGiven answer before.items after.items state)

-- the state without a held bestmove
abbrev pub without_bestmove : State → State
without_bestmove state = record state { held = None }

-- `position`: the new position is taken; after a refusal the state stays, and one line says why
abbrev pub answer_position : State → Result Shogi Refusal → Answer
answer_position state (Ok position) = answer_with (record state { position = position }) []
answer_position state (Err (refusals.BadPosition fault)) =
    answer_with state (bad_position_line fault)
answer_position state (Err (refusals.IllegalMove number)) =
    answer_with state (illegal_move_line number)

-- the bestmove of a pv, with what it is held until
abbrev pub bestmove_of : List Move → Hold → HeldBestmove
bestmove_of moves until =
    record { best = move_to_play moves; ponder = move_to_ponder moves; until = until }

-- the bestmove of a search to this depth
abbrev pub bestmove_at : Shogi → Eval → ℕ → Hold → HeldBestmove
bestmove_at position eval depth until = bestmove_of (pv position eval depth) until

-- the `bestmove` line of a held bestmove
abbrev pub held_line : HeldBestmove → List ℕ
held_line held = bestmove_line held.best held.ponder

-- the info lines and, under `Nothing`, the bestmove are written; otherwise it is held. One held before is dropped
abbrev pub write_or_hold : State → List ℕ → HeldBestmove → Hold → Answer
write_or_hold state infos held Nothing =
    answer_with (without_bestmove state) (infos ++ held_line held)
write_or_hold state infos held UntilStop = answer_with (record state { held = Some held }) infos
write_or_hold state infos held UntilHit = answer_with (record state { held = Some held }) infos

-- a bestmove is written or held, without info lines
abbrev pub answer_bestmove : State → HeldBestmove → Answer
answer_bestmove state held = write_or_hold state [] held held.until

-- `go`: the whole depth is searched, even under `go infinite`, by the options' evaluation and number of lines; a bestmove held before is dropped
abbrev pub answer_go : State → ℕ → Hold → Answer
answer_go state depth hold =
    write_or_hold state (go_infos state.position state.options.eval state.options.multi_pv depth)
    (bestmove_at state.position state.options.eval depth hold) hold

-- `stop`: the held bestmove is written, and none is held afterwards; no search is cut short
abbrev pub answer_stop : State → Option HeldBestmove → Answer
answer_stop state None = answer_with state []
answer_stop state (Some held) = answer_with (without_bestmove state) (held_line held)

-- `ponderhit` with a held bestmove: written if held until `ponderhit`. None is ever held under `Nothing`
abbrev pub answer_ponderhit_held : State → HeldBestmove → Hold → Answer
answer_ponderhit_held state held UntilHit = answer_with (without_bestmove state) (held_line held)
answer_ponderhit_held state held UntilStop = answer_with state []
answer_ponderhit_held state held Nothing = answer_with state []

-- `ponderhit`: without a held bestmove nothing is written
abbrev pub answer_ponderhit : State → Option HeldBestmove → Answer
answer_ponderhit state None = answer_with state []
answer_ponderhit state (Some held) = answer_ponderhit_held state held held.until

-- the options are replaced
abbrev pub set_options : State → Options → Answer
set_options state options = answer_with (record state { options = options }) []

-- the depth, capped at the setup's greatest
abbrev pub allowed_depth : State → ℕ → ℕ
allowed_depth state depth = min depth state.setup.max_depth

-- the depth of a `go`: its own, or else the option's, capped at the setup's greatest
abbrev pub depth_of_go : State → Option ℕ → ℕ
depth_of_go state depth = allowed_depth state (unwrap_or depth state.options.depth)

-- the evaluation is set if the setup offers it; otherwise nothing changes
abbrev pub answer_eval : State → Eval → Answer
answer_eval state eval =
    cond (offers state.setup eval) (set_options state (record state.options { eval = eval }))
    (answer_with state [])

-- the answer to each command; none changes the setup. A held bestmove survives `usi`, `isready`, `setoption`, `position`, a line that is no command, and `ponderhit` if held until `stop`; each other command writes or drops it
abbrev pub answer : State → Command → Answer
answer state Usi = answer_with state (usi_reply state.setup)
answer state IsReady = answer_with state ready_reply
answer state (SetDepth depth) =
    set_options state (record state.options { depth = allowed_depth state depth })
answer state (SetEval eval) = answer_eval state eval
answer state (SetLines multi_pv) = set_options state (record state.options { multi_pv = multi_pv })
answer state NewGame = answer_with (record state { position = start; held = None }) []
answer state (Startpos rest) = answer_position state (position_of_startpos rest)
answer state (Sfen rest) = answer_position state (position_of_sfen rest)
answer state BadPosition = answer_with state (bad_position_line 0)
answer state (Go depth hold) = answer_go state (depth_of_go state depth) hold
answer state GoMate = answer_with (without_bestmove state) mate_not_implemented_reply
answer state Stop = answer_stop state state.held
answer state PonderHit = answer_ponderhit state state.held
answer state GameOver = answer_with (without_bestmove state) []
answer state Quit = answer_with (record state { held = None; is_over = true }) []
answer state Other = answer_with state []
