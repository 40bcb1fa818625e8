-- The most search steps of the `go` lines among unread lines.
use Rattle.std.specs.Prelude.{ℕ, zero, suc, ◌+◌, ◌-◌, ◌*◌, ◌==◌, List, [], ◌∷◌, cond, sum_by}
use Rattle.shogi_core.specs.Position.{Shogi}
use Rattle.shogi_eval.specs.declared.eval.Eval.{Eval}
use Rattle.shogi_moves.specs.After.{after_code}
use Rattle.shogi_moves.specs.LegalMoves.{legal_codes}
use Rattle.minimax.specs.Minimax.{pv_cost, sum_of_tree_sizes}
use Rattle.usi_lines.specs.Commands.{Command, Go}
use Rattle.usi_lines.specs.CommandLines.{command_of}
use Rattle.usi_lines.specs.Lines.{Line, Text, TooLong}
use Rattle.usi_session.specs.declared.state.State.{State}
use Rattle.usi_session.specs.Answer.{depth_of_go}
use Rattle.usi_session.specs.GoInfos.{listed_codes}
use Rattle.usi_session.specs.WholeStream.{answer_line}

-- the most steps along the pvs of these moves, with this many plies after each move
abbrev pub pvs_cost : Shogi → Eval → ℕ → List ℕ → ℕ
pvs_cost position eval plies codes =
    sum_by (λ code. pv_cost (after_code position code) eval plies) codes

-- the most steps of a depth: with one line, along its pv; with several, after each legal move and along each listed pv
abbrev pub depth_cost : Shogi → Eval → ℕ → ℕ → ℕ
depth_cost position eval multi_pv depth =
    cond (multi_pv == 1) (pv_cost position eval depth)
    (4 * sum_of_tree_sizes position (depth - 1) (legal_codes position)
    + pvs_cost position eval (depth - 1) (listed_codes position eval multi_pv depth))

-- the most steps of all depths from 1 to this one
unfoldable pub cost_to_depth : Shogi → Eval → ℕ → ℕ → ℕ
cost_to_depth position eval multi_pv zero = 0
cost_to_depth position eval multi_pv (suc depth) =
    cost_to_depth position eval multi_pv depth + depth_cost position eval multi_pv (suc depth)

-- the most steps of a `go` to this depth in a state
abbrev pub go_cost : State → ℕ → ℕ
go_cost state depth = cost_to_depth state.position state.options.eval state.options.multi_pv depth

-- the most steps of a command: none but `go` searches
abbrev pub cost_of_command : State → Command → ℕ
cost_of_command state (Go depth hold) = go_cost state (depth_of_go state depth)
cost_of_command state _ = 0

-- the most steps of a line in a session that is not over
abbrev pub cost_to : State → Line → ℕ
cost_to state (Text text) = cost_of_command state (command_of text)
cost_to state TooLong = 0

-- the most steps of a line: none if the session is over
abbrev pub cost_of_line : State → Line → ℕ
cost_of_line state line = cond state.is_over 0 (cost_to state line)

-- the most steps of these lines, answered in order from a state on
unfoldable pub costs_from : State → List Line → ℕ
costs_from state [] = 0
costs_from state (line ∷ rest) =
    cost_of_line state line + costs_from (answer_line state line).state rest
