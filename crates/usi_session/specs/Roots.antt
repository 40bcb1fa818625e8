-- The pv searches of each `go`, by their roots (own choice).
use Rattle.std.specs.Prelude.{ℕ, zero, suc, ◌+◌, ◌-◌, ◌==◌, List, [], ◌∷◌, ◌++◌, flat_map, Option, None, Some, cond}
use Rattle.shogi_core.specs.declared.moves.Move.{Move}
use Rattle.shogi_core.specs.Position.{Shogi}
use Rattle.shogi_eval.specs.declared.eval.Eval.{Eval}
use Rattle.shogi_moves.specs.After.{after, after_code}
use Rattle.shogi_moves.specs.LegalMoves.{legal_codes}
use Rattle.minimax.specs.Minimax.{best}
use Rattle.usi_lines.specs.Commands.{Command, Go}
use Rattle.usi_lines.specs.CommandLines.{command_of}
use Rattle.usi_lines.specs.Lines.{Line, Text, TooLong}
use Rattle.usi_session.specs.declared.state.State.{State}
use Rattle.usi_session.specs.Answer.{depth_of_go}
use Rattle.usi_session.specs.GoInfos.{listed_codes}
use Rattle.usi_session.specs.WholeStream.{answer_line}

-- the root of a search: a position, an evaluation and a depth
pub record Root : Type 0 where
  pub position : Shogi
  pub eval : Eval
  pub depth : ℕ

abbrev pub root_of : Shogi → Eval → ℕ → Root
root_of position eval depth = record { position = position; eval = eval; depth = depth }

-- the searches after a move, as `rest` gives them; none if there is no move
abbrev pub then_pv_roots : (Shogi → List Root) → Shogi → Option Move → List Root
then_pv_roots rest position None = []
then_pv_roots rest position (Some m) = rest (after position m)

-- the searches along a pv: of each position with plies left, to that many plies
unfoldable pub pv_roots : Shogi → Eval → ℕ → List Root
pv_roots position eval zero = []
pv_roots position eval (suc plies) =
    root_of position eval (suc plies)
    ∷ then_pv_roots (λ next. pv_roots next eval plies) position (best position eval (suc plies))

-- the pv searches of these moves, with this many plies after each move
abbrev pub pvs_roots : Shogi → Eval → ℕ → List ℕ → List Root
pvs_roots position eval plies codes =
    flat_map (λ code. pv_roots (after_code position code) eval plies) codes

-- the pv searches of a depth: along its pv, or with several lines along each listed one
abbrev pub depth_roots : Shogi → Eval → ℕ → ℕ → List Root
depth_roots position eval multi_pv depth =
    cond (multi_pv == 1) (pv_roots position eval depth)
    (pvs_roots position eval (depth - 1) (listed_codes position eval multi_pv depth))

-- the pv searches of the next depths, `more` of them, above those done
unfoldable pub roots_of_depths : Shogi → Eval → ℕ → ℕ → ℕ → List Root
roots_of_depths position eval multi_pv depths_done zero = []
roots_of_depths position eval multi_pv depths_done (suc more) =
    depth_roots position eval multi_pv (depths_done + 1)
    ++ roots_of_depths position eval multi_pv (depths_done + 1) more

-- the pv searches of each depth from 1 to this one; none if no move is legal
abbrev pub roots_where : Shogi → Eval → ℕ → ℕ → List ℕ → List Root
roots_where position eval multi_pv depth [] = []
roots_where position eval multi_pv depth (code ∷ codes) =
    roots_of_depths position eval multi_pv 0 depth

-- the pv searches of a `go` to this depth in a state
abbrev pub roots_of_go : State → ℕ → List Root
roots_of_go state depth =
    roots_where state.position state.options.eval state.options.multi_pv depth
    (legal_codes state.position)

-- the pv searches of a command: none but `go` searches
abbrev pub roots_of_command : State → Command → List Root
roots_of_command state (Go depth hold) = roots_of_go state (depth_of_go state depth)
roots_of_command state _ = []

-- the pv searches of a line in a session that is not over
abbrev pub roots_to : State → Line → List Root
roots_to state (Text text) = roots_of_command state (command_of text)
roots_to state TooLong = []

-- the pv searches of a line: none if the session is over
abbrev pub roots_of_line : State → Line → List Root
roots_of_line state line = cond state.is_over [] (roots_to state line)

-- the pv searches of these lines, answered in order from a state on
unfoldable pub roots_from : State → List Line → List Root
roots_from state [] = []
roots_from state (line ∷ rest) =
    roots_of_line state line ++ roots_from (answer_line state line).state rest
