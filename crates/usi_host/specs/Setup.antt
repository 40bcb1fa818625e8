-- The setup that the arguments of the command line ask for, and what runs under it.
use Rattle.std.specs.Prelude.{◌≡◌, ℕ}
use Rattle.host_core.specs.Steps.{HostState, new_host_under}
use Rattle.shogi_eval.specs.declared.eval.Eval.{Eval}
use Rattle.shogi_eval.specs.declared.eval.Eval.TheVariants as evals
use Rattle.usi_arguments.specs.declared.host.HostOptions.{HostOptions}
use Rattle.usi_arguments.specs.declared.setup.Evaluation.{Evaluation}
use Rattle.usi_arguments.specs.declared.setup.Evaluation.TheVariants as named
use Rattle.usi_arguments.specs.declared.setup.SetupOptions.{SetupOptions}
use Rattle.usi_app.specs.Runs.{IsReplay, IsReplayOn, IsSession}
use Rattle.usi_stdio.specs.Calls.{StdioReport}
use Rattle.usi_texts.specs.Setup.{IsSetupOf}
use Rattle.usi_texts.specs.declared.setup.Setup.{Setup}

-- the evaluation that the arguments name
abbrev pub eval_of : Evaluation → Eval
eval_of named.Plain = evals.Plain
eval_of named.Hand = evals.Hand
eval_of named.Exchange = evals.Exchange

-- the setup that the arguments ask for
abbrev pub IsAskedFor : SetupOptions → Setup → Type 0
IsAskedFor options setup =
    IsSetupOf options.depth options.max_depth options.lines (eval_of options.evaluation) setup

-- under it the front end was served one session, or what was read was replayed, with this status
abbrev pub IsSessionAsked : SetupOptions → (entries : ℕ) → StdioReport → StdioReport → ℕ → Type 0
IsSessionAsked options entries old new status =
    (setup : Setup) × IsAskedFor options setup × IsSession setup entries old new status

abbrev pub IsReplayAsked : HostOptions → StdioReport → StdioReport → ℕ → Type 0
IsReplayAsked options old new status =
    (setup : Setup) × IsAskedFor options.setup setup × IsReplay setup options.slots old new status
    × IsReplayOn setup options.slots options.entries options.slice old new status

-- a new host whose sessions begin under it
abbrev pub IsHostAsked : HostOptions → HostState → Type 0
IsHostAsked options host =
    (setup : Setup) × IsAskedFor options.setup setup
    × (host ≡ new_host_under setup options.slots options.entries)
