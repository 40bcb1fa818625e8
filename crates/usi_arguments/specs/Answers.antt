-- Answers to the arguments, and the arguments that lead to each.
use Rattle.std.specs.Prelude.{◌≡◌, ◌≢◌, ◌⊎◌, ◌∷◌, ◌-◌, ◌^◌, ◌||◌, ◌%◌, ◌==◌, ℕ, Bool, true, false, List, [], Option, Some, None, Result, Ok, Err, IfSome, MatchResult, ⊤, codes, string_bytes}
use Rattle.std.specs.Str.{bytes_eq}
use Rattle.clap.specs.Words.{IsAmong, Row, Text, kind_of, subcommand_rows_of}
use Rattle.clap.specs.declared.error.Error.{Error}
use Rattle.clap.specs.declared.error.kind.ErrorKind.{ErrorKind}
use Rattle.clap.specs.declared.error.kind.ErrorKind.TheVariants as kinds
use Rattle.clap.specs.declared.parser.matches.ArgMatches.{ArgMatches}
use Rattle.usi_arguments.specs.CommandLine.{IsFromOne, NamesNumber, NamesText, NamesTextIfAny, named_command, faults_of, is_set}
use Rattle.usi_arguments.specs.Setup.{HasNoEvaluation, HasSetupRanges, IsInReach, IsTooDeep, NamesEvaluation, NamesSetup, usual_setup}
use Rattle.usi_arguments.specs.Texts.{not_an_evaluation, not_digits, not_odd, too_deep}
use Rattle.usi_arguments.specs.declared.host.HostOptions.{HostOptions}
use Rattle.usi_arguments.specs.declared.setup.Evaluation.{Evaluation}
use Rattle.usi_arguments.specs.declared.setup.SetupOptions.{SetupOptions}
use Rattle.usi_arguments.specs.declared.arguments.Job.{Job}
use Rattle.usi_arguments.specs.declared.arguments.Job.TheVariants.{Stdio, Replay, Serve, Perft, Moves, Mate, Help, Version}
use Rattle.usi_arguments.specs.declared.arguments.ArgumentsFault.{ArgumentsFault}
use Rattle.usi_arguments.specs.declared.arguments.ArgumentsFault.TheVariants.{OutOfMemory, NotAccepted}

-- the numbers of a host are in their ranges
abbrev pub HasHostRanges : HostOptions → Type 0
HasHostRanges host = IsFromOne 1024 host.slots × IsFromOne 1000000 host.entries
    × IsFromOne 1000000000 host.slice × HasSetupRanges host.setup

-- the options name this host
abbrev pub NamesHost : List Row → HostOptions → Type 0
NamesHost options host = NamesNumber (codes "slots") options host.slots
    × NamesNumber (codes "entries") options host.entries
    × NamesNumber (codes "slice") options host.slice × NamesSetup options host.setup

-- the options name this host, and its numbers are in their ranges
abbrev pub AreHostOptions : List Row → HostOptions → Type 0
AreHostOptions options host = HasHostRanges host × NamesHost options host

-- the options name no host with numbers in their ranges
abbrev pub HasNoHost : List Row → Type 0
HasNoHost options = (host : HostOptions) → HasHostRanges host → NamesHost options host → ⊥

-- the host of `replay` without options
abbrev pub usual_host : HostOptions
usual_host = record { slots = 64; entries = 4096; slice = 300; setup = usual_setup }

-- the numbers of the job are in their ranges
abbrev pub HasRanges : Job → Type 0
HasRanges (Stdio entries setup) = IsFromOne 1000000 entries × HasSetupRanges setup
HasRanges (Replay host) = HasHostRanges host
HasRanges (Serve socket status turns host) = IsFromOne (2 ^ 64 - 1) turns × HasHostRanges host
HasRanges (Perft sfen depth divide) = IsFromOne 16 depth
HasRanges (Moves sfen) = ⊤
HasRanges (Mate sfen plies line keys) = IsFromOne 15 plies
HasRanges (Help text) = ⊤
HasRanges Version = ⊤

-- the setup of the job's sessions
abbrev pub setup_in : Job → Option SetupOptions
setup_in (Stdio entries setup) = Some setup
setup_in (Replay host) = Some host.setup
setup_in (Serve socket status turns host) = Some host.setup
setup_in (Perft sfen depth divide) = None
setup_in (Moves sfen) = None
setup_in (Mate sfen plies line keys) = None
setup_in (Help text) = None
setup_in Version = None

-- the job seeks a mate in an even number of plies
abbrev pub is_even : Job → Bool
is_even (Mate sfen plies line keys) = plies % 2 == 0
is_even job = false

-- the job's depth is at most its greatest, and its plies are odd
abbrev pub HasReach : Job → Type 0
HasReach job = IfSome (setup_in job) IsInReach × (is_even job ≡ false)

-- the job is `stdio`, with the number and the setup that the options name
abbrev pub IsStdioOf : List Row → Job → Type 0
IsStdioOf options (Stdio entries setup) =
    NamesNumber (codes "entries") options entries × NamesSetup options setup
IsStdioOf options _ = ⊥

-- the job is `replay`, with the host that the options name
abbrev pub IsReplayOf : List Row → Job → Type 0
IsReplayOf options (Replay host) = NamesHost options host
IsReplayOf options _ = ⊥

-- the job is `serve`, with the paths, the turns and the host that the options name
abbrev pub IsServeOf : List Row → Job → Type 0
IsServeOf options (Serve socket status turns host) =
    NamesText (codes "socket") options (string_bytes socket)
    × NamesTextIfAny (codes "status") options status
    × NamesNumber (codes "turns") options turns × NamesHost options host
IsServeOf options _ = ⊥

-- the job is `perft`, with the position, the depth and the flag of the options
abbrev pub IsPerftOf : List Row → Job → Type 0
IsPerftOf options (Perft sfen depth divide) =
    NamesNumber (codes "depth") options depth × NamesTextIfAny (codes "sfen") options sfen
    × (divide ≡ is_set (codes "divide") options)
IsPerftOf options _ = ⊥

-- the job is `moves`, with the position that the options name
abbrev pub IsMovesOf : List Row → Job → Type 0
IsMovesOf options (Moves sfen) = NamesTextIfAny (codes "sfen") options sfen
IsMovesOf options _ = ⊥

-- the job is `mate`, with the position, the plies and the flags of the options
abbrev pub IsMateOf : List Row → Job → Type 0
IsMateOf options (Mate sfen plies line keys) =
    NamesNumber (codes "plies") options plies × NamesTextIfAny (codes "sfen") options sfen
    × (line ≡ is_set (codes "line") options) × (keys ≡ is_set (codes "keys") options)
IsMateOf options _ = ⊥

-- the command names the job; without a command it is `stdio` with 4096 entries and the usual setup
abbrev pub NamesJob : Option (Text × List Row) → Job → Type 0
NamesJob None job = job ≡ Stdio 4096 usual_setup
NamesJob (Some command) job = ((command.0 ≡ codes "stdio") × IsStdioOf command.1 job)
    ⊎ ((command.0 ≡ codes "replay") × IsReplayOf command.1 job)
    ⊎ ((command.0 ≡ codes "serve") × IsServeOf command.1 job)
    ⊎ ((command.0 ≡ codes "perft") × IsPerftOf command.1 job)
    ⊎ ((command.0 ≡ codes "moves") × IsMovesOf command.1 job)
    ⊎ ((command.0 ≡ codes "mate") × IsMateOf command.1 job)

-- the job has its numbers in their ranges, and is `serve` as the options name it
abbrev pub IsServeIn : List Row → Job → Type 0
IsServeIn options job = HasRanges job × IsServeOf options job

-- the job has its numbers in their ranges, and is `perft` as the options name it; then for `mate`
abbrev pub IsPerftIn : List Row → Job → Type 0
IsPerftIn options job = HasRanges job × IsPerftOf options job

abbrev pub IsMateIn : List Row → Job → Type 0
IsMateIn options job = HasRanges job × IsMateOf options job

-- the job has its numbers in their ranges, and the command names it
abbrev pub IsJobIn : Option (Text × List Row) → Job → Type 0
IsJobIn command job = HasRanges job × NamesJob command job

-- the options name no `stdio` with numbers in their ranges; then for `replay`, `serve`, `perft` and `mate`
abbrev pub NamesNoStdio : List Row → Type 0
NamesNoStdio options = (job : Job) → HasRanges job → IsStdioOf options job → ⊥

abbrev pub NamesNoReplay : List Row → Type 0
NamesNoReplay options = (job : Job) → HasRanges job → IsReplayOf options job → ⊥

abbrev pub NamesNoServe : List Row → Type 0
NamesNoServe options = (job : Job) → HasRanges job → IsServeOf options job → ⊥

abbrev pub NamesNoPerft : List Row → Type 0
NamesNoPerft options = (job : Job) → HasRanges job → IsPerftOf options job → ⊥

abbrev pub NamesNoMate : List Row → Type 0
NamesNoMate options = (job : Job) → HasRanges job → IsMateOf options job → ⊥

-- the command names no job with numbers in digits alone and in their ranges
abbrev pub NamesNoJob : Option (Text × List Row) → Type 0
NamesNoJob command = (job : Job) → HasRanges job → NamesJob command job → ⊥

-- the arguments ask for the job
abbrev pub IsAskedBy : List Text → Job → Type 0
IsAskedBy arguments (Help text) = IsAmong kinds.DisplayHelp (faults_of arguments)
IsAskedBy arguments Version = IsAmong kinds.DisplayVersion (faults_of arguments)
IsAskedBy arguments job = (faults_of arguments ≡ []) × NamesJob (named_command arguments) job

-- an error of this kind is a mistake, not a request for help or for the version
abbrev pub IsMistake : ErrorKind → Type 0
IsMistake kind = (kind ≢ kinds.DisplayHelp) × (kind ≢ kinds.DisplayVersion)

-- the command has no sessions, and so no setup
abbrev pub has_no_setup : Text → Bool
has_no_setup name =
    bytes_eq name (codes "perft") || (bytes_eq name (codes "moves") || bytes_eq name (codes "mate"))

-- the command has a known evaluation, or needs none; then: its evaluation is not known
abbrev pub KnowsEvaluation : Option (Text × List Row) → Type 0
KnowsEvaluation None = ⊤
KnowsEvaluation (Some command) = (has_no_setup command.0 ≡ true)
    ⊎ ((evaluation : Evaluation) × NamesEvaluation command.1 evaluation)

abbrev pub NamesNoEvaluation : Option (Text × List Row) → Type 0
NamesNoEvaluation None = ⊥
NamesNoEvaluation (Some command) =
    (has_no_setup command.0 ≡ false) × HasNoEvaluation command.1

-- the text refuses the job's depth, which is above its greatest
abbrev pub IsTooDeepIn : Job → List ℕ → Type 0
IsTooDeepIn job said = (setup : SetupOptions) × (setup_in job ≡ Some setup) × IsTooDeep setup
    × (said ≡ too_deep setup.depth setup.max_depth)

-- the text refuses the job: its depth is above its greatest, or its plies are even
abbrev pub IsUnfitIn : Job → List ℕ → Type 0
IsUnfitIn job said = IsTooDeepIn job said ⊎ ((is_even job ≡ true) × (said ≡ not_odd))

-- the text refuses the command: its evaluation is unknown, a number is not in digits alone, or its numbers do not go together
abbrev pub IsNoJob : Option (Text × List Row) → List ℕ → Type 0
IsNoJob command said = (NamesNoEvaluation command × (said ≡ not_an_evaluation))
    ⊎ (KnowsEvaluation command × NamesNoJob command × (said ≡ not_digits))
    ⊎ ((job : Job) × IsJobIn command job × IsUnfitIn job said)

-- the arguments have a mistake for `clap`, or are read but name no job and are refused with this text
abbrev pub HasMistake : List Text → List ℕ → Type 0
HasMistake arguments said =
    ((kind : ErrorKind) × IsAmong kind (faults_of arguments) × IsMistake kind)
    ⊎ ((faults_of arguments ≡ []) × IsNoJob (named_command arguments) said)

-- arguments that are not accepted have a mistake
abbrev pub IsRefusedFor : List Text → ArgumentsFault → Type 0
IsRefusedFor arguments OutOfMemory = ⊤
IsRefusedFor arguments (NotAccepted text) = HasMistake arguments (string_bytes text)

-- the result is this job, or memory ran out
abbrev pub GivesJob : Job → Result Job ArgumentsFault → Type 0
GivesJob job result = (result ≡ Ok job) ⊎ (result ≡ Err OutOfMemory)

-- the result is `replay` with its default host, or memory ran out
abbrev pub GivesReplay : Result Job ArgumentsFault → Type 0
GivesReplay result = GivesJob (Replay usual_host) result

-- the result is `stdio` with its default number and setup, or memory ran out
abbrev pub GivesStdio : Result Job ArgumentsFault → Type 0
GivesStdio result = GivesJob (Stdio 4096 usual_setup) result

-- the result is a help, or memory ran out
abbrev pub GivesHelp : Result Job ArgumentsFault → Type 0
GivesHelp (Ok (Help text)) = ⊤
GivesHelp (Ok job) = ⊥
GivesHelp (Err OutOfMemory) = ⊤
GivesHelp (Err (NotAccepted text)) = ⊥

-- the arguments are a command alone
abbrev pub AreStdioArguments : List Text → Type 0
AreStdioArguments arguments = arguments ≡ codes "stdio" ∷ []

abbrev pub AreReplayArguments : List Text → Type 0
AreReplayArguments arguments = arguments ≡ codes "replay" ∷ []

-- the arguments ask for help and nothing else; then for the version
abbrev pub AreHelpArguments : List Text → Type 0
AreHelpArguments arguments = (arguments ≡ codes "--help" ∷ []) ⊎ (arguments ≡ codes "-h" ∷ [])

abbrev pub AreVersionArguments : List Text → Type 0
AreVersionArguments arguments = (arguments ≡ codes "--version" ∷ []) ⊎ (arguments ≡ codes "-V" ∷ [])

-- the answer to a command line that was read
abbrev pub IsJobOf : Option (Text × List Row) → Result Job ArgumentsFault → Type 0
IsJobOf command (Ok job) = NamesJob command job
IsJobOf command (Err OutOfMemory) = ⊤
IsJobOf command (Err (NotAccepted text)) = IsNoJob command (string_bytes text)

-- a refusal with this text, or memory ran out
abbrev pub IsRefusal : List ℕ → Result Job ArgumentsFault → Type 0
IsRefusal said (Ok job) = ⊥
IsRefusal said (Err OutOfMemory) = ⊤
IsRefusal said (Err (NotAccepted text)) = string_bytes text ≡ said

-- the answer to a named job: the job, if its numbers go together
abbrev pub IsHeld : Job → Result Job ArgumentsFault → Type 0
IsHeld job (Ok given) = (given ≡ job) × HasReach job
IsHeld job (Err OutOfMemory) = ⊤
IsHeld job (Err (NotAccepted text)) = IsUnfitIn job (string_bytes text)

-- the answer to an error of this kind
abbrev pub IsAnswerTo : ErrorKind → Result Job ArgumentsFault → Type 0
IsAnswerTo kind (Ok (Help text)) = kind ≡ kinds.DisplayHelp
IsAnswerTo kind (Ok Version) = kind ≡ kinds.DisplayVersion
IsAnswerTo kind (Ok job) = ⊥
IsAnswerTo kind (Err OutOfMemory) = ⊤
IsAnswerTo kind (Err (NotAccepted text)) = IsMistake kind × (kind ≢ kinds.OutOfMemory)

-- the answer to the result of `clap`
abbrev pub IsAnswerToParsed : Result ArgMatches Error → Result Job ArgumentsFault → Type 0
IsAnswerToParsed parsed result =
    MatchResult parsed (λ matches. IsJobOf (subcommand_rows_of matches) result)
    (λ error. IsAnswerTo (kind_of error) result)

-- arguments that are not accepted are refused with this text
abbrev pub RefusesWith : List ℕ → ArgumentsFault → Type 0
RefusesWith text OutOfMemory = ⊤
RefusesWith text (NotAccepted said) = string_bytes said ≡ text
