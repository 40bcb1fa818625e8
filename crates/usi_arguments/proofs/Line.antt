-- The command line, and its answers to some arguments in full.
use Rattle.std.proofs.Common.{◌≡◌, ◌∷◌, ◌∙◌, true, false, ℕ, List, [], Result, Ok, Err, Option, Some, None, IfOk, IfErr, IfSome, codes, refl, sym, ap, arith, subst, slice_index_or, inl, inr, lit≤, lit<}
use Rattle.std.proofs.lemmas.Bool.{true≢false}
use Rattle.std.specs.Prelude.{string_bytes}
use Rattle.clap.specs.Words.{App, FailsBy, HasMatchesOf, IsAmong, Kinds, Row, Text, fault_of, is_simple, is_simple_and_free, kind_of, subcommand_of, subcommand_rows_of}
use Rattle.clap.specs.Kinds.{HasKind}
use Rattle.clap.proofs.OnLiterals.{clap_on_literals}
use Rattle.clap.specs.declared.builder.value_parser.Reading.TheVariants.{AsWritten}
use Rattle.clap.specs.declared.error.Error.{Error}
use Rattle.clap.specs.declared.error.kind.ErrorKind.{ErrorKind}
use Rattle.clap.specs.declared.error.kind.ErrorKind.TheVariants as kinds
use Rattle.clap.specs.declared.parser.matches.ArgMatches.{ArgMatches}
use Rattle.clap.specs.declared.parser.matches.ValueSource.TheVariants.{DefaultValue}
use Rattle.usi_arguments.specs.Answers.{AreHelpArguments, AreVersionArguments, GivesJob, GivesHelp, GivesReplay, GivesStdio, HasRanges, HasReach, IsTooDeepIn, IsUnfitIn, KnowsEvaluation, NamesNoEvaluation, IsAnswerToParsed, IsAskedBy, IsJobOf, IsRefusal, IsRefusedFor, IsReplayOf, IsStdioOf, HasMistake, IsHeld, IsMistake, IsNoJob, NamesHost, NamesJob, is_even, usual_host}
use Rattle.usi_arguments.specs.CommandLine.{IsNumber, NamesNumber, command_line, named_command, faults_of}
use Rattle.usi_arguments.specs.declared.arguments.Job.{Job}
use Rattle.usi_arguments.specs.declared.arguments.Job.TheVariants.{Stdio, Replay, Serve, Perft, Moves, Mate, Help, Version}
use Rattle.usi_arguments.specs.declared.arguments.ArgumentsFault.{ArgumentsFault}
use Rattle.usi_arguments.specs.declared.arguments.ArgumentsFault.TheVariants.{OutOfMemory, NotAccepted}
use Rattle.usi_arguments.specs.Setup.{HasSetupRanges, IsInReach, IsTooDeep, NamesSetup, usual_setup}
use Rattle.usi_arguments.specs.declared.setup.Evaluation.TheVariants.{Plain}
use Rattle.usi_arguments.specs.declared.setup.SetupOptions.{SetupOptions}
use Rattle.usi_arguments.specs.Texts.{not_an_evaluation, not_odd}
use Rattle.usi_arguments.proofs.Numbers.{names_once}
use Rattle.usi_arguments.proofs.Setups.{host_once, setup_once}

pub line_is_simple : is_simple command_line ≡ true
unfolding clap_on_literals
line_is_simple = refl

pub line_is_free : is_simple_and_free command_line ≡ true
unfolding clap_on_literals
line_is_free = refl

pub bare_faults : faults_of [] ≡ []
unfolding clap_on_literals
bare_faults = refl

pub bare_command : named_command [] ≡ None
unfolding clap_on_literals
bare_command = refl

-- the arguments that ask for help or for the version alone
pub help_faults : faults_of (codes "--help" ∷ []) ≡ kinds.DisplayHelp ∷ []
unfolding clap_on_literals
help_faults = refl

pub short_help_faults : faults_of (codes "-h" ∷ []) ≡ kinds.DisplayHelp ∷ []
unfolding clap_on_literals
short_help_faults = refl

pub version_faults : faults_of (codes "--version" ∷ []) ≡ kinds.DisplayVersion ∷ []
unfolding clap_on_literals
version_faults = refl

pub short_version_faults : faults_of (codes "-V" ∷ []) ≡ kinds.DisplayVersion ∷ []
unfolding clap_on_literals
short_version_faults = refl

-- an option that is left out, with its default
abbrev row : Text → Text → Row
row name usual = record {
  id = name;
  values = usual ∷ [];
  count = None;
  source = Some DefaultValue;
  reading = AsWritten;
}

-- the options of the setup, of `stdio` and of `replay` if none is given
abbrev setup_rows : List Row
setup_rows = row (codes "max-depth") (codes "16") ∷ row (codes "lines") (codes "1") ∷ row (codes "eval") (codes "plain") ∷ []

abbrev stdio_rows : List Row
stdio_rows = row (codes "entries") (codes "4096") ∷ setup_rows

abbrev replay_rows : List Row
replay_rows = row (codes "slots") (codes "64") ∷ row (codes "entries") (codes "4096") ∷ row (codes "slice") (codes "300") ∷ setup_rows

pub stdio_faults : faults_of (codes "stdio" ∷ []) ≡ []
unfolding clap_on_literals
stdio_faults = refl

pub stdio_command_is : named_command (codes "stdio" ∷ []) ≡ Some (codes "stdio", stdio_rows)
unfolding clap_on_literals
stdio_command_is = refl

pub replay_faults : faults_of (codes "replay" ∷ []) ≡ []
unfolding clap_on_literals
replay_faults = refl

pub replay_command_is : named_command (codes "replay" ∷ []) ≡ Some (codes "replay", replay_rows)
unfolding clap_on_literals
replay_command_is = refl

-- the result of parsing the arguments
pub record IsParsedLine (arguments : List Text) (parsed : Result ArgMatches Error) : Type 0 where
  pub matches : IfOk parsed (λ m. subcommand_rows_of m ≡ named_command arguments)
  pub kinds : FailsBy (faults_of arguments) parsed

pub parsed_line : (app : App) (arguments : List Text) (parsed : Result ArgMatches Error) → app ≡ command_line
    → IfOk parsed (HasMatchesOf app arguments) → (is_simple_and_free app ≡ true → FailsBy (fault_of app arguments) parsed)
    → IsParsedLine arguments parsed
parsed_line app arguments (Ok m) is ok fails = record {
  matches =
      (ok (ap is_simple is ∙ line_is_simple)).1 ∙ ap (λ (a : App). subcommand_of a arguments) is;
  kinds = sym (ap (λ (a : App). fault_of a arguments) is) ∙ fails (ap is_simple_and_free is ∙ line_is_free);
}
parsed_line app arguments (Err e) is ok fails = record {
  matches = tt;
  kinds = subst (λ (a : App). HasKind (fault_of a arguments) e) is (fails (ap is_simple_and_free is ∙ line_is_free));
}

-- no command names a help
no_help : (command : Option (Text × List Row)) (job : Job) (text : _) → job ≡ Help text → NamesJob command job → ⊥
no_help None job text e is = let bad : Help text ≡ Stdio 4096 usual_setup = sym e ∙ is in cc
no_help (Some command) job text e (inl is) = rw e at is.1
no_help (Some command) job text e (inr (inl is)) = rw e at is.1
no_help (Some command) job text e (inr (inr (inl is))) = rw e at is.1
no_help (Some command) job text e (inr (inr (inr (inl is)))) = rw e at is.1
no_help (Some command) job text e (inr (inr (inr (inr (inl is))))) = rw e at is.1
no_help (Some command) job text e (inr (inr (inr (inr (inr is))))) = rw e at is.1

-- no command names the version
no_version : (command : Option (Text × List Row)) (job : Job) → job ≡ Version → NamesJob command job → ⊥
no_version None job e is = let bad : Version ≡ Stdio 4096 usual_setup = sym e ∙ is in cc
no_version (Some command) job e (inl is) = rw e at is.1
no_version (Some command) job e (inr (inl is)) = rw e at is.1
no_version (Some command) job e (inr (inr (inl is))) = rw e at is.1
no_version (Some command) job e (inr (inr (inr (inl is)))) = rw e at is.1
no_version (Some command) job e (inr (inr (inr (inr (inl is))))) = rw e at is.1
no_version (Some command) job e (inr (inr (inr (inr (inr is))))) = rw e at is.1

-- a job is one that the arguments ask for
pub line_asked : (arguments : List Text) (parsed : Result ArgMatches Error) (r : Result Job ArgumentsFault) → IsParsedLine arguments parsed
    → IsAnswerToParsed parsed r
    → IfOk r (IsAskedBy arguments)
line_asked arguments (Ok m) (Ok (Stdio entries setup)) line is = (line.kinds, subst (λ (c : Option (Text × List Row)). NamesJob c (Stdio entries setup)) line.matches is)
line_asked arguments (Ok m) (Ok (Replay host)) line is = (line.kinds, subst (λ (c : Option (Text × List Row)). NamesJob c (Replay host)) line.matches is)
line_asked arguments (Ok m) (Ok (Serve socket status turns host)) line is = (line.kinds, subst (λ (c : Option (Text × List Row)). NamesJob c (Serve socket status turns host)) line.matches is)
line_asked arguments (Ok m) (Ok (Perft sfen depth divide)) line is = (line.kinds, subst (λ (c : Option (Text × List Row)). NamesJob c (Perft sfen depth divide)) line.matches is)
line_asked arguments (Ok m) (Ok (Moves sfen)) line is = (line.kinds, subst (λ (c : Option (Text × List Row)). NamesJob c (Moves sfen)) line.matches is)
line_asked arguments (Ok m) (Ok (Mate sfen plies with_line keys)) line is = (line.kinds, subst (λ (c : Option (Text × List Row)). NamesJob c (Mate sfen plies with_line keys)) line.matches is)
line_asked arguments (Ok m) (Ok (Help text)) line is = absurd (no_help (subcommand_rows_of m) (Help text) text refl is)
line_asked arguments (Ok m) (Ok Version) line is = absurd (no_version (subcommand_rows_of m) Version refl is)
line_asked arguments (Err e) (Ok (Stdio entries setup)) line is = absurd is
line_asked arguments (Err e) (Ok (Replay host)) line is = absurd is
line_asked arguments (Err e) (Ok (Serve socket status turns host)) line is = absurd is
line_asked arguments (Err e) (Ok (Perft sfen depth divide)) line is = absurd is
line_asked arguments (Err e) (Ok (Moves sfen)) line is = absurd is
line_asked arguments (Err e) (Ok (Mate sfen plies with_line keys)) line is = absurd is
line_asked arguments (Err e) (Ok (Help text)) line is = elim line.kinds [
  | inl memory ↦ let bad : kinds.DisplayHelp ≡ kinds.OutOfMemory = sym is ∙ memory in cc
  | inr among ↦ subst (λ (k : ErrorKind). IsAmong k (faults_of arguments)) is among
]
line_asked arguments (Err e) (Ok Version) line is = elim line.kinds [
  | inl memory ↦ let bad : kinds.DisplayVersion ≡ kinds.OutOfMemory = sym is ∙ memory in cc
  | inr among ↦ subst (λ (k : ErrorKind). IsAmong k (faults_of arguments)) is among
]
line_asked arguments parsed (Err fault) line is = tt

-- arguments that are not accepted have a mistake
pub line_refused : (arguments : List Text) (parsed : Result ArgMatches Error) (r : Result Job ArgumentsFault) → IsParsedLine arguments parsed
    → IsAnswerToParsed parsed r
    → IfErr r (IsRefusedFor arguments)
line_refused arguments parsed (Ok job) line is = tt
line_refused arguments parsed (Err OutOfMemory) line is = tt
line_refused arguments (Ok m) (Err (NotAccepted text)) line is =
    inr (line.kinds, subst (λ (c : Option (Text × List Row)). IsNoJob c (string_bytes text)) line.matches is)
line_refused arguments (Err e) (Err (NotAccepted text)) line is = elim line.kinds [
  | inl memory ↦ absurd (is.1 memory)
  | inr among ↦ inl (kind_of e, among, is.0)
]

-- an unknown evaluation is refused with its text
pub refused_evaluation : (command : Option (Text × List Row)) (r : Result Job ArgumentsFault) → NamesNoEvaluation command → IsRefusal not_an_evaluation r → IsJobOf command r
refused_evaluation command (Ok job) none is = absurd is
refused_evaluation command (Err OutOfMemory) none is = tt
refused_evaluation command (Err (NotAccepted text)) none is = inl (none, is)

-- an even number of plies is refused with its text
pub refused_even : (job : Job) (r : Result Job ArgumentsFault) → is_even job ≡ true → IsRefusal not_odd r → IsHeld job r
refused_even job (Ok given) even is = absurd is
refused_even job (Err OutOfMemory) even is = tt
refused_even job (Err (NotAccepted text)) even is = inr (even, is)

-- a job within its reach does not begin with a depth above its greatest
not_too_deep : (job : Job) (said : List ℕ) → HasReach job → IsTooDeepIn job said → ⊥
not_too_deep job said reach deep =
    let fits : IsInReach deep.0 = subst (λ (s : Option SetupOptions). IfSome s IsInReach) deep.1 reach.0 in
    let above : IsTooDeep deep.0 = deep.2 in
    omega arith

-- the numbers of a job within its reach go together
not_unfit : (job : Job) (said : List ℕ) → HasReach job → IsUnfitIn job said → ⊥
not_unfit job said reach (inl deep) = not_too_deep job said reach deep
not_unfit job said reach (inr even) = let bad : true ≡ false = sym even.0 ∙ reach.1 in absurd (true≢false bad)

-- a command with a known evaluation and a single job within its reach is not refused
has_job : (command : Option (Text × List Row)) (job : Job) (said : List ℕ) → KnowsEvaluation command → NamesJob command job → HasRanges job → HasReach job
    → ((other : Job) → NamesJob command other → other ≡ job) → IsNoJob command said → ⊥
has_job (Some command) job said (inl bare) names range reach only (inl is) = let bad : true ≡ false = sym bare ∙ is.0.0 in absurd (true≢false bad)
has_job (Some command) job said (inr known) names range reach only (inl is) = let none = is.0.1 in let named = known.1 in cc
has_job None job said knows names range reach only (inl is) = is.0
has_job command job said knows names range reach only (inr (inl is)) = is.1 job range names
has_job command job said knows names range reach only (inr (inr is)) =
    not_unfit job said reach (subst (λ (j : Job). IsUnfitIn j said) (only is.0 is.1.1) is.2)

-- arguments without a mistake that name a single job give it
gives : (arguments : List Text) (job : Job) (r : Result Job ArgumentsFault)
    → faults_of arguments ≡ []
    → KnowsEvaluation (named_command arguments)
    → NamesJob (named_command arguments) job → HasRanges job → HasReach job → ((other : Job) → NamesJob (named_command arguments) other → other ≡ job)
    → IfOk r (IsAskedBy arguments) → IfErr r (IsRefusedFor arguments) → GivesJob job r
gives arguments job (Ok (Stdio entries setup)) none knows names range reach only asked refused = inl (ap Ok (only (Stdio entries setup) asked.1))
gives arguments job (Ok (Replay host)) none knows names range reach only asked refused = inl (ap Ok (only (Replay host) asked.1))
gives arguments job (Ok (Serve socket status turns host)) none knows names range reach only asked refused =
    inl (ap Ok (only (Serve socket status turns host) asked.1))
gives arguments job (Ok (Perft sfen depth divide)) none knows names range reach only asked refused = inl (ap Ok (only (Perft sfen depth divide) asked.1))
gives arguments job (Ok (Moves sfen)) none knows names range reach only asked refused = inl (ap Ok (only (Moves sfen) asked.1))
gives arguments job (Ok (Mate sfen plies line keys)) none knows names range reach only asked refused = inl (ap Ok (only (Mate sfen plies line keys) asked.1))
gives arguments job (Ok (Help text)) none knows names range reach only asked refused = absurd (rw none at asked)
gives arguments job (Ok Version) none knows names range reach only asked refused = absurd (rw none at asked)
gives arguments job (Err OutOfMemory) none knows names range reach only asked refused = inr refl
gives arguments job (Err (NotAccepted text)) none knows names range reach only asked refused = elim refused [
  | inl mistake ↦ absurd (subst (λ (k : Kinds). IsAmong mistake.0 k) none mistake.1)
  | inr no_job ↦ absurd (has_job (named_command arguments) job (string_bytes text) knows names range reach only no_job.1)
]

-- arguments of a known command that name a single job give it
gives_of : (arguments : List Text) (job : Job) (command : Option (Text × List Row)) (r : Result Job ArgumentsFault) → faults_of arguments ≡ []
    → named_command arguments ≡ command → KnowsEvaluation command → NamesJob command job → HasRanges job → HasReach job → ((other : Job) → NamesJob command other → other ≡ job)
    → IfOk r (IsAskedBy arguments) → IfErr r (IsRefusedFor arguments) → GivesJob job r
gives_of arguments job command r none is knows names range reach only asked refused =
    gives arguments job r none (subst KnowsEvaluation (sym is) knows) (subst (λ (c : Option (Text × List Row)). NamesJob c job) (sym is) names) range reach
    (λ other has. only other (subst (λ (c : Option (Text × List Row)). NamesJob c other) is has)) asked refused

usual_ranges : HasSetupRanges usual_setup
usual_ranges = ((lit≤ tt, lit≤ tt), (lit≤ tt, lit≤ tt), (lit≤ tt, lit≤ tt))

usual_reach : IsInReach usual_setup × (false ≡ false)
usual_reach = (lit≤ tt, refl)

pub gives_bare : (arguments : List Text) (r : Result Job ArgumentsFault) → arguments ≡ []
    → IfOk r (IsAskedBy arguments) → IfErr r (IsRefusedFor arguments) → GivesStdio r
gives_bare arguments r is asked refused =
    gives_of [] (Stdio 4096 usual_setup) None r bare_faults bare_command tt refl ((lit≤ tt, lit≤ tt), usual_ranges) usual_reach (λ other has. has)
    (subst (λ (a : List Text). IfOk r (IsAskedBy a)) is asked) (subst (λ (a : List Text). IfErr r (IsRefusedFor a)) is refused)

is_64 : IsNumber (codes "64") 64
is_64 = ((lit< tt, (lit< tt, (lit< tt, tt))), refl)

is_4096 : IsNumber (codes "4096") 4096
is_4096 = ((lit< tt, (lit< tt, (lit< tt, (lit< tt, (lit< tt, tt))))), refl)

is_16 : IsNumber (codes "16") 16
is_16 = ((lit< tt, (lit< tt, (lit< tt, tt))), refl)

is_1 : IsNumber (codes "1") 1
is_1 = ((lit< tt, (lit< tt, tt)), refl)

is_300 : IsNumber (codes "300") 300
is_300 = ((lit< tt, (lit< tt, (lit< tt, (lit< tt, tt)))), refl)

stdio_entries : NamesNumber (codes "entries") stdio_rows 4096
stdio_entries = (codes "4096", refl, is_4096)

stdio_setup : NamesSetup stdio_rows usual_setup
stdio_setup = (inr (refl, refl), (codes "16", refl, is_16), (codes "1", refl, is_1), refl)

stdio_only : (job : Job) → IsStdioOf stdio_rows job → job ≡ Stdio 4096 usual_setup
stdio_only (Stdio entries setup) is =
    let a : entries ≡ 4096 = names_once (codes "entries") stdio_rows entries 4096 is.0 stdio_entries in
    let b : setup ≡ usual_setup = setup_once stdio_rows setup usual_setup is.1 stdio_setup in
    λ k. Stdio (a k) (b k)
stdio_only (Replay host) is = absurd is
stdio_only (Serve socket status turns host) is = absurd is
stdio_only (Perft sfen depth divide) is = absurd is
stdio_only (Moves sfen) is = absurd is
stdio_only (Mate sfen plies line keys) is = absurd is
stdio_only (Help text) is = absurd is
stdio_only Version is = absurd is

stdio_names : (job : Job) → NamesJob (Some (codes "stdio", stdio_rows)) job → job ≡ Stdio 4096 usual_setup
stdio_names job (inl is) = stdio_only job is.1
stdio_names job (inr (inl is)) = let bad : codes "stdio" ≡ codes "replay" = is.0 in cc
stdio_names job (inr (inr (inl is))) = absurd (let second : 116 ≡ 101 = ap (λ (text : Text). slice_index_or text 1 0) is.0 in omega arith)
stdio_names job (inr (inr (inr (inl is)))) = absurd (let second : 116 ≡ 101 = ap (λ (text : Text). slice_index_or text 1 0) is.0 in omega arith)
stdio_names job (inr (inr (inr (inr (inl is))))) = absurd (let second : 116 ≡ 111 = ap (λ (text : Text). slice_index_or text 1 0) is.0 in omega arith)
stdio_names job (inr (inr (inr (inr (inr is))))) = absurd (let second : 116 ≡ 97 = ap (λ (text : Text). slice_index_or text 1 0) is.0 in omega arith)

pub gives_stdio : (arguments : List Text) (r : Result Job ArgumentsFault)
    → arguments ≡ codes "stdio" ∷ []
    → IfOk r (IsAskedBy arguments) → IfErr r (IsRefusedFor arguments) → GivesStdio r
gives_stdio arguments r is asked refused =
    gives_of (codes "stdio" ∷ []) (Stdio 4096 usual_setup) (Some (codes "stdio", stdio_rows)) r stdio_faults stdio_command_is (inr (Plain, refl))
    (inl (refl, (stdio_entries, stdio_setup))) ((lit≤ tt, lit≤ tt), usual_ranges) usual_reach stdio_names
    (subst (λ (a : List Text). IfOk r (IsAskedBy a)) is asked) (subst (λ (a : List Text). IfErr r (IsRefusedFor a)) is refused)

replay_host : NamesHost replay_rows usual_host
replay_host =
    ((codes "64", refl, is_64), (codes "4096", refl, is_4096), (codes "300", refl, is_300), ((inr (refl, refl), (codes "16", refl, is_16), (codes "1", refl, is_1), refl)))

replay_only : (job : Job) → IsReplayOf replay_rows job → job ≡ Replay usual_host
replay_only (Stdio entries setup) is = absurd is
replay_only (Replay host) is = ap Replay (host_once replay_rows host usual_host is replay_host)
replay_only (Serve socket status turns host) is = absurd is
replay_only (Perft sfen depth divide) is = absurd is
replay_only (Moves sfen) is = absurd is
replay_only (Mate sfen plies line keys) is = absurd is
replay_only (Help text) is = absurd is
replay_only Version is = absurd is

replay_names : (job : Job) → NamesJob (Some (codes "replay", replay_rows)) job → job ≡ Replay usual_host
replay_names job (inl is) = let bad : codes "replay" ≡ codes "stdio" = is.0 in cc
replay_names job (inr (inl is)) = replay_only job is.1
replay_names job (inr (inr (inl is))) = let bad : codes "replay" ≡ codes "serve" = is.0 in cc
replay_names job (inr (inr (inr (inl is)))) = let bad : codes "replay" ≡ codes "perft" = is.0 in cc
replay_names job (inr (inr (inr (inr (inl is))))) = let bad : codes "replay" ≡ codes "moves" = is.0 in cc
replay_names job (inr (inr (inr (inr (inr is))))) = let bad : codes "replay" ≡ codes "mate" = is.0 in cc

pub gives_replay : (arguments : List Text) (r : Result Job ArgumentsFault)
    → arguments ≡ codes "replay" ∷ []
    → IfOk r (IsAskedBy arguments) → IfErr r (IsRefusedFor arguments) → GivesReplay r
gives_replay arguments r is asked refused =
    gives_of (codes "replay" ∷ []) (Replay usual_host) (Some (codes "replay", replay_rows)) r replay_faults replay_command_is (inr (Plain, refl))
    (inr (inl (refl, replay_host))) ((lit≤ tt, lit≤ tt), (lit≤ tt, lit≤ tt), (lit≤ tt, lit≤ tt), usual_ranges)
    usual_reach replay_names
    (subst (λ (a : List Text). IfOk r (IsAskedBy a)) is asked) (subst (λ (a : List Text). IfErr r (IsRefusedFor a)) is refused)

among_one : (x k : ErrorKind) → IsAmong k (x ∷ []) → k ≡ x
among_one x k (inl is) = is
among_one x k (inr none) = absurd none

-- refused arguments have a mistake, not a single request
not_refused : (arguments : List Text) (said : List ℕ) (kind : ErrorKind) → faults_of arguments ≡ kind ∷ [] → (IsMistake kind → ⊥) → HasMistake arguments said → ⊥
not_refused arguments said kind is request (inl mistake) = request (subst IsMistake (among_one kind mistake.0 (subst (λ (k : Kinds). IsAmong mistake.0 k) is mistake.1)) mistake.2)
not_refused arguments said kind is request (inr none) =
    let bad : kind ∷ [] ≡ [] = sym is ∙ none.0 in cc

no_mistake_in_help : IsMistake kinds.DisplayHelp → ⊥
no_mistake_in_help is = is.0 refl

no_mistake_in_version : IsMistake kinds.DisplayVersion → ⊥
no_mistake_in_version is = is.1 refl

-- arguments that ask for help alone give it
gives_help_of : (arguments : List Text) (r : Result Job ArgumentsFault) → faults_of arguments ≡ kinds.DisplayHelp ∷ []
    → IfOk r (IsAskedBy arguments) → IfErr r (IsRefusedFor arguments) → GivesHelp r
gives_help_of arguments (Ok (Help text)) is asked refused = tt
gives_help_of arguments (Ok (Stdio entries setup)) is asked refused = let bad : kinds.DisplayHelp ∷ [] ≡ [] = sym is ∙ asked.0 in cc
gives_help_of arguments (Ok (Replay host)) is asked refused = let bad : kinds.DisplayHelp ∷ [] ≡ [] = sym is ∙ asked.0 in cc
gives_help_of arguments (Ok (Serve socket status turns host)) is asked refused = let bad : kinds.DisplayHelp ∷ [] ≡ [] = sym is ∙ asked.0 in cc
gives_help_of arguments (Ok (Perft sfen depth divide)) is asked refused = let bad : kinds.DisplayHelp ∷ [] ≡ [] = sym is ∙ asked.0 in cc
gives_help_of arguments (Ok (Moves sfen)) is asked refused = let bad : kinds.DisplayHelp ∷ [] ≡ [] = sym is ∙ asked.0 in cc
gives_help_of arguments (Ok (Mate sfen plies line keys)) is asked refused = let bad : kinds.DisplayHelp ∷ [] ≡ [] = sym is ∙ asked.0 in cc
gives_help_of arguments (Ok Version) is asked refused =
    let bad : kinds.DisplayVersion ≡ kinds.DisplayHelp = among_one kinds.DisplayHelp kinds.DisplayVersion (subst (λ (k : Kinds). IsAmong kinds.DisplayVersion k) is asked) in cc
gives_help_of arguments (Err OutOfMemory) is asked refused = tt
gives_help_of arguments (Err (NotAccepted text)) is asked refused = not_refused arguments (string_bytes text) kinds.DisplayHelp is no_mistake_in_help refused

-- arguments that ask for the version alone give it
gives_version_of : (arguments : List Text) (r : Result Job ArgumentsFault) → faults_of arguments ≡ kinds.DisplayVersion ∷ []
    → IfOk r (IsAskedBy arguments) → IfErr r (IsRefusedFor arguments) → GivesJob Version r
gives_version_of arguments (Ok Version) is asked refused = inl refl
gives_version_of arguments (Ok (Stdio entries setup)) is asked refused = let bad : kinds.DisplayVersion ∷ [] ≡ [] = sym is ∙ asked.0 in cc
gives_version_of arguments (Ok (Replay host)) is asked refused = let bad : kinds.DisplayVersion ∷ [] ≡ [] = sym is ∙ asked.0 in cc
gives_version_of arguments (Ok (Serve socket status turns host)) is asked refused = let bad : kinds.DisplayVersion ∷ [] ≡ [] = sym is ∙ asked.0 in cc
gives_version_of arguments (Ok (Perft sfen depth divide)) is asked refused = let bad : kinds.DisplayVersion ∷ [] ≡ [] = sym is ∙ asked.0 in cc
gives_version_of arguments (Ok (Moves sfen)) is asked refused = let bad : kinds.DisplayVersion ∷ [] ≡ [] = sym is ∙ asked.0 in cc
gives_version_of arguments (Ok (Mate sfen plies line keys)) is asked refused = let bad : kinds.DisplayVersion ∷ [] ≡ [] = sym is ∙ asked.0 in cc
gives_version_of arguments (Ok (Help text)) is asked refused =
    let bad : kinds.DisplayHelp ≡ kinds.DisplayVersion = among_one kinds.DisplayVersion kinds.DisplayHelp (subst (λ (k : Kinds). IsAmong kinds.DisplayHelp k) is asked) in cc
gives_version_of arguments (Err OutOfMemory) is asked refused = inr refl
gives_version_of arguments (Err (NotAccepted text)) is asked refused = absurd (not_refused arguments (string_bytes text) kinds.DisplayVersion is no_mistake_in_version refused)

pub gives_help : (arguments : List Text) (r : Result Job ArgumentsFault)
    → AreHelpArguments arguments
    → IfOk r (IsAskedBy arguments) → IfErr r (IsRefusedFor arguments) → GivesHelp r
gives_help arguments r (inl is) asked refused = gives_help_of arguments r (ap faults_of is ∙ help_faults) asked refused
gives_help arguments r (inr is) asked refused = gives_help_of arguments r (ap faults_of is ∙ short_help_faults) asked refused

pub gives_version : (arguments : List Text) (r : Result Job ArgumentsFault)
    → AreVersionArguments arguments
    → IfOk r (IsAskedBy arguments) → IfErr r (IsRefusedFor arguments) → GivesJob Version r
gives_version arguments r (inl is) asked refused = gives_version_of arguments r (ap faults_of is ∙ version_faults) asked refused
gives_version arguments r (inr is) asked refused = gives_version_of arguments r (ap faults_of is ∙ short_version_faults) asked refused
