-- Options of which one has no value for a job.
use Rattle.std.proofs.Common.{◌≡◌, ◌-◌, ◌^◌, List, None, codes}
use Rattle.clap.specs.Words.{Row, first_of}
use Rattle.usi_arguments.specs.Answers.{HasNoHost, NamesNoMate, NamesNoPerft, NamesNoReplay, NamesNoServe, NamesNoStdio}
use Rattle.usi_arguments.specs.CommandLine.{HasNoNumber}
use Rattle.usi_arguments.specs.Setup.{HasNoSetup}
use Rattle.usi_arguments.specs.declared.arguments.Job.TheVariants.{Stdio, Replay, Serve, Perft, Moves, Mate, Help, Version}

pub no_stdio : (options : List Row) → HasNoNumber (codes "entries") 1000000 options → NamesNoStdio options
no_stdio options none (Stdio entries setup) range is = none entries range.0 is.0
no_stdio options none (Replay host) range is = is
no_stdio options none (Serve socket status turns host) range is = is
no_stdio options none (Perft sfen depth divide) range is = is
no_stdio options none (Moves sfen) range is = is
no_stdio options none (Mate sfen plies line keys) range is = is
no_stdio options none (Help text) range is = is
no_stdio options none Version range is = is

pub no_stdio_setup : (options : List Row) → HasNoSetup options → NamesNoStdio options
no_stdio_setup options none (Stdio entries setup) range is = none setup range.1 is.1
no_stdio_setup options none (Replay host) range is = is
no_stdio_setup options none (Serve socket status turns host) range is = is
no_stdio_setup options none (Perft sfen depth divide) range is = is
no_stdio_setup options none (Moves sfen) range is = is
no_stdio_setup options none (Mate sfen plies line keys) range is = is
no_stdio_setup options none (Help text) range is = is
no_stdio_setup options none Version range is = is

pub no_replay : (options : List Row) → HasNoHost options → NamesNoReplay options
no_replay options none (Stdio entries setup) range is = is
no_replay options none (Replay host) range is = none host range is
no_replay options none (Serve socket status turns host) range is = is
no_replay options none (Perft sfen depth divide) range is = is
no_replay options none (Moves sfen) range is = is
no_replay options none (Mate sfen plies line keys) range is = is
no_replay options none (Help text) range is = is
no_replay options none Version range is = is

pub no_socket : (options : List Row) → first_of (codes "socket") options ≡ None → NamesNoServe options
no_socket options none (Stdio entries setup) range is = is
no_socket options none (Replay host) range is = is
no_socket options none (Serve socket status turns host) range is = let text = is.0 in cc
no_socket options none (Perft sfen depth divide) range is = is
no_socket options none (Moves sfen) range is = is
no_socket options none (Mate sfen plies line keys) range is = is
no_socket options none (Help text) range is = is
no_socket options none Version range is = is

pub no_turns : (options : List Row) → HasNoNumber (codes "turns") (2 ^ 64 - 1) options → NamesNoServe options
no_turns options none (Stdio entries setup) range is = is
no_turns options none (Replay host) range is = is
no_turns options none (Serve socket status turns host) range is = none turns range.0 is.2
no_turns options none (Perft sfen depth divide) range is = is
no_turns options none (Moves sfen) range is = is
no_turns options none (Mate sfen plies line keys) range is = is
no_turns options none (Help text) range is = is
no_turns options none Version range is = is

pub no_served_host : (options : List Row) → HasNoHost options → NamesNoServe options
no_served_host options none (Stdio entries setup) range is = is
no_served_host options none (Replay host) range is = is
no_served_host options none (Serve socket status turns host) range is = none host range.1 is.3
no_served_host options none (Perft sfen depth divide) range is = is
no_served_host options none (Moves sfen) range is = is
no_served_host options none (Mate sfen plies line keys) range is = is
no_served_host options none (Help text) range is = is
no_served_host options none Version range is = is

pub no_perft : (options : List Row) → HasNoNumber (codes "depth") 16 options → NamesNoPerft options
no_perft options none (Stdio entries setup) range is = is
no_perft options none (Replay host) range is = is
no_perft options none (Serve socket status turns host) range is = is
no_perft options none (Perft sfen depth divide) range is = none depth range is.0
no_perft options none (Moves sfen) range is = is
no_perft options none (Mate sfen plies line keys) range is = is
no_perft options none (Help text) range is = is
no_perft options none Version range is = is

pub no_mate : (options : List Row) → HasNoNumber (codes "plies") 15 options → NamesNoMate options
no_mate options none (Stdio entries setup) range is = is
no_mate options none (Replay host) range is = is
no_mate options none (Serve socket status turns host) range is = is
no_mate options none (Perft sfen depth divide) range is = is
no_mate options none (Moves sfen) range is = is
no_mate options none (Mate sfen plies line keys) range is = none plies range is.0
no_mate options none (Help text) range is = is
no_mate options none Version range is = is
