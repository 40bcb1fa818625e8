-- The request of the arguments after the program's name, as `clap` reads them (own choice).
use Rattle.std.specs.Prelude.{◌≡◌, ◌∷◌, ◌≤◌, ◌-◌, ◌^◌, ℕ, Bool, true, false, IfOk, List, [], None, Option, Result, Some, String, codes, option_map, string_bytes}
use Rattle.std.specs.Str.{bytes_eq}
use Rattle.std.specs.Str.Parse.{IsNumeral, digits_value}
use Rattle.clap.specs.Words.{App, Kinds, Row, Rule, Text, app_of, fault_of, first_of, found_of, new_app, new_rule, rows_of, rule_of, subcommand_of, with_rule, with_subcommand}
use Rattle.clap.specs.declared.builder.action.ArgAction.TheVariants.{SetTrue}
use Rattle.clap.specs.declared.builder.arg.Arg.{Arg}
use Rattle.clap.specs.declared.builder.command.Command.{Command}
use Rattle.clap.specs.declared.builder.command.Command.TheViews.{out-Command as fields_of}
use Rattle.clap.specs.declared.builder.value_parser.ValueParser.TheVariants as parser
use Rattle.clap.specs.declared.parser.matches.ArgMatches.{ArgMatches}

-- the option `--NAME VALUE`, which may be left out
abbrev pub value_option : Text → Rule
value_option name = record (new_rule name) {
  long = Some name;
  value_names = 1;
}

-- the option `--NAME N`, a number from 1 to `most`; default `usual`
abbrev pub number_option : Text → ℕ → Text → Rule
number_option name most usual = record (value_option name) {
  defaults = usual ∷ [];
  parser = Some (parser.Unsigned 1 most);
}

-- the most open sessions: `--slots N`, from 1 to 1024; default 64
abbrev pub slots_option : Rule
slots_option = number_option (codes "slots") 1024 (codes "64")

-- the entries of the table: `--entries N`, from 1 to 1000000; default 4096
abbrev pub entries_option : Rule
entries_option = number_option (codes "entries") 1000000 (codes "4096")

-- the most search steps of a session in a round: `--slice N`, from 1 to 1000000000; default 300
abbrev pub slice_option : Rule
slice_option = number_option (codes "slice") 1000000000 (codes "300")

-- the turns after which the program ends: `--turns N`, from 1 to the greatest number of 64 bits, which is the default
abbrev pub turns_option : Rule
turns_option = number_option (codes "turns") (2 ^ 64 - 1) (codes "18446744073709551615")

-- the path of the socket: `--socket PATH`, required
abbrev pub socket_option : Rule
socket_option = record (value_option (codes "socket")) { required = true }

-- the value of the option Depth as a session begins: `--depth N`, from 1 to 16;
-- its default depends on `--max-depth`, so `clap` has none
abbrev pub depth_option : Rule
depth_option = record (value_option (codes "depth")) { parser = Some (parser.Unsigned 1 16) }

-- the greatest depth of a search: `--max-depth N`, from 1 to 16; default 16
abbrev pub max_depth_option : Rule
max_depth_option = number_option (codes "max-depth") 16 (codes "16")

-- the value of the option MultiPV as a session begins: `--lines N`, from 1 to 8; default 1
abbrev pub lines_option : Rule
lines_option = number_option (codes "lines") 8 (codes "1")

-- the value of the option Eval as a session begins: `--eval NAME`; default `plain`
abbrev pub eval_option : Rule
eval_option = record (value_option (codes "eval")) { defaults = codes "plain" ∷ [] }

-- the option has this rule and is not global
abbrev pub IsOption : Rule → Arg → Type 0
IsOption rule arg = (rule_of arg ≡ rule) × (arg.global ≡ false)

-- the command is this one, without global options
abbrev pub IsCommand : App → Command → Type 0
IsCommand app command = (app_of command ≡ app) × ((fields_of command).has_globals ≡ false)

-- if the command could be made, it is this one
abbrev pub IsMade : {E : Type 0} → App → Result Command E → Type 0
IsMade app made = IfOk made (IsCommand app)

-- a command with the options of the setup
abbrev pub with_setup_options : App → App
with_setup_options command =
    with_rule (with_rule (with_rule (with_rule command depth_option) max_depth_option) lines_option)
    eval_option

-- the command `stdio`
abbrev pub stdio_command : App
stdio_command = with_setup_options (with_rule (new_app (codes "stdio")) entries_option)

-- a command with the options of a host: sessions, entries and steps
abbrev pub with_host_options : App → App
with_host_options command =
    with_rule (with_rule (with_rule command slots_option) entries_option) slice_option

-- the command `replay`
abbrev pub replay_command : App
replay_command = with_setup_options (with_host_options (new_app (codes "replay")))

-- the path of a second socket, for the status: `--status PATH`, which may be left out
abbrev pub status_option : Rule
status_option = value_option (codes "status")

-- the command `serve` with the options that name its sockets
abbrev pub socket_command : App
socket_command = with_rule (with_rule (new_app (codes "serve")) socket_option) status_option

-- the command `serve`
abbrev pub serve_command : App
serve_command = with_rule (with_setup_options (with_host_options socket_command)) turns_option

-- the position: `--sfen SFEN`, which may be left out
abbrev pub sfen_option : Rule
sfen_option = value_option (codes "sfen")

-- the number of moves of a sequence: `--depth N`, from 1 to 16, required
abbrev pub plies_option : Rule
plies_option = record (value_option (codes "depth")) {
  required = true;
  parser = Some (parser.Unsigned 1 16);
}

-- the option `--NAME` without a value, which may be left out
abbrev pub flag_option : Text → Rule
flag_option name = record (new_rule name) {
  long = Some name;
  action = Some SetTrue;
}

-- the flag for the counts of the first moves: `--divide`
abbrev pub divide_option : Rule
divide_option = flag_option (codes "divide")

-- the command `perft`
abbrev pub perft_command : App
perft_command =
    with_rule (with_rule (with_rule (new_app (codes "perft")) plies_option) sfen_option)
    divide_option

-- the command `moves`
abbrev pub moves_command : App
moves_command = with_rule (new_app (codes "moves")) sfen_option

-- the most plies of a mate: `--plies N`, from 1 to 15; default 9
abbrev pub mate_plies_option : Rule
mate_plies_option = number_option (codes "plies") 15 (codes "9")

-- the command `mate` with the options of its position and its length
abbrev pub mate_position : App
mate_position = with_rule (with_rule (new_app (codes "mate")) mate_plies_option) sfen_option

-- the command `mate`: `--line` and `--keys` ask for more than the length
abbrev pub mate_command : App
mate_command =
    with_rule (with_rule mate_position (flag_option (codes "line"))) (flag_option (codes "keys"))

-- the program without a command; it has a version, so `--version` and `-V` ask for it
abbrev pub bare_line : App
bare_line = let app = new_app (codes "usi_host") in
    record app { top = record app.top { no_binary_name = true; has_version = true } }

-- the program with the command `stdio` alone
abbrev pub stdio_line : App
stdio_line = with_subcommand bare_line stdio_command.top

-- the program with the commands `stdio` and `replay`
abbrev pub replay_line : App
replay_line = with_subcommand stdio_line replay_command.top

-- the program with the three commands that have sessions
abbrev pub serve_line : App
serve_line = with_subcommand replay_line serve_command.top

-- the program with four commands, up to `perft`
abbrev pub perft_line : App
perft_line = with_subcommand serve_line perft_command.top

-- the program with five commands, up to `moves`
abbrev pub moves_line : App
moves_line = with_subcommand perft_line moves_command.top

-- the command line: the program with its six commands
abbrev pub command_line : App
command_line = with_subcommand moves_line mate_command.top

-- the kinds of mistake in the arguments, or a request for help or for the version;
-- none if they are a command line
abbrev pub faults_of : List Text → Kinds
faults_of = fault_of command_line

-- the command that the arguments name, with its options
abbrev pub named_command : List Text → Option (Text × List Row)
named_command = subcommand_of command_line

-- the text is the number n in decimal digits alone: without a sign, which `clap` would take
abbrev pub IsNumber : Text → ℕ → Type 0
IsNumber text n = IsNumeral 10 text × (n ≡ digits_value 10 text)

-- the option of this name has this text
abbrev pub NamesText : Text → List Row → Text → Type 0
NamesText name options text = first_of name options ≡ Some text

-- the option of this name has this text; if it is left out, there is none
abbrev pub NamesTextIfAny : {A : Type 0} → Text → List Row → Option (String A) → Type 0
NamesTextIfAny name options text = first_of name options ≡ option_map string_bytes text

-- the text is that of a flag that is set
abbrev pub is_true : Option Text → Bool
is_true None = false
is_true (Some text) = bytes_eq text (codes "true")

-- the option of this name has the number n
abbrev pub NamesNumber : Text → List Row → ℕ → Type 0
NamesNumber name options n = (text : Text) × NamesText name options text × IsNumber text n

-- a number from 1 to `most`
abbrev pub IsFromOne : ℕ → ℕ → Type 0
IsFromOne most n = (1 ≤ n) × (n ≤ most)

-- the option of this name has the number n, from 1 to `most`
abbrev pub HasNumber : Text → ℕ → List Row → ℕ → Type 0
HasNumber name most options n = IsFromOne most n × NamesNumber name options n

-- the option of this name has no number from 1 to `most`
abbrev pub HasNoNumber : Text → ℕ → List Row → Type 0
HasNoNumber name most options = (n : ℕ) → IsFromOne most n → NamesNumber name options n → ⊥

-- the flag of this name is set
abbrev pub is_set : Text → List Row → Bool
is_set name options = is_true (first_of name options)

-- the options of a command that was read
abbrev pub options_in : ArgMatches → List Row
options_in matches = rows_of (found_of matches)
