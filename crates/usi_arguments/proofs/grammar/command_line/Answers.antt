use Rattle.usi_arguments.specs.CommandLine.{bare_line, mate_command, moves_command, moves_line, perft_command, perft_line, replay_command, replay_line, serve_command, serve_line, stdio_command, stdio_line}
use Rattle.usi_arguments.proofs.grammar.command_line.Goals as goal

pub returns : goal.returns
returns c =
    c.with_command.ensures moves_line mate_command
    (c.with_command-line-5.ensures perft_line moves_command
    (c.with_command-line-4.ensures serve_line perft_command
    (c.with_command-line-3.ensures replay_line serve_command
    (c.with_command-line-2.ensures stdio_line replay_command
    (c.with_command-line.ensures bare_line stdio_command c.bare_line.ensures c.stdio_command.ensures)
    c.replay_command.ensures) c.serve_command.ensures) c.perft_command.ensures) c.moves_command.ensures) c.mate_command.ensures
