use Rattle.std.proofs.Common.{◌∙◌, Some, sym, codes, ap, option_map}
use Rattle.clap.specs.Words.{found_of}
use Rattle.clap.proofs.WalkLemmas.{first_value-rows}
use Rattle.usi_arguments.specs.CommandLine.{options_in}
use Rattle.usi_arguments.proofs.Jobs.{no_turns, no_served_host, no_socket}
use Rattle.usi_arguments.proofs.arguments.serve_job.Goals as goal

pub returns-in_default-clause-if_none : goal.returns-in_default-clause-if_none
returns-in_default-clause-if_none c = no_socket (options_in c.args.options.now)
    (sym (first_value-rows (found_of c.args.options.now) (codes "socket")) ∙ sym c.get_str.ensures ∙ ap (option_map (λ s. s.now)) c.in_default.is)

pub returns-in_default-number_of-clause-if_none : goal.returns-in_default-number_of-clause-if_none
returns-in_default-number_of-clause-if_none c = no_turns (options_in c.args.options.now) c.in_default-number_of.ensures.if_none

pub returns-in_default-host_of-clause-if_none : goal.returns-in_default-host_of-clause-if_none
returns-in_default-host_of-clause-if_none c = no_served_host (options_in c.args.options.now) c.in_default-host_of.ensures.if_none

pub returns-clause-some : goal.returns-clause-some
returns-clause-some c =
    let turns = c.in-Some-number_of.ensures.some in
    let host = c.in-Some-host_of.ensures.some in (
      (turns.0, host.0),
      (
        sym (first_value-rows (found_of c.args.options.now) (codes "socket")) ∙ sym c.get_str.ensures ∙ ap (option_map (λ s. s.now)) c.in-Some.is ∙ ap Some (sym c.in_ok-socket.ensures.ok),
        c.in_ok-status.ensures,
        turns.1,
        host.1,
      ),
    )
