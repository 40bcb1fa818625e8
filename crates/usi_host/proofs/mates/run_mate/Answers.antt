use Rattle.usi_host.proofs.mates.run_mate.Goals as goal

pub returns : goal.returns
returns g c = (c.options_of-options.result, c.options_of-options.ensures.options, c.solving.ensures)
