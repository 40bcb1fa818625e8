use Rattle.usi_host.proofs.setup.run_script.Goals as goal

pub returns : goal.returns
returns g c = (c.setup_of.result, c.setup_of.ensures, c.script.ensures.run, c.script.ensures.host)
