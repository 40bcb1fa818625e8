use Rattle.usi_host.proofs.setup.run_session.Goals as goal

pub returns : goal.returns
returns g c = (c.setup_of.result, c.setup_of.ensures, c.session.ensures)
