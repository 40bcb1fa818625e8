use Rattle.usi_library.proofs.calls.usi_open_with_setup.Goals as goal

pub returns-in-Ok-clause-opened : goal.returns-in-Ok-clause-opened
returns-in-Ok-clause-opened c = λ ok. (c.in-Ok.setup, (c.in-Ok.ensures.setup, c.open.ensures.opened ok))
