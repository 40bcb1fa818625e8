use Rattle.usi_host.proofs.Setups.{host_asked}
use Rattle.usi_host.proofs.setup.host_of.Goals as goal

pub returns : goal.returns
returns c = host_asked c.args.options c.setup_of-setup.result c.with_setup.result c.setup_of-setup.ensures c.with_setup.ensures.new
