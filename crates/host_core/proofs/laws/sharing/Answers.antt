use Rattle.host_core.proofs.Shares.{shares}
use Rattle.host_core.proofs.laws.sharing.Goals as goal

pub returns : goal.returns
returns c = shares
