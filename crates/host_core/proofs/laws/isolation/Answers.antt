use Rattle.host_core.proofs.OneSession.{isolated}
use Rattle.host_core.proofs.laws.isolation.Goals as goal

pub returns : goal.returns
returns c = isolated
