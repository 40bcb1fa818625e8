use Rattle.socket_loop.proofs.Alone.{isolated}
use Rattle.socket_loop.proofs.laws.isolation.Goals as goal

pub returns : goal.returns
returns c = isolated
