use Rattle.socket_loop.proofs.Alone.{as_alone}
use Rattle.socket_loop.proofs.laws.answers_as_alone.Goals as goal

pub returns : goal.returns
returns c = as_alone
