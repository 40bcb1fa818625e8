use Rattle.usi_library.proofs.Replying.{replies_by_calls}
use Rattle.usi_library.proofs.laws.replies_by_calls.Goals as goal

pub returns : goal.returns
returns c = replies_by_calls
