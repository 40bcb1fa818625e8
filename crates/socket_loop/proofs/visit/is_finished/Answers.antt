use Rattle.session_slots.specs.Slots.{find}
use Rattle.socket_loop.proofs.Pending.{finished_by}
use Rattle.socket_loop.proofs.visit.is_finished.Goals as goal

pub returns : goal.returns
returns g c = rw c.activity-now.ensures (finished_by c.args.held.now.has_ended (find c.args.host.now.slots c.args.held.now.link.id))
