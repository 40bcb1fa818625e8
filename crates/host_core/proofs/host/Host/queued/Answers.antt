use Rattle.std.proofs.Common.{rules}
use Rattle.session_slots.specs.Slots.{find}
use Rattle.host_core.proofs.Found.{queue_some, queue_none}
use Rattle.host_core.proofs.host.Host.queued.Goals as goal

pub returns-in-Some : goal.returns-in-Some
returns-in-Some g c = queue_some (find c.args.self.now.slots c.args.id) c.in-Some.bytes (search rules)

pub returns-in-None : goal.returns-in-None
returns-in-None g c = queue_none (find c.args.self.now.slots c.args.id) (search rules)
