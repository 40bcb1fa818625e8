use Rattle.std.proofs.Common.{rules}
use Rattle.host_core.proofs.Noted.{none_noted}
use Rattle.host_core.proofs.host.Host.with_setup.Goals as goal

pub invariant_of-result : goal.invariant_of-result
invariant_of-result g c = rw (c.in_ok-notes.ensures.items_if_clones_equal (search rules), c.new-2.ensures) (none_noted c.args.slots c.args.slots 0)
