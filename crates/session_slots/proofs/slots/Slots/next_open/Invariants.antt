use Rattle.std.proofs.Common.{◌≡◌, drop}
use Rattle.session_slots.specs.Order.{first_open, next_of}
use Rattle.session_slots.proofs.slots.Slots.next_open.Given as goal

-- no slot before this one is open
abbrev pub invariant-loop-slot : goal.invariant-loop-slot
invariant-loop-slot g l = first_open l.slot (drop l.slot l.self.slots) ≡ next_of l.self l.fn.after
