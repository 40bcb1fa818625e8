use Rattle.std.proofs.Common.{◌≡◌, ◌∙◌, [], ◌∷◌, ap, length, ltb, not, refl, rules, sym, true}
use Rattle.std.proofs.lemmas.Bool.{not-false}
use Rattle.session_slots.specs.Slots.{find}
use Rattle.host_core.specs.ById.{queued_of}
use Rattle.host_core.specs.declared.notes.Activity.{Activity}
use Rattle.host_core.specs.Events.{Take}
use Rattle.host_core.specs.Seen.{passed_from}
use Rattle.transport.specs.Report.{Shuts}
use Rattle.socket_loop.specs.declared.connection.Connection.{Connection}
use Rattle.socket_loop.specs.Parts.{IsOutput}
use Rattle.socket_loop.specs.Calls.{Visits}
use Rattle.socket_loop.specs.Scenes.{Scene, scene}
use Rattle.socket_loop.proofs.Parts.{carries_by_same}
use Rattle.socket_loop.proofs.Visits.{write_fault, carries_by_fault, carries_by_passed}
use Rattle.socket_loop.proofs.OneVisit.{at_most_then, visited_same, visited_shut, wrote, wrote_none}
use Rattle.socket_loop.proofs.Calls.{visits_step, visits_closing}
use Rattle.socket_loop.proofs.Each.{visit_none}
use Rattle.socket_loop.proofs.visit.write_to.Goals as goal

pub returns-then-held-clause-writes : goal.returns-then-held-clause-writes
returns-then-held-clause-writes g c = record { visited = visit_none _ _ _ _ (search rules); carries = λ marks marked. carries_by_same _ _ _ _ _ _ }

pub returns-in_default-clause-writes : goal.returns-in_default-clause-writes
returns-in_default-clause-writes g c = record { visited = visit_none _ _ _ _ (search rules); carries = λ marks marked. carries_by_same _ _ _ _ _ _ }

pub returns-in-Ok-clause-writes : goal.returns-in-Ok-clause-writes
returns-in-Ok-clause-writes g c =
    let x : Connection = c.args.held.now in
    let before : Scene = scene g.W.Wire (x ∷ []) c.args.wire.now c.args.host.now in
    let after : Scene = scene g.W.Wire (x ∷ []) c.write.new.self c.pass-passed.new.self in
    let some : ltb 0 (length (queued_of (find c.args.host.now.slots x.link.id))) ≡ true = not-false (ltb 0 (length (queued_of (find c.args.host.now.slots x.link.id)))) (ap (λ (now : Activity). not now.has_output) (sym c.activity.ensures) ∙ c.if-not-activity.false) in
    let visits : Visits IsOutput x.link.id c.args.host.now c.pass-passed.new.self = visits_step IsOutput x.link.id c.args.host.now c.pass-passed.new.self (Take x.link.id c.in-Ok.n) (passed_from c.args.host.now x.link.id c.in-Ok.n c.pass-passed.result) tt refl (record { below = c.pass-passed.ensures.below; stepped = c.pass-passed.ensures.taken }) in
    record {
      visited = wrote x before after c.in-Ok.n c.in-Some.bytes c.if-held.false c.in-Some.ensures some c.in-Ok.ensures.written c.write.ensures.asked (visited_same IsOutput x before after visits c.write.ensures.bound c.write.ensures.cause.0);
      carries = λ marks marked. carries_by_passed marks before.bound x.link before.report after.report c.args.host.now c.pass-passed.new.self c.in-Ok.n c.in-Some.bytes c.pass-passed.result c.in-Some.ensures c.in-Ok.ensures.written.within c.in-Ok.ensures.written c.pass-passed.ensures.below c.pass-passed.ensures.taken c.pass-passed.ensures.no_memory;
    }

pub returns-in-Err-clause-writes : goal.returns-in-Err-clause-writes
returns-in-Err-clause-writes g c =
    let x : Connection = c.args.held.now in
    let before : Scene = scene g.W.Wire (x ∷ []) c.args.wire.now c.args.host.now in
    let after : Scene = scene g.W.Wire ((record x { is_shut = true }) ∷ []) c.shut_down.new.wire c.shut_down.new.host in
    let some : ltb 0 (length (queued_of (find c.args.host.now.slots x.link.id))) ≡ true = not-false (ltb 0 (length (queued_of (find c.args.host.now.slots x.link.id)))) (ap (λ (now : Activity). not now.has_output) (sym c.activity.ensures) ∙ c.if-not-activity.false) in
    let shuts : Shuts before.bound (g.W.Wire.report c.write.new.self) after.report x.link.number = rw c.write.ensures.bound at c.shut_down.ensures.shuts in
    let visits : Visits IsOutput x.link.id c.args.host.now c.shut_down.new.host = visits_closing IsOutput x.link.id c.args.host.now c.shut_down.new.host tt c.shut_down.ensures.closed in
    rw c.shut_down.ensures.held (record {
      visited = wrote_none x before after (g.W.Wire.asked c.write.new.self) c.in-Some.bytes c.if-held.false c.in-Some.ensures some c.write.ensures.asked c.shut_down.ensures.asked
          (visited_shut IsOutput x before after (g.W.Wire.report c.write.new.self) c.in-Err.ensures.written.shut shuts visits c.shut_down.ensures.if_none (c.shut_down.ensures.bound ∙ c.write.ensures.bound) (at_most_then before.failed (g.W.Wire.failed c.write.new.self) after.failed c.write.ensures.cause.0 c.shut_down.ensures.faults));
      carries = λ marks marked. carries_by_fault IsOutput marks before.bound x.link before.report (g.W.Wire.report c.write.new.self) after.report c.args.host.now c.shut_down.new.host tt (write_fault before.report (g.W.Wire.report c.write.new.self) x.link.number c.in-Err.field-0 c.in-Some.bytes.now c.in-Err.ensures.written) c.in-Err.ensures.written.failed shuts c.shut_down.ensures.closed;
    })
