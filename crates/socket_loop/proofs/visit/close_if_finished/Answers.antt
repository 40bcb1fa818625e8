use Rattle.std.proofs.Common.{◌≡◌, ◌∙◌, [], ◌∷◌, false, true, refl, rules, sym}
use Rattle.transport.proofs.Reported.{stays-refl}
use Rattle.socket_loop.proofs.Parts.{carries_by_same}
use Rattle.socket_loop.proofs.Visits.{carries_by_finished}
use Rattle.socket_loop.specs.declared.connection.Connection.{Connection}
use Rattle.socket_loop.specs.Parts.{IsEnd, is_finished}
use Rattle.socket_loop.specs.Calls.{ends_of, is_to_shut}
use Rattle.socket_loop.specs.Scenes.{Scene, scene}
use Rattle.socket_loop.proofs.OneVisit.{ended, no_end, visited_shut}
use Rattle.socket_loop.proofs.Calls.{visits_closing}
use Rattle.socket_loop.proofs.Each.{visit_none}
use Rattle.socket_loop.proofs.visit.close_if_finished.Goals as goal

pub returns-then-held-clause-ends : goal.returns-then-held-clause-ends
returns-then-held-clause-ends g c =
    let x : Connection = c.args.held.now in
    let before : Scene = scene g.W.Wire (x ∷ []) c.args.wire.now c.args.host.now in
    let not_due : is_to_shut c.args.host.now x ≡ false = search rules in
    record {
      visited = visit_none ends_of IsEnd before x (no_end c.args.host.now x not_due);
      carries = λ marks marked. carries_by_same IsEnd marks before.bound (x.link ∷ []) before.report c.args.host.now;
    }

pub returns-clause-ends : goal.returns-clause-ends
returns-clause-ends g c =
    let x : Connection = c.args.held.now in
    let before : Scene = scene g.W.Wire (x ∷ []) c.args.wire.now c.args.host.now in
    let after : Scene = scene g.W.Wire ((record x { is_shut = true }) ∷ []) c.shut_down.new.wire c.shut_down.new.host in
    let finished : is_finished c.args.host.now x ≡ true = sym c.is_finished.ensures ∙ c.if-not-is_finished.false in
    rw c.shut_down.ensures.held (record {
      visited = ended x before after c.if-held.false finished c.shut_down.ensures.asked
          (visited_shut IsEnd x before after before.report (stays-refl (before.report.is_shut x.link.number)) c.shut_down.ensures.shuts (visits_closing IsEnd x.link.id c.args.host.now c.shut_down.new.host tt c.shut_down.ensures.closed) c.shut_down.ensures.if_none c.shut_down.ensures.bound c.shut_down.ensures.faults);
      carries = λ marks marked. carries_by_finished marks before.bound x.link before.report after.report c.args.host.now c.shut_down.new.host x.has_ended (marked refl) finished c.shut_down.ensures.shuts c.shut_down.ensures.closed;
    })
