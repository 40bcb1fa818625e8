use Rattle.host_core.specs.Events.{Feed, Done, Outcome}
use Rattle.host_core.specs.Seen.{as_outcome}
use Rattle.host_core.specs.Runs.{IsStep}
use Rattle.host_core.specs.declared.event.HostFault.{HostFault}
use Rattle.std.specs.Prelude.{Result, Ok, Err}
use Rattle.std.specs.Result.{is_ok}
use Rattle.std.proofs.Common.{◌≡◌, ◌≤◌, ◌∙◌, ℕ, [], ◌∷◌, true, arith, sym, refl}
use Rattle.std.proofs.KnownBytes.{Keeps-refl}
use Rattle.transport.proofs.Reported.{stays-refl}
use Rattle.socket_loop.proofs.Visits.{is_done, carries_by_fed, carries_by_starved, wanted_below}
use Rattle.socket_loop.specs.declared.connection.Connection.{Connection}
use Rattle.socket_loop.specs.Parts.{IsInput}
use Rattle.socket_loop.specs.Calls.{Visits}
use Rattle.socket_loop.specs.Scenes.{Scene, scene}
use Rattle.socket_loop.proofs.OneVisit.{asks_no_shut, visited_same, visited_shut}
use Rattle.socket_loop.proofs.Calls.{asks_shut, visits_step, visits_two}
use Rattle.socket_loop.proofs.visit.feed_from.Goals as goal

done-is_ok : {U : Type 0} (r : Result U HostFault) → is_done (as_outcome (λ _. Done) r) ≡ is_ok r
done-is_ok (Ok done) = refl
done-is_ok (Err fault) = refl

at_most_same : (n : ℕ) → n ≤ n
at_most_same n = omega arith

pub returns-then-is_ok-clause-fed : goal.returns-then-is_ok-clause-fed
returns-then-is_ok-clause-fed g c =
    let x : Connection = c.args.held.now in
    let lent : g.W.Wire.lent c.args.wire.now ≡ c.bytes.result.now = sym c.bytes.ensures in
    let before : Scene = scene g.W.Wire (x ∷ []) c.args.wire.now c.args.host.now in
    let after : Scene = scene g.W.Wire (x ∷ []) c.args.wire.now c.feed.new.self in
    let o : Outcome = as_outcome (λ _. Done) c.feed.result in
    let step : IsStep c.args.host.now (record { event = Feed x.link.id c.bytes.result.now; outcome = o }) c.feed.new.self = record { below = c.feed.ensures.below; stepped = c.feed.ensures.fed } in
    let visits : Visits IsInput x.link.id c.args.host.now c.feed.new.self = visits_step IsInput x.link.id c.args.host.now c.feed.new.self (Feed x.link.id c.bytes.result.now) o tt refl step in
    record {
      visit = visited_same IsInput x before after visits refl (at_most_same before.failed);
      asked = λ «open». asks_no_shut before.asked x;
      carries = λ marks earlier gave none.
          carries_by_fed marks before.bound x.link earlier before.report c.args.host.now c.feed.new.self c.bytes.result.now o (done-is_ok c.feed.result ∙ (sym c.is_ok.ensures.value ∙ c.if-is_ok.true)) (rw lent at gave) none step;
      unread = Keeps-refl (before.report.unread x.link.number);
      given = Keeps-refl (before.report.given x.link.number);
    }

pub returns-clause-fed : goal.returns-clause-fed
returns-clause-fed g c =
    let x : Connection = c.args.held.now in
    let lent : g.W.Wire.lent c.args.wire.now ≡ c.bytes.result.now = sym c.bytes.ensures in
    let before : Scene = scene g.W.Wire (x ∷ []) c.args.wire.now c.args.host.now in
    let after : Scene = scene g.W.Wire ((record x { is_shut = true }) ∷ []) c.shut_down.new.wire c.shut_down.new.host in
    let o : Outcome = as_outcome (λ _. Done) c.feed.result in
    let step : IsStep c.args.host.now (record { event = Feed x.link.id c.bytes.result.now; outcome = o }) c.feed.new.self = record { below = c.feed.ensures.below; stepped = c.feed.ensures.fed } in
    let visits : Visits IsInput x.link.id c.args.host.now c.shut_down.new.host = visits_two IsInput x.link.id c.args.host.now c.feed.new.self c.shut_down.new.host (Feed x.link.id c.bytes.result.now) o tt tt refl step c.shut_down.ensures.closed in
    rw c.shut_down.ensures.held (record {
      visit = visited_shut IsInput x before after before.report (stays-refl (before.report.is_shut x.link.number)) c.shut_down.ensures.shuts visits c.shut_down.ensures.if_none c.shut_down.ensures.bound c.shut_down.ensures.faults;
      asked = λ «open». asks_shut before.asked after.asked x (record x { is_shut = true }) «open» refl c.shut_down.ensures.asked;
      carries = λ marks earlier gave none.
          carries_by_starved marks before.bound x.link earlier before.report after.report c.args.host.now c.feed.new.self c.shut_down.new.host c.bytes.result.now o c.requires.wants (rw lent at c.requires.few) (rw lent at c.requires.some) (done-is_ok c.feed.result ∙ (sym c.is_ok.ensures.value ∙ c.if-is_ok.false)) (rw lent at gave) c.shut_down.ensures.shuts step c.shut_down.ensures.closed
          (c.shut_down.ensures.gone (wanted_below c.args.host.now c.feed.new.self x.link.id (Feed x.link.id c.bytes.result.now) o c.requires.wants c.feed.ensures.below c.feed.ensures.fed));
      unread = c.shut_down.ensures.shuts.unread;
      given = c.shut_down.ensures.shuts.given;
    })
