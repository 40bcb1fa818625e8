-- Visits of the connections one by one.
use Rattle.std.proofs.Common.{◌≡◌, ◌⊎◌, ℕ, ◌+◌, ◌<◌, ◌≤◌, Bool, true, false, List, [], ◌∷◌, ◌++◌, length, take, get_or, set, refl, ◌∙◌, arith, inl}
use Rattle.std.specs.Prelude.{◌||◌}
use Rattle.host_core.specs.Steps.{HostState}
use Rattle.host_core.specs.Events.{Event}
use Rattle.transport.specs.Asked.{Call}
use Rattle.transport.specs.Moves.{AllMove, IsEmptied}
use Rattle.transport.proofs.Asked.{asks_none}
use Rattle.transport.proofs.Reported.{kept_same}
use Rattle.socket_loop.specs.declared.connection.Connection.{Connection}
use Rattle.socket_loop.specs.Scenes.{Scene}
use Rattle.socket_loop.specs.Calls.{IsVisit}
use Rattle.socket_loop.specs.Visits.{VisitsOne, VisitsTo}
use Rattle.socket_loop.proofs.Parts.{links_set}
use Rattle.socket_loop.proofs.Marks.{marks_same, marks_then, marks_visit}
use Rattle.socket_loop.proofs.Stirs.{made_same, all_made_same, all_made_then, all_made_set, stirs_next}
use Rattle.socket_loop.proofs.Quiet.{quiet_next, either_false}
use Rattle.socket_loop.proofs.Calls.{visits_nothing, all_taken, asks_start, asks_next, asks_end}

-- the connection was left alone
pub visit_none : (due : HostState → Connection → Connection → List Call) (kind : Event → Type 0) (s : Scene) (x : Connection) → due s.host x x ≡ [] → VisitsOne due kind false x x s s
visit_none due kind s x none = record {
  visit = record {
    steps = visits_nothing kind x.link.id s.host;
    link = refl;
    made = made_same x;
    closed = λ was. inl was;
    shut = λ was. inl was;
    bound = refl;
    faults = omega arith;
    next = omega arith;
  };
  asked = rw none (asks_none s.asked);
  quiet = λ q. (kept_same s.report, refl);
  stirs = λ e. absurd (cc);
}

pub visits_start : (due : HostState → Connection → Connection → List Call) (kind : Event → Type 0) (s : Scene) → VisitsTo 0 due kind false s s
visits_start due kind s = record {
  asked = asks_start due kind s.host s.held s.asked;
  quiet = λ q. (kept_same s.report, refl);
  stirs = λ e. absurd (cc);
  marks = marks_same s.bound s.report s.held;
  made = all_made_same s.held;
  links = refl;
  bound = refl;
  faults = omega arith;
}

-- one more connection was visited
pub visits_next : (n : ℕ) (due : HostState → Connection → Connection → List Call) (kind : Event → Type 0) (moved has : Bool) (start mid after : Scene) (y d : Connection) → n < length mid.held → VisitsTo n due kind moved start mid → AllMove start.report mid.report → AllMove mid.report after.report
    → VisitsOne due kind has (get_or mid.held n d) y (record mid { held = get_or mid.held n d ∷ [] }) (record after { held = y ∷ [] })
    → (y.has_ended ≡ true → ((get_or mid.held n d).has_ended ≡ true) ⊎ IsEmptied (mid.report.unread (get_or mid.held n d).link.number) (after.report.unread (get_or mid.held n d).link.number))
    → IsVisit after.host (due mid.host (get_or mid.held n d) y) (get_or mid.held n d) y → VisitsTo (n + 1) due kind (moved || has) start (record after { held = set mid.held n y })
visits_next n due kind moved has start mid after y d lt p first second v ended visit = record {
  asked = asks_next n due kind start.host mid.host after.host start.held mid.held y d start.asked mid.asked after.asked lt p.asked visit v.visit.steps v.asked;
  quiet = quiet_next moved has (moved || has) start.report mid.report after.report mid.held n d y start.held (either_false moved has) p.quiet v.quiet;
  stirs = stirs_next moved has start.report mid.report after.report start.held mid.held n d y lt p.links first second p.made v.visit.made p.stirs v.stirs;
  marks = marks_then start.bound start.report mid.report after.report start.held mid.held (set mid.held n y) first second p.marks (marks_visit start.bound mid.report after.report mid.held n d y lt v.visit.link ended (rw p.bound at v.visit.shut));
  made = all_made_then start.held mid.held (set mid.held n y) p.made (all_made_set mid.held n d y v.visit.made);
  links = links_set mid.held n d y v.visit.link ∙ p.links;
  bound = v.visit.bound ∙ p.bound;
  faults = (let u : start.failed ≤ mid.failed = p.faults in let w : mid.failed ≤ after.failed = v.visit.faults in omega arith);
}

-- all connections were visited
pub visits_end : (n m : ℕ) (due : HostState → Connection → Connection → List Call) (kind : Event → Type 0) (moved : Bool) (start last : Scene) (rest : List Connection) → n ≡ length last.held → m ≡ length last.held → VisitsTo n due kind moved start last → VisitsTo (length start.held) due kind moved start (record last { held = take m (last.held ++ rest) })
visits_end n m due kind moved start last rest e f p =
    let taken : take m (last.held ++ rest) ≡ last.held = all_taken m last.held rest f in
    record {
      asked = asks_end n m due kind start.host last.host start.held last.held rest start.asked last.asked e f p.links p.asked;
      quiet = rw taken p.quiet;
      stirs = rw taken p.stirs;
      marks = rw taken p.marks;
      made = rw taken p.made;
      links = rw taken p.links;
      bound = p.bound;
      faults = p.faults;
    }
