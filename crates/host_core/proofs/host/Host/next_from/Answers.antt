use Rattle.std.proofs.Common.{◌≡◌, ℕ, ◌-◌, ◌≤◌, Option, None, Some, arith, ◌∙◌, ap, subst}
use Rattle.std.specs.Prelude.{IfSome, IsSome, SomeIff}
use Rattle.session_slots.specs.Order.{next_of, start_of}
use Rattle.session_slots.specs.Slots.{OpenSessions, find}
use Rattle.usi_session.specs.Due.{SessionView}
use Rattle.host_core.specs.Steps.{HostState}
use Rattle.host_core.proofs.Rounds.{next_found, next_none}
use Rattle.host_core.proofs.host.Host.next_from.Goals as goal

starts_at : (after : Option ℕ) (first : ℕ) → SomeIff after (1 ≤ first) (first - 1) → start_of after ≡ first
starts_at None first s = omega arith
starts_at (Some slot) first s = omega arith

pub returns-clause-next : goal.returns-clause-next
returns-clause-next g c =
    let same = ap (λ (h : HostState). h.slots) c.self.view_is in
    next_found c.args.self.now.slots c.args.from c.past_settled-first.result c.checked_sub.result c.next_open.result (starts_at _ _ c.checked_sub.ensures) (c.next_open.ensures.value ∙ ap (λ s. next_of s c.checked_sub.result) same) c.past_settled-first.ensures.on c.past_settled-first.ensures.passed

pub returns-clause-open : goal.returns-clause-open
returns-clause-open g c =
    let same = ap (λ (h : HostState). h.slots) c.self.view_is in
    subst (λ (s : OpenSessions SessionView). IfSome c.next_open.result (λ id. IsSome (find s id))) same c.next_open.ensures.open

pub returns-clause-if_none : goal.returns-clause-if_none
returns-clause-if_none g c =
    let same = ap (λ (h : HostState). h.slots) c.self.view_is in
    next_none c.args.self.now.slots c.args.from c.past_settled-first.result c.checked_sub.result c.next_open.result (starts_at _ _ c.checked_sub.ensures) (c.next_open.ensures.value ∙ ap (λ s. next_of s c.checked_sub.result) same) c.past_settled-first.ensures.passed
