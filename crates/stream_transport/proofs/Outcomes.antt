-- Results of calls, and the causes of faults.
use Rattle.std.proofs.Common.{◌≡◌, ℕ, Bool, true, ◌<◌, ◌≤◌, ◌+◌, [], Option, Some, None, Result, Ok, Err, refl, ap, ◌∙◌, inl, inr, arith}
use Rattle.std.proofs.lemmas.Bool.{cases_lt}
use Rattle.transport.specs.Report.{HasCause, HasRisen}
use Rattle.transport.specs.declared.wire.WireFault.{WireFault}
use Rattle.stream_transport.specs.declared.connection.TheConstants.{PLACES}
use Rattle.std.specs.Result.{IsErrAnd}
use Rattle.std.specs.Prelude.{◌-◌, ◌^◌, min, OnErr, OnOk}
use Rattle.stream_transport.specs.Held.{counted}
use Rattle.stream_transport.specs.declared.readiness.Readiness.{Readiness}
use Rattle.stream_transport.specs.Asking.{StaysOpen, after_accept}

pub crowded : (place len places : ℕ) → PLACES ≤ place → place < len → places ≡ len → PLACES < places
crowded place len places le lt e = omega arith

pub not_below : (n : ℕ) → n ≤ n
not_below n = omega arith

-- no byte was counted
pub counted_none : (n : ℕ) → n ≤ 2 ^ 64 - 1 → n ≡ counted n []
counted_none n fits = (let same : n ≡ min (n + 0) (2 ^ 64 - 1) = omega arith in same)

-- a call that succeeds needs no cause
pub cause_of_ok : {T : Type 0} (v : T) (a b : ℕ) → a ≤ b → HasCause a b (Ok v)
cause_of_ok v a b le = (le, λ e. absurd (cc))

risen_then : (a b c : ℕ) → a ≤ b → b ≤ c → HasRisen b c → HasRisen a c
risen_then a b c le after (inl lt) = inl (omega arith)
risen_then a b c le after (inr top) = elim (cases_lt a b) [
  | inl lt ↦ inl (omega arith)
  | inr past ↦ inr (omega arith)
]

-- a fault of the second call has its cause in both calls
pub cause_then : {T : Type 0} (a b c : ℕ) (r : Result T WireFault) → a ≤ b → HasCause b c r → HasCause a c r
cause_then a b c r le cause = (omega (arith, cause.0), λ e. risen_then a b c le cause.0 (cause.1 e))

-- a fault that is passed on stays what it was
pub passed_on : {T : Type 0} (r : Result T WireFault) (e f : WireFault) → IsErrAnd r (λ x. x ≡ e) → e ≡ f → r ≡ Err f
passed_on (Ok v) e f p q = absurd p
passed_on (Err x) e f p q = ap (λ (y : WireFault). Err y) (p ∙ q)

-- ---- the readiness after an accept

pub stays_open : (r : Result (Option ℕ) WireFault) (was : Bool) (old : Readiness) → old.may_accept ≡ true → StaysOpen r was (after_accept old r).may_accept
stays_open (Ok (Some n)) was old may = may
stays_open (Ok None) was old may = tt
stays_open (Err fault) was old may = λ before. may

pub more_noted : (r : Result (Option ℕ) WireFault) (old : Readiness) → (after_accept old r).has_buffered ≡ old.has_buffered
more_noted (Ok (Some n)) old = refl
more_noted (Ok None) old = refl
more_noted (Err fault) old = refl

pub sure_noted : (r : Result (Option ℕ) WireFault) (old : Readiness) → OnOk r ((after_accept old r).needs_timeout ≡ old.needs_timeout)
sure_noted (Ok (Some n)) old = refl
sure_noted (Ok None) old = refl
sure_noted (Err fault) old = tt

pub unsure_noted : (r : Result (Option ℕ) WireFault) (old : Readiness) → OnErr r ((after_accept old r).needs_timeout ≡ true)
unsure_noted (Ok n) old = tt
unsure_noted (Err fault) old = refl
