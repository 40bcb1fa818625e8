-- The reads of a lingering stream, as far as they were made.
use Rattle.std.proofs.Common.{◌≡◌, ◌<◌, ◌+◌, Bool, List, [], ◌∷◌, ◌++◌, ℕ, zero, suc, Option, None, Some, Result, Ok, Err, refl, arith, sym, subst, append_assoc, append-nil}
use Rattle.std.specs.Prelude.{◌≢◌, false, true}
use Rattle.transport.specs.Asked.{Asks}
use Rattle.transport.proofs.Asked.{asks_none, asks_then}
use Rattle.stream_transport.specs.System.{Drains, IsDrained}
use Rattle.stream_transport.specs.declared.lingering.TheConstants.{READS}
use Rattle.stream_transport.specs.declared.listener.StreamCall.{StreamCall}
use Rattle.stream_transport.specs.declared.listener.StreamCall.TheVariants.{Receive}
use Rattle.stream_transport.specs.declared.listener.StreamFault.{StreamFault}
use Rattle.stream_transport.specs.declared.listener.StreamFault.TheVariants.{Failed, Interrupted, WouldBlock}

-- these reads were made, and `left` more may follow
pub record Draining (old now : Option (List StreamCall)) (left : ℕ) : Type 0 where
  pub calls : List StreamCall
  pub asked : Asks old now calls
  pub due : (rest : List StreamCall) (result : Option Bool) → Drains left rest result → Drains READS (calls ++ rest) result

-- `made` of the `READS` reads were made
pub record HasDrained (old now : Option (List StreamCall)) (made : ℕ) : Type 0 where
  pub left : ℕ
  pub all : left + made ≡ READS
  pub so_far : Draining old now left

-- the call ends the drain with this result
abbrev pub Stops : StreamCall → Option Bool → Type 0
Stops call result = (left : ℕ) → Drains (suc left) (call ∷ []) result

-- the drain goes on after the call
abbrev pub Passes : StreamCall → Type 0
Passes call = (left : ℕ) (rest : List StreamCall) (result : Option Bool) → Drains left rest result → Drains (suc left) (call ∷ rest) result

pub drained_none : (old : Option (List StreamCall)) → HasDrained old old 0
drained_none old = record { left = READS; all = omega arith; so_far = record { calls = []; asked = asks_none old; due = λ rest result d. d } }

ends_after : (old mid new : Option (List StreamCall)) (left made : ℕ) (call : StreamCall) (result : Option Bool) → left + made ≡ READS → made < READS → Draining old mid left
    → Asks mid new (call ∷ []) → Stops call result → IsDrained old new result
ends_after old mid new zero made call result all few d asked stops = absurd (omega (arith, all, few))
ends_after old mid new (suc left) made call result all few d asked stops = record {
  calls = d.calls ++ call ∷ [];
  asked = asks_then old mid new d.calls (call ∷ []) d.asked asked;
  due = d.due (call ∷ []) result (stops left);
}

pub drained_by : (old mid new : Option (List StreamCall)) (made : ℕ) (call : StreamCall) (result : Option Bool) → HasDrained old mid made → made < READS
    → Asks mid new (call ∷ []) → Stops call result → IsDrained old new result
drained_by old mid new made call result d few asked stops = ends_after old mid new d.left made call result d.all few d.so_far asked stops

goes_after : (old mid new : Option (List StreamCall)) (left made : ℕ) (call : StreamCall) → left + made ≡ READS → made < READS → Draining old mid left
    → Asks mid new (call ∷ []) → Passes call → HasDrained old new (made + 1)
goes_after old mid new zero made call all few d asked passes = absurd (omega (arith, all, few))
goes_after old mid new (suc left) made call all few d asked passes = record {
  left = left;
  all = omega (arith, all);
  so_far = record {
    calls = d.calls ++ call ∷ [];
    asked = asks_then old mid new d.calls (call ∷ []) d.asked asked;
    due = λ rest result more. subst (λ (calls : List StreamCall). Drains READS calls result) (sym (append_assoc d.calls (call ∷ []) rest)) (d.due (call ∷ rest) result (passes left rest result more));
  };
}

pub drained_more : (old mid new : Option (List StreamCall)) (made : ℕ) (call : StreamCall) → HasDrained old mid made → made < READS
    → Asks mid new (call ∷ []) → Passes call → HasDrained old new (made + 1)
drained_more old mid new made call d few asked passes = goes_after old mid new d.left made call d.all few d.so_far asked passes

-- the drain goes on after a read that gave bytes
pub passes_some : (room n : ℕ) → n ≢ 0 → Passes (Receive room (Ok n))
passes_some room zero some = absurd (some refl)
passes_some room (suc n) some = λ left rest result d. d

-- no read is left
all_made : (old now : Option (List StreamCall)) (left : ℕ) → left ≡ 0 → Draining old now left → IsDrained old now (Some true)
all_made old now left e d = record { calls = d.calls ++ []; asked = subst (Asks old now) (sym (append-nil d.calls)) d.asked; due = d.due [] (Some true) (subst (λ (n : ℕ). Drains n [] (Some true)) (sym e) (refl, refl)) }

pub drained_all : (old now : Option (List StreamCall)) (made : ℕ) → HasDrained old now made → READS ≡ made → IsDrained old now (Some true)
drained_all old now made d e = all_made old now d.left (omega (arith, d.all, e)) d.so_far

-- a read of 0 bytes ends the drain
pub stops_ended : (room : ℕ) (answer : Result ℕ StreamFault) (n : ℕ) → answer ≡ Ok n → n ≡ 0 → Stops (Receive room answer) None
stops_ended room answer n is none = rw (is, none) (λ left. (refl, refl))

pub stops_failed : (room : ℕ) (answer : Result ℕ StreamFault) → answer ≡ Err Failed → Stops (Receive room answer) None
stops_failed room answer is = rw is (λ left. (refl, refl))

pub stops_empty : (room : ℕ) (answer : Result ℕ StreamFault) → answer ≡ Err WouldBlock → Stops (Receive room answer) (Some false)
stops_empty room answer is = rw is (λ left. (refl, refl))

pub passes_read : (room : ℕ) (answer : Result ℕ StreamFault) (n : ℕ) → answer ≡ Ok n → n ≢ 0 → Passes (Receive room answer)
passes_read room answer n is some = rw is (passes_some room n some)

pub passes_interrupted : (room : ℕ) (answer : Result ℕ StreamFault) → answer ≡ Err Interrupted → Passes (Receive room answer)
passes_interrupted room answer is = rw is (λ left rest result d. d)
