-- The calls of a listener in an accept and in a wait.
use Rattle.std.specs.Prelude.{◌&&◌, not, OnErr}
use Rattle.std.proofs.Common.{◌≡◌, ℕ, Bool, true, false, List, [], ◌∷◌, Option, None, Some, Result, Ok, Err, refl, sym, ap, subst, ◌∙◌, inl, inr}
use Rattle.transport.specs.Asked.{Asks}
use Rattle.transport.proofs.Asked.{asks_none, asks_then}
use Rattle.transport.specs.declared.wire.WireFault.{WireFault}
use Rattle.stream_transport.specs.declared.listener.ListenerCall.{ListenerCall}
use Rattle.stream_transport.specs.declared.listener.ListenerCall.TheVariants.{Look, Wait}
use Rattle.stream_transport.specs.declared.listener.Ready.{Ready}
use Rattle.stream_transport.specs.declared.listener.StreamFault.{StreamFault}
use Rattle.stream_transport.specs.Streams.{NamesListener}
use Rattle.stream_transport.specs.Asking.{AnswersAs, AsksForNext, AsksToAccept, IsAskedForNext, IsAskedToAccept, IsAskedToWait, IsSpent, LacksPlace, is_made}

after_look : (may : Bool) (named : List Ready) (places next : ℕ) (unsure : Bool) (r : Result (Option ℕ) WireFault) (asks : List ListenerCall) → AsksForNext places r asks → OnErr r (unsure ≡ true) → AsksToAccept may named places next unsure r (Look (Ok tt) ∷ asks)
after_look may named places next unsure (Ok (Some n)) asks due noted = record { rest = asks; split = refl; due = due }
after_look may named places next unsure (Ok None) asks due noted = inl (record { rest = asks; split = refl; due = due })
after_look may named places next unsure (Err fault) asks due noted = inr (inr (record { rest = asks; split = refl; due = due }, noted))

-- a look, then an accept of the next client
pub asked_next : (may : Bool) (named : List Ready) (places next : ℕ) (unsure : Bool) (a b c : Option (List ListenerCall)) (looked : Result (Unit {0}) StreamFault) (r : Result (Option ℕ) WireFault) → AnswersAs (Ok tt) looked → Asks a b (Look looked ∷ []) → IsAskedForNext places b c r → OnErr r (unsure ≡ true) → IsAskedToAccept may named places next unsure a c r
asked_next may named places next unsure a b c (Ok done) r well look after noted = record {
  asks = Look (Ok tt) ∷ after.asks;
  asked = asks_then a b c (Look (Ok tt) ∷ []) after.asks look after.asked;
  due = after_look may named places next unsure r after.asks after.due noted;
}
asked_next may named places next unsure a b c (Err fault) r well look after noted = absurd (cc)

-- the look failed
pub asked_look : (may : Bool) (named : List Ready) (places next : ℕ) (unsure : Bool) (a b : Option (List ListenerCall)) (looked : Result (Unit {0}) StreamFault) (fault : WireFault) → AnswersAs (Err fault) looked → Asks a b (Look looked ∷ []) → IsAskedToAccept may named places next unsure a b (Err fault)
asked_look may named places next unsure a b (Ok done) fault well look = absurd (cc)
asked_look may named places next unsure a b (Err cause) fault well look = record { asks = Look (Err cause) ∷ []; asked = look; due = inr (inl (cause, refl)) }

was_false : (a b : Bool) → (a ≡ true → b ≡ true) → b ≡ false → a ≡ false
was_false true b k e = absurd (let t : b ≡ true = k refl in let f : b ≡ false = e in cc)
was_false false b k e = refl

-- no client may wait
pub asked_nobody : (may now : Bool) (named : List Ready) (places next : ℕ) (unsure : Bool) (a b : Option (List ListenerCall)) (looked : Result (Unit {0}) StreamFault) → AnswersAs (Ok tt) looked → Asks a b (Look looked ∷ []) → (may ≡ true → now ≡ true) → (NamesListener named → now ≡ true) → now ≡ false → IsAskedToAccept may named places next unsure a b (Ok None)
asked_nobody may now named places next unsure a b (Ok done) well look opens names closed = record {
  asks = Look (Ok tt) ∷ [];
  asked = look;
  due = inr (refl, (was_false may now opens closed, λ n. (let t : now ≡ true = names n in let f : now ≡ false = closed in absurd (cc))));
}
asked_nobody may now named places next unsure a b (Err fault) well look opens names closed = absurd (cc)

-- no number is left
pub asked_nothing : (may : Bool) (named : List Ready) (places next : ℕ) (unsure : Bool) (a b : Option (List ListenerCall)) (fault : WireFault) → b ≡ a → IsSpent next → IsAskedToAccept may named places next unsure a b (Err fault)
asked_nothing may named places next unsure a b fault e spent = record { asks = []; asked = subst (λ x. Asks a x []) (sym e) (asks_none a); due = inl (refl, spent) }

-- the next client was not asked for
pub asked_no_next : (places : ℕ) (a b : Option (List ListenerCall)) (fault : WireFault) → b ≡ a → LacksPlace fault places → IsAskedForNext places a b (Err fault)
asked_no_next places a b fault e lacks = record { asks = []; asked = subst (λ x. Asks a x []) (sym e) (asks_none a); due = inl (refl, lacks) }

-- ---- waits

-- no wait is made if it is not idle, or if bytes are kept
pub made_not : (idle more : Bool) → idle ≡ false → is_made idle more ≡ false
made_not idle more e = ap (λ (b : Bool). b && not more) e

pub made_no_more : (idle more : Bool) → more ≡ true → is_made idle more ≡ false
made_no_more true more e = ap (λ (b : Bool). not b) e
made_no_more false more e = refl

-- an idle wait without kept bytes is made
pub made_once : (idle more : Bool) → idle ≡ true → more ≡ false → is_made idle more ≡ true
made_once idle more e f = ap (λ (b : Bool). b && not more) e ∙ ap (λ (b : Bool). not b) f

pub waits_not : (made unsure : Bool) (a : Option (List ListenerCall)) → made ≡ false → IsAskedToWait made unsure a a (Ok tt)
waits_not true unsure a e = absurd (cc)
waits_not false unsure a e = record { asks = []; asked = asks_none a; due = (refl, refl) }

pub waits_once : (made unsure bounded : Bool) (a b : Option (List ListenerCall)) (answer : Result (Unit {0}) StreamFault) (r : Result (Unit {0}) WireFault) → made ≡ true → bounded ≡ unsure → Asks a b (Wait bounded answer ∷ []) → AnswersAs r answer → IsAskedToWait made unsure a b r
waits_once true unsure bounded a b answer r e same asked well = record { asks = Wait bounded answer ∷ []; asked = asked; due = (answer, (ap (λ (x : Bool). Wait x answer ∷ []) same, well)) }
waits_once false unsure bounded a b answer r e same asked well = absurd (cc)

pub more_stays : (more idle : Bool) → idle ≡ false → more ≡ (more && not idle)
more_stays true idle e = ap (λ (b : Bool). not b) (sym e)
more_stays false idle e = refl

pub more_goes : (more idle : Bool) → idle ≡ true → false ≡ (more && not idle)
more_goes true idle e = ap (λ (b : Bool). not b) (sym e)
more_goes false idle e = refl

pub unsure_stays : (unsure made : Bool) → made ≡ false → unsure ≡ (unsure && not made)
unsure_stays true made e = ap (λ (b : Bool). not b) (sym e)
unsure_stays false made e = refl

pub unsure_goes : (unsure made : Bool) → made ≡ true → false ≡ (unsure && not made)
unsure_goes true made e = ap (λ (b : Bool). not b) (sym e)
unsure_goes false made e = refl
