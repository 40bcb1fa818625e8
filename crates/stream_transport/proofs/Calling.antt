-- The calls of an endpoint and of a binder.
use Rattle.std.specs.Prelude.{◌≢◌}
use Rattle.std.proofs.Common.{ℕ, List, [], ◌∷◌, ◌++◌, Option, Result, Ok, Err, refl, inr}
use Rattle.transport.specs.Asked.{Asks}
use Rattle.transport.proofs.Asked.{asks_then}
use Rattle.transport.specs.declared.wire.WireFault.TheVariants.{Device}
use Rattle.stream_transport.specs.declared.lingering.LingeringStream.{LingeringStream}
use Rattle.stream_transport.specs.System.{Accept, BinderCall, IsAskedForOne, IsAskedOnce, IsAskedToBind, Listen, Name, Open, SystemCall}
use Rattle.stream_transport.specs.declared.listener.StreamFault.{StreamFault}
use Rattle.stream_transport.specs.declared.listener.StreamFault.TheVariants.{Failed}

-- a client came, but polls cannot name its stream
pub named_not : (number : ℕ) (a b c : Option (List SystemCall)) (why : StreamFault) → Asks a b (Accept (Ok tt) ∷ []) → Asks b c (Name number (Err why) ∷ []) → IsAskedOnce number a c (Err Failed)
named_not number a b c why p q = record {
  calls = Accept (Ok tt) ∷ Name number (Err why) ∷ [];
  asked = asks_then a b c (Accept (Ok tt) ∷ []) (Name number (Err why) ∷ []) p q;
  due = inr (refl, (why, refl));
}

-- an accept failed, and was tried once more
pub again : {S : Type 0} (number : ℕ) (lingering : List (LingeringStream S)) (a b c : Option (List SystemCall)) (answer : Result (Unit {0}) StreamFault) → lingering ≢ []
    → IsAskedOnce number a b (Err Failed) → IsAskedOnce number b c answer → IsAskedForOne number lingering a c answer
again number lingering a b c answer some p q = record {
  calls = p.calls ++ q.calls;
  asked = asks_then a b c p.calls q.calls p.asked q.asked;
  due = inr (some, record { first = p.calls; again = q.calls; split = refl; failed = p.due; due = q.due });
}

-- an endpoint was made, and a listener was asked for
pub binds_not : {W : Type 0} (path : List ℕ) (a b c : Option (List BinderCall)) (answer : Result (Unit {0}) StreamFault) → Asks a b (Open (Ok tt) ∷ [])
    → Asks b c (Listen path answer ∷ []) → IsAskedToBind {W = W} path a c (Err Device)
binds_not path a b c answer p q = record {
  calls = Open (Ok tt) ∷ Listen path answer ∷ [];
  asked = asks_then a b c (Open (Ok tt) ∷ []) (Listen path answer ∷ []) p q;
  due = inr (inr (answer, refl));
}
