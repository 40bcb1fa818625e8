-- Sequences of calls of a memory, and their counts.
use Rattle.std.proofs.Common.{◌≡◌, ◌≤◌, ◌+◌, ◌-◌, ◌*◌, ◌^◌, ℕ, Option, List, [], ◌∷◌, ◌++◌, refl, subst, arith, ◌∙◌}
use Rattle.std.specs.Prelude.{min}
use Rattle.std.proofs.lemmas.List.Sums.{sum_by-append}
use Rattle.shogi_core.specs.Position.{Shogi}
use Rattle.shogi_eval.specs.declared.eval.Eval.{Eval}
use Rattle.minimax.specs.declared.entry.Entry.{Entry}
use Rattle.shogi_search.specs.Stack.{OnlyAsks}
use Rattle.shogi_search.specs.declared.memo.Memo.{Ghosts}
use Rattle.shogi_search.specs.Calls.{Call, Probe, Note, AreCalled, Asks, CallsInSteps, EndsWith, TellsOnce, question_of, telling_of}

-- two sequences of calls join
pub calls_and_calls : {M : Type 0} (called : M → Call → M → Type 0) (a b c : M) (xs ys : List Call)
    → AreCalled called a xs b → AreCalled called b ys c → AreCalled called a (xs ++ ys) c
unfolding AreCalled
calls_and_calls called a b c [] ys first second = subst (λ m. AreCalled called m ys c) first second
calls_and_calls called a b c (x ∷ xs) ys first second =
    (first.0, (first.1.0, calls_and_calls called first.0 b c xs ys first.1.1 second))

-- one call is a sequence
pub one_call : {M : Type 0} (called : M → Call → M → Type 0) (a b : M) (call : Call) → called a call b
    → AreCalled called a (call ∷ []) b
unfolding AreCalled
one_call called a b call one = (b, (one, refl))

-- no call is a sequence
pub no_calls : {M : Type 0} (called : M → Call → M → Type 0) (a : M) → AreCalled called a [] a
unfolding AreCalled
no_calls called a = refl

-- steps and further steps join, and their counts add up
pub joined : {M : Type 0} {called : M → Call → M → Type 0} {a b c : M} {s t x y p s' t' x' y' p' : ℕ} (u v z w q : ℕ)
    → CallsInSteps called a b s t x y p → CallsInSteps called b c s' t' x' y' p'
    → ((m n : ℕ) → t ≡ min (s + m) (2 ^ 64 - 1) → t' ≡ min (s' + n) (2 ^ 64 - 1) → v ≡ min (u + (m + n)) (2 ^ 64 - 1))
    → z + y + y' + p + p' ≤ w + x + x' + q → w + x + x' ≤ z + y + y' → CallsInSteps called a c u v z w q
joined {M} {called} {a} {b} {c} u v z w q first second counts asks walks = record {
  calls = first.calls ++ second.calls;
  made = first.made + second.made;
  walks = first.walks + second.walks;
  each = calls_and_calls called a b c first.calls second.calls first.each second.each;
  counted = counts first.made second.made first.counted second.counted;
  told = rw (sum_by-append telling_of first.calls second.calls) (omega (arith, first.told, second.told));
  asked = rw (sum_by-append question_of first.calls second.calls) (omega (arith, first.asked, second.asked));
  walked = omega (arith, first.walked, second.walked);
}

pub steps_and_steps : {M : Type 0} {called : M → Call → M → Type 0} {a b c : M} {s t u x y z p q : ℕ}
    → CallsInSteps called a b s t x y p → CallsInSteps called b c t u y z q → CallsInSteps called a c s u x z (p + q)
steps_and_steps {s = s} {u = u} {x = x} {z = z} {p = p} {q = q} first second = joined s u x z (p + q) first second (λ m n e f. omega arith) (omega arith) (omega arith)

-- probes may precede the steps
pub asked_first : {M : Type 0} {called : M → Call → M → Type 0} {a b c : M} {s t x y p q : ℕ}
    → Asks called a b p → CallsInSteps called b c s t x y q → CallsInSteps called a c s t x y (p + q)
asked_first {s = s} {t = t} {x = x} {y = y} {p = p} {q = q} first second = joined s t x y (p + q) first second (λ m n e f. omega arith) (omega arith) (omega arith)

-- without a call and a step the memory stays
pub stays : {M : Type 0} (called : M → Call → M → Type 0) (a : M) (s t x p : ℕ) → t ≡ min (s + 0) (2 ^ 64 - 1)
    → CallsInSteps called a a s t x x p
stays called a s t x p counted = record {
  calls = [];
  made = 0;
  walks = 0;
  each = no_calls called a;
  counted = counted;
  told = omega arith;
  asked = omega arith;
  walked = omega arith;
}

-- equal counts may be put for counts, and more probes allowed
pub as_counted : {M : Type 0} {called : M → Call → M → Type 0} {a b : M} {s s' t t' x x' y y' p q : ℕ}
    → CallsInSteps called a b s t x y p → s' ≡ s → t' ≡ t → x' ≡ x → y' ≡ y → p ≤ q
    → CallsInSteps called a b s' t' x' y' q
as_counted {called = called} {b = b} {s' = s'} {t' = t'} {x' = x'} {y' = y'} {q = q} k es et ex ey fits =
    joined s' t' x' y' q k (stays called b 0 0 0 0 refl) (λ m n e f. omega arith) (omega arith) (omega arith)

-- one call probes at most once; no call, a greater limit, and a further probe also keep to a limit, and all keep the capacity
pub only_asks_one : {M : Type 0} (memory : Ghosts M) (a b : M) (p : Shogi) (e : Eval) (d : ℕ) (answer : Option Entry)
    → memory.called a (Probe p e d answer) b → memory.capacity b ≡ memory.capacity a → OnlyAsks memory a b 1
only_asks_one memory a b p e d answer one same = record {
  asked = record {
    calls = Probe p e d answer ∷ [];
    made = 0;
    walks = 0;
    each = one_call memory.called a b _ one;
    counted = refl;
    told = omega arith;
    asked = omega arith;
    walked = omega arith;
  };
  capacity = same;
}

pub only_asks_none : {M : Type 0} (memory : Ghosts M) (a : M) (most : ℕ) → OnlyAsks memory a a most
only_asks_none memory a most = record { asked = stays memory.called a 0 0 0 most refl; capacity = refl }

pub only_at_most : {M : Type 0} {memory : Ghosts M} {a b : M} {p q : ℕ} → OnlyAsks memory a b p → p ≤ q → OnlyAsks memory a b q
only_at_most k fits = record { asked = as_counted k.asked refl refl refl refl fits; capacity = k.capacity }

pub asks_further : {M : Type 0} {memory : Ghosts M} {a b c : M} {p q r : ℕ}
    → OnlyAsks memory a b p → OnlyAsks memory b c q → p + q ≤ r → OnlyAsks memory a c r
asks_further first second fits = record {
  asked = as_counted (steps_and_steps first.asked second.asked) refl refl refl refl fits;
  capacity = second.capacity ∙ first.capacity;
}

-- calls may precede a last call
pub ends_after : {M : Type 0} {called : M → Call → M → Type 0} {a b c : M} {s t x y p : ℕ} {last : Call}
    → CallsInSteps called a b s t x y p → EndsWith called b c last → EndsWith called a c last
ends_after {called = called} {a = a} {b = b} first second = record {
  calls = first.calls ++ second.calls;
  before = second.before;
  each = calls_and_calls called a b second.before first.calls second.calls first.each second.each;
  ends = second.ends;
}

-- one call is the last call
pub ends_at_once : {M : Type 0} {called : M → Call → M → Type 0} {a b : M} {last : Call} → called a last b → EndsWith called a b last
ends_at_once {called = called} {a = a} one = record { calls = []; before = a; each = no_calls called a; ends = one }

-- one note notes at most once
pub tells_note : {M : Type 0} (called : M → Call → M → Type 0) (a b : M) (p : Shogi) (e : Eval) (d : ℕ)
    (entry : Entry) → called a (Note p e d entry) b → TellsOnce called a b
tells_note called a b p e d entry one = record {
  calls = Note p e d entry ∷ [];
  each = one_call called a b _ one;
  told = omega arith;
  asked = refl;
}

-- no call notes at most once
pub tells_none : {M : Type 0} (called : M → Call → M → Type 0) (a : M) → TellsOnce called a a
tells_none called a = record { calls = []; each = no_calls called a; told = omega arith; asked = refl }

-- a step makes at most one note and then probes: it leaves a node, walks the line, or enters a node
pub told_in_step : {M : Type 0} {called : M → Call → M → Type 0} {a b c : M} {s t x y most : ℕ} (walks : ℕ)
    → TellsOnce called a b → Asks called b c most
    → t ≡ min (s + 1) (2 ^ 64 - 1) → most + x ≤ 1 + y + 14 * walks → 2 * walks + y ≤ 1 + x
    → CallsInSteps called a c s t x y 0
told_in_step {called = called} {a = a} {b = b} {c = c} walks k line counted fits falls = record {
  calls = k.calls ++ line.calls;
  made = 1;
  walks = walks;
  each = calls_and_calls called a b c k.calls line.calls k.each line.each;
  counted = counted;
  told = rw (sum_by-append telling_of k.calls line.calls) (omega (arith, k.told, line.told, line.counted));
  asked = rw (sum_by-append question_of k.calls line.calls) (omega (arith, k.asked, line.asked, line.counted, line.walked));
  walked = omega (arith, falls);
}

-- a step may probe alone
pub asks_in_step : {M : Type 0} {called : M → Call → M → Type 0} {a b : M} {s t x y p : ℕ}
    → Asks called a b p → t ≡ min (s + 1) (2 ^ 64 - 1) → p + x ≤ 1 + y → y ≤ 1 + x → CallsInSteps called a b s t x y 0
asks_in_step {called = called} {a = a} k counted fits rises = told_in_step 0 (tells_none called a) k counted (omega arith) (omega arith)
