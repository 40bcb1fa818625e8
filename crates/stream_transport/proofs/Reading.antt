-- A connection after a read of its stream.
use Rattle.std.proofs.Common.{◌≡◌, ◌≢◌, ℕ, Bool, true, false, List, [], ◌∷◌, ◌++◌, Option, Some, None, length, sym, ap, subst, ◌∙◌, append_assoc, append-nil}
use Rattle.std.specs.Prelude.{◌==◌}
use Rattle.std.specs.Io.KnownBytes.{Appends, Consumes, Keeps, prepend_known}
use Rattle.std.proofs.KnownBytes.{Appends-nil}
use Rattle.transport.proofs.Reported.{Appends-none}
use Rattle.stream_transport.specs.declared.connection.BufferedStream.{BufferedStream}
use Rattle.stream_transport.specs.Held.{HasGiven, HasPassed, unread_of}

-- ---- the bytes that came

pub some_left : (xs : List ℕ) (empty : Bool) → empty ≡ (length xs == 0) → empty ≡ false → xs ≢ []
some_left [] empty e t z = (let u : empty ≡ true = e in let f : empty ≡ false = t in cc)
some_left (x ∷ xs) empty e t z = cc

-- ---- the bytes of a connection

kept_as : (k l : List ℕ) (a b : Option (List ℕ)) → l ≡ k → Keeps a b → Consumes (prepend_known k a) (prepend_known l b) []
kept_as k l None b e p = tt
kept_as k l (Some x) None e p = absurd p
kept_as k l (Some x) (Some y) e p = ap (λ z. k ++ z) (sym p) ∙ ap (λ z. z ++ y) (sym e)

came_of : (k left got given : List ℕ) (a b : Option (List ℕ)) → k ≡ [] → given ++ left ≡ got → Consumes a b got → Consumes (prepend_known k a) (prepend_known left b) given
came_of k left got given None b none split p = tt
came_of k left got given (Some x) None none split p = absurd p
came_of k left got given (Some x) (Some y) none split p =
    ap (λ z. z ++ x) none ∙ (p ∙ (ap (λ z. z ++ y) (sym split) ∙ append_assoc given left y))

given_of : (k left given : List ℕ) (a : Option (List ℕ)) → given ++ left ≡ k → Consumes (prepend_known k a) (prepend_known left a) given
given_of k left given None e = tt
given_of k left given (Some x) e = ap (λ z. z ++ x) (sym e) ∙ append_assoc given left x

pub unread_stays : (k : List ℕ) (a b : Option (List ℕ)) → Keeps a b → Keeps (prepend_known k a) (prepend_known k b)
unread_stays k None b p = tt
unread_stays k (Some x) None p = absurd p
unread_stays k (Some x) (Some y) p = ap (λ z. k ++ z) p

module _ {S A : Type 0} where
  -- no byte was given
  pub gives_none : (r : S → Option (List ℕ)) (p q : BufferedStream S A) → q.buffer.kept ≡ p.buffer.kept → Keeps (r p.stream) (r q.stream) → HasGiven r p q []
  gives_none r p q e k = kept_as p.buffer.kept q.buffer.kept (r p.stream) (r q.stream) e k

  -- some of the new bytes were given, and the rest is kept
  pub gives_came : (r : S → Option (List ℕ)) (p q : BufferedStream S A) (got given : List ℕ) → p.buffer.kept ≡ [] → given ++ q.buffer.kept ≡ got → Consumes (r p.stream) (r q.stream) got → HasGiven r p q given
  gives_came r p q got given none split came = came_of p.buffer.kept q.buffer.kept got given (r p.stream) (r q.stream) none split came

  -- some of the bytes kept were given
  pub gives_kept : (r : S → Option (List ℕ)) (p q : BufferedStream S A) (given : List ℕ) → q.stream ≡ p.stream → given ++ q.buffer.kept ≡ p.buffer.kept → HasGiven r p q given
  gives_kept r p q given same e = subst (λ x. Consumes (unread_of r p) (prepend_known q.buffer.kept (r x)) given) (sym same) (given_of p.buffer.kept q.buffer.kept given (r p.stream) e)

  -- ---- the bytes that passed

  pub passes_none : (g : S → Option (List ℕ)) (p q : BufferedStream S A) → q.buffer.kept ≡ p.buffer.kept → Keeps (g p.stream) (g q.stream) → HasPassed g p q []
  passes_none g p q e k = record { came = []; gave = Appends-none (g p.stream) (g q.stream) k; passed = e ∙ sym (append-nil p.buffer.kept) }

  pub passes_came : (g : S → Option (List ℕ)) (p q : BufferedStream S A) (got given : List ℕ) → p.buffer.kept ≡ [] → given ++ q.buffer.kept ≡ got → Appends (g p.stream) (g q.stream) got → HasPassed g p q given
  passes_came g p q got given none split came = record { came = got; gave = came; passed = split ∙ sym (ap (λ x. x ++ got) none) }

  pub passes_kept : (g : S → Option (List ℕ)) (p q : BufferedStream S A) (given : List ℕ) → q.stream ≡ p.stream → given ++ q.buffer.kept ≡ p.buffer.kept → HasPassed g p q given
  passes_kept g p q given same e = record { came = []; gave = subst (λ x. Appends (g p.stream) (g x) []) (sym same) (Appends-nil (g p.stream)); passed = e ∙ sym (append-nil p.buffer.kept) }
