-- Connections sorted by slot.
use Rattle.std.proofs.Common.{◌≡◌, ℕ, zero, suc, ◌<◌, ◌≤◌, Bool, true, false, cond, nat_lt, List, [], ◌∷◌, refl, arith}
use Rattle.std.proofs.lemmas.Bool.{ltb-true, ltb-false}
use Rattle.std.specs.Prelude.{filter, insert}
use Rattle.socket_loop.specs.declared.connection.Link.{Link}
use Rattle.socket_loop.specs.declared.connection.Connection.{Connection}
use Rattle.socket_loop.specs.Links.{links_of, IsRising, Each}
use Rattle.socket_loop.specs.Accepting.{place_for}

from_less : (m n : ℕ) (links : List Link) → m ≤ n → Each (λ link. n ≤ link.id.slot) links → Each (λ link. m ≤ link.id.slot) links
from_less m n [] le p = tt
from_less m n (x ∷ xs) le p = (omega (arith, le, p.0), from_less m n xs le p.1)

from_insert : (n i : ℕ) (xs : List Connection) (c : Connection) → n ≤ c.link.id.slot → Each (λ link. n ≤ link.id.slot) (links_of xs) → Each (λ link. n ≤ link.id.slot) (links_of (insert xs i c))
from_insert n zero [] c le p = (le, tt)
from_insert n (suc i) [] c le p = (le, tt)
from_insert n zero (x ∷ xs) c le p = (le, p)
from_insert n (suc i) (x ∷ xs) c le p = (p.0, from_insert n i xs c le p.1)

rising_at : (b : Bool) (x : Connection) (xs : List Connection) (c : Connection) → nat_lt c.link.id.slot x.link.id.slot ≡ b → IsRising (links_of (x ∷ xs)) → IsRising (links_of (insert xs (place_for c.link.id.slot xs) c)) → IsRising (links_of (insert (x ∷ xs) (cond (nat_lt c.link.id.slot x.link.id.slot) 0 (suc (place_for c.link.id.slot xs))) c))
rising_at true x xs c e p later =
    let le : c.link.id.slot ≤ x.link.id.slot = (let lt : c.link.id.slot < x.link.id.slot = ltb-true c.link.id.slot x.link.id.slot e in omega (arith, lt)) in
    rw e ((le, from_less c.link.id.slot x.link.id.slot (links_of xs) le p.0), p)
rising_at false x xs c e p later = rw e (from_insert x.link.id.slot (place_for c.link.id.slot xs) xs c (ltb-false c.link.id.slot x.link.id.slot e) p.0, later)

-- inserting a connection at its place keeps the slots rising
pub rising_insert : (xs : List Connection) (c : Connection) → IsRising (links_of xs) → IsRising (links_of (insert xs (place_for c.link.id.slot xs) c))
rising_insert [] c p = (tt, tt)
rising_insert (x ∷ xs) c p = rising_at (nat_lt c.link.id.slot x.link.id.slot) x xs c refl p (rising_insert xs c p.1)

from_at : (b : Bool) (n : ℕ) (test : Connection → Bool) (x : Connection) (xs : List Connection) → test x ≡ b → n ≤ x.link.id.slot → Each (λ link. n ≤ link.id.slot) (links_of (filter test xs)) → Each (λ link. n ≤ link.id.slot) (links_of (cond (test x) (x ∷ filter test xs) (filter test xs)))
from_at true n test x xs e le later = rw e (le, later)
from_at false n test x xs e le later = rw e later

from_filter : (n : ℕ) (test : Connection → Bool) (xs : List Connection) → Each (λ link. n ≤ link.id.slot) (links_of xs) → Each (λ link. n ≤ link.id.slot) (links_of (filter test xs))
from_filter n test [] p = tt
from_filter n test (x ∷ xs) p = from_at (test x) n test x xs refl p.0 (from_filter n test xs p.1)

kept_at : (b : Bool) (test : Connection → Bool) (x : Connection) (xs : List Connection) → test x ≡ b → Each (λ link. x.link.id.slot ≤ link.id.slot) (links_of (filter test xs)) → IsRising (links_of (filter test xs)) → IsRising (links_of (cond (test x) (x ∷ filter test xs) (filter test xs)))
kept_at true test x xs e from later = rw e (from, later)
kept_at false test x xs e from later = rw e later

-- removing connections keeps the slots rising
pub rising_filter : (test : Connection → Bool) (xs : List Connection) → IsRising (links_of xs) → IsRising (links_of (filter test xs))
rising_filter test [] p = tt
rising_filter test (x ∷ xs) p = kept_at (test x) test x xs refl (from_filter x.link.id.slot test xs p.0) (rising_filter test xs p.1)
