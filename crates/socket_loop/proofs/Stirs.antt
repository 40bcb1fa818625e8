-- What moves in a turn.
use Rattle.std.proofs.Common.{◌≡◌, ◌⊎◌, ℕ, zero, suc, ◌<◌, Bool, true, false, List, [], ◌∷◌, length, get_or, set, refl, sym, ap, ◌∙◌, arith, inl, inr}
use Rattle.std.specs.Prelude.{filter, not, ◌||◌}
use Rattle.std.proofs.lemmas.Bool.{or_cases, both_ways}
use Rattle.host_core.specs.Steps.{HostState}
use Rattle.socket_loop.specs.declared.connection.Connection.{Connection}
use Rattle.transport.specs.Report.{Report, KeepsAll}
use Rattle.socket_loop.specs.Links.{links_of, IsAmong}
use Rattle.transport.specs.Moves.{AllMove, Transfers}
use Rattle.transport.proofs.Reported.{all_kept}
use Rattle.socket_loop.specs.Turns.{KeepsMade, EndsOrShuts, OneEndsOrShuts, StirsHeld, any_pending}
use Rattle.transport.proofs.Transfers.{transfers_then, then_transfers}
use Rattle.socket_loop.specs.Visits.{AllKeepMade, IsQuiet, Stirs}

-- ---- marks

pub made_same : (x : Connection) → KeepsMade x x
made_same x = record { ended = λ e. e; shut = λ e. e }

made_then : (x y z : Connection) → KeepsMade x y → KeepsMade y z → KeepsMade x z
made_then x y z p q = record { ended = λ e. q.ended (p.ended e); shut = λ e. q.shut (p.shut e) }

pub all_made_same : (xs : List Connection) → AllKeepMade xs xs
all_made_same [] = tt
all_made_same (x ∷ xs) = (made_same x, all_made_same xs)

pub all_made_then : (xs ys zs : List Connection) → AllKeepMade xs ys → AllKeepMade ys zs → AllKeepMade xs zs
all_made_then [] [] zs p q = q
all_made_then [] (y ∷ ys) zs p q = absurd p
all_made_then (x ∷ xs) [] zs p q = absurd p
all_made_then (x ∷ xs) (y ∷ ys) [] p q = absurd q
all_made_then (x ∷ xs) (y ∷ ys) (z ∷ zs) p q = (made_then x y z p.0 q.0, all_made_then xs ys zs p.1 q.1)

pub all_made_set : (xs : List Connection) (i : ℕ) (d y : Connection) → KeepsMade (get_or xs i d) y → AllKeepMade xs (set xs i y)
all_made_set [] i d y p = tt
all_made_set (x ∷ xs) zero d y p = (p, all_made_same xs)
all_made_set (x ∷ xs) (suc i) d y p = (made_same x, all_made_set xs i d y p)

still : (b c : Bool) → (b ≡ true → c ≡ true) → c ≡ false → b ≡ false
still true c f e = absurd (both_ways c e (f refl))
still false c f e = refl

ends_then : (x y z : Connection) → EndsOrShuts x y → KeepsMade y z → EndsOrShuts x z
ends_then x y z (inl e) m = inl (e.0, m.ended e.1)
ends_then x y z (inr e) m = inr (e.0, m.shut e.1)

then_ends : (x y z : Connection) → KeepsMade x y → EndsOrShuts y z → EndsOrShuts x z
then_ends x y z m (inl e) = inl (still x.has_ended y.has_ended m.ended e.0, e.1)
then_ends x y z m (inr e) = inr (still x.is_shut y.is_shut m.shut e.0, e.1)

one_then : (xs ys zs : List Connection) → OneEndsOrShuts xs ys → AllKeepMade ys zs → OneEndsOrShuts xs zs
one_then [] ys zs p q = absurd p
one_then (x ∷ xs) [] zs p q = absurd p
one_then (x ∷ xs) (y ∷ ys) [] p q = absurd q
one_then (x ∷ xs) (y ∷ ys) (z ∷ zs) (inl p) q = inl (ends_then x y z p q.0)
one_then (x ∷ xs) (y ∷ ys) (z ∷ zs) (inr p) q = inr (one_then xs ys zs p q.1)

then_one : (xs ys zs : List Connection) → AllKeepMade xs ys → OneEndsOrShuts ys zs → OneEndsOrShuts xs zs
then_one [] [] zs p q = absurd q
then_one [] (y ∷ ys) zs p q = absurd p
then_one (x ∷ xs) [] zs p q = absurd q
then_one (x ∷ xs) (y ∷ ys) [] p q = absurd q
then_one (x ∷ xs) (y ∷ ys) (z ∷ zs) p (inl q) = inl (then_ends x y z p.0 q)
then_one (x ∷ xs) (y ∷ ys) (z ∷ zs) p (inr q) = inr (then_one xs ys zs p.1 q)

one_set : (xs : List Connection) (i : ℕ) (d y : Connection) → i < length xs → EndsOrShuts (get_or xs i d) y → OneEndsOrShuts xs (set xs i y)
one_set [] i d y lt p = absurd (omega arith)
one_set (x ∷ xs) zero d y lt p = inl p
one_set (x ∷ xs) (suc i) d y lt p = inr (one_set xs i d y (omega arith) p)

-- ---- one part after the other

pub stirs_then : (a b c : Report) (xs ys zs : List Connection) → Stirs a xs b ys → AllMove b c → AllKeepMade ys zs → Stirs a xs c zs
stirs_then a b c xs ys zs (inl p) m k = inl (p.0, (p.1.0, transfers_then a b c p.0.number p.1.1 m))
stirs_then a b c xs ys zs (inr p) m k = inr (one_then xs ys zs p k)

pub then_stirs : (a b c : Report) (xs ys zs : List Connection) → links_of ys ≡ links_of xs → AllMove a b → AllKeepMade xs ys → Stirs b ys c zs → Stirs a xs c zs
then_stirs a b c xs ys zs same m k (inl p) = inl (p.0, (rw same at p.1.0, then_transfers a b c p.0.number m p.1.1))
then_stirs a b c xs ys zs same m k (inr p) = inr (then_one xs ys zs k p)

pub among_at : (items : List Connection) (i : ℕ) (d : Connection) → i < length items → IsAmong (links_of items) (get_or items i d).link
among_at [] i d lt = absurd (omega arith)
among_at (x ∷ xs) zero d lt = inl refl
among_at (x ∷ xs) (suc i) d lt = inr (among_at xs i d (omega arith))

-- one more connection was visited
pub stirs_next : (moved has : Bool) (a b c : Report) (xs items : List Connection) (i : ℕ) (d y : Connection) → i < length items → links_of items ≡ links_of xs → AllMove a b → AllMove b c → AllKeepMade xs items → KeepsMade (get_or items i d) y → (moved ≡ true → Stirs a xs b items)
    → (has ≡ true → Transfers b c (get_or items i d).link.number ⊎ EndsOrShuts (get_or items i d) y) → (moved || has) ≡ true → Stirs a xs c (set items i y)
stirs_next moved has a b c xs items i d y lt same j k made here p q e = elim (or_cases moved has e) [
  | inl before ↦ stirs_then a b c xs items (set items i y) (p before) k (all_made_set items i d y here)
  | inr now ↦ then_stirs a b c xs items (set items i y) same j made (visit (q now))
]
  where
    visit : Transfers b c (get_or items i d).link.number ⊎ EndsOrShuts (get_or items i d) y → Stirs b items c (set items i y)
    visit (inl t) = inl ((get_or items i d).link, (among_at items i d lt, t))
    visit (inr r) = inr (one_set items i d y lt r)

-- the parts after the accepts
pub parts_stir : (q r s : Bool) (b c d e : Report) (ys zs ws vs : List Connection) → links_of zs ≡ links_of ys → links_of ws ≡ links_of zs → AllMove b c → AllMove c d → AllMove d e → AllKeepMade ys zs → AllKeepMade zs ws → AllKeepMade ws vs → (q ≡ true → Stirs b ys c zs) → (r ≡ true → Stirs c zs d ws) → (s ≡ true → Stirs d ws e vs) → ((q || r) || s) ≡ true → Stirs b ys e vs
parts_stir q r s b c d e ys zs ws vs one two j k l m n o f g h any = elim (or_cases (q || r) s any) [
  | inl first ↦ stirs_then b d e ys ws vs (elim (or_cases q r first) [
    | inl read ↦ stirs_then b c d ys zs ws (f read) k n
    | inr written ↦ then_stirs b c d ys zs ws one j m (g written)
  ]) l o
  | inr last ↦ then_stirs b c e ys zs vs one j m (then_stirs c d e zs ws vs two k n (h last))
]

moved_parts : (p q r s : Bool) (from to : ℕ) (a b c d e : Report) (held ys zs ws vs now : List Connection) (host : HostState) → (p ≡ true → from < to) → IsQuiet p a held b ys → links_of zs ≡ links_of ys → links_of ws ≡ links_of zs → AllMove b c → AllMove c d → AllMove d e → AllKeepMade ys zs → AllKeepMade zs ws → AllKeepMade ws vs
    → (q ≡ true → Stirs b ys c zs) → (r ≡ true → Stirs c zs d ws) → (s ≡ true → Stirs d ws e vs) → links_of vs ≡ links_of ys → now ≡ filter (λ x. not x.is_shut) vs → (((p || q) || r) || s) ≡ true
    → (from < to) ⊎ (StirsHeld a held e now ⊎ (any_pending host (links_of now) ≡ true))
moved_parts true q r s from to a b c d e held ys zs ws vs now host accepted quiet one two j k l m n o f g h links left any = inl (accepted refl)
moved_parts false q r s from to a b c d e held ys zs ws vs now host accepted quiet one two j k l m n o f g h links left any =
    let nothing : KeepsAll a b × (ys ≡ held) = quiet refl in
    inr (inl (record {
      last = vs;
      links = links ∙ ap links_of nothing.1;
      left = left;
      stirs = then_stirs a b e held ys vs (ap links_of nothing.1) (all_kept a b nothing.0) (rw nothing.1 (all_made_same held)) (parts_stir q r s b c d e ys zs ws vs one two j k l m n o f g h any);
    }))

-- a turn that moved
pub moved_turn : (p q r s t : Bool) (from to : ℕ) (a b c d e : Report) (held ys zs ws vs now : List Connection) (host : HostState) → (p ≡ true → from < to) → IsQuiet p a held b ys → links_of zs ≡ links_of ys → links_of ws ≡ links_of zs → AllMove b c → AllMove c d → AllMove d e → AllKeepMade ys zs → AllKeepMade zs ws → AllKeepMade ws vs
    → (q ≡ true → Stirs b ys c zs) → (r ≡ true → Stirs c zs d ws) → (s ≡ true → Stirs d ws e vs) → links_of vs ≡ links_of ys → now ≡ filter (λ x. not x.is_shut) vs → t ≡ any_pending host (links_of now) → ((((p || q) || r) || s) || t) ≡ true
    → (from < to) ⊎ (StirsHeld a held e now ⊎ (any_pending host (links_of now) ≡ true))
moved_turn p q r s t from to a b c d e held ys zs ws vs now host accepted quiet one two j k l m n o f g h links left pending any = elim (or_cases (((p || q) || r) || s) t any) [
  | inl parts ↦ moved_parts p q r s from to a b c d e held ys zs ws vs now host accepted quiet one two j k l m n o f g h links left parts
  | inr last ↦ inr (inr (sym pending ∙ last))
]
