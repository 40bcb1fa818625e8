-- Turns in which nothing moves.
use Rattle.std.proofs.Common.{◌≡◌, ℕ, Bool, true, false, List, get_or, set, refl, ap, ◌∙◌}
use Rattle.std.specs.Prelude.{◌||◌, filter}
use Rattle.std.proofs.lemmas.List.{set-get_or}
use Rattle.socket_loop.specs.declared.connection.Connection.{Connection}
use Rattle.transport.specs.Report.{Report, KeepsAll}
use Rattle.transport.proofs.Reported.{kept_then}
use Rattle.socket_loop.specs.Visits.{IsQuiet}

-- both are false
pub record Neither (x y : Bool) : Type 0 where
  pub first : x ≡ false
  pub second : y ≡ false

pub either_false : (x y : Bool) → (x || y) ≡ false → Neither x y
either_false true true e = absurd (cc)
either_false true false e = absurd (cc)
either_false false true e = absurd (cc)
either_false false false e = record { first = refl; second = refl }

pub quiet_stop : {X : Type 0} (moved : Bool) (a b c : Report) (old new : X) → IsQuiet moved a old b new → KeepsAll b c → IsQuiet moved a old c new
quiet_stop moved a b c old new q k = λ e. (λ n. kept_then a b c n ((q e).0 n) (k n), (q e).1)

pub quiet_then : {X : Type 0} (x y z : Bool) (a b c : Report) (old mid new : X) → (z ≡ false → Neither x y) → IsQuiet x a old b mid → IsQuiet y b mid c new → IsQuiet z a old c new
quiet_then x y z a b c old mid new f p q = λ e.
    let n : Neither x y = f e in
    (λ m. kept_then a b c m ((p n.first).0 m) ((q n.second).0 m), (q n.second).1 ∙ (p n.first).1)

pub quiet_next : (moved has all : Bool) (a b c : Report) (items : List Connection) (i : ℕ) (d new : Connection) (old : List Connection) → (all ≡ false → Neither moved has) → IsQuiet moved a old b items → IsQuiet has b (get_or items i d) c new → IsQuiet all a old c (set items i new)
quiet_next moved has all a b c items i d new old f p q = λ e.
    let n : Neither moved has = f e in
    (λ m. kept_then a b c m ((p n.first).0 m) ((q n.second).0 m), ap (λ (x : Connection). set items i x) (q n.second).1 ∙ (set-get_or items i d ∙ (p n.first).1))

-- the parts of a turn, then the removal of shut connections
pub quiet_turn : (p q r s t : Bool) (a b c d e : Report) (xs ys zs ws vs : List Connection) (stays : Connection → Bool) → IsQuiet p a xs b ys → IsQuiet q b ys c zs → IsQuiet r c zs d ws → IsQuiet s d ws e vs → IsQuiet ((((p || q) || r) || s) || t) a (filter stays xs) e (filter stays vs)
quiet_turn p q r s t a b c d e xs ys zs ws vs stays f g h i = λ none.
    let all : IsQuiet (((p || q) || r) || s) a xs e vs =
    quiet_then ((p || q) || r) s (((p || q) || r) || s) a d e xs ws vs (either_false ((p || q) || r) s)
    (quiet_then (p || q) r ((p || q) || r) a c d xs zs ws (either_false (p || q) r) (quiet_then p q (p || q) a b c xs ys zs (either_false p q) f g) h) i in
    let still = all (either_false (((p || q) || r) || s) t none).first in
    (still.0, ap (λ (held : List Connection). filter stays held) still.1)
