-- Equal ids.
use Rattle.std.proofs.Common.{◌≡◌, ◌≢◌, ◌==◌, true, false, refl, ap, ◌∙◌}
use Rattle.std.proofs.lemmas.Bool.{eqb-true, eq-eqb, and_parts, and_from, both_ways, false_from_ne_true}
use Rattle.session_slots.specs.declared.id.SessionId.{SessionId}
use Rattle.host_core.specs.Made.{is_same_id}

pub same_id : (a b : SessionId) → is_same_id a b ≡ true → a ≡ b
same_id a b e =
    let p = and_parts (a.slot == b.slot) (a.generation == b.generation) e in
    let q : a.slot ≡ b.slot = eqb-true a.slot b.slot p.0 in
    let r : a.generation ≡ b.generation = eqb-true a.generation b.generation p.1 in
    λ k. record { slot = q k; generation = r k }

pub is_same_id-refl : (a : SessionId) → is_same_id a a ≡ true
is_same_id-refl a = and_from (a.slot == a.slot) (a.generation == a.generation) (eq-eqb a.slot a.slot refl) (eq-eqb a.generation a.generation refl)

pub other_id : (a b : SessionId) → is_same_id a b ≡ false → b ≢ a
other_id a b e same = both_ways (is_same_id a b) e (ap (is_same_id a) same ∙ is_same_id-refl a)

pub apart_ids : (a b : SessionId) → (a ≡ b → ⊥) → is_same_id a b ≡ false
apart_ids a b f = false_from_ne_true (is_same_id a b) (λ e. f (same_id a b e))
