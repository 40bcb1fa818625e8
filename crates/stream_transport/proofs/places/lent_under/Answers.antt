use Rattle.std.proofs.Common.{◌≡◌, ◌<◌, Some, length, ap, sym, ◌∙◌}
use Rattle.std.specs.Prelude.{is_some}
use Rattle.stream_transport.specs.Held.{held, lent_under, of_number}
use Rattle.stream_transport.proofs.Placing.{held_is, held_none, held_some}
use Rattle.stream_transport.proofs.places.lent_under.Goals as goal

pub returns-then-not-is_held : goal.returns-then-not-is_held
returns-then-not-is_held g c = c.lent-lent.ensures ∙ ap (λ x. lent_under c.args.spare.now x) (sym (held_none (held c.args.places.now c.args.number) (sym c.is_held.ensures.held ∙ c.if-not-is_held.true)))

pub bounds-places-place : goal.bounds-places-place
bounds-places-place g c = rw c.place_of-place.ensures (c.is_held.ensures.room c.if-not-is_held.false)

pub returns-in-Some : goal.returns-in-Some
returns-in-Some g c =
    let lt : c.place_of-place.result < length c.args.places.now = rw c.place_of-place.ensures (c.is_held.ensures.room c.if-not-is_held.false) in
    let there : of_number c.args.number (Some c.in-Some.connection) ≡ held c.args.places.now c.args.number = ap (λ x. of_number c.args.number x) (sym c.in-Some.is) ∙ held_is c.args.places.now c.args.number c.place_of-place.result c.index-places-place.result c.place_of-place.ensures c.index-places-place.is lt in
    let is : held c.args.places.now c.args.number ≡ Some c.in-Some.connection = sym there ∙ held_some c.args.number c.in-Some.connection (ap (λ x. is_some x) there ∙ (sym c.is_held.ensures.held ∙ c.if-not-is_held.false)) in
    c.lent.ensures ∙ sym (ap (λ x. lent_under c.args.spare.now x) is)

pub returns-in-None : goal.returns-in-None
returns-in-None g c =
    let lt : c.place_of-place.result < length c.args.places.now = rw c.place_of-place.ensures (c.is_held.ensures.room c.if-not-is_held.false) in
    c.lent-lent.ensures ∙ ap (λ x. lent_under c.args.spare.now x) (ap (λ x. of_number c.args.number x) (sym c.in-None.is) ∙ held_is c.args.places.now c.args.number c.place_of-place.result c.index-places-place.result c.place_of-place.ensures c.index-places-place.is lt)
