use Rattle.std.proofs.Common.{◌≡◌, true, false, sym, ap, ◌∙◌}
use Rattle.std.specs.Prelude.{is_some}
use Rattle.stream_transport.specs.Held.{of_number}
use Rattle.stream_transport.proofs.Placing.{held_is, held_past, held_test}
use Rattle.stream_transport.proofs.places.is_held.Goals as goal

pub returns-then-place-places-clause-held : goal.returns-then-place-places-clause-held
returns-then-place-places-clause-held g c =
    sym (ap (λ x. is_some x) (held_past c.args.places.now c.args.number c.place_of-place.result c.place_of-place.ensures c.if-place-places.true))

pub returns-then-place-places-clause-room : goal.returns-then-place-places-clause-room
returns-then-place-places-clause-room g c = λ e. absurd (let t : false ≡ true = e in cc)

pub bounds-places-place : goal.bounds-places-place
bounds-places-place g c = c.if-place-places.false

pub returns-in-Some-clause-held : goal.returns-in-Some-clause-held
returns-in-Some-clause-held g c =
    held_test c.args.places.now c.args.number c.place_of-place.result c.index-places-place.result c.in-Some.connection c.place_of-place.ensures c.index-places-place.is c.if-place-places.false c.in-Some.is

pub returns-in-Some-clause-room : goal.returns-in-Some-clause-room
returns-in-Some-clause-room g c = λ e. rw c.place_of-place.ensures at c.if-place-places.false

pub returns-in-None-clause-held : goal.returns-in-None-clause-held
returns-in-None-clause-held g c =
    sym (ap (λ x. is_some x) (sym (held_is c.args.places.now c.args.number c.place_of-place.result c.index-places-place.result c.place_of-place.ensures c.index-places-place.is c.if-place-places.false) ∙ ap (λ x. of_number c.args.number x) c.in-None.is))

pub returns-in-None-clause-room : goal.returns-in-None-clause-room
returns-in-None-clause-room g c = λ e. absurd (let t : false ≡ true = e in cc)
