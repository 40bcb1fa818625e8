use Rattle.std.proofs.Common.{sym, ◌∙◌}
use Rattle.stream_transport.proofs.Placing.{if_some, none_held, taken}
use Rattle.stream_transport.proofs.places.remove.Goals as goal

pub returns-then-not-is_held-clause-out : goal.returns-then-not-is_held-clause-out
returns-then-not-is_held-clause-out g c =
    sym (none_held _ (sym (rw c.as_slice.ensures.value at c.is_held.ensures.held) ∙ c.if-not-is_held.true))

pub returns-then-not-is_held-clause-if_none : goal.returns-then-not-is_held-clause-if_none
returns-then-not-is_held-clause-if_none g c =
    none_held _ (sym (rw c.as_slice.ensures.value at c.is_held.ensures.held) ∙ c.if-not-is_held.true)

pub returns-clause-out : goal.returns-clause-out
returns-clause-out g c = (taken c.args.places.now.items c.args.number c.place_of.result c.take.result c.take.new.self c.place_of.ensures (rw c.as_slice.ensures.value at c.is_held.ensures.room c.if-not-is_held.false) (rw (← c.take.ensures.value) at c.index_mut.ensures.value) (sym (rw c.as_slice.ensures.value at c.is_held.ensures.held) ∙ c.if-not-is_held.false) c.take.ensures.after).out

pub returns-clause-number : goal.returns-clause-number
returns-clause-number g c = (taken c.args.places.now.items c.args.number c.place_of.result c.take.result c.take.new.self c.place_of.ensures (rw c.as_slice.ensures.value at c.is_held.ensures.room c.if-not-is_held.false) (rw (← c.take.ensures.value) at c.index_mut.ensures.value) (sym (rw c.as_slice.ensures.value at c.is_held.ensures.held) ∙ c.if-not-is_held.false) c.take.ensures.after).number_is

pub returns-clause-others : goal.returns-clause-others
returns-clause-others g c = (taken c.args.places.now.items c.args.number c.place_of.result c.take.result c.take.new.self c.place_of.ensures (rw c.as_slice.ensures.value at c.is_held.ensures.room c.if-not-is_held.false) (rw (← c.take.ensures.value) at c.index_mut.ensures.value) (sym (rw c.as_slice.ensures.value at c.is_held.ensures.held) ∙ c.if-not-is_held.false) c.take.ensures.after).others

pub returns-clause-if_none : goal.returns-clause-if_none
returns-clause-if_none g c = (taken c.args.places.now.items c.args.number c.place_of.result c.take.result c.take.new.self c.place_of.ensures (rw c.as_slice.ensures.value at c.is_held.ensures.room c.if-not-is_held.false) (rw (← c.take.ensures.value) at c.index_mut.ensures.value) (sym (rw c.as_slice.ensures.value at c.is_held.ensures.held) ∙ c.if-not-is_held.false) c.take.ensures.after).none

pub returns-clause-free : goal.returns-clause-free
returns-clause-free g c = (taken c.args.places.now.items c.args.number c.place_of.result c.take.result c.take.new.self c.place_of.ensures (rw c.as_slice.ensures.value at c.is_held.ensures.room c.if-not-is_held.false) (rw (← c.take.ensures.value) at c.index_mut.ensures.value) (sym (rw c.as_slice.ensures.value at c.is_held.ensures.held) ∙ c.if-not-is_held.false) c.take.ensures.after).free

pub index_mut-requires : goal.index_mut-requires
index_mut-requires g c = rw c.place_of.ensures (rw c.as_slice.ensures.len at (c.is_held.ensures.room c.if-not-is_held.false))

pub returns-clause-room : goal.returns-clause-room
returns-clause-room g c = if_some c.take.result _ (rw c.as_slice.ensures.len at (c.is_held.ensures.room c.if-not-is_held.false))
