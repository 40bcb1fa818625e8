use Rattle.std.proofs.Common.{◌∙◌, refl, sym}
use Rattle.search_nodes.proofs.Rows.{asked_known, asked_left, turned_known, turned_left}
use Rattle.search_nodes.proofs.frame.Frame.pick_move.Goals as goal

pub invariant_of-self-clause-known : goal.invariant_of-self-clause-known
invariant_of-self-clause-known c = asked_known c.args.self.now c.in-Some.m c.next.new.self c.requires.next (rw c.as_position.ensures at c.in-Some.ensures.next)

pub invariant_of-self-in-None-clause-known : goal.invariant_of-self-in-None-clause-known
invariant_of-self-in-None-clause-known c =
    let none = rw c.as_position.ensures at c.in-None.ensures.next in
    turned_known c.args.self.now c.next.new.self (none.1 ∙ sym none.0)

pub returns-in-Some : goal.returns-in-Some
returns-in-Some c = ((refl, (refl, (refl, refl))), (refl, (asked_left c.args.self.now c.in-Some.m c.next.new.self (rw c.as_position.ensures at c.in-Some.ensures.next), tt)))

pub returns-in-None : goal.returns-in-None
returns-in-None c =
    let none = rw c.as_position.ensures at c.in-None.ensures.next in
    ((refl, (refl, (refl, refl))), (c.requires.next, (turned_left c.args.self.now c.next.new.self (none.1 ∙ sym none.0), none.1)))
