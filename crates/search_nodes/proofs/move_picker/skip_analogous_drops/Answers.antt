use Rattle.std.proofs.Common.{arith, sym, ◌∙◌}
use Rattle.shogi_moves.proofs.DestinationLaws.{none_there}
use Rattle.shogi_replies.proofs.PassLaws.{below_uncertain, none_uncertain, uncertain_destination}
use Rattle.analogous_moves.specs.Analogies.{drops_of}
use Rattle.search_nodes.proofs.AnalogousRows.{analogous_drops}
use Rattle.search_nodes.proofs.move_picker.skip_analogous_drops.Goals as goal

pub returns-then-is_empty-clause-passed : goal.returns-then-is_empty-clause-passed
returns-then-is_empty-clause-passed c =
    let is : _ = rw c.of.ensures at c.without-others.ensures in
    rw c.skip_destinations.ensures.code (analogous_drops c.args.p.now c.args.analogous.now c.args.sweep.now.kind c.args.sweep.now.code _ c.args.sweep.now.destinations.bits c.requires.consistent.destinations (omega (arith, c.requires.consistent.destinations.high)) (omega arith)
    (λ n h below set. none_uncertain c.args.sweep.now.destinations.bits (drops_of c.args.analogous.now.drops c.args.sweep.now.kind).bits n (omega (arith, (drops_of c.args.analogous.now.drops c.args.sweep.now.kind).fits)) h (sym is ∙ none_there _ _ c.is_empty.ensures c.if-is_empty.true) set))

pub returns-clause-passed : goal.returns-clause-passed
returns-clause-passed c =
    let is : _ = rw c.of.ensures at c.without-others.ensures in
    let up : _ = (c.requires.consistent.destinations.drops.set c.lowest.result c.lowest.ensures.range (uncertain_destination c.args.sweep.now.destinations.bits (drops_of c.args.analogous.now.drops c.args.sweep.now.kind).bits c.lowest.result (rw is at c.lowest.ensures.set))).0 in
    rw c.skip_destinations-2.ensures.code (analogous_drops c.args.p.now c.args.analogous.now c.args.sweep.now.kind c.args.sweep.now.code _ c.args.sweep.now.destinations.bits c.requires.consistent.destinations (omega (arith, up)) (omega (arith, c.lowest.ensures.range))
    (λ n h below set. below_uncertain c.args.sweep.now.destinations.bits (drops_of c.args.analogous.now.drops c.args.sweep.now.kind).bits c.lowest.result n (omega (arith, (drops_of c.args.analogous.now.drops c.args.sweep.now.kind).fits)) h (omega (arith, below)) (rw is at c.lowest.ensures.least) set))

pub skip_destinations-requires-2-clause-ahead : goal.skip_destinations-requires-2-clause-ahead
skip_destinations-requires-2-clause-ahead c =
    let is : _ = rw c.of.ensures at c.without-others.ensures in
    omega (arith, (c.requires.consistent.destinations.drops.set c.lowest.result c.lowest.ensures.range (uncertain_destination c.args.sweep.now.destinations.bits (drops_of c.args.analogous.now.drops c.args.sweep.now.kind).bits c.lowest.result (rw is at c.lowest.ensures.set))).0)
