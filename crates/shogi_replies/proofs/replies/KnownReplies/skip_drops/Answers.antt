use Rattle.std.proofs.Common.{◌∙◌, arith, bit_and, sym}
use Rattle.std.proofs.lemmas.Bool.{and_parts}
use Rattle.std.proofs.lemmas.Nat.{and_le_l}
use Rattle.shogi_core.proofs.BitLaws.{has_bit-and}
use Rattle.shogi_moves.proofs.DestinationLaws.{none_there}
use Rattle.shogi_replies.proofs.PassLaws.{drops_passed, none_uncertain, below_uncertain, uncertain_destination}
use Rattle.shogi_replies.proofs.replies.KnownReplies.skip_drops.Goals as goal

pub returns-then-is_empty-clause-passed : goal.returns-then-is_empty-clause-passed
returns-then-is_empty-clause-passed c =
    let is : _ = rw c.bitand.ensures at c.without-uncertain.ensures in
    rw c.skip_destinations.ensures.code (
    drops_passed c.args.self.now.position.now c.args.sweep.now.kind c.args.squares.bits c.args.self.now.escapes.bits c.args.sweep.now.code _ c.args.sweep.now.destinations.bits c.requires.consistent.destinations (omega (arith, c.requires.consistent.destinations.high)) (omega arith)
    (λ n h set below. (
    let both : _ = and_parts _ _ (sym (has_bit-and c.args.squares.bits c.guaranteed_destinations-guaranteed.result.bits n) ∙ none_uncertain c.args.sweep.now.destinations.bits (bit_and c.args.squares.bits c.guaranteed_destinations-guaranteed.result.bits) n (omega (arith, and_le_l c.args.squares.bits c.guaranteed_destinations-guaranteed.result.bits)) h (sym is ∙ none_there _ _ c.is_empty.ensures c.if-is_empty.true) set) in
    (both.0, c.guaranteed_destinations-guaranteed.ensures.guaranteed n h both.1))))

pub skip_destinations-requires-2-clause-ahead : goal.skip_destinations-requires-2-clause-ahead
skip_destinations-requires-2-clause-ahead c =
    let is : _ = rw c.bitand.ensures at c.without-uncertain.ensures in
    omega (arith, (c.requires.consistent.destinations.drops.set c.lowest.result c.lowest.ensures.range (uncertain_destination c.args.sweep.now.destinations.bits (bit_and c.args.squares.bits c.guaranteed_destinations-guaranteed.result.bits) c.lowest.result (rw is at c.lowest.ensures.set))).0)

pub returns-clause-passed : goal.returns-clause-passed
returns-clause-passed c =
    let is : _ = rw c.bitand.ensures at c.without-uncertain.ensures in
    let up : _ = (c.requires.consistent.destinations.drops.set c.lowest.result c.lowest.ensures.range (uncertain_destination c.args.sweep.now.destinations.bits (bit_and c.args.squares.bits c.guaranteed_destinations-guaranteed.result.bits) c.lowest.result (rw is at c.lowest.ensures.set))).0 in
    rw c.skip_destinations-2.ensures.code (
    drops_passed c.args.self.now.position.now c.args.sweep.now.kind c.args.squares.bits c.args.self.now.escapes.bits c.args.sweep.now.code _ c.args.sweep.now.destinations.bits c.requires.consistent.destinations (omega (arith, up)) (omega (arith, c.lowest.ensures.range))
    (λ n h there below. (
    let both : _ = and_parts _ _ (sym (has_bit-and c.args.squares.bits c.guaranteed_destinations-guaranteed.result.bits n) ∙ below_uncertain c.args.sweep.now.destinations.bits (bit_and c.args.squares.bits c.guaranteed_destinations-guaranteed.result.bits) c.lowest.result n (omega (arith, and_le_l c.args.squares.bits c.guaranteed_destinations-guaranteed.result.bits)) h (omega (arith, below)) (rw is at c.lowest.ensures.least) there) in
    (both.0, c.guaranteed_destinations-guaranteed.ensures.guaranteed n h both.1))))
