use Rattle.std.proofs.Common.{◌≤◌, ◌<◌, ◌∙◌, arith, ap, sym, ℕ, refl}
use Rattle.std.proofs.lemmas.Bool.{false_from_ne_true}
use Rattle.shogi_core.specs.Bits.{has_bit}
use Rattle.shogi_core.proofs.BitLaws.{has_bit-none}
use Rattle.shogi_moves.proofs.DestinationLaws.{none_there}
use Rattle.shogi_replies.proofs.PassLaws.{passed_none}
use Rattle.search_nodes.proofs.AnalogousRows.{among_ends, analogous_destinations}
use Rattle.search_nodes.proofs.move_picker.skip_analogous_destinations.Goals as goal

pub returns-then-is_empty-clause-passed : goal.returns-then-is_empty-clause-passed
returns-then-is_empty-clause-passed c =
    let is : _ = rw c.without.ensures at c.bitor-others.ensures in
    let at : (n : ℕ) → n < 81 → _ = λ n h. among_ends c.args.sweep.now.destinations.non_promoting.bits c.args.analogous.now.ends.bits c.args.sweep.now.destinations.promoting.bits c.bitor-others.result.bits n is (omega arith) h (ap (λ m. has_bit m n) (none_there _ _ c.is_empty.ensures c.if-is_empty.true) ∙ has_bit-none n) in
    rw c.skip_destinations.ensures.code (analogous_destinations c.args.p.now c.args.analogous.now c.args.sweep.now.from c.args.sweep.now.code _ c.args.sweep.now.destinations.non_promoting.bits c.args.sweep.now.destinations.promoting.bits c.reveal_invariant.ensures (sym c.has.ensures ∙ c.if-not-has.false) c.requires.consistent.destinations (omega (arith, c.requires.consistent.destinations.high)) (omega arith)
    (λ n h below. (at n h).0) (λ n h below. (at n h).1))

pub returns-then-index-to-clause-passed : goal.returns-then-index-to-clause-passed
returns-then-index-to-clause-passed c =
    let is : _ = rw c.without.ensures at c.bitor-others.ensures in
    let at : (n : ℕ) → n < 81 → n < c.lowest-to.result → _ = λ n h down. among_ends c.args.sweep.now.destinations.non_promoting.bits c.args.analogous.now.ends.bits c.args.sweep.now.destinations.promoting.bits c.bitor-others.result.bits n is (omega arith) h
    (false_from_ne_true (has_bit c.bitor-others.result.bits n) (λ set. (let least : c.lowest-to.result ≤ n = c.lowest-to.ensures.least n set in omega arith))) in
    rw c.skip_destinations-then-index-to.ensures.code (analogous_destinations c.args.p.now c.args.analogous.now c.args.sweep.now.from c.args.sweep.now.code _ c.args.sweep.now.destinations.non_promoting.bits c.args.sweep.now.destinations.promoting.bits c.reveal_invariant.ensures (sym c.has.ensures ∙ c.if-not-has.false) c.requires.consistent.destinations (omega (arith, c.if-index-to.true, c.index.ensures.index)) (omega (arith, c.lowest-to.ensures.range))
    (λ n h below. (at n h (omega (arith, below))).0) (λ n h below. (at n h (omega (arith, below))).1))

pub returns-else-index-to-clause-passed : goal.returns-else-index-to-clause-passed
returns-else-index-to-clause-passed c = passed_none _ _ _ refl

pub returns-then-not-has-clause-passed : goal.returns-then-not-has-clause-passed
returns-then-not-has-clause-passed c = passed_none _ _ _ refl
