use Rattle.std.proofs.Common.{◌≤◌, ◌<◌, ◌∙◌, arith, ap, sym, ℕ, refl}
use Rattle.std.proofs.lemmas.Bool.{false_from_ne_true}
use Rattle.shogi_core.specs.Bits.{has_bit}
use Rattle.shogi_core.proofs.BitLaws.{has_bit-none}
use Rattle.shogi_moves.proofs.DestinationLaws.{none_there}
use Rattle.shogi_replies.proofs.PassLaws.{destinations_passed, of_both, passed_none}
use Rattle.shogi_replies.proofs.replies.KnownReplies.skip_destinations.Goals as goal

pub returns-then-is_empty-clause-passed : goal.returns-then-is_empty-clause-passed
returns-then-is_empty-clause-passed c =
    let is : _ = rw (c.without.ensures, c.bitand.ensures, c.without-2.ensures, c.bitand-2.ensures) at c.bitor-uncertain.ensures in
    let at : (n : ℕ) → n < 81 → _ = λ n h. of_both c.args.sweep.now.destinations.non_promoting.bits c.args.move_filter.now.squares.bits c.guaranteed_destinations-guaranteed.result.bits c.args.sweep.now.destinations.promoting.bits c.promotions-promotions.result.bits c.guaranteed_destinations-promoted.result.bits n (omega arith) (omega arith) h (ap (λ m. has_bit m n) (sym is ∙ none_there _ _ c.is_empty.ensures c.if-is_empty.true) ∙ has_bit-none n) in
    rw c.skip_destinations.ensures.code (record {
      up = omega (arith, c.requires.consistent.destinations.high);
      passed = λ first low. destinations_passed c.args.self.now.position.now c.args.capture c.args.move_filter.now c.args.self.now.escapes.bits c.args.sweep.now.from c.args.sweep.now.code _ c.args.sweep.now.destinations.non_promoting.bits c.args.sweep.now.destinations.promoting.bits first c.reveal_invariant.ensures (sym c.has.ensures ∙ c.if-not-has.false) c.requires.consistent.destinations low (omega (arith, c.requires.consistent.destinations.high)) (omega arith)
          (λ n h set below. (let it : _ = (at n h).0 set in (it.0, c.guaranteed_destinations-guaranteed.ensures.guaranteed n h it.1)))
          (λ n h set below. (let it : _ = (at n h).1 set in (c.promotions-promotions.ensures.squares n it.0, c.promotions-promotions.ensures.promotes n it.0, c.guaranteed_destinations-promoted.ensures.guaranteed n h it.1)));
    })

pub returns-then-index-to-clause-passed : goal.returns-then-index-to-clause-passed
returns-then-index-to-clause-passed c =
    let is : _ = rw (c.without.ensures, c.bitand.ensures, c.without-2.ensures, c.bitand-2.ensures) at c.bitor-uncertain.ensures in
    let at : (n : ℕ) → n < 81 → n < c.lowest-to.result → _ = λ n h down. of_both c.args.sweep.now.destinations.non_promoting.bits c.args.move_filter.now.squares.bits c.guaranteed_destinations-guaranteed.result.bits c.args.sweep.now.destinations.promoting.bits c.promotions-promotions.result.bits c.guaranteed_destinations-promoted.result.bits n (omega arith) (omega arith) h
    (ap (λ m. has_bit m n) (sym is) ∙ false_from_ne_true (has_bit c.bitor-uncertain.result.bits n) (λ set. (let least : c.lowest-to.result ≤ n = c.lowest-to.ensures.least n set in omega arith))) in
    rw c.skip_destinations-then-index-to.ensures.code (record {
      up = omega (arith, c.if-index-to.true, c.index.ensures.index);
      passed = λ first low. destinations_passed c.args.self.now.position.now c.args.capture c.args.move_filter.now c.args.self.now.escapes.bits c.args.sweep.now.from c.args.sweep.now.code _ c.args.sweep.now.destinations.non_promoting.bits c.args.sweep.now.destinations.promoting.bits first c.reveal_invariant.ensures (sym c.has.ensures ∙ c.if-not-has.false) c.requires.consistent.destinations low (omega (arith, c.if-index-to.true, c.index.ensures.index)) (omega (arith, c.lowest-to.ensures.range))
          (λ n h set below. (let it : _ = (at n h (omega (arith, below))).0 set in (it.0, c.guaranteed_destinations-guaranteed.ensures.guaranteed n h it.1)))
          (λ n h set below. (let it : _ = (at n h (omega (arith, below))).1 set in (c.promotions-promotions.ensures.squares n it.0, c.promotions-promotions.ensures.promotes n it.0, c.guaranteed_destinations-promoted.ensures.guaranteed n h it.1)));
    })

pub returns-else-index-to-clause-passed : goal.returns-else-index-to-clause-passed
returns-else-index-to-clause-passed c = record { up = omega arith; passed = λ first low. passed_none _ _ _ refl }

pub returns-then-not-has-clause-passed : goal.returns-then-not-has-clause-passed
returns-then-not-has-clause-passed c = record { up = omega arith; passed = λ first low. passed_none _ _ _ refl }
