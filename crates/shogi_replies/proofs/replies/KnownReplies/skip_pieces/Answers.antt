use Rattle.std.proofs.Common.{◌<◌, ◌-◌, ◌^◌, ◌∙◌, refl, sym, arith}
use Rattle.std.proofs.lemmas.Bool.{and_parts, false_from_ne_true}
use Rattle.shogi_core.specs.Bits.{has_bit}
use Rattle.shogi_core.proofs.BitLaws.{has_bit-and}
use Rattle.shogi_replies.proofs.PassLaws.{row_passed_to, not_uncertain}
use Rattle.shogi_moves.proofs.SweepLaws.{on_first, mine_first}
use Rattle.shogi_moves.proofs.MoverLaws.{on_movers}
use Rattle.shogi_replies.proofs.replies.KnownReplies.skip_pieces.Goals as goal

pub squares-init : goal.squares-init
squares-init c =
    let mine : _ = mine_first c.args.self.now.position.now c.own.result.bits c.bits_above.result c.args.sweep.now.from (rw (c.side.ensures, c.as_board.ensures) at c.own.ensures.squares) (rw c.index.ensures.index at c.bits_above.ensures.above) (rw c.index.ensures.index at c.bits_above.ensures.below) in
    record {
      moving = c.matching_movers-moving.result.bits;
      same = refl;
      matching = on_movers c.args.self.now.position.now c.args.capture c.bits_above.result c.matching_movers-moving.result.bits c.args.sweep.now.code c.reveal_invariant.ensures.cells_fit
          (on_first c.args.self.now.position.now c.args.capture c.own.result.bits c.bits_above.result c.args.sweep.now.from c.args.sweep.now.code c.args.sweep.now.destinations.non_promoting.bits c.args.sweep.now.destinations.promoting.bits (omega (arith, c.index.ensures.range, c.index.ensures.index)) c.requires.consistent.destinations (rw (c.requires.if_none.0, c.requires.if_none.1) refl)
          (rw (c.side.ensures, c.as_board.ensures) at c.own.ensures.squares) (rw c.index.ensures.index at c.bits_above.ensures.above))
          (λ n h set. (mine n h set).1) c.matching_movers-moving.ensures.if_none;
      mine = λ n h set. mine n h (c.matching_movers-moving.ensures.within n set);
      guaranteed = λ n h set out. c.non_checking_pieces-far.ensures n h (not_uncertain c.matching_movers-moving.result.bits c.non_checking_pieces-far.result.bits n (omega arith) h (rw (c.iter-left.ensures, c.without.ensures) at out) set);
      within = λ n set. (and_parts _ _ (sym (has_bit-and c.matching_movers-moving.result.bits (2 ^ 128 - 1 - c.non_checking_pieces-far.result.bits) n) ∙ (rw (c.iter-left.ensures, c.without.ensures) at set))).0;
    }

pub returns-then-not-guarantees_replies-clause-passed : goal.returns-then-not-guarantees_replies-clause-passed
returns-then-not-guarantees_replies-clause-passed c =
    let above : c.args.sweep.now.from < c.in-Some.from = (c.squares.invariant.mine c.in-Some.from c.in-Some.ensures.some.range (c.squares.invariant.within c.in-Some.from c.in-Some.ensures.some.set)).0 in
    rw (c.skip_pieces.ensures.code, c.index-then-not-guarantees_replies.ensures.index) (row_passed_to c.args.self.now.position.now c.args.capture c.args.move_filter.now c.args.self.now.escapes.bits c.args.sweep.now.code c.squares.invariant.moving c.in-Some.from c.reveal_invariant.ensures.cells_fit (omega (arith, c.in-Some.ensures.some.range)) c.squares.invariant.matching
    (λ n h set. (c.squares.invariant.mine n h set).1)
    (λ n h below set. c.squares.invariant.guaranteed n h set (false_from_ne_true (has_bit c.squares.left n) (λ there. absurd (let le : _ = c.in-Some.ensures.some.least n there in omega (arith, le, below)))))
    (omega (arith, above, c.requires.consistent.destinations.high)))

pub returns-clause-passed : goal.returns-clause-passed
returns-clause-passed c = rw c.skip_pieces-2.ensures.code (row_passed_to c.args.self.now.position.now c.args.capture c.args.move_filter.now c.args.self.now.escapes.bits c.args.sweep.now.code c.squares.invariant.moving 81 c.reveal_invariant.ensures.cells_fit (omega arith) c.squares.invariant.matching
    (λ n h set. (c.squares.invariant.mine n h set).1)
    (λ n h below set. c.squares.invariant.guaranteed n h set (c.in_default.ensures.none refl n))
    (omega (arith, c.index.ensures.range, c.index.ensures.index, c.requires.consistent.destinations.high)))
