use Rattle.std.proofs.Common.{◌≡◌, ◌<◌, ◌*◌, ◌∙◌, refl, sym, arith, bit_and}
use Rattle.std.proofs.lemmas.Bool.{and_parts}
use Rattle.shogi_core.specs.declared.moves.TheConstants.{SQUARE_CODES}
use Rattle.shogi_core.specs.Bits.{has_bit}
use Rattle.shogi_moves.proofs.CaptureLaws.{matching_jumps}
use Rattle.shogi_moves.proofs.DestinationLaws.{none_there, some_there, nowhere, matching_ways}
use Rattle.shogi_moves.proofs.MoverLaws.{on_movers}
use Rattle.shogi_moves.proofs.SweepLaws.{keeps_matching, on_first, mine_first, on_less, on_none}
use Rattle.shogi_moves.proofs.sweep.BoardSweep.refill.Goals as goal

pub squares-init : goal.squares-init
squares-init c =
    let mine : _ = mine_first c.args.p.now c.own.result.bits c.bits_above.result c.args.self.now.from (rw (c.side.ensures, c.as_board-board.ensures) at c.own.ensures.squares) (rw c.index.ensures.index at c.bits_above.ensures.above) (rw c.index.ensures.index at c.bits_above.ensures.below) in
    rw c.iter-left.ensures (record {
      kept = c.requires.consistent;
      same = refl;
      matching = on_movers c.args.p.now c.args.capture c.bits_above.result c.matching_movers.result.bits c.args.self.now.code c.reveal_invariant.ensures.cells_fit
          (on_first c.args.p.now c.args.capture c.own.result.bits c.bits_above.result c.args.self.now.from c.args.self.now.code c.args.self.now.destinations.non_promoting.bits c.args.self.now.destinations.promoting.bits (omega (arith, c.index.ensures.range, c.index.ensures.index)) c.requires.consistent.destinations c.requires.if_none
          (rw (c.side.ensures, c.as_board-board.ensures) at c.own.ensures.squares) (rw c.index.ensures.index at c.bits_above.ensures.above))
          (λ n h set. (mine n h set).1) c.matching_movers.ensures.if_none;
      mine = λ n h set. mine n h (c.matching_movers.ensures.within n set);
    })

pub legal_destinations-destinations-requires : goal.legal_destinations-destinations-requires
legal_destinations-destinations-requires c = rw (c.at-known.ensures, c.bitand-among.ensures) (λ n h. matching_ways c.args.p.now.side c.args.capture _ c.targets.result.bits c.matching_destinations-matching.result.bits n _ (rw c.as_board-board.ensures at c.targets.ensures.squares n h) (c.matching_destinations-matching.ensures.squares n h))

pub returns-then-not-is_empty-2-clause-some : goal.returns-then-not-is_empty-2-clause-some
returns-then-not-is_empty-2-clause-some c = rw c.index-then-not-is_empty-2.ensures.index (λ _. (
  rw c.bitor.ensures at (some_there _ _ c.is_empty-then-not-is_empty.ensures c.if-not-is_empty-2.true),
  let up : c.args.self.now.from < c.in-Some.from = (c.squares.invariant.mine c.in-Some.from c.in-Some.ensures.some.range c.in-Some.ensures.some.set).0 in
      matching_jumps c.args.p.now c.args.capture c.args.self.now.code (c.in-Some.from * SQUARE_CODES) (omega (arith, up, c.requires.consistent.destinations.high)) (omega arith)
      (on_none c.args.p.now c.args.capture c.squares.left c.in-Some.from c.args.self.now.code c.squares.invariant.matching c.in-Some.ensures.some.range c.in-Some.ensures.some.least),
))

pub returns-then-not-is_empty-2-clause-consistent : goal.returns-then-not-is_empty-2-clause-consistent
returns-then-not-is_empty-2-clause-consistent c = rw c.index-then-not-is_empty-2.ensures.index (record {
  info = c.squares.invariant.kept.info;
  destinations = keeps_matching c.args.p.now c.args.capture c.in-Some.from c.targets.result.bits c.matching_destinations-matching.result.bits c.legal_destinations-destinations.result.non_promoting.bits c.legal_destinations-destinations.result.promoting.bits c.in-Some.ensures.some.range (rw c.as_board-board.ensures at c.targets.ensures.squares) c.matching_destinations-matching.ensures.squares
      (rw (c.at-known.ensures, c.bitand-among.ensures) at c.legal_destinations-destinations.ensures.non_promoting) (rw (c.at-known.ensures, c.bitand-among.ensures) at c.legal_destinations-destinations.ensures.promoting);
})

pub squares-preserved-else-not-is_empty-2 : goal.squares-preserved-else-not-is_empty-2
squares-preserved-else-not-is_empty-2 c = record {
  kept = c.squares.invariant.kept;
  same = c.squares.invariant.same;
  matching = on_less c.args.p.now c.args.capture c.squares.left c.next.new.self c.in-Some.from c.args.self.now.code _ _ c.squares.invariant.matching
      (keeps_matching c.args.p.now c.args.capture c.in-Some.from c.targets.result.bits c.matching_destinations-matching.result.bits c.legal_destinations-destinations.result.non_promoting.bits c.legal_destinations-destinations.result.promoting.bits c.in-Some.ensures.some.range (rw c.as_board-board.ensures at c.targets.ensures.squares) c.matching_destinations-matching.ensures.squares
      (rw (c.at-known.ensures, c.bitand-among.ensures) at c.legal_destinations-destinations.ensures.non_promoting) (rw (c.at-known.ensures, c.bitand-among.ensures) at c.legal_destinations-destinations.ensures.promoting))
      (sym c.bitor.ensures ∙ none_there _ _ c.is_empty-then-not-is_empty.ensures c.if-not-is_empty-2.false) c.in-Some.ensures.some.rest;
  mine = λ n h set. c.squares.invariant.mine n h ((and_parts (has_bit c.squares.left n) _ (sym (c.in-Some.ensures.some.rest n) ∙ set)).0);
}

pub squares-preserved : goal.squares-preserved
squares-preserved c =
    let none : bit_and c.targets.result.bits c.matching_destinations-matching.result.bits ≡ 0 = sym c.bitand-among.ensures ∙ none_there _ _ c.is_empty.ensures c.if-not-is_empty.false in
    record {
      kept = c.squares.invariant.kept;
      same = c.squares.invariant.same;
      matching = on_less c.args.p.now c.args.capture c.squares.left c.next.new.self c.in-Some.from c.args.self.now.code 0 0 c.squares.invariant.matching
          (keeps_matching c.args.p.now c.args.capture c.in-Some.from c.targets.result.bits c.matching_destinations-matching.result.bits 0 0 c.in-Some.ensures.some.range (rw c.as_board-board.ensures at c.targets.ensures.squares) c.matching_destinations-matching.ensures.squares (λ n h. nowhere _ n _ none) (λ n h. nowhere _ n _ none))
          refl c.in-Some.ensures.some.rest;
      mine = λ n h set. c.squares.invariant.mine n h ((and_parts (has_bit c.squares.left n) _ (sym (c.in-Some.ensures.some.rest n) ∙ set)).0);
    }
