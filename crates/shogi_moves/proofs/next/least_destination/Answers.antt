use Rattle.std.proofs.Common.{arith, rules, sym, not, true, false, ◌∙◌, ◌+◌, ◌-◌, ◌*◌, ◌/◌}
use Rattle.shogi_core.specs.declared.moves.TheConstants.{SQUARE_CODES}
use Rattle.shogi_core.specs.declared.moves.Move.TheVariants.{Board}
use Rattle.shogi_core.specs.Bits.{has_bit}
use Rattle.shogi_moves.specs.Destinations.{AreAllDestinations}
use Rattle.shogi_moves.proofs.NextLaws.{IsLeast, destinations_from, nobody, no_destination, least_destination, on_board}
use Rattle.shogi_moves.proofs.DestinationLaws.{none_there}
use Rattle.shogi_moves.proofs.next.least_destination.Goals as goal
use Rattle.shogi_moves.proofs.next.least_destination.Goals.{then-index, else-index}

pub returns-then-not-is_piece_of-clause-next : goal.returns-then-not-is_piece_of-clause-next
returns-then-not-is_piece_of-clause-next c = nobody c.args.known.now.position.now c.args.from c.args.code (omega arith) c.requires.code.0 c.requires.code.1 (search rules)

pub returns-then-is_empty-clause-next : goal.returns-then-is_empty-clause-next
returns-then-is_empty-clause-next c =
    let all : AreAllDestinations c.args.known.now.position.now c.args.from c.if-index.kept.destinations = elim c.if-index.branch [
      | then-index w ↦ rw w.kept-is (rw w.kept_at.ensures.from at w.kept_at.ensures.consistent)
      | else-index w ↦ rw w.kept-is (rw (sym c.index.ensures.index ∙ (w.if-index.false ∙ c.index-2.ensures.index)) at c.requires.consistent)
    ] in
    no_destination c.args.known.now.position.now c.args.from c.args.code c.bits_from.result c.bits_from-2.result (omega arith) c.requires.code.0
    (destinations_from c.args.known.now.position.now false c.args.from c.args.code c.if-index.kept.destinations.non_promoting.bits c.bits_from.result ((c.args.code - c.index-3.result * SQUARE_CODES + 1) / 2) all.non_promoting c.requires.code.0
    (λ n h. omega (arith, c.index-3.ensures.index)) (λ n h. omega (arith, c.index-3.ensures.index)) c.bits_from.ensures.from c.bits_from.ensures.below)
    (destinations_from c.args.known.now.position.now true c.args.from c.args.code c.if-index.kept.destinations.promoting.bits c.bits_from-2.result ((c.args.code - c.index-3.result * SQUARE_CODES) / 2) all.promoting c.requires.code.0
    (λ n h. omega (arith, c.index-3.ensures.index)) (λ n h. omega (arith, c.index-3.ensures.index)) c.bits_from-2.ensures.from c.bits_from-2.ensures.below)
    c.requires.code.1 (sym c.bitor-both.ensures ∙ none_there _ _ c.is_empty.ensures c.if-is_empty.true)

least : (c : goal.After-has) → IsLeast c.args.known.now.position.now c.args.code (Board c.args.from c.lowest.result (not (has_bit c.bits_from.result c.lowest.result)))
least c =
    let all : AreAllDestinations c.args.known.now.position.now c.args.from c.if-index.kept.destinations = elim c.if-index.branch [
      | then-index w ↦ rw w.kept-is (rw w.kept_at.ensures.from at w.kept_at.ensures.consistent)
      | else-index w ↦ rw w.kept-is (rw (sym c.index.ensures.index ∙ (w.if-index.false ∙ c.index-2.ensures.index)) at c.requires.consistent)
    ] in
    least_destination c.args.known.now.position.now c.args.from c.args.code c.bits_from.result c.bits_from-2.result (omega arith) c.requires.code.0
    (destinations_from c.args.known.now.position.now false c.args.from c.args.code c.if-index.kept.destinations.non_promoting.bits c.bits_from.result ((c.args.code - c.index-3.result * SQUARE_CODES + 1) / 2) all.non_promoting c.requires.code.0
    (λ n h. omega (arith, c.index-3.ensures.index)) (λ n h. omega (arith, c.index-3.ensures.index)) c.bits_from.ensures.from c.bits_from.ensures.below)
    (destinations_from c.args.known.now.position.now true c.args.from c.args.code c.if-index.kept.destinations.promoting.bits c.bits_from-2.result ((c.args.code - c.index-3.result * SQUARE_CODES) / 2) all.promoting c.requires.code.0
    (λ n h. omega (arith, c.index-3.ensures.index)) (λ n h. omega (arith, c.index-3.ensures.index)) c.bits_from-2.ensures.from c.bits_from-2.ensures.below)
    c.lowest.result c.lowest.ensures.range (rw c.bitor-both.ensures at c.lowest.ensures.least) (rw c.bitor-both.ensures at c.lowest.ensures.set)

pub returns-clause-next : goal.returns-clause-next
returns-clause-next c = rw (c.has.ensures, c.of_index-to.ensures) (least c).next

pub returns-clause-legal : goal.returns-clause-legal
returns-clause-legal c = rw (c.has.ensures, c.of_index-to.ensures) (least c).legal

pub returns-clause-on_board : goal.returns-clause-on_board
returns-clause-on_board c = on_board c.args.from c.of_index-to.result _ (omega arith) (omega (arith, c.of_index-to.ensures, c.lowest.ensures.range))
