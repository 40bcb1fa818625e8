use Rattle.std.proofs.Common.{◌+◌, ◌∙◌, refl, sym}
use Rattle.shogi_moves.proofs.DestinationLaws.{none_there, some_there}
use Rattle.shogi_moves.proofs.ExistenceLaws.{piece_with, piece_without}
use Rattle.shogi_moves.proofs.LegalLaws.{next_piece, pieces_after, no_piece_left}
use Rattle.shogi_moves.proofs.safe.has_board_move.Goals as goal

pub returns-then-not-is_empty-clause-some : goal.returns-then-not-is_empty-clause-some
returns-then-not-is_empty-clause-some c = λ _. piece_with c.args.known.now.position.now c.in-Some.from c.all_destinations-destinations.result (rw c.markings-markings.ensures at c.all_destinations-destinations.ensures) (rw c.bitor.ensures at (some_there _ _ c.is_empty.ensures c.if-not-is_empty.true))

pub pieces-preserved : goal.pieces-preserved
pieces-preserved c =
    let taken = c.in-Some.ensures.some in
    let reached = next_piece c.args.known.now.position.now c.pieces.left c.pieces.invariant.first c.in-Some.from c.pieces.invariant.pieces taken.range taken.set taken.least in
    record {
      first = c.in-Some.from + 1;
      pieces = pieces_after c.args.known.now.position.now c.pieces.left c.next.new.self c.pieces.invariant.first c.in-Some.from c.pieces.invariant.pieces reached.0 taken.range taken.least taken.rest;
      same = c.pieces.invariant.same ∙ (reached.2 ∙ piece_without c.args.known.now.position.now c.in-Some.from c.all_destinations-destinations.result taken.range (rw c.markings-markings.ensures at c.all_destinations-destinations.ensures) (sym c.bitor.ensures ∙ none_there _ _ c.is_empty.ensures c.if-not-is_empty.false));
    }

pub returns-clause-if_none : goal.returns-clause-if_none
returns-clause-if_none c = λ _. c.pieces.invariant.same ∙ no_piece_left c.args.known.now.position.now c.pieces.left c.pieces.invariant.first c.pieces.invariant.pieces (c.in_default.ensures.none refl)
