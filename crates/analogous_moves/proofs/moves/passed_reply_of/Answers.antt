use Rattle.std.proofs.Common.{◌≡◌, sym, subst}
use Rattle.shogi_core.specs.Movement.{Cells}
use Rattle.shogi_core.specs.Validity.{IsValid}
use Rattle.shogi_core.proofs.Faults.{faultless_from}
use Rattle.analogous_moves.specs.Analogies.{KingHasReplies}
use Rattle.analogous_moves.specs.PassedReplies.{with_cells}
use Rattle.analogous_moves.proofs.moves.passed_reply_of.Goals as goal

pub reply_squares-requires-clause-crown : goal.reply_squares-requires-clause-crown
reply_squares-requires-clause-crown c = rw (c.opponent.ensures, c.side.ensures) at c.in_ok-king.ensures.king

pub reply_squares-requires-clause-only_king : goal.reply_squares-requires-clause-only_king
reply_squares-requires-clause-only_king c = rw (c.opponent.ensures, c.side.ensures) at c.in_ok-king.ensures.lone

pub invariant_of-result : goal.invariant_of-result
invariant_of-result c =
    let same : c.board-board.result ≡ c.args.node.position.cells = rw c.as_position-p.ensures at c.board-board.ensures in
    let v : IsValid c.args.node.position = rw c.as_position-p.ensures at c.reveal_invariant.ensures in
    let stands : KingHasReplies c.args.quiet_only c.args.node.position c.in_ok-king.king c.reply_squares.result.bits = record {
      cells_fit = v.cells_fit;
      king_fits = c.reveal_invariant-2.ensures;
      crown = rw (c.opponent.ensures, c.side.ensures, c.as_position-p.ensures) at c.in_ok-king.ensures.king;
      only_king = rw (c.opponent.ensures, c.side.ensures, c.as_position-p.ensures) at c.in_ok-king.ensures.lone;
      unchecked = (faultless_from c.args.node.position v.no_fault).shut;
      replies = rw c.as_position-p.ensures at c.reply_squares.ensures;
    } in
    record {
      is_kingless = c.put.ensures;
      has_replies = subst (λ (cells : Cells). KingHasReplies c.args.quiet_only (with_cells c.args.node.position cells) c.in_ok-king.king c.reply_squares.result.bits) (sym same) stands;
      are_captures_above = rw (c.side-2.ensures, c.eval.ensures, c.as_position-p.ensures) at c.captures_above.ensures;
    }

pub returns-clause-board : goal.returns-clause-board
returns-clause-board c = rw c.as_position-p.ensures at c.board-board.ensures
