use Rattle.std.proofs.Common.{◌≡◌, ◌<◌, ◌∙◌, ℕ, false, ap, subst, arith}
use Rattle.shogi_core.specs.declared.piece.Color.{Color}
use Rattle.shogi_core.specs.Bits.{has_bit}
use Rattle.shogi_core.specs.Cell.{is_king, is_piece_of}
use Rattle.shogi_core.specs.Movement.{piece_at}
use Rattle.shogi_core.specs.Pieces.{opponent_of}
use Rattle.shogi_replies.specs.Threats.{IsOffPins}
use Rattle.shogi_replies.proofs.ThreatLaws.{found_unpinnable}
use Rattle.shogi_replies.proofs.threats.unpinnable_pieces.Goals as goal

pub returns : goal.returns
returns c = record {
  unpinnable = λ a h e.
      let side : c.opponent-side.result ≡ opponent_of c.args.p.now.side = c.opponent-side.ensures ∙ ap opponent_of c.side.ensures in
      found_unpinnable c.args.p.now c.own.result.bits c.kings.result.bits c.pinnable_squares.result.bits a
      (omega arith) (omega arith)
      (subst (λ (s : Color). (n : ℕ) → n < 81 → has_bit c.own.result.bits n ≡ is_piece_of s (piece_at c.args.p.now.cells n)) side (rw c.as_board-board.ensures at c.own.ensures.squares))
      (subst (λ (s : Color). (n : ℕ) → n < 81 → has_bit c.kings.result.bits n ≡ is_king s (piece_at c.args.p.now.cells n)) side (rw c.as_board-board.ensures at c.kings.ensures.squares))
      (subst (λ (s : Color). (n : ℕ) → n < 81 → has_bit c.pinnable_squares.result.bits n ≡ false → IsOffPins c.args.p.now.cells s n) side c.pinnable_squares.ensures)
      h (rw (c.without.ensures, c.without-others.ensures) at e);
}
