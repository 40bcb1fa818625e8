use Rattle.std.proofs.Common.{◌≡◌, arith, rules, sym, ◌∙◌, true, false}
use Rattle.shogi_core.specs.declared.moves.Move.TheVariants.{Board}
use Rattle.shogi_core.specs.Attack.{in_check}
use Rattle.shogi_core.specs.Bits.{has_bit}
use Rattle.shogi_core.specs.Cell.{is_king}
use Rattle.shogi_core.specs.Movement.{piece_at}
use Rattle.shogi_moves.specs.Destinations.{leaves_king_safe}
use Rattle.shogi_moves.proofs.DestinationLaws.{narrowed, no_answer}
use Rattle.shogi_moves.proofs.KingLaws.{in_no_way}
use Rattle.shogi_moves.specs.CheckInfo.{is_check, squares_of}
use Rattle.shogi_moves.proofs.destinations.OwnPiece.may_be_pinned_destinations.Goals as goal

pub invariant_of-king-clause-shows : goal.invariant_of-king-clause-shows
invariant_of-king-clause-shows c = λ n h. (
    let p = c.args.self.now.known.now.position.now in
    let king : is_king p.side (piece_at p.cells c.args.self.now.from) ≡ true = sym (rw (c.side.ensures, c.as_board.ensures) at c.kings.ensures.squares c.args.self.now.from (omega arith)) ∙ (sym c.has.ensures ∙ c.if-has.true) in
    let safe : in_check p.cells p.side ≡ false = search rules in
    rw c.as_board-then-not-is_check.ensures (in_no_way p.cells p.side c.args.self.now.from c.reveal_invariant.ensures.cells_fit (omega arith) king safe n h))

pub returns-then-is_check : goal.returns-then-is_check
returns-then-is_check c = record {
  squares = λ n h. (
      let check : is_check c.args.self.now.known.now.info ≡ true = search rules in
      let off : has_bit c.kings.result.bits c.args.self.now.from ≡ false = search rules in
      (rw (c.bitand.ensures, c.squares.ensures) at c.tried_destinations.ensures.squares) n h
      ∙ narrowed c.args.destinations.bits (squares_of c.args.self.now.known.now.info) n (leaves_king_safe c.args.self.now.known.now.position.now (Board c.args.self.now.from n false))
      (λ _ out. no_answer c.args.self.now.known.now.position.now (is_check c.args.self.now.known.now.info) (squares_of c.args.self.now.known.now.info) c.args.self.now.from n c.args.self.now.known.now.right check c.reveal_invariant.ensures.cells_fit (omega arith) h c.args.self.now.own (sym (rw (c.side.ensures, c.as_board.ensures) at c.kings.ensures.squares c.args.self.now.from (omega arith)) ∙ off) out));
}
