use Rattle.std.proofs.Common.{arith, sym, ◌∙◌}
use Rattle.std.proofs.lemmas.Bool.{both_ways, eq-eqb}
use Rattle.shogi_core.specs.Bits.{has_bit}
use Rattle.shogi_core.proofs.BitLaws.{has_bit-none}
use Rattle.shogi_replies.proofs.ReplyLaws.{sifted_first, sifted_found, sifted_done}
use Rattle.shogi_replies.proofs.replies.free_moving_pieces.Goals as goal

pub pieces-init : goal.pieces-init
pieces-init c = rw (c.iter-left.ensures, c.without.ensures, c.none-kept.ensures, c.none-ends.ensures) (sifted_first c.args.p.now.cells c.args.side c.args.lines.bits c.own.result.bits (omega arith) (rw c.as_board.ensures at c.own.ensures.squares))

pub pieces-preserved-else-has_two : goal.pieces-preserved-else-has_two
pieces-preserved-else-has_two c = rw c.bitor-ends.ensures (sifted_found c.args.p.now.cells c.args.side c.args.lines.bits c.pieces.left c.pieces.kept.bits c.pieces.ends.bits c.next.new.self c.with-kept.result.bits c.in-Some.from c.quiet_steps-steps.result.bits c.requires c.pieces.invariant c.in-Some.ensures.some
    c.quiet_steps-steps.result.fits c.quiet_steps-steps.ensures (λ none. both_ways _ (sym c.is_empty.ensures ∙ c.if-not-is_empty.true) (eq-eqb _ 0 none)) c.with-kept.ensures)

pub returns-then-has_two-2 : goal.returns-then-has_two-2
returns-then-has_two-2 c = sifted_done c.args.p.now.cells c.args.side c.args.lines.bits c.next.new.self c.with-kept.result.bits c.bitor-ends.result.bits (c.has_two-then-has_two.ensures c.if-has_two-2.true)
    (rw c.bitor-ends.ensures (sifted_found c.args.p.now.cells c.args.side c.args.lines.bits c.pieces.left c.pieces.kept.bits c.pieces.ends.bits c.next.new.self c.with-kept.result.bits c.in-Some.from c.quiet_steps-steps.result.bits c.requires c.pieces.invariant c.in-Some.ensures.some
    c.quiet_steps-steps.result.fits c.quiet_steps-steps.ensures (λ none. both_ways _ (sym c.is_empty.ensures ∙ c.if-not-is_empty.true) (eq-eqb _ 0 none)) c.with-kept.ensures))

pub returns-then-has_two-3 : goal.returns-then-has_two-3
returns-then-has_two-3 c = sifted_done c.args.p.now.cells c.args.side c.args.lines.bits c.pieces.left c.pieces.kept.bits c.pieces.ends.bits (c.has_two-2.ensures c.if-has_two-3.true) c.pieces.invariant

pub returns-else-has_two-3 : goal.returns-else-has_two-3
returns-else-has_two-3 c = rw c.none.ensures (λ a to h set other. absurd (both_ways (has_bit 0 a) (has_bit-none a) set))
