use Rattle.std.proofs.Common.{bit_and, ◌∙◌, sym}
use Rattle.std.proofs.lemmas.Bool.{and_from, both_ways, false_from_ne_true, true_from_ne_false}
use Rattle.shogi_core.specs.Bits.{has_bit}
use Rattle.shogi_core.specs.Lines.{are_aligned}
use Rattle.shogi_core.specs.Pieces.{opponent_of}
use Rattle.shogi_core.proofs.BitLaws.{has_bit-and}
use Rattle.shogi_replies.specs.ReplyInfo.{is_aligned_with_king}
use Rattle.shogi_replies.proofs.ReplyLaws.{unaligned}
use Rattle.search_nodes.proofs.threat.pinning_squares.Goals as goal

pub returns-then-has : goal.returns-then-has
returns-then-has c = λ lined n h out met. false_from_ne_true (are_aligned c.args.from n) (λ near. both_ways (has_bit (bit_and c.king_line_mask-lines.result.bits c.line_mask.result.bits) n) (rw c.bitand.ensures at out)
    (has_bit-and c.king_line_mask-lines.result.bits c.line_mask.result.bits n ∙ and_from _ _ (true_from_ne_false (has_bit c.king_line_mask-lines.result.bits n) (λ off. both_ways (is_aligned_with_king c.args.p.now.cells (opponent_of c.args.p.now.side) n) (unaligned c.args.p.now.cells (opponent_of c.args.p.now.side) c.king_line_mask-lines.result.bits n (rw (c.opponent.ensures, c.side.ensures) at c.king_line_mask-lines.ensures) h off) met))
    (c.line_mask.ensures.squares n h ∙ near)))

pub returns-else-has : goal.returns-else-has
returns-else-has c = λ lined n h out met. absurd (both_ways (is_aligned_with_king c.args.p.now.cells (opponent_of c.args.p.now.side) c.args.from) (unaligned c.args.p.now.cells (opponent_of c.args.p.now.side) c.king_line_mask-lines.result.bits c.args.from (rw (c.opponent.ensures, c.side.ensures) at c.king_line_mask-lines.ensures) c.reveal_invariant.ensures (sym c.has.ensures ∙ c.if-has.false)) lined)
