use Rattle.std.proofs.lemmas.Bool.{both_ways}
use Rattle.shogi_core.specs.declared.bits.TheConstants.{ALL_SQUARES}
use Rattle.shogi_core.specs.Bits.{has_bit}
use Rattle.shogi_core.specs.Pieces.{opponent_of}
use Rattle.shogi_core.proofs.BitLaws.{has_bit-none}
use Rattle.shogi_replies.proofs.ReplyLaws.{unknown_sees}
use Rattle.shogi_core.proofs.ZoneLaws.{all_squares}
use Rattle.shogi_replies.proofs.replies.ReplyInfo.unknown.Goals as goal

pub returns : goal.returns
returns c = record {
  sees = rw c.all.ensures (unknown_sees c.args.p.now.cells (opponent_of c.args.p.now.side) ALL_SQUARES all_squares);
  spares = rw c.none.ensures (λ a to h e other. absurd (both_ways (has_bit 0 a) (has_bit-none a) e));
}
