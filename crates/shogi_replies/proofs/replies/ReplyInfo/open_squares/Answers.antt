use Rattle.std.proofs.Common.{◌∙◌, ap, arith, sym}
use Rattle.std.proofs.lemmas.Bool.{both_ways, and_parts}
use Rattle.shogi_core.specs.Bits.{has_bit}
use Rattle.shogi_core.proofs.BitLaws.{has_bit-none}
use Rattle.shogi_replies.proofs.ReplyLaws.{one_of_two, other_than, not_closed}
use Rattle.shogi_replies.proofs.replies.ReplyInfo.open_squares.Goals as goal

pub returns-then-is_empty : goal.returns-then-is_empty
returns-then-is_empty c = rw c.none.ensures (λ n h e. absurd (both_ways _ (has_bit-none n) e))

pub returns-then-without_lowest-ne0 : goal.returns-then-without_lowest-ne0
returns-then-without_lowest-ne0 c = λ n h e. record {
  unclosed = not_closed c.all.result.bits c.args.closed.bits n (omega arith) h (ap (λ m. has_bit m n) (sym c.without-open.ensures) ∙ e);
  way = one_of_two c.args.self.now.free_movers.bits c.lowest-one.result c.without_lowest.result n c.args.self.now.free_movers.fits c.lowest-one.ensures.range c.lowest-one.ensures.set c.without_lowest.ensures.bits (omega (arith, c.if-without_lowest-ne0.true)) c.without_lowest.ensures.less;
}

pub returns : goal.returns
returns c = λ n h e.
    let parts : _ = and_parts _ _ (sym ((rw c.of_index.ensures at c.except.ensures) n) ∙ e) in
    record {
      unclosed = not_closed c.all.result.bits c.args.closed.bits n (omega arith) h (ap (λ m. has_bit m n) (sym c.without-open.ensures) ∙ parts.0);
      way = other_than c.args.self.now.free_movers.bits c.lowest-one.result n c.lowest-one.ensures.range c.lowest-one.ensures.set parts.1;
    }
