use Rattle.std.proofs.Common.{◌∙◌, arith, sym}
use Rattle.std.proofs.lemmas.Bool.{and_parts}
use Rattle.shogi_core.specs.Bits.{has_bit}
use Rattle.shogi_core.proofs.BitLaws.{has_bit-and}
use Rattle.last_ply.proofs.MateLaws.{answered_off}
use Rattle.last_ply.proofs.mates.MateSearch.doubtful_among.Goals as goal

pub returns-clause-within : goal.returns-clause-within
returns-clause-within c = λ n e. c.closing_ends-closing.ensures.within n (and_parts (has_bit c.closing_ends-closing.result.bits n) _ (sym (has_bit-and c.closing_ends-closing.result.bits _ n) ∙ rw c.without.ensures at e)).0

pub returns-clause-answered : goal.returns-clause-answered
returns-clause-answered c = rw c.without.ensures (answered_off c.args.self.now.frontier.node.now.position c.args.from c.args.promote c.args.ends.bits c.closing_ends-closing.result.bits c.non_checking_destinations.result.bits (omega (arith, c.non_checking_destinations.result.fits)) c.closing_ends-closing.ensures.answered
    (λ n h e. ((rw c.args.self.now.same at c.non_checking_destinations.ensures.guaranteed) n h e).0))
