use Rattle.std.proofs.Common.{◌∙◌, ℕ, ap, arith, sym}
use Rattle.std.proofs.lemmas.Bool.{and_parts, and_from, both_ways, eqb-true}
use Rattle.shogi_core.specs.Bits.{has_bit}
use Rattle.shogi_core.proofs.BitLaws.{has_bit-and, has_bit-none}
use Rattle.shogi_moves.proofs.DestinationLaws.{drop_matching}
use Rattle.last_ply.proofs.MateLaws.{leave_closing}
use Rattle.last_ply.proofs.mates.MateSearch.mates_by_held.Goals as goal

pub mates_among-requires : goal.mates_among-requires
mates_among-requires c = λ n h e. rw c.as_position-p.ensures at (sym (drop_matching c.as_position-p.result.now c.args.kind n h) ∙ (sym (c.legal-ends.ensures.squares n h) ∙ (and_parts _ _ (sym (has_bit-and c.legal-ends.result.bits _ n) ∙ rw c.bitand.ensures at e)).0))

pub returns-clause-if_none : goal.returns-clause-if_none
returns-clause-if_none c = λ e. leave_closing c.args.self.now.frontier.node.now.position c.args.kind c.args.self.now.squares.bits c.closing_drops-closing.result.bits c.non_checking_destinations.result.bits c.args.self.now.dropping (omega (arith, c.non_checking_destinations.result.fits)) c.closing_drops-closing.ensures.answered (λ n h e. ((rw c.args.self.now.same at c.non_checking_destinations.ensures.guaranteed) n h e).0)
    (λ n h legal on. c.mates_among.ensures.if_none e n h (rw c.bitand.ensures (has_bit-and c.legal-ends.result.bits c.without-doubtful.result.bits n ∙ and_from _ _ (c.legal-ends.ensures.squares n h ∙ (drop_matching c.as_position-p.result.now c.args.kind n h ∙ rw c.as_position-p.ensures legal)) (rw c.without-doubtful.ensures on))))

pub returns-then-is_empty-clause-if_none : goal.returns-then-is_empty-clause-if_none
returns-then-is_empty-clause-if_none c = λ _. leave_closing c.args.self.now.frontier.node.now.position c.args.kind c.args.self.now.squares.bits c.closing_drops-closing.result.bits 0 c.args.self.now.dropping (omega arith) c.closing_drops-closing.ensures.answered (λ n h e. absurd (both_ways (has_bit 0 n) (has_bit-none n) e))
    (λ n h legal on. absurd (both_ways (has_bit c.closing_drops-closing.result.bits n) (ap (λ (m : ℕ). has_bit m n) (eqb-true _ 0 (sym c.is_empty.ensures ∙ c.if-is_empty.true)) ∙ has_bit-none n) (and_parts _ _ (sym (has_bit-and c.closing_drops-closing.result.bits _ n) ∙ on)).0))

pub returns-then-is_empty-2-clause-if_none : goal.returns-then-is_empty-2-clause-if_none
returns-then-is_empty-2-clause-if_none c = λ _. leave_closing c.args.self.now.frontier.node.now.position c.args.kind c.args.self.now.squares.bits c.closing_drops-closing.result.bits c.non_checking_destinations.result.bits c.args.self.now.dropping (omega (arith, c.non_checking_destinations.result.fits)) c.closing_drops-closing.ensures.answered (λ n h e. ((rw c.args.self.now.same at c.non_checking_destinations.ensures.guaranteed) n h e).0)
    (λ n h legal on. absurd (both_ways (has_bit c.without-doubtful.result.bits n) (ap (λ (m : ℕ). has_bit m n) (eqb-true _ 0 (sym c.is_empty-2.ensures ∙ c.if-is_empty-2.true)) ∙ has_bit-none n) (rw c.without-doubtful.ensures on)))
