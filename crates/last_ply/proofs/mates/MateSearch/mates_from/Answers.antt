use Rattle.std.proofs.Common.{◌≡◌, ◌∙◌, ap, bit_or, sym, ℕ, true, false}
use Rattle.std.proofs.lemmas.Bool.{eqb-true, or_parts}
use Rattle.shogi_core.specs.Bits.{has_bit}
use Rattle.shogi_core.proofs.BitLaws.{has_bit-none, has_bit-or}
use Rattle.last_ply.proofs.MateLaws.{either_enterable, in_first, in_second, leave_doubtful, leave_from, legal_doubtful}
use Rattle.last_ply.proofs.mates.MateSearch.mates_from.Goals as goal

pub legal_destinations-ends-requires : goal.legal_destinations-ends-requires
legal_destinations-ends-requires c = rw (c.args.self.now.frontier.same, c.bitor-among.ensures) (either_enterable _ _ _ _ c.doubtful_ends-doubtful.ensures.non_promoting c.doubtful_ends-doubtful.ensures.promoting)

pub mates_among-requires : goal.mates_among-requires
mates_among-requires c = rw c.bitand.ensures (legal_doubtful c.args.self.now.frontier.node.now.position c.args.from false c.bitor-among.result.bits _ _ (rw c.args.self.now.frontier.same at c.legal_destinations-ends.ensures.non_promoting))

pub mates_among-requires-else-mates_among : goal.mates_among-requires-else-mates_among
mates_among-requires-else-mates_among c = rw c.bitand-else-mates_among.ensures (legal_doubtful c.args.self.now.frontier.node.now.position c.args.from true c.bitor-among.result.bits _ _ (rw c.args.self.now.frontier.same at c.legal_destinations-ends.ensures.promoting))

pub returns-else-mates_among-clause-if_none : goal.returns-else-mates_among-clause-if_none
returns-else-mates_among-clause-if_none c = λ e. leave_from c.args.self.now.frontier.node.now.position c.args.from
    (leave_doubtful c.args.self.now.frontier.node.now.position c.args.from false c.bitor-among.result.bits _ _ (rw c.args.self.now.frontier.same at c.legal_destinations-ends.ensures.non_promoting)
    (rw c.bitor-among.ensures (in_first c.doubtful_ends-doubtful.result.non_promoting.bits c.doubtful_ends-doubtful.result.promoting.bits)) c.doubtful_ends-doubtful.ensures.non_promoting (rw c.bitand.ensures at (c.mates_among.ensures.if_none c.if-mates_among.false)))
    (leave_doubtful c.args.self.now.frontier.node.now.position c.args.from true c.bitor-among.result.bits _ _ (rw c.args.self.now.frontier.same at c.legal_destinations-ends.ensures.promoting)
    (rw c.bitor-among.ensures (in_second c.doubtful_ends-doubtful.result.non_promoting.bits c.doubtful_ends-doubtful.result.promoting.bits)) c.doubtful_ends-doubtful.ensures.promoting (rw c.bitand-else-mates_among.ensures at (c.mates_among-else-mates_among.ensures.if_none e)))

pub returns-then-is_empty-clause-if_none : goal.returns-then-is_empty-clause-if_none
returns-then-is_empty-clause-if_none c = λ _.
    let none : (n : ℕ) → has_bit (bit_or c.doubtful_ends-doubtful.result.non_promoting.bits c.doubtful_ends-doubtful.result.promoting.bits) n ≡ false = λ n. ap (λ (m : ℕ). has_bit m n) (sym c.bitor-among.ensures ∙ eqb-true _ 0 (sym c.is_empty.ensures ∙ c.if-is_empty.true)) ∙ has_bit-none n in
    leave_from c.args.self.now.frontier.node.now.position c.args.from
    (λ n h legal. c.doubtful_ends-doubtful.ensures.non_promoting.others n h (or_parts (has_bit c.doubtful_ends-doubtful.result.non_promoting.bits n) (has_bit c.doubtful_ends-doubtful.result.promoting.bits n) (sym (has_bit-or c.doubtful_ends-doubtful.result.non_promoting.bits c.doubtful_ends-doubtful.result.promoting.bits n) ∙ none n)).0 legal)
    (λ n h legal. c.doubtful_ends-doubtful.ensures.promoting.others n h (or_parts (has_bit c.doubtful_ends-doubtful.result.non_promoting.bits n) (has_bit c.doubtful_ends-doubtful.result.promoting.bits n) (sym (has_bit-or c.doubtful_ends-doubtful.result.non_promoting.bits c.doubtful_ends-doubtful.result.promoting.bits n) ∙ none n)).1 legal)
