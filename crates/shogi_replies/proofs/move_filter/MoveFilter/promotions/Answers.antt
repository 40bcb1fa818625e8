use Rattle.std.proofs.lemmas.Bool.{both_ways}
use Rattle.shogi_core.proofs.BitLaws.{has_bit-none}
use Rattle.shogi_replies.proofs.move_filter.MoveFilter.promotions.Goals as goal

pub returns-else-self-clause-squares : goal.returns-else-self-clause-squares
returns-else-self-clause-squares c = rw c.none.ensures (λ n e. absurd (both_ways _ (has_bit-none n) e))

pub returns-else-self-clause-promotes : goal.returns-else-self-clause-promotes
returns-else-self-clause-promotes c = rw c.none.ensures (λ n e. absurd (both_ways _ (has_bit-none n) e))
