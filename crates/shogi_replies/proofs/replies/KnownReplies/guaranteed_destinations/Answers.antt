use Rattle.std.proofs.Common.{◌∙◌, sym, refl, inl, inr}
use Rattle.std.proofs.lemmas.Bool.{and_parts, or_cases}
use Rattle.shogi_core.proofs.BitLaws.{has_bit-and, has_bit-or}
use Rattle.shogi_moves.proofs.DestinationLaws.{some_there}
use Rattle.shogi_replies.proofs.replies.KnownReplies.guaranteed_destinations.Goals as goal

pub returns-clause-among : goal.returns-clause-among
returns-clause-among c = rw c.bitor.ensures (λ n e. elim (or_cases _ _ (sym (has_bit-or c.non_checking_destinations-open.result.bits c.escaped_destinations.result.bits n) ∙ e)) [
  | inl sure ↦ c.non_checking_destinations-open.ensures.among n sure
  | inr escaped ↦ (and_parts _ _ (sym (has_bit-and _ _ n) ∙ (rw c.without.ensures at (c.escaped_destinations.ensures.among n escaped)))).0
])

pub returns-clause-guaranteed : goal.returns-clause-guaranteed
returns-clause-guaranteed c = rw c.bitor.ensures (λ n h e. elim (or_cases _ _ (sym (has_bit-or c.non_checking_destinations-open.result.bits c.escaped_destinations.result.bits n) ∙ e)) [
  | inl set ↦ (let sure : _ = c.non_checking_destinations-open.ensures.guaranteed n h set in (sure.0, λ none. sure.1 refl))
  | inr escaped ↦ (c.escaped_destinations.ensures.answered n h escaped, λ none. absurd (some_there _ _ c.is_empty.ensures c.if-is_empty.false none))
])
