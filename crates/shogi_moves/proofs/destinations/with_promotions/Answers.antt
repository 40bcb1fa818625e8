use Rattle.std.proofs.Common.{◌≡◌, ◌∙◌, sym, bit_and}
use Rattle.shogi_moves.proofs.DestinationLaws.{none_there, none_within, plain_all, promoting_none}
use Rattle.shogi_moves.proofs.destinations.with_promotions.Goals as goal
use Rattle.shogi_moves.proofs.destinations.with_promotions.Goals.{then-is_empty-via-then-is_empty, then-is_empty-via-else-is_empty+then-is_empty-2}

pub returns-then-is_empty-clause-non_promoting : goal.returns-then-is_empty-clause-non_promoting
returns-then-is_empty-clause-non_promoting c =
    let none : bit_and c.args.among.bits c.promoting_squares-zone.result.bits ≡ 0 = elim c.then-is_empty.branch [
      | then-is_empty-via-then-is_empty w ↦ none_within _ _ (none_there _ _ c.is_empty.ensures w.if-is_empty.true)
      | then-is_empty-via-else-is_empty+then-is_empty-2 w ↦ sym w.bitand.ensures ∙ none_there _ _ w.is_empty-else-is_empty.ensures w.if-is_empty-2.true
    ] in
    λ n h. plain_all c.args.among.bits c.promoting_squares-zone.result.bits c.args.from n c.args.cell (c.promoting_squares-zone.ensures.squares n h) none

pub returns-then-is_empty-clause-promoting : goal.returns-then-is_empty-clause-promoting
returns-then-is_empty-clause-promoting c =
    let none : bit_and c.args.among.bits c.promoting_squares-zone.result.bits ≡ 0 = elim c.then-is_empty.branch [
      | then-is_empty-via-then-is_empty w ↦ none_within _ _ (none_there _ _ c.is_empty.ensures w.if-is_empty.true)
      | then-is_empty-via-else-is_empty+then-is_empty-2 w ↦ sym w.bitand.ensures ∙ none_there _ _ w.is_empty-else-is_empty.ensures w.if-is_empty-2.true
    ] in
    rw c.none.ensures (λ n h. promoting_none c.args.among.bits c.promoting_squares-zone.result.bits n _ (c.promoting_squares-zone.ensures.squares n h) none)
