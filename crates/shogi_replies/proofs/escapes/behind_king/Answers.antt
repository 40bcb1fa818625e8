use Rattle.std.proofs.Common.{◌≡◌, ◌∙◌, ℕ, true, ap, subst}
use Rattle.std.proofs.lemmas.Bool.{both_ways}
use Rattle.shogi_core.specs.Bits.{has_bit}
use Rattle.shogi_core.specs.Pieces.{opponent_of}
use Rattle.shogi_core.proofs.BitLaws.{has_bit-none}
use Rattle.shogi_moves.proofs.DestinationLaws.{none_there}
use Rattle.shogi_replies.specs.Escapes.{HasRaysBehind}
use Rattle.shogi_replies.proofs.EscapeLaws.{only_king}
use Rattle.shogi_replies.proofs.escapes.behind_king.Goals as goal

pub returns-then-is_empty : goal.returns-then-is_empty
returns-then-is_empty c = rw c.none.ensures (λ k d hk hd crown lone. absurd (
    let side : c.opponent.result ≡ opponent_of c.args.p.now.side = c.opponent.ensures ∙ ap opponent_of c.side.ensures in
    both_ways (has_bit 0 k) (has_bit-none k) (subst (λ (m : ℕ). has_bit m k ≡ true) (none_there _ _ c.is_empty.ensures c.if-is_empty.true) ((rw (side, c.as_board.ensures) at c.kings-kings.ensures.squares) k hk ∙ crown))))

pub returns : goal.returns
returns c = λ k d hk hd crown lone.
    let side : c.opponent.result ≡ opponent_of c.args.p.now.side = c.opponent.ensures ∙ ap opponent_of c.side.ensures in
    let here : c.lowest.result ≡ k = only_king c.args.p.now c.kings-kings.result.bits c.lowest.result k (rw (side, c.as_board.ensures) at c.kings-kings.ensures.squares) c.lowest.ensures.range c.lowest.ensures.set lone in
    subst (λ (x : ℕ). HasRaysBehind d c.args.from x c.squares_behind.result.bits) here (rw c.of_index.ensures at (c.squares_behind.ensures d hd))
