use Rattle.std.proofs.Common.{◌≡◌, ◌∙◌, sym, subst, false, Bool}
use Rattle.std.specs.Prelude.{◌&&◌}
use Rattle.std.proofs.lemmas.Bool.{and_parts}
use Rattle.shogi_core.specs.Movement.{piece_at, reaches}
use Rattle.shogi_core.proofs.BitLaws.{has_bit-and}
use Rattle.shogi_moves.specs.Destinations.{is_destination}
use Rattle.shogi_moves.proofs.MoverLaws.{reaches_none}
use Rattle.shogi_moves.proofs.movers.matching_movers.Goals as goal

pub returns-clause-within : goal.returns-clause-within
returns-clause-within c = λ n e. (and_parts _ _ (sym (has_bit-and _ _ n) ∙ e)).0

pub returns-clause-if_none : goal.returns-clause-if_none
returns-clause-if_none c = λ n t hn ht set out.
    subst (λ (capture : Bool). (reaches c.args.p.now.cells n t && is_destination capture c.args.p.now.side (piece_at c.args.p.now.cells t)) ≡ false) (sym c.if-not-capture.false)
    (reaches_none c.args.p.now c.args.pieces.bits c.sliders.result.bits c.squares_near-near.result n t hn ht set out (rw c.as_board-board.ensures at c.sliders.ensures.squares)
    (λ theirs near. c.squares_near-near.ensures n t hn ht ((rw (c.opponent.ensures, c.side.ensures, c.as_board-board.ensures) at c.own.ensures.squares) t ht ∙ theirs) near))
