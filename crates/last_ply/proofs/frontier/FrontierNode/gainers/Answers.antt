use Rattle.std.proofs.Common.{sym, ◌∙◌, inl, inr, arith}
use Rattle.std.proofs.lemmas.Int.{ints}
use Rattle.std.proofs.lemmas.Bool.{or_cases, and_parts, and_from, both_ways, cases_Bool}
use Rattle.shogi_core.specs.Cell.{is_slider}
use Rattle.shogi_core.specs.Movement.{piece_at}
use Rattle.shogi_core.proofs.BitLaws.{has_bit-or, has_bit-and}
use Rattle.last_ply.proofs.Scores.{poor_piece, quiet_others, weaker}
use Rattle.last_ply.proofs.frontier.FrontierNode.gainers.Goals as goal

pub returns-then-base-still-clause-others : goal.returns-then-base-still-clause-others
returns-then-base-still-clause-others c = λ _ n h set out.
    poor_piece c.args.self.now.node.now.position c.args.self.now.node.now.eval n c.args.floor c.args.self.now.valid h (omega (arith, ints, c.if-base-still.true, c.score-base.ensures.value, c.score-base.ensures.least, c.score-base.ensures.most, c.max_nonslider_gain-still.ensures.range))
    (λ t ht r theirs. elim (cases_Bool (is_slider (piece_at c.args.self.now.node.now.position.cells t))) [
      | inl slides ↦ omega (
        arith,
        ints,
        c.takers_above.ensures.others t ht
            (rw c.bitand.ensures (has_bit-and c.args.self.now.foe.bits c.sliders-sliders.result.bits t ∙ and_from _ _ (c.args.self.now.foes t ht ∙ theirs) ((rw (c.as_board.ensures, c.as_position-p.ensures) at c.sliders-sliders.ensures.squares) t ht ∙ slides))) n h set out r,
      )
      | inr stays ↦ omega (arith, ints, (rw c.eval.ensures at c.max_nonslider_gain-still.ensures.most) (piece_at c.args.self.now.node.now.position.cells t) stays, c.if-base-still.true, c.score-base.ensures.value, c.score-base.ensures.least, c.score-base.ensures.most, c.max_nonslider_gain-still.ensures.range)
    ])

pub returns-then-base-still-2-clause-others : goal.returns-then-base-still-2-clause-others
returns-then-base-still-2-clause-others c = λ _ n h set out.
    poor_piece c.args.self.now.node.now.position c.args.self.now.node.now.eval n c.args.floor c.args.self.now.valid h (omega (arith, ints, c.if-base-still-2.true, c.score-base.ensures.value, c.score-base.ensures.least, c.score-base.ensures.most, c.max_nonslider_gain-still.ensures.least, c.max_nonslider_gain-still.ensures.range))
    (λ t ht r theirs. omega (arith, ints, c.takers_above-then-base-still-2.ensures.others t ht (c.args.self.now.foes t ht ∙ theirs) n h set out r))

pub returns-then-base-floor-clause-others : goal.returns-then-base-floor-clause-others
returns-then-base-floor-clause-others c = λ _ n h set out.
    poor_piece c.args.self.now.node.now.position c.args.self.now.node.now.eval n c.args.floor c.args.self.now.valid h (omega (arith, ints, c.if-base-floor.true, c.score-base.ensures.value, c.score-base.ensures.least, c.score-base.ensures.most))
    (λ t ht r theirs. absurd (both_ways _ ((rw c.as_position-p.ensures at c.takers-takers.ensures.if_none) n t h ht set out) (and_from _ _ r theirs)))

pub returns-clause-within : goal.returns-clause-within
returns-clause-within c = λ n e. elim (or_cases _ _ (sym (has_bit-or c.takers-takers.result.bits c.bitand-2.result.bits n) ∙ rw c.bitor-2.ensures at e)) [
  | inl takes ↦ c.takers-takers.ensures.within n takes
  | inr own ↦ (and_parts _ _ (sym (has_bit-and c.args.self.now.own.bits c.bitor.result.bits n) ∙ rw c.bitand-2.ensures at own)).0
]

pub returns-clause-others : goal.returns-clause-others
returns-clause-others c = λ base n h set out. weaker c.args.self.now.node.now.position c.args.self.now.node.now.eval n _ c.args.floor
    (quiet_others c.args.self.now.node.now.position c.args.self.now.node.now.eval c.args.self.now.own.bits c.takers-takers.result.bits c.squares_near_zone.result.bits c.sliders-sliders.result.bits n c.args.self.now.valid h c.args.self.now.owns (rw c.as_position-p.ensures at c.takers-takers.ensures.if_none) (rw (c.side.ensures, c.as_position-p.ensures) at c.squares_near_zone.ensures.squares) (rw (c.as_board.ensures, c.as_position-p.ensures) at c.sliders-sliders.ensures.squares) set (rw (c.bitor-2.ensures, c.bitand-2.ensures, c.bitor.ensures) at out))
    (omega (arith, ints, base))
