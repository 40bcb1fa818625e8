use Rattle.std.proofs.Common.{◌≡◌, ℤ, to_z, of_z, arith, subst, w32, refl}
use Rattle.std.proofs.lemmas.Int.{ints, to_z-of_z}
use Rattle.std.proofs.lemmas.Bool.{false_from_ne_true}
use Rattle.shogi_core.specs.Bits.{has_bit}
use Rattle.shogi_core.specs.Codes.{code_of}
use Rattle.last_ply.specs.LastPly.{IsFirstFrom}
use Rattle.last_ply.proofs.PriorityMoves.{first_of_all, none_of_all}
use Rattle.last_ply.proofs.frontier.FrontierNode.first_on_board.Goals as goal

pub returns-in-Some-first_to_score-clause-some : goal.returns-in-Some-first_to_score-clause-some
returns-in-Some-first_to_score-clause-some c =
    let value : to_z w32 (of_z w32 c.args.score) ≡ c.args.score = to_z-of_z w32 c.args.score c.ranges.score in
    first_of_all c.args.self.now.node.now c.args.score c.in-Some.from (code_of c.in-Some-first_to_score.m) c.in-Some.ensures.some.range
    (subst (λ (v : ℤ). IsFirstFrom c.args.self.now.node.now v c.in-Some.from (code_of c.in-Some-first_to_score.m)) value (rw (c.moving_piece.ensures.frontier, c.moving_piece.ensures.from) at c.in-Some-first_to_score.ensures.some))
    (λ n below own m promote h legal same. c.pieces.invariant.passed n (omega (arith, below, c.in-Some.ensures.some.range)) own (false_from_ne_true (has_bit c.pieces.left n) (λ set. absurd (omega (arith, below, c.in-Some.ensures.some.least n set)))) m promote h legal (omega (arith, ints, same)))

pub returns-clause-if_none : goal.returns-clause-if_none
returns-clause-if_none c = λ _ more. none_of_all c.args.self.now.node.now c.args.score c.args.self.now.valid more
    (λ n h own m promote hm legal same. c.pieces.invariant.passed n h own (c.in_default.ensures.none refl n) m promote hm legal (omega (arith, ints, same)))
