use Rattle.std.proofs.Common.{◌∙◌, arith, sym, refl}
use Rattle.std.proofs.lemmas.Int.{ints}
use Rattle.std.proofs.lemmas.Bool.{and_parts}
use Rattle.shogi_core.proofs.BitLaws.{has_bit-and}
use Rattle.last_ply.specs.LastPly.{TakesTooLittle, TakesLittle}
use Rattle.last_ply.proofs.Squares.{one_victim_more, out_within}
use Rattle.last_ply.proofs.frontier.FrontierNode.takers_above.Goals as goal

pub victims-preserved : goal.victims-preserved
victims-preserved c = λ t ht victim gone n hn out r. (
    let poor : TakesTooLittle c.args.self.now.node.now t c.args.floor = one_victim_more c.args.victims.bits c.victims.left c.next.new.self c.in-Some.square c.victims.squares.bits c.squares_taking.result.bits
    (TakesLittle c.args.self.now.node.now c.args.floor) c.in-Some.ensures.some.rest
    (λ t ht victim left n hn out r. omega (arith, ints, c.victims.invariant t ht victim left n hn out r))
    (λ n hn out r. omega (arith, ints, c.squares_taking.ensures n hn out r)) t ht victim gone n hn (rw c.bitor-squares.ensures at out) r in
    omega (arith, ints, poor))

pub returns-clause-within : goal.returns-clause-within
returns-clause-within c = λ n e. (and_parts _ _ (sym (has_bit-and c.args.self.now.own.bits c.victims.squares.bits n) ∙ rw c.bitand.ensures at e)).0

pub returns-clause-others : goal.returns-clause-others
returns-clause-others c = λ t ht victim n hn set out r. omega (arith, ints, c.victims.invariant t ht victim (c.in_default.ensures.none refl t) n hn (out_within c.args.self.now.own.bits c.victims.squares.bits n set (rw c.bitand.ensures at out)) r)
