use Rattle.std.proofs.Common.{arith, ◌≡◌, ◌-ℤ◌, ◌<ℤ◌, ◌≤ℤ◌, ℤ, of_z, pos, to_z, w32}
use Rattle.std.proofs.lemmas.Int.{ints}
use Rattle.shogi_core.specs.declared.moves.Move.{Move}
use Rattle.minimax.proofs.Cover.{IsCovered-raise}
use Rattle.search_nodes.specs.Frames.{worth_of, move_alpha_of}
use Rattle.search_nodes.proofs.Answered.{exact_says, at_most_says, at_least_says}
use Rattle.search_nodes.proofs.Nodes.{at_depth, waits, of_current}
use Rattle.search_nodes.proofs.frame.Frame.back_up.Goals as goal

pub overflow_sub-worth : goal.overflow_sub-worth
overflow_sub-worth c =
    let e : _ = exact_says c.args.self.now c.args.current.now _ _ _ c.requires.deep c.requires.current c.in-Exact.is c.requires.truth in
    omega (arith, ints, e.least, e.most)

pub fail_low-requires : goal.fail_low-requires
fail_low-requires c =
    let e : _ = exact_says c.args.self.now c.args.current.now _ _ _ c.requires.deep c.requires.current c.in-Exact.is c.requires.truth in
    of_current c.args.self.now.state (λ (m : Move). worth_of c.args.self.now m ≤ℤ move_alpha_of c.args.self.now m) c.args.current.now c.requires.current (omega (arith, ints, e.is, c.move_alpha.ensures.move_alpha, c.if-worth-move_alpha.false))

pub fail_low-requires-in-AtLeast : goal.fail_low-requires-in-AtLeast
fail_low-requires-in-AtLeast c = of_current c.args.self.now.state (λ (m : Move). worth_of c.args.self.now m ≤ℤ move_alpha_of c.args.self.now m) c.args.current.now c.requires.current (at_least_says c.args.self.now c.args.current.now _ _ c.requires.deep c.in-AtLeast.is c.requires.truth c.requires.conclusive)

pub overflow_sub-v : goal.overflow_sub-v
overflow_sub-v c =
    let e : _ = at_most_says c.args.self.now c.args.current.now _ _ c.requires.deep c.requires.current c.in-AtMost.is c.requires.truth c.requires.conclusive in
    omega (arith, ints, e.least, e.cuts, c.args.self.now.«open»)

pub cut_off-requires-clause-worth : goal.cut_off-requires-clause-worth
cut_off-requires-clause-worth c =
    let e : _ = exact_says c.args.self.now c.args.current.now _ _ _ c.requires.deep c.requires.current c.in-Exact.is c.requires.truth in
    omega (arith, ints, e.is)

pub cut_off-requires-in-AtMost-clause-worth : goal.cut_off-requires-in-AtMost-clause-worth
cut_off-requires-in-AtMost-clause-worth c =
    let e : _ = at_most_says c.args.self.now c.args.current.now _ _ c.requires.deep c.requires.current c.in-AtMost.is c.requires.truth c.requires.conclusive in
    omega (arith, ints, e.worth_is)

pub cut_off-requires-in-AtMost-clause-beta : goal.cut_off-requires-in-AtMost-clause-beta
cut_off-requires-in-AtMost-clause-beta c =
    let e : _ = at_most_says c.args.self.now c.args.current.now _ _ c.requires.deep c.requires.current c.in-AtMost.is c.requires.truth c.requires.conclusive in
    omega (arith, ints, e.cuts)

pub invariant_of-self-clause-known : goal.invariant_of-self-clause-known
invariant_of-self-clause-known c =
    let v : ℤ = to_z w32 (of_z w32 (pos 0 -ℤ to_z w32 (of_z w32 c.in-Exact.v))) in
    let w : _ = waits _ _ _ _ _ _ _ _ _ _ c.requires.current c.args.self.now.known in
    let e : _ = exact_says c.args.self.now c.args.current.now _ _ _ c.requires.deep c.requires.current c.in-Exact.is c.requires.truth in
    let is : worth_of c.args.self.now c.args.current.now ≡ v = omega (arith, ints, e.is, e.least, e.most) in
    let above : move_alpha_of c.args.self.now c.args.current.now <ℤ v = omega (arith, ints, c.move_alpha.ensures.move_alpha, c.if-worth-move_alpha.true) in
    at_depth _ _ _ _ _ _ _ w.deep (IsCovered-raise _ _ _ _ _ _ _ _ w.covered is above)
