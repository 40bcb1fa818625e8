use Rattle.std.proofs.Common.{arith, rules, FitsSigned, w32, ◌-◌, get_or}
use Rattle.std.proofs.lemmas.Int.{ints, to_z-of_z}
use mir.Val.{to_z, of_z}
use Rattle.search_nodes.specs.declared.frame.Frame.{Frame}
use Rattle.search_nodes.proofs.Nodes.{is_asked}
use Rattle.shogi_search.proofs.Places.{asked_below}
use Rattle.shogi_search.proofs.NarrowRoots.{root_below, widened, left_widened, child_widened}
use Rattle.shogi_search.proofs.stack.Stack.widen.Goals as goal

pub unreachable-requires : goal.unreachable-requires
unreachable-requires c = asked_below c.args.self.now _ c.requires.stack (omega (arith, c.requires.child)) (omega (arith, c.requires.stack.height_fits)) c.in_default.not-AwaitingChild

pub end_at-requires-clause-asked : goal.end_at-requires-clause-asked
end_at-requires-clause-asked c = is_asked _ _ c.in-AwaitingChild.is

pub end_at-requires-clause-open : goal.end_at-requires-clause-open
end_at-requires-clause-open c =
    let r = root_below c.args.self.now _ c.in-AwaitingChild.current c.requires (omega (arith, c.requires.stack.height_fits)) c.in-AwaitingChild.is in
    let f : Frame = get_or c.args.self.now.frames (c.args.self.now.height - 1) c.index-self-self.result in
    let fits : FitsSigned w32 c.args.self.now.beta = search rules in
    let same = to_z-of_z w32 c.args.self.now.beta fits in
    omega (arith, ints, r.at.beta_is, c.requires.less, f.«open», same)

pub returns-clause-stack : goal.returns-clause-stack
returns-clause-stack c =
    let r = root_below c.args.self.now _ c.in-AwaitingChild.current c.requires (omega (arith, c.requires.stack.height_fits)) c.in-AwaitingChild.is in
    let fits : FitsSigned w32 c.args.self.now.beta = search rules in
    widened c.args.self.now c.in-AwaitingChild.current _ c.end_at.new.self (to_z w32 (of_z w32 c.args.self.now.beta)) r c.requires.stack c.end_at.ensures.unchanged c.end_at.ensures.beta (to_z-of_z w32 c.args.self.now.beta fits)

pub returns-clause-child : goal.returns-clause-child
returns-clause-child c =
    let r = root_below c.args.self.now _ c.in-AwaitingChild.current c.requires (omega (arith, c.requires.stack.height_fits)) c.in-AwaitingChild.is in
    child_widened c.args.self.now c.in-AwaitingChild.current _ c.end_at.new.self (to_z w32 (of_z w32 c.args.self.now.beta)) r c.end_at.ensures.unchanged

pub returns-clause-left : goal.returns-clause-left
returns-clause-left c =
    let r = root_below c.args.self.now _ c.in-AwaitingChild.current c.requires (omega (arith, c.requires.stack.height_fits)) c.in-AwaitingChild.is in
    left_widened c.args.self.now c.in-AwaitingChild.current _ c.end_at.new.self (to_z w32 (of_z w32 c.args.self.now.beta)) r c.requires c.end_at.ensures.unchanged
