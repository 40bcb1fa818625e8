use Rattle.std.proofs.Common.{rules, arith, get_or, length, ◌≡◌, ◌<◌, ◌-◌, ℤ, w32, to_z, of_z, subst}
use Rattle.search_nodes.specs.declared.frame.Frame.{Frame}
use Rattle.search_nodes.specs.Frames.{move_alpha_of}
use Rattle.search_nodes.specs.Refuted.{IsRefutedAfter}
use Rattle.shogi_search.specs.declared.stack.Stack.{Stack}
use Rattle.shogi_search.proofs.Places.{IsTop, read_top}
use Rattle.shogi_search.proofs.RefutedOnStack.{lost_on_top}
use Rattle.shogi_search.proofs.stack.Stack.is_refuted_below.Goals as goal

pub returns : goal.returns
returns c refuted =
    let s : Stack = c.args.self.now in
    let fits : s.height < length s.frames = omega (arith, c.requires.stack.height_fits) in
    let top : Frame = get_or s.frames s.height c.index-self-self.result in
    let f : Frame = get_or s.frames (s.height - 2) c.index-self-self-2.result in
    let is : IsTop s top = read_top s c.index-self-self.result fits in
    let alpha : to_z w32 (of_z w32 c.move_alpha.result) ≡ move_alpha_of top c.args.current.now = search rules in
    lost_on_top s c.index-self-self-3.result c.index-self-self-2.result top c.in-AwaitingChild-AwaitingChild.m c.in-AwaitingChild-AwaitingChild.reply c.args.current.now c.requires.stack (omega (arith, c.if-self-lt2.false)) fits is
    c.in-AwaitingChild-AwaitingChild.is-0 c.in-AwaitingChild-AwaitingChild.is-1 c.requires.top c.reveal_invariant.ensures.back c.reveal_invariant-2.ensures.back c.reveal_invariant-3.ensures.back
    (subst (λ (a : ℤ). IsRefutedAfter f c.in-AwaitingChild-AwaitingChild.m c.in-AwaitingChild-AwaitingChild.reply c.args.current.now a) alpha (c.is_refuted_after.ensures refuted))
