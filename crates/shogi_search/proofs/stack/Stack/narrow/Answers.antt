use Rattle.std.proofs.Common.{refl, FitsSigned, w32, ap, arith, get_or, length, rules, ◌≡◌, ◌<◌}
use Rattle.std.proofs.lemmas.Int.{ints, to_z-of_z}
use lib.IntN.{◌+ℤ◌, pos}
use mir.Val.{to_z, of_z}
use Rattle.search_nodes.specs.Visits.{IsAsked}
use Rattle.search_nodes.specs.declared.frame.Frame.{Frame}
use Rattle.shogi_search.specs.declared.stack.Stack.{Stack}
use Rattle.shogi_search.proofs.Places.{HasTop, IsTop, has_top, one_top, read_on, read_top}
use Rattle.shogi_search.proofs.NarrowRoots.{left_narrowed, narrowed, top_narrowed, top_same}
use Rattle.shogi_search.proofs.stack.Stack.narrow.Goals as goal

pub returns-then-self-gt0-clause-top : goal.returns-then-self-gt0-clause-top
returns-then-self-gt0-clause-top c =
    let t : HasTop c.args.self.now (λ (top : Frame). IsAsked top.state) = has_top c.args.self.now _ c.requires.top in
    top_same c.args.self.now t.top t.is

pub returns-then-is_none-clause-top : goal.returns-then-is_none-clause-top
returns-then-is_none-clause-top c =
    let t : HasTop c.args.self.now (λ (top : Frame). IsAsked top.state) = has_top c.args.self.now _ c.requires.top in
    top_same c.args.self.now t.top t.is

pub end_at-requires-clause-asked : goal.end_at-requires-clause-asked
end_at-requires-clause-asked c = read_on c.args.self.now c.index-self-self-2.result (λ (top : Frame). IsAsked top.state) (omega (arith, c.requires.stack.height_fits)) c.requires.top

pub end_at-requires-clause-open : goal.end_at-requires-clause-open
end_at-requires-clause-open c =
    let s : Stack = c.args.self.now in
    let f : Frame = get_or s.frames s.height c.index-self-self.result in
    let g : Frame = get_or s.frames s.height c.index-self-self-2.result in
    let low : s.height < length s.frames = omega (arith, c.requires.stack.height_fits) in
    let same : f ≡ g = one_top s f g (read_top s c.index-self-self.result low) (read_top s c.index-self-self-2.result low) in
    omega (arith, ints, ap (λ (x : Frame). x.best_value) same, f.«open», f.most, f.least)

pub end_at-requires-clause-most : goal.end_at-requires-clause-most
end_at-requires-clause-most c =
    let fits : FitsSigned w32 c.args.self.now.beta = search rules in
    let same = to_z-of_z w32 c.args.self.now.beta fits in
    omega (arith, ints, same, c.if-bound-self.false, c.requires.stack.most)

pub returns : goal.returns
returns c =
    let s : Stack = c.args.self.now in
    let f : Frame = get_or s.frames s.height c.index-self-self-2.result in
    let is : IsTop s f = read_top s c.index-self-self-2.result (omega (arith, c.requires.stack.height_fits)) in
    let fits : FitsSigned w32 s.beta = search rules in
    let same = to_z-of_z w32 s.beta fits in
    let root : s.height ≡ 0 = omega (arith, c.if-self-gt0.false) in
    let best : Frame = get_or s.frames s.height c.index-self-self.result in
    record {
      stack = narrowed s f c.end_at.new.self _ is c.requires.stack root c.end_at.ensures.unchanged c.end_at.ensures.beta (omega (arith, ints, same, c.if-bound-self.false));
      height = refl;
      top = top_narrowed s f c.end_at.new.self (to_z w32 (of_z w32 (to_z w32 (of_z w32 best.best_value) +ℤ pos 1))) is c.end_at.ensures.unchanged;
      left = left_narrowed s f c.end_at.new.self _ is c.requires.stack root c.end_at.ensures.unchanged;
      unchanged = (refl, (refl, (refl, refl)));
    }
