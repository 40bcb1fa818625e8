use Rattle.std.proofs.Common.{arith, get_or, length, refl, subst, sym, ◌<◌, ◌-◌, ◌+◌, ◌∙◌}
use Rattle.std.proofs.lemmas.Int.{ints}
use Rattle.minimax.specs.Minimax.{negated}
use Rattle.shogi_core.specs.Position.{Shogi}
use Rattle.shogi_core.specs.declared.moves.Move.{Move}
use Rattle.shogi_eval.specs.Evaluated.{Evaluated}
use Rattle.search_nodes.specs.Frames.{position_after, move_alpha_of}
use Rattle.search_nodes.specs.Order.{IsWithinTree}
use Rattle.search_nodes.specs.Changes.{IsAt}
use Rattle.search_nodes.specs.Visits.{IsFree}
use Rattle.search_nodes.specs.declared.frame.Frame.{Frame}
use Rattle.search_nodes.proofs.Nodes.{asked}
use Rattle.shogi_search.specs.Stack.{AwaitsChild, IsStackWith}
use Rattle.shogi_search.specs.declared.stack.Stack.{Stack}
use Rattle.shogi_search.proofs.Places.{IsTop, read_on, read_top, on_with, stack_entered, left_child, left_once, found_at, room}
use Rattle.shogi_search.proofs.stack.Stack.push.Goals as goal

-- there is room above the node on top
room_above : (s : Stack) (d : Frame) (m : Move) (child : Evaluated) → s.height < length s.frames → IsStackWith s (AwaitsChild m child) → s.height + 1 < 16
room_above s d m child fits k =
    let deep : 2 < (get_or s.frames s.height d).depth = (read_on s d (AwaitsChild m child) fits k.top).deep in
    room s (get_or s.frames s.height d) (read_top s d fits) k.stack (omega (arith, deep))

pub bounds-self-self-2 : goal.bounds-self-self-2
bounds-self-self-2 g c = omega (arith, room_above c.args.self.now c.index-self-self.result c.args.current.now c.args.node.now (omega (arith, c.requires.stack.height_fits)) c.requires)

pub bounds-self-self-3 : goal.bounds-self-self-3
bounds-self-self-3 g c = omega (arith, room_above c.args.self.now c.index-self-self.result c.args.current.now c.args.node.now (omega (arith, c.requires.stack.height_fits)) c.requires)

pub listed-2 : goal.listed-2
listed-2 g c = omega (arith, room_above c.args.self.now c.index-self-self.result c.args.current.now c.args.node.now (omega (arith, c.requires.stack.height_fits)) c.requires)

pub listed-3 : goal.listed-3
listed-3 g c = omega (arith, room_above c.args.self.now c.index-self-self.result c.args.current.now c.args.node.now (omega (arith, c.requires.stack.height_fits)) c.requires)

pub enter-requires-clause-deep : goal.enter-requires-clause-deep
enter-requires-clause-deep g c = omega (arith, (read_on c.args.self.now c.index-self-self.result (AwaitsChild c.args.current.now c.args.node.now) (omega (arith, c.requires.stack.height_fits)) c.requires.top).deep)

pub enter-requires-clause-shallow : goal.enter-requires-clause-shallow
enter-requires-clause-shallow g c =
    let f : Frame = get_or c.args.self.now.frames c.args.self.now.height c.index-self-self.result in
    omega (arith, f.shallow)

pub enter-requires-clause-least : goal.enter-requires-clause-least
enter-requires-clause-least g c = omega (arith, ints, c.window-alpha.ensures.least, c.window-alpha.ensures.«open», c.window-alpha.ensures.most)

pub enter-requires-clause-open : goal.enter-requires-clause-open
enter-requires-clause-open g c = omega (arith, ints, c.window-alpha.ensures.least, c.window-alpha.ensures.«open», c.window-alpha.ensures.most)

pub enter-requires-clause-most : goal.enter-requires-clause-most
enter-requires-clause-most g c = omega (arith, ints, c.window-alpha.ensures.least, c.window-alpha.ensures.«open», c.window-alpha.ensures.most)

pub window-alpha-requires : goal.window-alpha-requires
window-alpha-requires g c = record { current = asked _ _ (read_on c.args.self.now c.index-self-self.result (AwaitsChild c.args.current.now c.args.node.now) (omega (arith, c.requires.stack.height_fits)) c.requires.top).asked }

pub overflow_sub-depth : goal.overflow_sub-depth
overflow_sub-depth g c = omega (arith, (read_on c.args.self.now c.index-self-self.result (AwaitsChild c.args.current.now c.args.node.now) (omega (arith, c.requires.stack.height_fits)) c.requires.top).deep)

pub returns : goal.returns
returns g c =
    let s : Stack = c.args.self.now in
    let m : Move = c.args.current.now in
    let f : Frame = get_or s.frames s.height c.index-self-self.result in
    let is : IsTop s f = read_top s c.index-self-self.result (omega (arith, c.requires.stack.height_fits)) in
    let waits : AwaitsChild m c.args.node.now f = read_on s c.index-self-self.result (AwaitsChild m c.args.node.now) (omega (arith, c.requires.stack.height_fits)) c.requires.top in
    let deep : 0 < f.depth = omega (arith, waits.deep) in
    let low : s.height + 1 < 16 = room_above s c.index-self-self.result m c.args.node.now (omega (arith, c.requires.stack.height_fits)) c.requires in
    let above : s.height + 1 < length s.frames = omega (arith, low) in
    let window : IsAt (position_after f m) f.node.eval (f.depth - 1) (negated f.beta) (negated (move_alpha_of f m)) c.enter.new.self = record {
      position = c.enter.ensures.place.position ∙ waits.position;
      eval = c.enter.ensures.place.eval ∙ waits.eval;
      depth = c.enter.ensures.place.depth;
      deep = c.enter.ensures.place.deep;
      alpha_is = omega (arith, ints, c.enter.ensures.place.alpha_is, c.window-alpha.ensures.alpha, c.window-alpha.ensures.least, c.window-alpha.ensures.«open», c.window-alpha.ensures.most);
      beta_is = omega (arith, ints, c.enter.ensures.place.beta_is, c.window-alpha.ensures.beta, c.window-alpha.ensures.least, c.window-alpha.ensures.«open», c.window-alpha.ensures.most);
    } in
    let counted : IsWithinTree (position_after f m) (f.depth - 1) c.enter.new.self.picker = subst (λ (p : Shogi). IsWithinTree p (f.depth - 1) c.enter.new.self.picker) waits.position c.enter.ensures.counted in
    record {
      ready = record {
        stack = stack_entered s f c.enter.new.self m c.unknown-self.result is c.requires.stack waits.asked deep low above window
            (found_at c.enter.new.self _ _ c.unknown-self.result (c.enter.ensures.place.position ∙ sym c.as_position-3.ensures) refl (c.unknown-self.ensures c.enter.new.self.node.eval));
        whole = λ root. absurd (omega (arith, root));
        top = on_with s (s.height + 1) c.enter.new.self (λ (top : Frame). IsFree top.state) above (rw c.enter.ensures.state tt);
      };
      height = refl;
      left = left_child s f c.enter.new.self m _ _ _ is c.requires.stack deep above window counted;
      once = λ whole. left_once s f c.enter.new.self m _ _ _ is c.requires.stack deep whole above window counted;
      unchanged = (refl, (refl, (refl, refl)));
      asks = c.child_hash_move_of-hash_move.ensures;
    }
