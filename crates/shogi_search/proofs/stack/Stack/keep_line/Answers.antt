use Rattle.std.proofs.Common.{arith, get_or}
use Rattle.search_nodes.specs.declared.frame.Frame.{Frame}
use Rattle.shogi_search.proofs.CallLaws.{asks_further, only_asks_none, only_at_most}
use Rattle.shogi_search.proofs.stack.Stack.keep_line.Goals as goal

pub returns-then-root-lt-DEEP_ROOT_MIN : goal.returns-then-root-lt-DEEP_ROOT_MIN
returns-then-root-lt-DEEP_ROOT_MIN g c = only_asks_none g.M.Memo _ 14

pub line-init : goal.line-init
line-init g c = record { fewer = omega arith; above = omega arith; asks = only_asks_none g.M.Memo _ _ }

pub line-preserved : goal.line-preserved
line-preserved g c = record {
  fewer = omega (arith, c.line.invariant.fewer);
  above = omega arith;
  asks = asks_further c.line.invariant.asks c.child_hash_move_of-next.ensures (omega (arith, c.line.invariant.fewer));
}

pub returns : goal.returns
returns g c =
    let f : Frame = get_or c.args.self.now.frames 0 c.index-self-0.result in
    only_at_most c.line.invariant.asks (omega (arith, c.line.invariant.fewer, c.line.invariant.above, f.shallow))
