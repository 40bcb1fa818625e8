use Rattle.std.proofs.Common.{arith}
use Rattle.socket_loop.proofs.Tallies.{pending_more}
use Rattle.socket_loop.proofs.turn.Loop.count_pending.Goals as goal

pub loop-connection-preserved : goal.loop-connection-preserved
loop-connection-preserved g c = record {
  count = pending_more c.args.host.now c.as_slice-connection-items.result.now c.loop-connection.connection-index _ c.loop-connection.count c.pending.result c.one_if-count.result c.loop-connection-test.true c.loop-connection.invariant.count c.pending.ensures c.one_if-count.ensures.count;
  few = omega arith;
}
