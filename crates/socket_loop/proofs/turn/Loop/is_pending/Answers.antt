use Rattle.std.proofs.Common.{rules, ◌≡◌, sym, ◌∙◌}
use Rattle.socket_loop.proofs.Pending.{any_none, any_one}
use Rattle.socket_loop.proofs.turn.Loop.is_pending.Goals as goal

pub loop-connection-preserved : goal.loop-connection-preserved
loop-connection-preserved g c = any_none c.args.host.now c.as_slice-connection-items.result.now c.loop-connection.connection-index _ c.loop-connection-test.true c.loop-connection.invariant (sym c.pending.ensures ∙ c.if-pending.false)

pub returns-then-pending : goal.returns-then-pending
returns-then-pending g c =
    let same : c.as_slice-connection-items.result.now ≡ c.args.self.now.held = search rules in
    rw same at (sym (any_one c.args.host.now c.as_slice-connection-items.result.now c.loop-connection.connection-index _ c.loop-connection-test.true (sym c.pending.ensures ∙ c.if-pending.true)))
