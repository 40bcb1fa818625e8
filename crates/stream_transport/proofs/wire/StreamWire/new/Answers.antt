use Rattle.stream_transport.proofs.Reports.{none_held}
use Rattle.stream_transport.proofs.wire.StreamWire.new.Goals as goal

pub returns-clause-report : goal.returns-clause-report
returns-clause-report g c = none_held g.L.Stream.ByteStream.unread g.L.Stream.ByteStream.written c.new-3.result.items (g.L.Listener.told c.args.listener) c.new.result.items c.new-3.ensures c.new.ensures.items
