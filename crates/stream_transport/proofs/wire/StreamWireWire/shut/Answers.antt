use Rattle.std.proofs.Common.{rules, ◌≡◌, ◌∙◌, sym}
use Rattle.stream_transport.specs.Held.{given_under}
use Rattle.stream_transport.proofs.Reports.{shuts_held}
use Rattle.stream_transport.proofs.wire.StreamWireWire.shut.Goals as goal

-- the listener takes the stream back, with the bytes kept
pub returns-in-Some-clause-shut : goal.returns-in-Some-clause-shut
returns-in-Some-clause-shut g c =
    let kept : c.as_slice.result.now ≡ c.in-Some.connection.buffer.kept = search rules in
    shuts_held g.L.Stream.ByteStream.unread g.L.Stream.ByteStream.written (given_under c.args.self.now.given.items) _ (g.L.Listener.told c.shut.new.self) _ _ _ _ _ c.in-Some.connection (sym c.remove.ensures.out ∙ c.in-Some.is) c.remove.ensures.if_none c.remove.ensures.others c.shut.ensures.shut (rw kept at c.take_back.ensures.back) c.take_back.ensures.rest

pub returns-in-Some-clause-others : goal.returns-in-Some-clause-others
returns-in-Some-clause-others g c = c.remove.ensures.others
