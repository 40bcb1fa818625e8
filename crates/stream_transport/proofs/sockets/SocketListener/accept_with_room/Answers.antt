use Rattle.std.proofs.Common.{Err, rules}
use Rattle.stream_transport.specs.Streams.{answer_of}
use Rattle.stream_transport.specs.System.{IsAskedOnce}
use Rattle.stream_transport.specs.declared.listener.StreamFault.TheVariants.{Failed}
use Rattle.stream_transport.proofs.Calling.{again}
use Rattle.stream_transport.proofs.sockets.SocketListener.accept_with_room.Goals as goal

-- the accept failed, and is tried once more
pub returns-in-Err-Failed-clause-calls : goal.returns-in-Err-Failed-clause-calls
returns-in-Err-Failed-clause-calls g c =
    let failed : IsAskedOnce c.args.number (g.E.Endpoint.calls c.args.self.now.endpoint) (g.E.Endpoint.calls c.accept_as.new.self.endpoint) (Err Failed) = rw (c.in-Err-Failed.is, c.in-Err-Failed.field-0-is) at c.accept_as.ensures.calls in
    again c.args.number c.args.self.now.lingering (g.E.Endpoint.calls c.args.self.now.endpoint) (g.E.Endpoint.calls c.accept_as.new.self.endpoint) (g.E.Endpoint.calls c.accept_as-in-Err-Failed.new.self.endpoint) (answer_of c.accept_as-in-Err-Failed.result) (search rules) failed c.accept_as-in-Err-Failed.ensures.calls
