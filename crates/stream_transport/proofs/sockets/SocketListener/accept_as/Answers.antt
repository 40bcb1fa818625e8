use Rattle.std.specs.IoError.{error_kind}
use Rattle.stream_transport.specs.Streams.{fault_by}
use Rattle.stream_transport.proofs.Calling.{named_not}
use Rattle.stream_transport.proofs.sockets.SocketListener.accept_as.Goals as goal

-- a client came, but polls cannot name its stream
pub returns-in-Err-name-clause-calls : goal.returns-in-Err-name-clause-calls
returns-in-Err-name-clause-calls g c = named_not c.args.number (g.E.Endpoint.calls c.args.self.now.endpoint) (g.E.Endpoint.calls c.accept_one.new.self) (g.E.Endpoint.calls c.name.new.self) (fault_by (error_kind c.in-Err-name.field-0)) c.in-Ok.ensures.called c.in-Err-name.ensures.called
