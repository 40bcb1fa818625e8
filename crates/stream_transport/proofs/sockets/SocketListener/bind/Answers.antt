use Rattle.std.proofs.Common.{Ok, Err}
use Rattle.std.specs.IoError.{error_kind}
use Rattle.stream_transport.specs.Streams.{fault_by}
use Rattle.stream_transport.proofs.Calling.{binds_not}
use Rattle.stream_transport.proofs.sockets.SocketListener.bind.Goals as goal

-- no socket was made
pub returns-in-Err-listen-clause-made : goal.returns-in-Err-listen-clause-made
returns-in-Err-listen-clause-made g c = binds_not c.args.path.now (g.B.Binder.calls c.args.binder.now) (g.B.Binder.calls c.open.new.self) (g.B.Binder.calls c.listen.new.self) (Err (fault_by (error_kind c.in-Err-listen.field-0))) c.in-Ok.ensures.called c.in-Err-listen.ensures

-- polls cannot name the listener
pub returns-in-Err-name_listener-clause-made : goal.returns-in-Err-name_listener-clause-made
returns-in-Err-name_listener-clause-made g c = binds_not c.args.path.now (g.B.Binder.calls c.args.binder.now) (g.B.Binder.calls c.open.new.self) (g.B.Binder.calls c.listen.new.self) (Ok tt) c.in-Ok.ensures.called c.in-Ok-listen.ensures

pub returns-in-Ok-name_listener-clause-named : goal.returns-in-Ok-name_listener-clause-named
returns-in-Ok-name_listener-clause-named g c = (c.in-Ok.endpoint, (c.in-Ok.ensures.unused, c.in-Ok-name_listener.ensures))
