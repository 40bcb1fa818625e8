use Rattle.stream_transport.proofs.Telling.{blank_start}
use Rattle.stream_transport.proofs.sockets.StreamWire+SocketListener+E+A+A.bind.Goals as goal

pub returns-in-Ok-clause-blank : goal.returns-in-Ok-clause-blank
returns-in-Ok-clause-blank g c = blank_start _ _ _ _ c.in-Ok.ensures.past.0 c.in-Ok.ensures.past.1.0 c.in-Ok.ensures.past.1.1 c.new.ensures.report

pub returns-in-Ok-clause-named : goal.returns-in-Ok-clause-named
returns-in-Ok-clause-named g c = rw c.new.ensures.listener c.in-Ok.ensures.named
