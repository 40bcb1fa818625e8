use Rattle.std.proofs.Common.{ap}
use Rattle.stream_transport.proofs.Noting.{noted}
use Rattle.stream_transport.proofs.sockets.SocketListenerListener.look.Goals as goal

-- the call was recorded
pub returns-clause-asked : goal.returns-clause-asked
returns-clause-asked g c = noted c.args.self.now.asked.items c.look_and_drain-looked.new.self.asked.items c.and-self.result.items _ tt (ap (λ l. l.items) c.look_and_drain-looked.ensures.asked) c.and-self.ensures
