use Rattle.std.proofs.Common.{refl}
use Rattle.stream_transport.proofs.Noting.{noted}
use Rattle.stream_transport.proofs.sockets.SocketStreamByteStream.send.Goals as goal

-- the call was recorded
pub returns-clause-called : goal.returns-clause-called
returns-clause-called g c = noted c.args.self.now.calls.items c.args.self.now.calls.items c.and-self.result.items _ tt refl c.and-self.ensures
