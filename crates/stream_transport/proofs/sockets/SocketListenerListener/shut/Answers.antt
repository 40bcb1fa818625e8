use Rattle.stream_transport.proofs.Telling.{told_shut}
use Rattle.stream_transport.proofs.sockets.SocketListenerListener.shut.Goals as goal

-- the number was recorded
pub returns-clause-shut : goal.returns-clause-shut
returns-clause-shut g c = told_shut c.args.self.now.past.back.items c.args.self.now.past.shut.items c.args.self.now.past.failed.items c.args.number c.and-self.result.items c.and-self.ensures
