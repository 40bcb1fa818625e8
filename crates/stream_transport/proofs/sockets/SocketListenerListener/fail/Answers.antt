use Rattle.stream_transport.proofs.Telling.{told_failed}
use Rattle.stream_transport.proofs.sockets.SocketListenerListener.fail.Goals as goal

-- the number was recorded
pub returns-clause-failed : goal.returns-clause-failed
returns-clause-failed g c = told_failed c.args.self.now.past.back.items c.args.self.now.past.shut.items c.args.self.now.past.failed.items c.args.number c.and-self.result.items c.and-self.ensures
