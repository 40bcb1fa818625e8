use Rattle.std.proofs.Common.{ap}
use Rattle.stream_transport.proofs.Noting.{noted}
use Rattle.stream_transport.proofs.sockets.SocketListenerListener.accept.Goals as goal

-- the call was recorded
pub returns-clause-asked : goal.returns-clause-asked
returns-clause-asked g c = rw (← c.answer_for-answer.ensures) (noted c.args.self.now.asked.items c.accept_with_room-accepted.new.self.asked.items c.and-self.result.items _ tt (ap (λ l. l.items) c.accept_with_room-accepted.ensures.asked) c.and-self.ensures)
