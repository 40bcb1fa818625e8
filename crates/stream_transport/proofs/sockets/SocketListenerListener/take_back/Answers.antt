use Rattle.stream_transport.proofs.Telling.{told_rest, told_taken}
use Rattle.stream_transport.proofs.sockets.SocketListenerListener.take_back.Goals as goal

-- the bytes the stream took were recorded
pub returns-clause-back : goal.returns-clause-back
returns-clause-back g c = record {
  left = tt;
  taken = rw c.linger.ensures.past (told_taken c.args.self.now.past.back.items c.args.self.now.past.shut.items c.args.self.now.past.failed.items c.args.number c.and-self.result.items c.args.stream.written c.and-self.ensures);
}

pub returns-clause-rest : goal.returns-clause-rest
returns-clause-rest g c = rw c.linger.ensures.past (told_rest c.args.self.now.past.back.items c.args.self.now.past.shut.items c.args.self.now.past.failed.items c.args.number c.and-self.result.items c.args.stream.written c.and-self.ensures)
