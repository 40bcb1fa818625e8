use Rattle.transport.specs.Report.{bytes_read}
use Rattle.std.proofs.Common.{Ok, length, take}
use Rattle.test_wire.proofs.Chunks.{all_left}
use Rattle.test_wire.proofs.peer.Peer.read.Goals as goal

-- what is given and what is left are all
pub returns-clause-consumed : goal.returns-clause-consumed
returns-clause-consumed g c = rw c.give.ensures.left (all_left c.args.self.now.chunks (length c.args.buf.now) (bytes_read (Ok c.give.result.0) (take c.give.result.1 c.give.new.buf)) c.give.ensures.given.read)
