use Rattle.std.proofs.Common.{Ok, Err, refl}
use Rattle.std.specs.IoError.{error_kind}
use Rattle.stream_transport.specs.Streams.{fault_by}
use Rattle.stream_transport.proofs.sockets.SocketListener.linger.Goals as goal

-- the writing side was shut
pub returns-in-Ok-clause-lingers : goal.returns-in-Ok-clause-lingers
returns-in-Ok-clause-lingers g c = record {
  last = record c.args.stream { stream = c.end_writing.new.self };
  answer = Ok tt;
  ended = c.in-Ok.ensures.ended;
  left = tt;
  lingers = c.linger.ensures.lingers;
}

-- the writing side could not be shut
pub returns-in-Err-clause-lingers : goal.returns-in-Err-clause-lingers
returns-in-Err-clause-lingers g c = record {
  last = record c.args.stream { stream = c.end_writing.new.self };
  answer = Err (fault_by (error_kind c.in-Err.field-0));
  ended = c.in-Err.ensures.ended;
  left = refl;
  lingers = tt;
}
