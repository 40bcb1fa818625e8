use Rattle.stream_transport.proofs.Leaving.{HavePassed, TellSame}
use Rattle.stream_transport.proofs.lingering.pass_all.Given as goal

-- the streams so far have fewer looks left, and the others are unchanged
abbrev pub invariant-loop-lingering : goal.invariant-loop-lingering
invariant-loop-lingering g l = record {
  passed : HavePassed l.looks l.fn.streams.items l.lingering-items l.lingering-index;
  same : TellSame g.S.ByteStream.is_shut l.fn.streams.items l.lingering-items;
}
