use Rattle.usi_stdio.proofs.Noting.{noted_call}
use Rattle.usi_stdio.proofs.front_end.note.Goals as goal

-- the call was noted
pub returns : goal.returns
returns c = noted_call c.args.log.now.items c.and.result.items c.args.kind c.note.new.self c.new-moved.result.items c.args.bytes.now c.and.ensures c.note.ensures c.new-moved.ensures
