use Rattle.stream_transport.proofs.Telling.{given_else, given_now}
use Rattle.stream_transport.proofs.wire.note_given.Goals as goal

-- the bytes of the read follow those given before
pub returns-clause-given : goal.returns-clause-given
returns-clause-given c = given_now c.args.log.now.items c.and.result.items c.args.number c.note.new.self c.new-bytes.result.items c.args.given.now c.and.ensures c.note.ensures c.new-bytes.ensures

pub returns-clause-others : goal.returns-clause-others
returns-clause-others c = λ other apart. given_else c.args.log.now.items c.and.result.items c.args.number other c.note.new.self apart c.and.ensures
