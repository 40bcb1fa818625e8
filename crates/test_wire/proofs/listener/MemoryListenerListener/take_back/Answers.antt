use Rattle.test_wire.proofs.Returning.{noted_bytes, noted_slice, of_left, of_rest, of_taken}
use Rattle.test_wire.specs.declared.returns.Remains.{Remains}
use Rattle.std.proofs.Common.{◌++◌}
use Rattle.test_wire.proofs.listener.MemoryListenerListener.take_back.Goals as goal

-- what remained of the stream was noted
pub returns-clause-back : goal.returns-clause-back
returns-clause-back g c =
    let remains : Remains = record { unread = c.note-2.new.self; written = c.note-3.new.self } in
    record {
      left = of_left c.args.self.now.returns.back.items c.args.self.now.past.shut.items c.args.self.now.past.failed.items c.args.number c.note-4.new.self.back.items remains (c.args.kept.now ++ c.args.stream.incoming.items) c.note-4.ensures (noted_bytes _ _ _ _ _ _ c.new-unread.ensures c.note.ensures c.note-2.ensures c.as_slice.ensures.value);
      taken = of_taken c.args.self.now.returns.back.items c.args.self.now.past.shut.items c.args.self.now.past.failed.items c.args.number c.note-4.new.self.back.items remains c.args.stream.written.items c.note-4.ensures (noted_slice _ _ _ _ c.new-written.ensures c.note-3.ensures c.as_slice-2.ensures.value);
    }

pub returns-clause-rest : goal.returns-clause-rest
returns-clause-rest g c = of_rest c.args.self.now.returns.back.items c.args.self.now.past.shut.items c.args.self.now.past.failed.items c.args.number c.note-4.new.self.back.items (record { unread = c.note-2.new.self; written = c.note-3.new.self }) c.note-4.ensures
