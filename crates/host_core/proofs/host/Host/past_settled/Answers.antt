use Rattle.std.proofs.Common.{◌∙◌, length, refl, rules}
use Rattle.std.proofs.lemmas.Option.{slice_get_read}
use Rattle.host_core.proofs.Noted.{noted_settled}
use Rattle.host_core.proofs.host.Host.past_settled.Goals as goal

pub loop-slot-preserved : goal.loop-slot-preserved
loop-slot-preserved g c = record {
  on = search rules;
  passed =
      c.loop-slot.invariant.passed
      ∙ noted_settled c.self.inside.notes.items c.args.self.now c.loop-slot.slot c.index.result.now (rw (← c.self.view_is) c.self.invariant) (slice_get_read c.self.inside.notes.items (length c.self.inside.notes.items) c.loop-slot.slot c.index.result.now refl (search rules) c.index.ensures) (search rules);
}
