use Rattle.std.proofs.Common.{◌∙◌}
use Rattle.shared_table.proofs.PackedLaws.{words_test}
use Rattle.shared_table.proofs.key.TableKeyPartialEq.eq.Goals as goal

pub returns : goal.returns
returns c = rw (← c.self.view_is, ← c.other.view_is) (c.eq.ensures ∙ words_test c.self.inside.words c.other.inside.words c.self.invariant c.other.invariant)
