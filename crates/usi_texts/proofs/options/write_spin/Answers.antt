use Rattle.usi_texts.proofs.Appends.{after_three}
use Rattle.usi_texts.proofs.options.write_spin.Goals as goal

pub returns : goal.returns
returns g c = after_three _ _ _ _ _ _ _ c.in_ok-write_name.ensures c.in_ok-write_number.ensures c.in_ok-write_range.ensures
