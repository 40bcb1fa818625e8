use Rattle.usi_texts.proofs.Appends.{after_three}
use Rattle.usi_texts.proofs.options.write_options.Goals as goal

pub returns : goal.returns
returns g c = after_three _ _ _ _ _ _ _ c.in_ok-write_spin.ensures c.in_ok-write_eval.ensures c.in_ok-write_spin-2.ensures
