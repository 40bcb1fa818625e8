use Rattle.usi_texts.proofs.Appends.{after_three}
use Rattle.usi_texts.proofs.text.write_usi.Goals as goal

pub returns : goal.returns
returns g c = after_three _ _ _ _ _ _ _ c.in_ok-extend_from_slice.ensures.items c.in_ok-write_options.ensures c.in_ok-extend_from_slice-2.ensures.items
