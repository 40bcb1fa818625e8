use Rattle.usi_texts.proofs.Appends.{after_three}
use Rattle.usi_texts.proofs.options.write_range.Goals as goal

pub returns : goal.returns
returns g c = after_three _ _ _ _ _ _ _ c.in_ok-write_number.ensures c.in_ok-write_number-2.ensures c.in_ok-extend_from_slice.ensures.items
