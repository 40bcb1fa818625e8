use Rattle.std.proofs.Common.{ap, ◌∙◌, ◌++◌, flat_map}
use Rattle.std.proofs.lemmas.List.{take_all}
use Rattle.usi_texts.proofs.Appends.{part_more}
use Rattle.usi_texts.proofs.parts.write_parts.Goals as goal

pub loop-part-preserved : goal.loop-part-preserved
loop-part-preserved g c =
    part_more (λ part. part.now) c.args.out.now.items c.loop-part.out.items _ c.args.parts.now c.loop-part.part-index _ c.loop-part-test.true c.loop-part.invariant c.in_ok-extend_from_slice.ensures.items

pub returns : goal.returns
returns g c =
    c.loop-part.invariant ∙ ap (λ parts. c.args.out.now.items ++ flat_map (λ part. part.now) parts) (take_all c.loop-part.part-index c.args.parts.now c.loop-part-test.false)
