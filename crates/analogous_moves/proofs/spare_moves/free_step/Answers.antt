use Rattle.analogous_moves.proofs.Sets.{out_parts}
use Rattle.analogous_moves.proofs.spare_moves.free_step.Goals as goal

pub returns-then-not-is_empty : goal.returns-then-not-is_empty
returns-then-not-is_empty c =
    let out = out_parts c.quiet_steps.result.bits c.args.taken.bits c.lowest.result c.args.taken.fits c.lowest.ensures.range (rw c.without-steps.ensures at c.lowest.ensures.set) in
    rw c.of_index-to.ensures
    (record {
      on_board = (c.in-Some.ensures.some.range, c.lowest.ensures.range);
      among = c.pieces.invariant c.in-Some.from c.in-Some.ensures.some.set;
      other = out.1;
      step = c.quiet_steps.ensures c.lowest.result c.lowest.ensures.range out.0;
    })
