use Rattle.shogi_core.proofs.ZoneLaws.{around_right, around_fits}
use Rattle.shogi_core.proofs.zones.squares_around.Goals as goal

pub invariant_of-result : goal.invariant_of-result
invariant_of-result c = record { fits = around_fits c.index-index.result c.index-index.ensures.range }

pub returns : goal.returns
returns c = record { squares = λ n h. rw c.index-index.ensures.index (around_right c.args.square n (rw c.index-index.ensures.index at c.index-index.ensures.range) h) }
