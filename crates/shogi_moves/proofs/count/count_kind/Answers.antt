use Rattle.std.proofs.Common.{◌∙◌}
use Rattle.shogi_moves.proofs.DestinationLaws.{drop_matching}
use Rattle.shogi_moves.proofs.TallyLaws.{counted_drop, ones_most}
use Rattle.shogi_moves.proofs.count.count_kind.Goals as goal

pub returns-clause-count : goal.returns-clause-count
returns-clause-count c = counted_drop c.args.drops.now.position.now c.args.kind c.legal.result.bits c.legal.result.fits (λ n h. c.legal.ensures.squares n h ∙ drop_matching c.args.drops.now.position.now c.args.kind n h)

pub returns-clause-range : goal.returns-clause-range
returns-clause-range c = ones_most c.legal.result.bits c.legal.result.fits
