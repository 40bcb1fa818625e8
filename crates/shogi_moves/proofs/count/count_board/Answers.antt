use Rattle.std.proofs.Common.{arith, refl}
use Rattle.shogi_moves.proofs.TallyLaws.{all_left, board_counted, low_counted, low_own, piece_counted}
use Rattle.shogi_moves.proofs.count.count_board.Goals as goal

pub low-init : goal.low-init
low-init c = all_left c.args.known.now.position.now c.own-own.result.bits c.low_half-low.result c.bits_from-high.result c.low_half-low.type_inv (rw (c.side.ensures, c.as_board.ensures) at c.own-own.ensures.squares) c.low_half-low.ensures c.bits_from-high.ensures.below (λ n h over. c.bits_from-high.ensures.from n h over)

pub all_destinations-requires : goal.all_destinations-requires
all_destinations-requires c = rw (c.of_index-from.ensures, c.markings-markings.ensures) (low_own c.args.known.now.position.now c.low.low c.bits_from-high.result c.low.total c.lowest-square.result (omega arith) c.bits_from-high.ensures.below c.low.invariant c.lowest-square.ensures.range c.lowest-square.ensures.set c.lowest-square.ensures.least)

pub low-preserved : goal.low-preserved
low-preserved c = rw c.count_of-total.ensures (low_counted c.args.known.now.position.now c.low.low c.bits_from-high.result c.without_lowest-low.result c.low.total c.lowest-square.result c.all_destinations.result.non_promoting.bits c.all_destinations.result.promoting.bits (omega arith) c.bits_from-high.ensures.below c.low.invariant c.lowest-square.ensures.range c.lowest-square.ensures.set c.lowest-square.ensures.least c.without_lowest-low.ensures.bits
    c.all_destinations.result.non_promoting.fits c.all_destinations.result.promoting.fits (rw (c.of_index-from.ensures, c.markings-markings.ensures) at c.all_destinations.ensures.non_promoting) (rw (c.of_index-from.ensures, c.markings-markings.ensures) at c.all_destinations.ensures.promoting))

pub high-preserved : goal.high-preserved
high-preserved c =
    let taken = c.in-Some.ensures.some in
    rw c.count_of-total-in-Some.ensures (piece_counted c.args.known.now.position.now c.high.left c.next.new.self c.high.total c.in-Some.from c.all_destinations-in-Some.result.non_promoting.bits c.all_destinations-in-Some.result.promoting.bits c.high.invariant taken.range taken.set taken.least taken.rest
    c.all_destinations-in-Some.result.non_promoting.fits c.all_destinations-in-Some.result.promoting.fits (rw c.markings-markings.ensures at c.all_destinations-in-Some.ensures.non_promoting) (rw c.markings-markings.ensures at c.all_destinations-in-Some.ensures.promoting))

pub returns-clause-count : goal.returns-clause-count
returns-clause-count c = (board_counted c.args.known.now.position.now c.high.left c.high.total c.high.invariant (c.in_default.ensures.none refl)).0
