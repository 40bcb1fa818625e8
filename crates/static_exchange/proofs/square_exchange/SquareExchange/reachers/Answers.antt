use Rattle.static_exchange.proofs.UnderWay.{seen_mine}
use Rattle.static_exchange.proofs.square_exchange.SquareExchange.reachers.Goals as goal

pub returns : goal.returns
returns c = λ p e. c.reachers_among.ensures p.side p.cells (seen_mine p c.args.self.now c.reveal_invariant.ensures e c.occupied.result.bits c.occupied.ensures)
