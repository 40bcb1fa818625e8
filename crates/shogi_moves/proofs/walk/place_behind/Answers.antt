use Rattle.std.proofs.Common.{◌∙◌, ap, arith}
use Rattle.shogi_moves.specs.LegalMoves.{legal_from}
use Rattle.shogi_moves.proofs.SweepLaws.{all_drops}
use Rattle.shogi_moves.proofs.walk.place_behind.Goals as goal

pub returns-in-Drop-clause-codes : goal.returns-in-Drop-clause-codes
returns-in-Drop-clause-codes c = rw (c.in-Some.is, c.in-Drop.is) (all_drops c.args.p.now c.above.result.code (omega (arith, c.above.ensures.consistent.destinations.low)) ∙ ap (legal_from c.args.p.now) c.above.ensures.code)
