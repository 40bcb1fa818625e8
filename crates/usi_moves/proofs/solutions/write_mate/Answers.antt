use Rattle.mate_search.specs.declared.by_checks.TheConstants.{MOVES_MAX}
use Rattle.mate_search.proofs.MateLaws.{some_move}
use Rattle.usi_moves.proofs.SolutionLaws.{within}
use Rattle.usi_moves.proofs.solutions.write_mate.Goals as goal

pub write_found-requires-clause-least : goal.write_found-requires-clause-least
write_found-requires-clause-least g c = some_move c.args.p.now c.in-Some.n c.in-Some.ensures.least.1

pub write_found-requires-clause-most : goal.write_found-requires-clause-most
write_found-requires-clause-most g c = within c.in-Some.n c.args.options.most MOVES_MAX c.in-Some.ensures.least.0 c.requires.most
