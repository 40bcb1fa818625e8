use Rattle.std.proofs.Common.{◌-◌}
use Rattle.search_nodes.proofs.RefutedMoves.{found_kept}
use Rattle.search_nodes.proofs.pairs.kept_of.Goals as goal

pub returns-in-Pairs : goal.returns-in-Pairs
returns-in-Pairs c = λ p e d h. found_kept p e d c.args.found.now c.in-Pairs.kept c.in-Pairs.is h

pub returns-in_default : goal.returns-in_default
returns-in_default c = λ p e d h. c.none.ensures p e (d - 2)
