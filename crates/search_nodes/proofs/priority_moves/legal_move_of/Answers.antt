use Rattle.std.proofs.Common.{refl}
use Rattle.search_nodes.proofs.FirstLaws.{no_move_legal}
use Rattle.search_nodes.proofs.priority_moves.legal_move_of.Goals as goal

pub returns-in_err-m-clause-if_none : goal.returns-in_err-m-clause-if_none
returns-in_err-m-clause-if_none c _ = no_move_legal c.args.p.now c.args.code (c.in_err-m.ensures.if_none.0 refl)
