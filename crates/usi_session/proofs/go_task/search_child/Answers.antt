use Rattle.std.specs.Prelude.{FitsSigned}
use Rattle.std.proofs.Common.{rules, subst, sym, w32}
use Rattle.std.proofs.lemmas.Int.{to_z-of_z}
use Rattle.shogi_search.specs.Progress.{IsBeta}
use Rattle.usi_session.proofs.NextSearch.{child_window, child_legal}
use Rattle.usi_session.proofs.go_task.search_child.Goals as goal

pub child_beta-requires : goal.child_beta-requires
child_beta-requires c =
    let w = child_window c.args.depth.now.go_request c.args.depth.now.done c.args.root_move c.args.ranks.now c.reveal_invariant-2.ensures c.args.depth.now.range c.args.depth.now.left c.requires.ranked in
    record { above = w.0; most = w.1 }

pub apply-next-requires : goal.apply-next-requires
apply-next-requires c = child_legal c.args.depth.now.go_request c.args.depth.now.done c.args.root_move c.args.ranks.now c.reveal_invariant.ensures.back c.requires.ranked

pub restart_below-requires-clause-beta : goal.restart_below-requires-clause-beta
restart_below-requires-clause-beta c =
    let f : FitsSigned w32 c.child_beta.result = search rules in
    subst IsBeta (sym (to_z-of_z _ _ f)) c.child_beta.ensures.beta
