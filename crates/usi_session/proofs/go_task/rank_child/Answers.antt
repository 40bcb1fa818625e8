use Rattle.std.proofs.Common.{sym}
use Rattle.shogi_search.specs.Ranked.{child_beta}
use Rattle.shogi_moves.specs.After.{after}
use Rattle.shogi_moves.proofs.LegalLaws.{after_code_of}
use Rattle.usi_session.specs.Walked.{walk_from}
use Rattle.usi_session.proofs.Listed.{root_move_some, some_listed}
use Rattle.usi_session.proofs.NextSearch.{ranked_on, under_start, next_child_cost}
use Rattle.usi_session.proofs.go_task.rank_child.Goals as goal

pub returns-in-Some-clause-at_phase : goal.returns-in-Some-clause-at_phase
returns-in-Some-clause-at_phase c =
    let q = c.args.depth.now.go_request in
    λ kept. record {
      several = c.requires.several;
      ranked = ranked_on q c.args.depth.now.done c.args.child.now.root_move c.in-Some.m c.rank.new.ranks c.rank.ensures c.in-Some.ensures.next;
      searched = under_start c.search_child.new.search (after q.position c.in-Some.m) q.eval c.args.depth.now.done (child_beta c.rank.new.ranks) c.search_child.ensures;
    }

pub line_of-walk-requires-clause-lines_done : goal.line_of-walk-requires-clause-lines_done
line_of-walk-requires-clause-lines_done c = some_listed c.args.depth.now.go_request c.args.depth.now.done c.args.depth.now.range.multi_pv_fits.least (root_move_some c.args.depth.now.go_request c.args.depth.now.done c.args.child.now.root_move c.args.child.now.ranks c.requires.ranked)

pub returns-in-Some-clause-cost : goal.returns-in-Some-clause-cost
returns-in-Some-clause-cost c =
    let q = c.args.depth.now.go_request in
    next_child_cost q c.args.depth.now.done c.args.child.now.root_move c.in-Some.m (walk_from q.position q.eval 0) c.search_child.new.search (child_beta c.rank.new.ranks) c.search_child.ensures (sym (after_code_of q.position c.in-Some.m c.reveal_invariant.ensures.back)) c.in-Some.ensures.next
