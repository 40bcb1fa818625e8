use Rattle.std.proofs.Common.{◌≡◌, rules, refl}
use Rattle.std.specs.Prelude.{IfSome, true}
use Rattle.shogi_moves.specs.Legal.{is_legal}
use Rattle.minimax.proofs.Best.{legal_best}
use Rattle.usi_session.proofs.Walk.{walked_none, walked_some, walk_same, cost_ends}
use Rattle.usi_session.proofs.RootLaws.{roots_end, roots_next}
use Rattle.usi_session.proofs.pv_walk.PvWalk.follow.Goals as goal

pub apply-self-inside-requires : goal.apply-self-inside-requires
apply-self-inside-requires c =
    let legal : IfSome c.args.found.now.best (λ m. is_legal c.self.inside.at m ≡ true) = legal_best c.self.inside.at c.self.inside.eval c.self.inside.plies _ (search rules) in
    rw c.in-Some.is at legal

pub returns-in-None-clause-unchanged : goal.returns-in-None-clause-unchanged
returns-in-None-clause-unchanged c =
    let s = c.self.inside in
    rw (← c.self.view_is) (walk_same s.eval s.at s.at s.plies 0 s.moves.items s.moves.items s.value _ (walked_none s.moves.items _ s.at s.eval s.plies _ (search rules) (search rules) c.in-None.is refl) (search rules))

pub returns-in-None-clause-cost : goal.returns-in-None-clause-cost
returns-in-None-clause-cost c = cost_ends c.self.inside.at c.self.inside.eval 0 _ refl

pub returns-in-Some-clause-unchanged : goal.returns-in-Some-clause-unchanged
returns-in-Some-clause-unchanged c =
    let s = c.self.inside in
    rw (← c.self.view_is) (walk_same s.eval s.at _ s.plies _ s.moves.items _ s.value _ (walked_some s.moves.items _ _ s.at _ s.eval s.plies c.in-Some.m _ (search rules) (search rules) c.in-Some.is c.push.ensures.items c.apply-self-inside.ensures.after refl) (search rules))

pub returns-in-None-clause-roots : goal.returns-in-None-clause-roots
returns-in-None-clause-roots c =
    let s = c.self.inside in
    rw (← c.self.view_is) (roots_end s.at s.eval s.plies _ (search rules) c.in-None.is)

pub returns-in-Some-clause-roots : goal.returns-in-Some-clause-roots
returns-in-Some-clause-roots c =
    let s = c.self.inside in
    rw (← c.self.view_is) (roots_next s.at _ s.eval s.plies c.in-Some.m _ (search rules) c.in-Some.is c.apply-self-inside.ensures.after)
