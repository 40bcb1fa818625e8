use Rattle.std.proofs.Common.{◌≡◌, sym, subst, true}
use Rattle.shogi_core.specs.Position.{Shogi}
use Rattle.shogi_moves.specs.Legal.{is_legal}
use Rattle.search_nodes.proofs.AskedMoves.{asked_move}
use Rattle.search_nodes.proofs.asked_move.AskedMove.is_lost_under_threat.Goals as goal

pub invariant_of-self-clause-found : goal.invariant_of-self-clause-found
invariant_of-self-clause-found c = c.look_for_threats.ensures c.args.self.now.found

pub invariant_of-self-2-clause-found : goal.invariant_of-self-2-clause-found
invariant_of-self-2-clause-found c = c.look_ahead.ensures (c.look_for_threats.ensures c.args.self.now.found)

pub guarantees_reply-requires : goal.guarantees_reply-requires
guarantees_reply-requires c = record {
  legal = subst (λ (q : Shogi). is_legal q c.args.self.now.current.now ≡ true) (sym c.known.ensures) (asked_move c.args.self.now.frame.now c.args.self.now.current.now c.args.self.now.asked c.reveal_invariant.ensures.back).legal;
}
