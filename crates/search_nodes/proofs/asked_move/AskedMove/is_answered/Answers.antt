use Rattle.std.proofs.Common.{◌≡◌, sym, subst, true}
use Rattle.shogi_core.specs.Position.{Shogi}
use Rattle.shogi_moves.specs.Escapes.{AreEscapes}
use Rattle.shogi_moves.specs.Legal.{is_legal}
use Rattle.search_nodes.proofs.Ahead.{standing_quiet}
use Rattle.search_nodes.proofs.AskedMoves.{asked_move}
use Rattle.search_nodes.proofs.asked_move.AskedMove.is_answered.Goals as goal

pub guarantees_reply-requires : goal.guarantees_reply-requires
guarantees_reply-requires c = record {
  legal = subst (λ (q : Shogi). is_legal q c.args.self.now.current.now ≡ true) (sym c.known.ensures) (asked_move c.args.self.now.frame.now c.args.self.now.current.now c.args.self.now.asked c.reveal_invariant.ensures.back).legal;
}

pub at-requires-clause-escapes : goal.at-requires-clause-escapes
at-requires-clause-escapes c =
    subst (λ (q : Shogi). AreEscapes q c.look_for_escapes-escapes.result.bits) (sym c.as_position-p.ensures) (c.look_for_escapes-escapes.ensures.escapes (c.look_ahead.ensures c.args.self.now.found))

pub returns-clause-some : goal.returns-clause-some
returns-clause-some c = λ e.
    standing_quiet _ _ ((rw (c.at.ensures.position, c.as_position-p.ensures) at c.leaves_escape.ensures e) (asked_move c.args.self.now.frame.now c.args.self.now.current.now c.args.self.now.asked c.reveal_invariant.ensures.back).legal)

pub invariant_of-self-clause-found : goal.invariant_of-self-clause-found
invariant_of-self-clause-found c = c.look_ahead.ensures c.args.self.now.found

pub invariant_of-self-2-clause-found : goal.invariant_of-self-2-clause-found
invariant_of-self-2-clause-found c = c.look_for_escapes-escapes.ensures.unchanged (c.look_ahead.ensures c.args.self.now.found)
