use Rattle.std.proofs.Common.{◌≡◌, ◌∙◌, arith, sym, subst, true}
use Rattle.std.proofs.Math.Logic.{∥∥₁_map}
use Rattle.shogi_core.specs.Position.{Shogi}
use Rattle.shogi_moves.specs.Legal.{is_legal}
use Rattle.shogi_replies.specs.Threats.{IsTaken}
use Rattle.search_nodes.proofs.Ahead.{retaken}
use Rattle.search_nodes.proofs.AskedMoves.{asked_move}
use Rattle.search_nodes.proofs.asked_move.AskedMove.is_retaken.Goals as goal

pub discovers_no_check-requires : goal.discovers_no_check-requires
discovers_no_check-requires c = record {
  legal = subst (λ (q : Shogi). is_legal q c.args.self.now.current.now ≡ true) (sym c.known.ensures) (asked_move c.args.self.now.frame.now c.args.self.now.current.now c.args.self.now.asked c.reveal_invariant.ensures.back).legal;
}

pub returns-then-discovers_no_check-clause-taken : goal.returns-then-discovers_no_check-clause-taken
returns-then-discovers_no_check-clause-taken c = λ _.
    ∥∥₁_map ((c.args.self.now.found.1.1 c.in-Some.threats c.in-Some.is).takes c.to.result (omega arith) (sym c.has.ensures ∙ c.if-has.true))
    (λ attacked. retaken c.args.self.now.frame.now.node.position c.args.self.now.current.now c.to.result (sym c.to.ensures) (rw c.known.ensures at (c.discovers_no_check.ensures c.if-discovers_no_check.true)) attacked)

pub returns-clause-taken : goal.returns-clause-taken
returns-clause-taken c = λ e.
    let legal : is_legal c.as_position.result.now c.args.self.now.current.now ≡ true = subst (λ (q : Shogi). is_legal q c.args.self.now.current.now ≡ true) (sym c.as_position.ensures) (asked_move c.args.self.now.frame.now c.args.self.now.current.now c.args.self.now.asked c.reveal_invariant.ensures.back).legal in
    let taken : IsTaken c.as_position.result.now c.args.self.now.current.now = c.king_takes.ensures.taken e legal in
    subst (λ (q : Shogi). ∥ IsTaken q c.args.self.now.current.now ∥₁) c.as_position.ensures ∣ taken ∣₁
