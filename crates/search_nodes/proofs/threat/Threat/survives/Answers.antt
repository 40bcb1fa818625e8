use Rattle.std.proofs.Common.{refl, sym, subst, ap, ◌∙◌}
use Rattle.shogi_core.specs.declared.moves.Move.{Move}
use Rattle.shogi_core.specs.declared.moves.Move.TheVariants.{Board, Drop}
use Rattle.shogi_replies.specs.Threats.{LeavesThreat, put_by}
use Rattle.search_nodes.proofs.threat.Threat.survives.Goals as goal

pub returns-then-index : goal.returns-then-index
returns-then-index c = λ aside p e threat put.
    subst (λ (m : Move). LeavesThreat p c.args.self.now.from c.args.self.now.target m) (sym c.in-Board.is) (
      (λ same. c.if-index.true (c.index.ensures.index ∙ (same ∙ sym c.index-in-Board.ensures.index))),
      c.is_non_interfering.ensures aside p e (Board c.in-Board.from c.in-Board.to c.in-Board.promote) threat (ap (put_by p) (sym c.in-Board.is) ∙ put) refl,
    )

pub returns-in-Drop : goal.returns-in-Drop
returns-in-Drop c = λ aside p e threat put.
    subst (λ (m : Move). LeavesThreat p c.args.self.now.from c.args.self.now.target m) (sym c.in-Drop.is)
    (c.is_non_interfering-in-Drop.ensures aside p e (Drop c.in-Drop.kind c.in-Drop.to) threat (ap (put_by p) (sym c.in-Drop.is) ∙ put) refl)
