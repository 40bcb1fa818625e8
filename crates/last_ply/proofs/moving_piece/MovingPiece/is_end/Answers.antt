use Rattle.std.proofs.Common.{◌∙◌, true, false}
use Rattle.last_ply.proofs.Scores.{enters_some, legal_at}
use Rattle.last_ply.proofs.moving_piece.MovingPiece.is_end.Goals as goal

pub legal_destinations-ends-requires : goal.legal_destinations-ends-requires
legal_destinations-ends-requires c = rw (c.args.self.now.frontier.now.same, c.bitand-square.ensures) (enters_some c.args.self.now.frontier.now.node.now.position c.args.self.now.from c.args.self.now.targets.bits c.with.result.bits c.args.self.now.reach)

pub returns-then-promote : goal.returns-then-promote
returns-then-promote c = rw c.if-promote.true (c.has.ensures ∙ legal_at c.args.self.now.frontier.now.node.now.position c.args.self.now.from c.args.self.now.targets.bits c.with.result.bits c.legal_destinations-ends.result.promoting.bits c.args.to true c.reveal_invariant.ensures c.reveal_invariant-2.ensures c.args.self.now.reach (rw c.none.ensures at c.with.ensures)
    ((rw (c.args.self.now.frontier.now.same, c.bitand-square.ensures) at c.legal_destinations-ends.ensures.promoting) c.args.to c.reveal_invariant-2.ensures))

pub returns-else-promote : goal.returns-else-promote
returns-else-promote c = rw c.if-promote.false (c.has-else-promote.ensures ∙ legal_at c.args.self.now.frontier.now.node.now.position c.args.self.now.from c.args.self.now.targets.bits c.with.result.bits c.legal_destinations-ends.result.non_promoting.bits c.args.to false c.reveal_invariant.ensures c.reveal_invariant-2.ensures c.args.self.now.reach (rw c.none.ensures at c.with.ensures)
    ((rw (c.args.self.now.frontier.now.same, c.bitand-square.ensures) at c.legal_destinations-ends.ensures.non_promoting) c.args.to c.reveal_invariant-2.ensures))
