use Rattle.std.proofs.Common.{false, true}
use Rattle.last_ply.proofs.Scores.{all_legal, enters}
use Rattle.last_ply.proofs.moving_piece.MovingPiece.destinations.Goals as goal

pub legal_destinations-requires : goal.legal_destinations-requires
legal_destinations-requires c = rw c.args.self.now.frontier.now.same (enters c.args.self.now.frontier.now.node.now.position c.args.self.now.from c.args.self.now.targets.bits c.args.self.now.reach)

pub returns : goal.returns
returns c = record {
  non_promoting = λ n h. all_legal c.args.self.now.frontier.now.node.now.position c.args.self.now.from c.args.self.now.targets.bits c.legal_destinations.result.non_promoting.bits n false c.reveal_invariant.ensures h c.args.self.now.reach ((rw c.args.self.now.frontier.now.same at c.legal_destinations.ensures.non_promoting) n h);
  promoting = λ n h. all_legal c.args.self.now.frontier.now.node.now.position c.args.self.now.from c.args.self.now.targets.bits c.legal_destinations.result.promoting.bits n true c.reveal_invariant.ensures h c.args.self.now.reach ((rw c.args.self.now.frontier.now.same at c.legal_destinations.ensures.promoting) n h);
}
