use Rattle.shogi_core.proofs.CodesBack.{move_of-board}
use Rattle.shogi_core.specs.declared.moves.Move.TheVariants.{Board}
use Rattle.shogi_replies.proofs.ReplyLaws.{answered}
use Rattle.last_ply.proofs.MateLaws.{answered_code}
use Rattle.last_ply.proofs.Scores.{legal_parts}
use Rattle.last_ply.proofs.mates.MateSearch.non_mating_pieces.Goals as goal

pub returns : goal.returns
returns c = λ a ha set n promote h legal.
    let reached = (legal_parts c.args.self.now.frontier.node.now.position a n promote ha h legal).0 in
    answered_code c.args.self.now.frontier.node.now.position (Board a n promote) (move_of-board a n promote ha h) legal (answered c.args.self.now.frontier.node.now.position (Board a n promote) ((rw c.args.self.now.same at c.distant_pieces.ensures) a n promote ha h set reached))
