use Rattle.std.proofs.Common.{subst}
use Rattle.std.proofs.Math.Logic.{∥∥₁_elim}
use Rattle.std.proofs.Props.{props}
use Rattle.shogi_core.specs.declared.moves.Move.{Move}
use Rattle.shogi_moves.specs.After.{after}
use Rattle.shogi_replies.proofs.KingReplies.{taken_reply}
use Rattle.search_nodes.specs.declared.frame.Frame.{Frame}
use Rattle.search_nodes.specs.Frames.{HasReply}
use Rattle.search_nodes.proofs.Ahead.{standing_plain}
use Rattle.search_nodes.proofs.asked_move.AskedMove.has_reply.Goals as goal

pub invariant_of-self-clause-found : goal.invariant_of-self-clause-found
invariant_of-self-clause-found c = c.look_for_threats.ensures c.is_answered.new.self.found

pub returns-clause-some : goal.returns-clause-some
returns-clause-some c = λ e.
    let f : Frame = c.is_answered.new.self.frame.now in
    let m : Move = c.is_answered.new.self.current.now in
    let here : HasReply f m = standing_plain (after f.node.position m) f.node.eval (c.is_retaken.ensures.plain e)
    (∥∥₁_elim (c.is_retaken.ensures.taken e) (Prim.hlevel props) (λ taken. taken_reply f.node.position m taken)) in
    subst (λ (g : Frame). HasReply g c.args.self.now.current.now) c.is_answered.ensures.unchanged.1.0
    (subst (λ (k : Move). HasReply f k) c.is_answered.ensures.unchanged.1.1 here)
