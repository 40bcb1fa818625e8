use Rattle.std.proofs.Common.{◌≡◌, ◌∙◌, ap, subst, sym}
use Rattle.std.proofs.Math.Logic.{∥∥₁_elim}
use Rattle.std.proofs.Props.{props}
use Rattle.shogi_core.specs.declared.moves.Move.{Move}
use Rattle.shogi_eval.specs.declared.eval.Eval.{Eval}
use Rattle.shogi_eval.specs.Material.{taken_gain}
use Rattle.shogi_replies.specs.Threats.{put_by}
use Rattle.search_nodes.specs.declared.frame.Frame.{Frame}
use Rattle.search_nodes.specs.Threats.{GainsAtLeast}
use Rattle.search_nodes.proofs.Ahead.{taken_left}
use Rattle.search_nodes.proofs.AskedMoves.{asked_move}
use Rattle.search_nodes.proofs.asked_move.AskedMove.fails_low_if_taken.Goals as goal

pub returns : goal.returns
returns c = λ low plain taken.
    let f : Frame = c.args.self.now.frame.now in
    let m : Move = c.args.self.now.current.now in
    let gain : c.taken_gain.result ≡ taken_gain f.node.eval (put_by f.node.position m) =
    c.taken_gain.ensures.value ∙ (ap (λ (e : Eval). taken_gain e c.put-put.result) c.eval.ensures ∙ ap (taken_gain f.node.eval) (rw (c.of.ensures, c.as_position.ensures) at c.put-put.ensures)) in
    c.fails_low_by.ensures low (subst (GainsAtLeast f.node.position f.node.eval m) (sym gain)
    (∥∥₁_elim taken (Prim.hlevel props) (λ one. taken_left f.node.position f.node.eval plain m f.valid c.reveal_invariant.ensures.back (asked_move f m c.args.self.now.asked c.reveal_invariant.ensures.back).legal one)))
