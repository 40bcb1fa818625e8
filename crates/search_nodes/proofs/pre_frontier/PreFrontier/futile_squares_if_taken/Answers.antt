use Rattle.std.proofs.Common.{◌∙◌, ap, arith}
use Rattle.std.proofs.lemmas.Int.{ints}
use Rattle.shogi_core.specs.declared.piece.Color.{Color}
use Rattle.shogi_core.specs.Position.{Shogi}
use Rattle.shogi_eval.specs.declared.eval.Eval.{Eval}
use Rattle.shogi_eval.specs.Material.{taken_gain}
use Rattle.shogi_moves.specs.After.{dropped}
use Rattle.search_nodes.specs.Threats.{AreThreatsIn}
use Rattle.search_nodes.specs.declared.frame.Frame.{Frame}
use Rattle.search_nodes.proofs.Rows.{taken_drops}
use Rattle.search_nodes.proofs.pre_frontier.PreFrontier.futile_squares_if_taken.Goals as goal

pub returns-then-drop_fails_low : goal.returns-then-drop_fails_low
returns-then-drop_fails_low c =
    let f : Frame = c.args.self.now.frame.now in
    let are : AreThreatsIn f.node.position f.node.eval c.in-Some.threats = c.args.self.now.found.1.1 c.in-Some.threats c.in-Some.is in
    taken_drops f are.plain c.in-Some.threats _ c.args.kind c.taken_gain.result c.args.code c.args.self.now.last are
    (c.taken_gain.ensures.value ∙ (ap (λ (e : Eval). taken_gain e c.dropped-put.result) c.eval.ensures ∙ ap (taken_gain f.node.eval) (c.dropped-put.ensures ∙ ap (λ (s : Color). dropped s c.args.kind) (c.side.ensures ∙ ap (λ (p : Shogi). p.side) c.as_position.ensures)))) (omega (arith, ints, c.taken_gain.ensures.range)) (c.drop_fails_low.ensures c.if-drop_fails_low.true)
