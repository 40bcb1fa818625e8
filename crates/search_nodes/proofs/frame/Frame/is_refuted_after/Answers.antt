use Rattle.std.proofs.Common.{rules, arith, ◌≡◌, ◌-◌, ◌≤ℤ◌, ℕ, ℤ, FitsSigned, w32, subst}
use Rattle.std.proofs.lemmas.Int.{to_z-of_z}
use Rattle.shogi_core.specs.Codes.{code_of}
use Rattle.shogi_moves.specs.After.{after}
use Rattle.minimax.specs.Minimax.{worth}
use Rattle.commuting_moves.specs.Refuted.{AreRefuted}
use Rattle.search_nodes.specs.declared.frame.Frame.{Frame}
use Rattle.search_nodes.proofs.RefutedMoves.{found_kept}
use Rattle.search_nodes.proofs.frame.Frame.is_refuted_after.Goals as goal

pub returns : goal.returns
returns c serves deep legal =
    let f : Frame = c.args.self.now in
    let fits : FitsSigned w32 c.args.alpha = search rules in
    let kept : AreRefuted f.node.position f.node.eval (f.depth - 2) c.in-Pairs.kept = found_kept f.node.position f.node.eval f.depth f.refutations c.in-Pairs.kept c.in-Pairs.is f.refuted in
    let depth : f.depth - 2 - 1 ≡ f.depth - 3 = omega arith in
    subst (λ (n : ℕ). worth (after (after f.node.position c.args.m.now) c.args.reply.now) f.node.eval n (code_of c.args.other.now) ≤ℤ c.args.alpha) depth
    (subst (λ (alpha : ℤ). worth (after (after f.node.position c.args.m.now) c.args.reply.now) f.node.eval (f.depth - 2 - 1) (code_of c.args.other.now) ≤ℤ alpha) (to_z-of_z w32 c.args.alpha fits)
    (c.serves_after.ensures serves f.node.position f.node.eval (f.depth - 2) (omega (arith, deep)) f.valid legal kept))
