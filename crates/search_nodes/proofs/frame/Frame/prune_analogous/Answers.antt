use Rattle.std.proofs.Common.{ℕ, rules, ◌≡◌, ◌≤ℤ◌, ◌∙◌, true, subst, arith, FitsSigned, w32}
use Rattle.std.proofs.lemmas.Int.{ints, to_z-of_z}
use Rattle.shogi_core.specs.declared.moves.Move.{Move}
use Rattle.shogi_moves.specs.Legal.{is_legal}
use Rattle.shogi_moves.proofs.LegalLaws.{listed_to_legal}
use Rattle.shogi_eval.specs.Evaluated.{Evaluated}
use Rattle.analogous_moves.specs.Analogies.{AreAnalogous}
use Rattle.search_nodes.specs.declared.frame.Frame.{Frame}
use Rattle.search_nodes.specs.Frames.{IsLost, move_alpha_of, worth_of}
use Rattle.search_nodes.proofs.Nodes.{asked, of_current, waits}
use Rattle.search_nodes.proofs.RefutedMoves.{found_analogous}
use Rattle.search_nodes.proofs.Rows.{lost_kept}
use Rattle.search_nodes.proofs.frame.Frame.prune_analogous.Goals as goal

pub fail_low-requires : goal.fail_low-requires
fail_low-requires c =
    let f : Frame = c.args.self.now in
    let g : Frame = c.look_for_analogous.new.self in
    let m : Move = c.args.current.now in
    let w : _ = waits _ _ _ _ _ _ _ _ _ _ (asked _ _ c.requires.asked) f.known in
    let legal : is_legal f.node.position m ≡ true = listed_to_legal _ _ c.reveal_invariant.ensures.back w.is_listed in
    let analogous : AreAnalogous f.node.position f.node.eval f.depth c.in-Analogous.analogous = subst (λ (n : ℕ). AreAnalogous f.node.position f.node.eval n c.in-Analogous.analogous) c.look_for_analogous.ensures.0.1.0 (subst (λ (n : Evaluated). AreAnalogous n.position n.eval g.depth c.in-Analogous.analogous) c.look_for_analogous.ensures.0.0 (found_analogous g.node.position g.node.eval g.depth g.refutations c.in-Analogous.analogous c.in-Analogous.is g.refuted)) in
    let few : worth_of f m ≤ℤ c.in-Analogous.analogous.most = (analogous m c.has.ensures.on_board (c.has.ensures.among c.if-not-has.false) (c.is_quiet.ensures c.if-not-is_quiet.false) legal) in
    let fits : FitsSigned w32 c.in-Analogous.analogous.most = search rules in
    let same = to_z-of_z w32 c.in-Analogous.analogous.most fits in
    let lost : worth_of f m ≤ℤ move_alpha_of f m = omega (arith, ints, few, same, c.move_alpha-move_alpha.ensures.move_alpha, c.if-analogous-move_alpha.false) in
    of_current g.state (IsLost g) m (asked _ _ (c.look_for_analogous.ensures.1.1.0 ∙ c.requires.asked)) (lost_kept f g m c.look_for_analogous.ensures lost)
