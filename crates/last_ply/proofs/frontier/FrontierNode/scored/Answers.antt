use Rattle.std.proofs.Common.{◌≡◌, true, arith, ap, sym, ◌∙◌, ℤ, pos, ◌-ℤ◌}
use Rattle.std.proofs.lemmas.Int.{ints}
use Rattle.shogi_core.specs.Codes.{code_of}
use Rattle.shogi_moves.specs.LegalMoves.{legal_codes}
use Rattle.shogi_moves.specs.Rising.{is_in}
use Rattle.shogi_moves.proofs.LegalLaws.{after_code_of, legal_to_listed}
use Rattle.shogi_eval.specs.Material.{material_of}
use Rattle.last_ply.specs.LastPly.{raw_score}
use Rattle.last_ply.proofs.Composing.{raw_bounds}
use Rattle.last_ply.proofs.frontier.FrontierNode.scored.Goals as goal

pub overflow_sub-result : goal.overflow_sub-result
overflow_sub-result c =
    let i : is_in (code_of c.args.m.now) (legal_codes c.args.self.now.node.now.position) ≡ true = legal_to_listed _ _ c.reveal_invariant.ensures.back c.requires in
    let b : _ = raw_bounds c.args.self.now.node.now.position c.args.self.now.node.now.eval (code_of c.args.m.now) c.args.self.now.valid i in
    let s : raw_score c.args.self.now.node.now.position c.args.self.now.node.now.eval (code_of c.args.m.now) ≡ pos 0 -ℤ c.score_after.result = ap (λ x. pos 0 -ℤ material_of x c.args.self.now.node.now.eval) (after_code_of c.args.self.now.node.now.position c.args.m.now c.reveal_invariant.ensures.back) ∙ ap (λ (x : ℤ). pos 0 -ℤ x) (sym c.score_after.ensures) in
    omega (arith, ints, b.0, b.1, s)

pub invariant_of-result : goal.invariant_of-result
invariant_of-result c =
    let i : is_in (code_of c.args.m.now) (legal_codes c.args.self.now.node.now.position) ≡ true = legal_to_listed _ _ c.reveal_invariant.ensures.back c.requires in
    let b : _ = raw_bounds c.args.self.now.node.now.position c.args.self.now.node.now.eval (code_of c.args.m.now) c.args.self.now.valid i in
    let s : raw_score c.args.self.now.node.now.position c.args.self.now.node.now.eval (code_of c.args.m.now) ≡ pos 0 -ℤ c.score_after.result = ap (λ x. pos 0 -ℤ material_of x c.args.self.now.node.now.eval) (after_code_of c.args.self.now.node.now.position c.args.m.now c.reveal_invariant.ensures.back) ∙ ap (λ (x : ℤ). pos 0 -ℤ x) (sym c.score_after.ensures) in
    record { valid = c.args.self.now.valid; legal = c.requires; listed = i; value = omega (arith, ints, b.0, b.1, s) }
