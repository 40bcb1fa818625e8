use Rattle.std.proofs.Common.{FitsSigned, w32, ◌≡◌, ℕ, arith, rules, subst, sym}
use Rattle.std.proofs.lemmas.Int.{ints, to_z-of_z}
use Rattle.minimax.specs.Minimax.{IsTrueEntry}
use Rattle.minimax.proofs.MinimaxLaws.{best-leaf}
use Rattle.shogi_search.proofs.Entries.{same_window}
use Rattle.shogi_search.proofs.stack.answer_at_once.Goals as goal

pub returns-then-depth-eq0 : goal.returns-then-depth-eq0
returns-then-depth-eq0 c = record {
  truth = rw c.if-depth-eq0.true (omega (arith, ints, c.leaf.ensures.value), best-leaf c.args.node.now.position c.args.node.now.eval);
  conclusive = tt;
}

pub returns : goal.returns
returns c =
    let low : FitsSigned w32 c.args.alpha = search rules in
    let high : FitsSigned w32 c.args.beta = search rules in
    let one : c.args.depth ≡ 1 = omega (arith, c.requires.last, c.if-depth-eq0.false) in
    record {
      truth = subst (λ (d : ℕ). IsTrueEntry c.args.node.now.position c.args.node.now.eval d c.last_ply.result) (sym one) c.last_ply.ensures.truth;
      conclusive = same_window _ _ _ _ c.last_ply.result (to_z-of_z w32 c.args.alpha low) (to_z-of_z w32 c.args.beta high) c.last_ply.ensures.conclusive;
    }
