use Rattle.std.proofs.Common.{◌≡◌, ◌∙◌, FitsSigned, arith, rules, w32}
use Rattle.std.proofs.lemmas.Int.{ints, to_z-of_z}
use Rattle.minimax.specs.Window.{move_alpha, code_at}
use Rattle.minimax.proofs.Cover.{move_alpha-best_value}
use Rattle.search_nodes.proofs.Nodes.{threshold_within}
use Rattle.search_nodes.proofs.frame.Frame.move_alpha_at.Goals as goal

pub move_alpha_at-requires : goal.move_alpha_at-requires
move_alpha_at-requires c =
    let l : _ = threshold_within _ _ _ _ _ _ _ _ _ c.args.code c.requires.«open» c.args.self.now.valid c.args.self.now.shallow c.args.self.now.least c.requires.deep c.args.self.now.known in
    omega (arith, ints, l.0)

pub returns : goal.returns
returns c =
    let l : _ = threshold_within _ _ _ _ _ _ _ _ _ c.args.code c.requires.«open» c.args.self.now.valid c.args.self.now.shallow c.args.self.now.least c.requires.deep c.args.self.now.known in
    let f : FitsSigned w32 c.args.self.now.best_value = search rules in
    let g : FitsSigned w32 c.move_alpha_at.result = search rules in
    let e : c.move_alpha_at.result ≡ move_alpha c.args.self.now.best_value (code_at c.args.self.now.best_move) c.args.code = simp to_z-of_z at c.move_alpha_at.ensures in
    record {
      move_alpha = to_z-of_z w32 c.move_alpha_at.result g ∙ e;
      least = omega (arith, ints, l.1, e);
      «open» = omega (arith, ints, e, c.args.self.now.«open», move_alpha-best_value c.args.self.now.best_value (code_at c.args.self.now.best_move) c.args.code);
    }
