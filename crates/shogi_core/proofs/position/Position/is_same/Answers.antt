use Rattle.std.proofs.Common.{◌≡◌, arith, refl}
use Rattle.std.specs.Bool.{Decides}
use Rattle.std.proofs.lemmas.Bool.Decides.{Decides-eqb, same_from_decides}
use Rattle.std.proofs.lemmas.Grind.{common_steps}
use Rattle.std.proofs.lemmas.Slice.Eq.{slice_eq-Decides}
use Rattle.shogi_core.proofs.SameLaws.{option_same, parts_decide, position_same}
use Rattle.shogi_core.proofs.position.Position.is_same.Goals as goal

pub returns-clause-test : goal.returns-clause-test
returns-clause-test c =
    let decided : Decides c.eq.result (c.args.self.now ≡ c.args.other.now) = rw c.eq.ensures
    (parts_decide c.args.self.now c.args.other.now _ _ _
    (slice_eq-Decides (option_same (λ x y. grind (arith, common_steps))) c.args.self.now.cells c.args.other.now.cells _ refl)
    (slice_eq-Decides Decides-eqb c.args.self.now.hands c.args.other.now.hands _ refl)
    (grind (arith, common_steps))) in
    same_from_decides c.eq.result _ decided (position_same c.args.self.now c.args.other.now)

pub returns-clause-equal : goal.returns-clause-equal
returns-clause-equal c = rw (returns-clause-test c) (position_same c.args.self.now c.args.other.now)
