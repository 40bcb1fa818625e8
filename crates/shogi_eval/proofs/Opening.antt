-- The opening position is even.
use Rattle.std.proofs.Common.{◌≡◌, pos, refl}
use Rattle.shogi_core.specs.Start.{start}
use Rattle.shogi_eval.specs.declared.eval.Eval.{Eval}
use Rattle.shogi_eval.specs.declared.eval.Eval.TheVariants.{Plain, Hand, Exchange}
use Rattle.shogi_eval.specs.Material.{points_of, material_of}

pub start_even : (e : Eval) → pos 0 ≡ material_of start e
unfolding points_of material_of
start_even Plain = refl
start_even Hand = refl
start_even Exchange = refl
