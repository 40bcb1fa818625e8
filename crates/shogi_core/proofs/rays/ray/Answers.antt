use Rattle.std.proofs.Common.{◌<◌, ◌^◌, subst, sym}
use Rattle.std.specs.Prelude.{ℕ}
use Rattle.shogi_core.specs.Rays.{direction_at}
use Rattle.shogi_core.proofs.RayTable.{rays_right}
use Rattle.shogi_core.proofs.LineBits.{ray_fits}
use Rattle.shogi_core.proofs.rays.ray.Goals as goal

pub invariant_of-result : goal.invariant_of-result
invariant_of-result c =
    record { fits = subst (λ (m : ℕ). m < 2 ^ 81) (sym (rays_right c.number.result c.index.result c.number.ensures.range c.index.ensures.range)) (ray_fits (direction_at c.number.result) c.index.result) }

pub returns : goal.returns
returns c = record { ray = rw (c.index.ensures.index, sym c.number.ensures.number) (rays_right c.number.result c.args.from c.number.ensures.range (rw c.index.ensures.index at c.index.ensures.range)) }
