-- The table of lines has the squares in each direction.
use Rattle.std.proofs.Common.{◌≡◌, ℕ, ◌+◌, ◌*◌, ◌/◌, ◌%◌, ◌^◌, ◌<◌, refl, ◌∙◌, arith, get_or, map}
use Rattle.std.specs.List.{range_with_len}
use Rattle.shogi_core.specs.Below.{all_below}
use Rattle.shogi_core.specs.Movement.{away}
use Rattle.shogi_core.specs.Rays.{ray_of, direction_at, is_on_ray}
use Rattle.shogi_core.specs.declared.ray_table.TheConstants.{RAYS}
use Rattle.shogi_core.proofs.TableBits.{entry_at, mask_is, line_bits, has_bit-line}

-- the table's entry for an index
abbrev entry : ℕ → ℕ
entry i = line_bits (direction_at (i / 81)) (i % 81) 8 % 2 ^ 81

entries : RAYS ≡ map entry (range_with_len 0 648)
unfolding line_bits all_below away
entries = refl

pub rays_right : (d a : ℕ) → d < 8 → a < 81 → get_or RAYS (d * 81 + a) 0 ≡ ray_of (direction_at d) a
unfolding ray_of
rays_right d a h l =
    let first : (d * 81 + a) / 81 ≡ d = omega arith in
    let second : (d * 81 + a) % 81 ≡ a = omega arith in
    entry_at RAYS entry 648 (d * 81 + a) entries (omega arith) ∙ (rw (first, second) (mask_is (line_bits (direction_at d) a 8) (is_on_ray (direction_at d) a) (has_bit-line (direction_at d) a 8)))
