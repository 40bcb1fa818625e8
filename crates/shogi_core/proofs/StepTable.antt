-- The table of steps has the squares that each step pattern reaches.
use Rattle.std.proofs.Common.{◌≡◌, ℕ, ◌+◌, ◌*◌, ◌/◌, ◌%◌, ◌^◌, ◌<◌, refl, ◌∙◌, arith, get_or, map, List}
use Rattle.std.specs.Prelude.{◌==◌, cond}
use Rattle.std.specs.List.{range_with_len}
use Rattle.shogi_core.specs.declared.offset.Offset.{Offset}
use Rattle.shogi_core.specs.declared.piece.Color.{Color}
use Rattle.shogi_core.specs.declared.piece.Color.TheVariants.{Black, White}
use Rattle.shogi_core.specs.Bits.{mask_below, has_bit}
use Rattle.shogi_core.specs.Movement.{away, leads, for_side}
use Rattle.shogi_core.proofs.BitLaws.{has_bit-mask, mask_fits}
use Rattle.shogi_core.specs.Steps.{steps_at, color_number, is_step}
use Rattle.shogi_core.specs.declared.step_table.TheConstants.{STEPS}
use Rattle.shogi_core.proofs.TableBits.{entry_at, mask_is, bit_of, has_bit-of, some_bits, has_bit-some}

-- the side with this number
abbrev color_at : ℕ → Color
color_at n = cond (n == 0) Black White

-- the mask of the squares in reach
unfoldable pub steps_mask : Color → List Offset → ℕ → ℕ
steps_mask color os a = mask_below 81 (is_step color os a)

-- the bits of the squares in reach
abbrev step_bits : Color → List Offset → ℕ → ℕ
step_bits color os a = some_bits (λ o. bit_of (away 1 (for_side color o) a)) os

has_bit-step_bits : (color : Color) (os : List Offset) (a b : ℕ) → has_bit (step_bits color os a) b ≡ is_step color os a b
has_bit-step_bits color os a b = has_bit-some (λ o. bit_of (away 1 (for_side color o) a)) (λ o. leads 1 (for_side color o) a b) os b (λ o. has_bit-of (away 1 (for_side color o) a) b)

-- the table's entry for an index
abbrev entry : ℕ → ℕ
entry i = step_bits (color_at (i / 81 % 2)) (steps_at (i / 162)) (i % 81) % 2 ^ 81

entries : STEPS ≡ map entry (range_with_len 0 1296)
unfolding some_bits away
entries = refl

color_back : (color : Color) → color_at (color_number color) ≡ color
color_back Black = refl
color_back White = refl

color_below : (color : Color) → color_number color < 2
color_below Black = omega arith
color_below White = omega arith

pub steps_right : (k a : ℕ) (color : Color) (os : List Offset) → steps_at k ≡ os → k < 8 → a < 81 → get_or STEPS ((k * 2 + color_number color) * 81 + a) 0 ≡ steps_mask color os a
unfolding steps_mask
steps_right k a color os e h l =
    let low : color_number color < 2 = color_below color in
    let one : ((k * 2 + color_number color) * 81 + a) / 81 % 2 ≡ color_number color = omega arith in
    let two : ((k * 2 + color_number color) * 81 + a) / 162 ≡ k = omega arith in
    let three : ((k * 2 + color_number color) * 81 + a) % 81 ≡ a = omega arith in
    entry_at STEPS entry 1296 ((k * 2 + color_number color) * 81 + a) entries (omega arith) ∙ (rw (one, two, three, color_back color, e) (mask_is (step_bits color os a) (is_step color os a) (has_bit-step_bits color os a)))

pub has_bit-steps : (color : Color) (os : List Offset) (a b : ℕ) → b < 81 → has_bit (steps_mask color os a) b ≡ is_step color os a b
unfolding steps_mask
has_bit-steps color os a b h = has_bit-mask 81 (is_step color os a) b h

pub steps_fit : (color : Color) (os : List Offset) (a : ℕ) → steps_mask color os a < 2 ^ 81
unfolding steps_mask
steps_fit color os a = mask_fits 81 (is_step color os a)
