-- The table of aligned squares has the lines in all eight directions.
use Rattle.std.proofs.Common.{◌≡◌, ℕ, ◌<◌, ◌%◌, ◌^◌, refl, ap, ◌∙◌, subst, sym, get_or, map, []}
use Rattle.std.specs.List.{range_with_len}
use Rattle.shogi_core.specs.Below.{all_below}
use Rattle.shogi_core.specs.Bits.{has_bit, mask_below}
use Rattle.shogi_core.specs.Lines.{around, are_aligned, are_lined}
use Rattle.shogi_core.specs.Movement.{away, slides}
use Rattle.shogi_core.specs.declared.line_table.TheConstants.{ALIGNED}
use Rattle.shogi_core.proofs.BitLaws.{has_bit-mask, mask_fits}
use Rattle.shogi_core.proofs.TableBits.{entry_at, mask_is, some_bits, has_bit-some, line_bits, has_bit-line}

-- the bits of the lines in all directions
abbrev line_bits_around : ℕ → ℕ
line_bits_around a = some_bits (λ o. line_bits o a 8) around

-- the table's entry for a square
abbrev entry : ℕ → ℕ
entry a = line_bits_around a % 2 ^ 81

entries : ALIGNED ≡ map entry (range_with_len 0 81)
unfolding some_bits line_bits all_below away
entries = refl

aligned_right : (a : ℕ) → a < 81 → get_or ALIGNED a 0 ≡ mask_below 81 (are_aligned a)
unfolding are_lined
aligned_right a h = entry_at ALIGNED entry 81 a entries h ∙ mask_is (line_bits_around a) (are_aligned a) (λ b.
    has_bit-some (λ o. line_bits o a 8) (λ o. slides [] o a b) around b (λ o. has_bit-line o a 8 b))

pub aligned_bits : (a b : ℕ) → a < 81 → b < 81 → has_bit (get_or ALIGNED a 0) b ≡ are_aligned a b
aligned_bits a b h l = ap (λ (m : ℕ). has_bit m b) (aligned_right a h) ∙ has_bit-mask 81 (are_aligned a) b l

pub aligned_fits : (a : ℕ) → a < 81 → get_or ALIGNED a 0 < 2 ^ 81
aligned_fits a h = subst (λ (m : ℕ). m < 2 ^ 81) (sym (aligned_right a h)) (mask_fits 81 (are_aligned a))
