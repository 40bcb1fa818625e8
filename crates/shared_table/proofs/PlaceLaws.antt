-- Unpacking words place by place.
use Rattle.std.proofs.Common.{◌≡◌, ◌∙◌, ◌<◌, ◌+◌, ◌-◌, ◌/◌, ◌%◌, ℕ, zero, suc, List, ◌∷◌, ◌++◌, append_assoc, refl, sym, ap, arith, get_or, length, set, take, slice_index}
use Rattle.std.proofs.lemmas.List.{append-nil, take_all, take_more_set}
use Rattle.shogi_core.specs.declared.piece.Color.{Color}
use Rattle.shogi_core.specs.declared.piece.Color.TheVariants.{Black, White}
use Rattle.shogi_core.specs.declared.piece.Kind.TheVariants.{Pawn}
use Rattle.shogi_core.specs.declared.piece.TheConstants.{KINDS}
use Rattle.shogi_core.specs.Movement.{Cells}
use Rattle.shogi_core.specs.Pieces.{kind_number}
use Rattle.shogi_core.specs.Position.{place_of}
use Rattle.shared_table.specs.Packed.{cell_of_number, cells_in, digits_in_base_32, position_in, side_of_number}
use Rattle.shared_table.proofs.PackedLaws.{position_of, same_parts}

-- one more square
pub cells_step : (cells : Cells) (at end rest : ℕ) (made : Cells) → at < end → at < length cells → take at cells ++ cells_in (end - at) rest ≡ made
    → take (at + 1) (set cells at (cell_of_number (rest % 32))) ++ cells_in (end - (at + 1)) (rest / 32) ≡ made
unfolding digits_in_base_32
cells_step cells at end rest made before below is =
    let left : end - at ≡ suc (end - (at + 1)) = omega arith in
    let more : cells_in (end - at) rest ≡ cell_of_number (rest % 32) ∷ cells_in (end - (at + 1)) (rest / 32) = rw left refl in
    rw (take_more_set cells at (cell_of_number (rest % 32)) below, append_assoc) (ap (λ (r : Cells). take at cells ++ r) (sym more) ∙ is)

-- the last square
pub cells_end : (cells : Cells) (end rest : ℕ) → take end cells ++ cells_in (end - end) rest ≡ take end cells
unfolding digits_in_base_32
cells_end cells end rest = let none : end - end ≡ 0 = omega arith in rw (none, append-nil (take end cells)) refl

-- one more count
pub counts_step : (hands : List ℕ) (first number rest : ℕ) (made : List ℕ) → number < 7 → first + number < length hands
    → take (first + number) hands ++ digits_in_base_32 (7 - number) rest ≡ made
    → take (first + (number + 1)) (set hands (first + number) (rest % 32)) ++ digits_in_base_32 (7 - (number + 1)) (rest / 32) ≡ made
unfolding digits_in_base_32
counts_step hands first number rest made before below is =
    let left : 7 - number ≡ suc (7 - (number + 1)) = omega arith in
    let next : first + (number + 1) ≡ first + number + 1 = omega arith in
    let more : digits_in_base_32 (7 - number) rest ≡ (rest % 32) ∷ digits_in_base_32 (7 - (number + 1)) (rest / 32) = rw left refl in
    rw (next, take_more_set hands (first + number) (rest % 32) below, append_assoc) (ap (λ (r : List ℕ). take (first + number) hands ++ r) (sym more) ∙ is)

-- the last count
pub counts_end : (hands : List ℕ) (n rest : ℕ) → take n hands ++ digits_in_base_32 0 rest ≡ take n hands
unfolding digits_in_base_32
counts_end hands n rest = append-nil (take n hands)

-- the kinds in their order
kind_at : (k : ℕ) → k < 7 → kind_number (get_or KINDS k Pawn) ≡ k
kind_at zero h = refl
kind_at (suc zero) h = refl
kind_at (suc (suc zero)) h = refl
kind_at (suc (suc (suc zero))) h = refl
kind_at (suc (suc (suc (suc zero)))) h = refl
kind_at (suc (suc (suc (suc (suc zero))))) h = refl
kind_at (suc (suc (suc (suc (suc (suc zero)))))) h = refl
kind_at (suc (suc (suc (suc (suc (suc (suc k))))))) h = absurd (omega arith)

pub place_at : (color : Color) (k : ℕ) → k < 7 → place_of color (get_or KINDS k Pawn) ≡ place_of color Pawn + k
place_at Black k h = omega (arith, kind_at k h)
place_at White k h = omega (arith, kind_at k h)

pub place_fits : (color : Color) (k : ℕ) → k < 7 → place_of color Pawn + k < 14
place_fits Black k h = omega arith
place_fits White k h = omega arith

-- the unpacked parts make the position
pub position_made : (words : List ℕ) (start a b c d e f g : Cells) (none black hands : List ℕ) (side : Color)
    → take 12 a ≡ take 0 start ++ cells_in 12 (slice_index words 0)
    → take 24 b ≡ take 12 a ++ cells_in 12 (slice_index words 1)
    → take 36 c ≡ take 24 b ++ cells_in 12 (slice_index words 2)
    → take 48 d ≡ take 36 c ++ cells_in 12 (slice_index words 3)
    → take 60 e ≡ take 48 d ++ cells_in 12 (slice_index words 4)
    → take 72 f ≡ take 60 e ++ cells_in 12 (slice_index words 5)
    → take 81 g ≡ take 72 f ++ cells_in 9 (slice_index words 6)
    → length g ≡ 81
    → take 7 black ≡ take 0 none ++ digits_in_base_32 7 (slice_index words 7)
    → take 14 hands ≡ take 7 black ++ digits_in_base_32 7 (slice_index words 8)
    → length hands ≡ 14
    → side ≡ side_of_number (slice_index words 9 % 2)
    → position_of g hands side ≡ position_in words
unfolding position_in
position_made words start a b c d e f g none black hands side ea eb ec ed ee ef eg all eh ei both es =
    same_parts (sym (take_all 81 g (omega arith)) ∙ eg ∙ rw (ef, ee, ed, ec, eb, ea) (simp append_assoc))
    (sym (take_all 14 hands (omega arith)) ∙ ei ∙ rw eh refl) es
