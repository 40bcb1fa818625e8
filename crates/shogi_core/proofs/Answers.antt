-- Evasions: an attack stays unless the attacker's square or its way is filled.
use Rattle.std.proofs.Common.{◌≡◌, ℕ, ◌<◌, true, false, refl, sym, ap, ◌∙◌}
use Rattle.std.specs.Prelude.{◌&&◌, ◌||◌, ◌==◌}
use Rattle.std.proofs.lemmas.Bool.{both_ways, and_parts, and_from, or_right, false_from_ne_true, eq-eqb}
use Rattle.shogi_core.specs.declared.offset.Offset.{Offset}
use Rattle.shogi_core.specs.declared.piece.Color.{Color}
use Rattle.shogi_core.specs.Attack.{in_check, is_open_king, is_step_from, slider_attacks_from, slider_attacks_along, cell_steps, cell_slides_back, StaysAttacked, StaysInCheck}
use Rattle.shogi_core.specs.Bits.{has_bit}
use Rattle.shogi_core.specs.Cell.{is_piece_of, is_king}
use Rattle.shogi_core.specs.Lines.{back}
use Rattle.shogi_core.specs.Movement.{Cells, slides, piece_at}
use Rattle.shogi_core.specs.Pieces.{opponent_of}
use Rattle.shogi_core.specs.Rays.{direction_at}
use Rattle.shogi_core.proofs.Back.{back_twice}
use Rattle.shogi_core.proofs.Below.{some_below_at}
use Rattle.shogi_core.proofs.SeenLaws.{slides_back}
use Rattle.shogi_core.proofs.SliderAttacks.{attacked_by_step, shot_attacks}
use Rattle.shogi_core.proofs.Discovered.{slide_stays, some_below_which}

-- a step or jump attack stays if the mask has the attacker's square
pub step_stays : (m : ℕ) (cells : Cells) (color : Color) (square a : ℕ) → square < 81 → a < 81 → is_step_from cells color square a ≡ true → has_bit m a ≡ true → StaysAttacked m cells color square
step_stays m cells color square a low h e set = λ new to l out fills.
    let parts : (is_piece_of color (piece_at cells a) ≡ true) × (cell_steps (piece_at cells a) a square ≡ true) = and_parts _ _ e in
    let same : piece_at new a ≡ piece_at cells a = fills.kept a (λ at. both_ways (has_bit m to) out (ap (has_bit m) (sym at) ∙ set)) parts.0 in
    sym (attacked_by_step new color square low (some_below_at 81 (is_step_from new color square) a h (and_from _ _ (ap (is_piece_of color) same ∙ parts.0) (ap (λ cell. cell_steps cell a square) same ∙ parts.1))))

-- a sliding attack stays if the mask has the open line to the attacker
pub shot_stays : (m : ℕ) (cells : Cells) (color : Color) (square d : ℕ) → square < 81 → d < 8 → slider_attacks_along cells color square d ≡ true → ((n : ℕ) → n < 81 → has_bit m n ≡ slides cells (direction_at d) square n) → StaysAttacked m cells color square
unfolding slider_attacks_along
shot_stays m cells color square d low h e line = λ new to l out fills.
    let which = some_below_which 81 (slider_attacks_from cells color square (direction_at d)) e in
    let a = which.0 in
    let outer : ((is_piece_of color (piece_at cells a) && cell_slides_back (direction_at d) (piece_at cells a)) ≡ true) × (slides cells (direction_at d) square a ≡ true) = and_parts _ _ which.2 in
    let inner : (is_piece_of color (piece_at cells a) ≡ true) × (cell_slides_back (direction_at d) (piece_at cells a) ≡ true) = and_parts _ _ outer.0 in
    let same : piece_at new a ≡ piece_at cells a = fills.kept a (λ at. both_ways (has_bit m to) out (ap (has_bit m) (sym at) ∙ (line a which.1 ∙ outer.1))) inner.0 in
    let off : slides cells (back (direction_at d)) to square ≡ false = false_from_ne_true _ (λ on. both_ways (has_bit m to) out (line to l ∙ (ap (λ (o : Offset). slides cells o square to) (sym (back_twice (direction_at d))) ∙ slides_back cells (back (direction_at d)) to square l on))) in
    let still : slides new (back (direction_at d)) a square ≡ true = slide_stays cells new to fills.empty (back (direction_at d)) a square off (slides_back cells (direction_at d) square a low outer.1) in
    let there : slides new (direction_at d) square a ≡ true = ap (λ (o : Offset). slides new o square a) (sym (back_twice (direction_at d))) ∙ slides_back new (back (direction_at d)) a square which.1 still in
    shot_attacks new color square low (some_below_at 8 (slider_attacks_along new color square) d h (some_below_at 81 (slider_attacks_from new color square (direction_at d)) a which.1
    (and_from _ _ (and_from _ _ (ap (is_piece_of color) same ∙ inner.0) (ap (cell_slides_back (direction_at d)) same ∙ inner.1)) there)))

-- a check stays if an attack on the king stays
pub check_stays_off : (m : ℕ) (cells : Cells) (side : Color) (king : ℕ) → king < 81 → is_king side (piece_at cells king) ≡ true → StaysAttacked m cells (opponent_of side) king → StaysInCheck m cells side
unfolding in_check
check_stays_off m cells side king h mine stays = λ new to l out fills kings.
    some_below_at 81 (is_open_king new side) king h (and_from _ _ (ap (is_king side) (kings king mine) ∙ mine) (stays new to l out fills))

-- a mask has the square added to it
pub one_bit : (m a : ℕ) → ((i : ℕ) → has_bit m i ≡ (has_bit 0 i || i == a)) → has_bit m a ≡ true
one_bit m a bits = bits a ∙ or_right (has_bit 0 a) (a == a) (eq-eqb a a refl)
