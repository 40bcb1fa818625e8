-- Attacks and checks (JSA playing rules, check).
use Rattle.std.specs.Prelude.{ℕ, ◌≡◌, ◌≢◌, ◌<◌, ◌⊎◌, ◌&&◌, Bool, true, false, not, Option, Some, None, MatchOption, is_none, slice_set, bit_and}
use Rattle.std.specs.List.{list_any}
use Rattle.shogi_core.specs.declared.offset.Offset.{Offset}
use Rattle.shogi_core.specs.declared.piece.Color.{Color}
use Rattle.shogi_core.specs.declared.piece.Piece.{Piece}
use Rattle.shogi_core.specs.Below.{some_below}
use Rattle.shogi_core.specs.Bits.{HasBits, has_bit}
use Rattle.shogi_core.specs.Cell.{is_piece_of, is_king, is_slider}
use Rattle.shogi_core.specs.Lines.{are_aligned, back, is_same_offset}
use Rattle.shogi_core.specs.Movement.{Cells, piece_at, reaches, has_step, is_same_square, slides, slides_of, for_side}
use Rattle.shogi_core.specs.Pieces.{opponent_of}
use Rattle.shogi_core.specs.Rays.{direction_at, ray_of, is_on_ray}

-- the piece on `from` is of the side and attacks the square
abbrev pub is_attacked_from : Cells → Color → ℕ → ℕ → Bool
is_attacked_from cells color square from =
    is_piece_of color (piece_at cells from) && reaches cells from square

-- a piece of the side attacks the square
abbrev pub is_attacked : Cells → Color → ℕ → Bool
is_attacked cells color square = some_below 81 (is_attacked_from cells color square)

-- the king of the side stands on the square and is attacked
abbrev pub is_open_king : Cells → Color → ℕ → Bool
is_open_king cells color square =
    is_king color (piece_at cells square) && is_attacked cells (opponent_of color) square

-- a king of the side is attacked
unfoldable pub in_check : Cells → Color → Bool
in_check cells color = some_below 81 (is_open_king cells color)

-- the piece on `from` is a slider of the side aligned with the square, whatever stands between
abbrev pub is_sniper : Cells → Color → ℕ → ℕ → Bool
is_sniper cells color square from =
    is_piece_of color (piece_at cells from) && is_slider (piece_at cells from)
    && are_aligned square from

-- no sniper is on the line from the square in the direction of that number
abbrev pub HasNoSniper : ℕ → ℕ → ℕ → Type 0
HasNoSniper direction square snipers = bit_and (ray_of (direction_at direction) square) snipers ≡ 0

-- the king of the side is on the square, and the piece on `from` is an opponent's sniper of it
abbrev pub is_sniper_of_king : Cells → Color → ℕ → ℕ → Bool
is_sniper_of_king cells color from square =
    is_king color (piece_at cells square) && is_sniper cells (opponent_of color) square from

-- the piece on `from` is a slider of the opponent aligned with a king of the side, whatever stands between
unfoldable pub is_sniping : Cells → Color → ℕ → Bool
is_sniping cells color from = some_below 81 (is_sniper_of_king cells color from)

-- a step or jump leads what stands in the cell from `from` to `to`
abbrev pub cell_steps : Option Piece → ℕ → ℕ → Bool
cell_steps None from to = false
cell_steps (Some piece) from to = has_step piece from to

-- what stands in the cell slides against the direction
abbrev pub cell_slides_back : Offset → Option Piece → Bool
cell_slides_back o None = false
cell_slides_back o (Some piece) =
    list_any (λ p. is_same_offset (back (for_side piece.color p)) o) (slides_of piece.role)

-- the piece on `from` is of the side and attacks the square by step or jump
abbrev pub is_step_from : Cells → Color → ℕ → ℕ → Bool
is_step_from cells color square from =
    is_piece_of color (piece_at cells from) && cell_steps (piece_at cells from) from square

-- the piece on `from` is of the side and slides to the square against the direction
abbrev pub slider_attacks_from : Cells → Color → ℕ → Offset → ℕ → Bool
slider_attacks_from cells color square o from =
    is_piece_of color (piece_at cells from) && cell_slides_back o (piece_at cells from)
    && slides cells o square from

-- a piece of the side slides to the square against the direction of that number
unfoldable pub slider_attacks_along : Cells → Color → ℕ → ℕ → Bool
slider_attacks_along cells color square direction =
    some_below 81 (slider_attacks_from cells color square (direction_at direction))

-- the piece on `from` is of the side, and slides to the square against one of the first directions
abbrev pub is_slide_below : Cells → Color → ℕ → ℕ → ℕ → Bool
is_slide_below cells color square from directions =
    some_below directions (λ d. slider_attacks_from cells color square (direction_at d) from)

-- a piece of the side slides to the square
abbrev pub slider_attacks : Cells → Color → ℕ → Bool
slider_attacks cells color square = some_below 8 (slider_attacks_along cells color square)

-- the piece on `from`, a square of `among`, attacks the square by step or jump
abbrev pub is_step_among : Cells → ℕ → ℕ → ℕ → Bool
is_step_among cells among square from =
    has_bit among from && cell_steps (piece_at cells from) from square

-- no piece on a square of `among` attacks the square by step or jump
abbrev pub HasNoStep : Cells → ℕ → ℕ → Type 0
HasNoStep cells among square = some_below 81 (is_step_among cells among square) ≡ false

-- pieces stand on the squares of the mask, and on no others
abbrev pub AreOccupied : ℕ → Cells → Type 0
AreOccupied mask cells = HasBits mask (λ n. not (is_none (piece_at cells n)))

-- on `seen`, the side's pieces are those on the squares `among`, as in `cells`, and `occupied` are the squares that are not empty
pub record IsSeenAs (cells : Cells) (among occupied : ℕ) (color : Color) (seen : Cells) : Type 0 where
  pub attackers : HasBits among (λ n. is_piece_of color (piece_at seen n))
  pub pieces : AreOccupied occupied seen
  pub same : (n : ℕ) → n < 81 → has_bit among n ≡ true → piece_at seen n ≡ piece_at cells n

-- on `seen`, the side's snipers are those on the squares `snipers`, as in `cells`, and `occupied` are the squares that are not empty
pub record ShowsSnipers (cells : Cells) (square snipers occupied : ℕ) (color : Color) (seen : Cells) : Type 0 where
  pub snipers_on : HasBits snipers (is_sniper seen color square)
  pub pieces : AreOccupied occupied seen
  pub same : (n : ℕ) → n < 81 → has_bit snipers n ≡ true → piece_at seen n ≡ piece_at cells n

-- on each board seen as `IsSeenAs` says, the answer is whether the side attacks the square
abbrev pub TellsAttack : Cells → ℕ → ℕ → ℕ → Bool → Type 0
TellsAttack cells among occupied square answer = (color : Color) (seen : Cells)
    → IsSeenAs cells among occupied color seen → answer ≡ is_attacked seen color square

-- on each board seen as `ShowsSnipers` says, the answer is whether a sniper slides to the square
abbrev pub TellsSliderAttack : Cells → ℕ → ℕ → ℕ → Bool → Type 0
TellsSliderAttack cells square snipers occupied answer = (color : Color) (seen : Cells)
    → ShowsSnipers cells square snipers occupied color seen → answer ≡ slider_attacks seen color square

-- on each board seen as `ShowsSnipers` says, the answer is whether a sniper slides to the square against the direction
abbrev pub TellsSliderAttackAlong : Cells → ℕ → ℕ → ℕ → ℕ → Bool → Type 0
TellsSliderAttackAlong cells square direction snipers occupied answer = (color : Color) (seen : Cells)
    → ShowsSnipers cells square snipers occupied color seen
    → answer ≡ slider_attacks_along seen color square direction

-- on each board that shows this much of the side, the answer is the squares of its pieces that reach the square
abbrev pub TellsReachers : Cells → ℕ → ℕ → ℕ → ℕ → Type 0
TellsReachers cells among occupied square reachers = (color : Color) (seen : Cells)
    → IsSeenAs cells among occupied color seen
    → HasBits reachers (is_attacked_from seen color square)

-- on each board that shows the snipers so, the answer is those that slide to the square against one of the first directions
abbrev pub TellsSlidersBelow : Cells → ℕ → ℕ → ℕ → ℕ → ℕ → Type 0
TellsSlidersBelow cells square snipers occupied directions sliders = (color : Color) (seen : Cells)
    → ShowsSnipers cells square snipers occupied color seen
    → HasBits sliders (λ n. is_slide_below seen color square n directions)

-- on each board that shows the snipers so, the answer is those that slide to the square against any direction
abbrev pub TellsSliders : Cells → ℕ → ℕ → ℕ → ℕ → Type 0
TellsSliders cells square snipers occupied = TellsSlidersBelow cells square snipers occupied 8

-- on each board that shows the snipers so, the square found is that of the one piece that slides to the square against the direction of that number; if none is found, none does
abbrev pub FindsSlider : Cells → ℕ → ℕ → ℕ → ℕ → Option ℕ → Type 0
FindsSlider cells square direction snipers occupied found = (color : Color) (seen : Cells)
    → ShowsSnipers cells square snipers occupied color seen → (n : ℕ) → n < 81
    → is_same_square found n ≡ slider_attacks_from seen color square (direction_at direction) n

-- no piece stands in the direction: each square that a slide reaches is empty
abbrev pub IsOpenLine : Cells → Offset → ℕ → Type 0
IsOpenLine cells o from = (n : ℕ) → slides cells o from n ≡ true → is_none (piece_at cells n) ≡ true

-- the first piece in the direction stands on the square
pub record IsFirstPiece (cells : Cells) (o : Offset) (from n : ℕ) : Type 0 where
  pub reached : slides cells o from n ≡ true
  pub piece : is_none (piece_at cells n) ≡ false

-- `found` is the square of the first piece in the direction, or `None` if the line is open
abbrev pub FindsPiece : Cells → ℕ → ℕ → Option ℕ → Type 0
FindsPiece cells direction from found =
    MatchOption found (IsOpenLine cells (direction_at direction) from)
    (IsFirstPiece cells (direction_at direction) from)

-- on each board with this occupancy, `found` is the square of the first piece in the direction, if any
abbrev pub FindsOccupied : ℕ → ℕ → ℕ → Option ℕ → Type 0
FindsOccupied occupied direction from found =
    (cells : Cells) → AreOccupied occupied cells → FindsPiece cells direction from found

-- the piece on `from` is of the side and alone shields the square from the opponent's sniper in the direction
abbrev pub is_pinned_by : Cells → Color → ℕ → Offset → ℕ → ℕ → Bool
is_pinned_by cells color square o from sniper =
    is_piece_of color (piece_at cells from) && is_sniper cells (opponent_of color) square sniper
    && is_on_ray o square sniper && slides cells o square from && slides cells o from sniper

-- the mask has each piece of the side pinned to the square in the direction of that number
abbrev pub HasPinAlong : ℕ → Cells → Color → ℕ → ℕ → Type 0
HasPinAlong m cells side square direction = (n a : ℕ) → n < 81 → a < 81
    → is_pinned_by cells side square (direction_at direction) n a ≡ true → has_bit m n ≡ true

-- the mask has each piece of the side pinned to the square
abbrev pub HasPinned : ℕ → Cells → Color → ℕ → Type 0
HasPinned m cells side square = (d n a : ℕ) → d < 8 → n < 81 → a < 81
    → is_pinned_by cells side square (direction_at d) n a ≡ true → has_bit m n ≡ true

-- no piece of the side outside the mask is pinned: lifting it off gives no check
abbrev pub OthersAreUnpinned : ℕ → Cells → Color → Type 0
OthersAreUnpinned m cells side = (n : ℕ) → n < 81 → has_bit m n ≡ false
    → is_piece_of side (piece_at cells n) ≡ true → in_check (slice_set cells n None) side ≡ false

-- only `to` is filled: other empty squares stay empty, and other pieces of the colour stay
pub record FillsOnly (old new : Cells) (color : Color) (to : ℕ) : Type 0 where
  pub empty : (x : ℕ) → is_none (piece_at old x) ≡ true
      → (is_none (piece_at new x) ≡ true) ⊎ (x ≡ to)
  pub kept : (a : ℕ) → a ≢ to → is_piece_of color (piece_at old a) ≡ true
      → piece_at new a ≡ piece_at old a

-- the square stays attacked unless a square of the mask is filled
abbrev pub StaysAttacked : ℕ → Cells → Color → ℕ → Type 0
StaysAttacked m cells color square = (new : Cells) (to : ℕ) → to < 81 → has_bit m to ≡ false
    → FillsOnly cells new color to → is_attacked new color square ≡ true

-- if the side attacks the square, it stays attacked unless a square of the mask is filled
abbrev pub StaysIfAttacked : ℕ → Cells → Color → ℕ → Type 0
StaysIfAttacked m cells by square = is_attacked cells by square ≡ true
    → StaysAttacked m cells by square

-- the side stays in check unless a square of the mask is filled or a king moves
abbrev pub StaysInCheck : ℕ → Cells → Color → Type 0
StaysInCheck m cells side = (new : Cells) (to : ℕ) → to < 81 → has_bit m to ≡ false
    → FillsOnly cells new (opponent_of side) to
    → ((k : ℕ) → is_king side (piece_at cells k) ≡ true → piece_at new k ≡ piece_at cells k)
    → in_check new side ≡ true
