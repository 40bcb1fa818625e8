-- One set of pieces bounds the points of a side.
use Rattle.std.proofs.Common.{◌≡◌, ◌≤◌, ◌+◌, ◌*◌, ℕ, pos, ◌-ℤ◌, ◌≤ℤ◌, [], ◌∷◌, cond, Option, Some, None, arith}
use Rattle.std.specs.Prelude.{count_by}
use Rattle.std.proofs.lemmas.List.Sums.{sum_by-cons}
use Rattle.std.proofs.lemmas.Int.{ints}
use Rattle.shogi_eval.specs.declared.points.TheConstants.{POINTS_MAX}
use Rattle.shogi_core.specs.declared.piece.Color.{Color}
use Rattle.shogi_core.specs.declared.piece.Color.TheVariants.{Black, White}
use Rattle.shogi_core.specs.declared.piece.Kind.{Kind}
use Rattle.shogi_core.specs.declared.piece.Kind.TheVariants as kinds
use Rattle.shogi_core.specs.declared.piece.Role.{Role}
use Rattle.shogi_core.specs.declared.piece.Role.TheVariants.{King}
use Rattle.shogi_core.specs.declared.piece.Piece.{Piece}
use Rattle.shogi_core.specs.Movement.{Cells}
use Rattle.shogi_core.specs.Pieces.{is_of_kind, opponent_of}
use Rattle.shogi_core.specs.Position.{Shogi, HandCounts, count_in_hand}
use Rattle.shogi_core.specs.Validity.{IsValid, count_of}
use Rattle.shogi_core.proofs.Faultless.{IsFaultless}
use Rattle.shogi_core.proofs.Faults.{faultless_from}
use Rattle.shogi_eval.specs.declared.eval.Eval.{Eval}
use Rattle.shogi_eval.specs.declared.eval.Eval.TheVariants.{Plain, Hand, Exchange}
use Rattle.shogi_eval.specs.Material.{points_at, points_on_board, points_in_hand, points_of, material_of}

-- 1 if the cell holds a piece of the kind, else 0
abbrev tally : Kind → Option Piece → ℕ
tally kind cell = cond (is_of_kind kind cell) 1 0

-- the greatest points that counts of each kind can make
abbrev most : (Kind → ℕ) → ℕ
most n = 600 * n kinds.Pawn + 600 * n kinds.Lance + 600 * n kinds.Knight + 600 * n kinds.Silver + 660 * n kinds.Gold + 1100 * n kinds.Bishop + 1300 * n kinds.Rook

role_within : (color : Color) (side : Color) (role : Role) → points_at color (Some (record { color = side; role = role })) ≤ most (λ kind. tally kind (Some (record { color = side; role = role })))
role_within Black Black King = omega arith
role_within Black Black _ = omega arith
role_within White White King = omega arith
role_within White White _ = omega arith
role_within Black White _ = omega arith
role_within White Black _ = omega arith

cell_within : (color : Color) (cell : Option Piece) → points_at color cell ≤ most (λ kind. tally kind cell)
cell_within color None = omega arith
cell_within color (Some piece) = role_within color piece.color piece.role

board_within : (color : Color) (cells : Cells) → points_on_board cells color ≤ most (λ kind. count_by (is_of_kind kind) cells)
board_within color [] = omega arith
board_within color (cell ∷ cells) =
    let ih : points_on_board cells color ≤ most (λ kind. count_by (is_of_kind kind) cells) = board_within color cells in
    let here : points_at color cell ≤ most (λ kind. tally kind cell) = cell_within color cell in
    let s : points_on_board (cell ∷ cells) color ≡ points_at color cell + points_on_board cells color = sum_by-cons (points_at color) cell cells in
    let c : (kind : Kind) → count_by (is_of_kind kind) (cell ∷ cells) ≡ tally kind cell + count_by (is_of_kind kind) cells = λ kind. sum_by-cons (tally kind) cell cells in
    omega (arith, c kinds.Pawn, c kinds.Lance, c kinds.Knight, c kinds.Silver, c kinds.Gold, c kinds.Bishop, c kinds.Rook)

hand_within : (hands : HandCounts) (e : Eval) (color : Color) → points_in_hand hands e color ≤ most (λ kind. count_in_hand hands color kind)
hand_within hands Plain color = omega arith
hand_within hands Hand color = omega arith
hand_within hands Exchange color = omega arith

-- a side has at most the pieces of a kind that both sides have
side_within : (cells : Cells) (hands : HandCounts) (color : Color) (kind : Kind) → count_by (is_of_kind kind) cells + count_in_hand hands color kind ≤ count_of kind cells hands
side_within cells hands Black kind = omega arith
side_within cells hands White kind = omega arith

faultless_within : (p : Shogi) (e : Eval) (color : Color) → IsFaultless p → points_of p e color ≤ POINTS_MAX
unfolding points_of
faultless_within p e color h =
    let board : points_on_board p.cells color ≤ most (λ kind. count_by (is_of_kind kind) p.cells) = board_within color p.cells in
    let hand : points_in_hand p.hands e color ≤ most (λ kind. count_in_hand p.hands color kind) = hand_within p.hands e color in
    let s : (kind : Kind) → count_by (is_of_kind kind) p.cells + count_in_hand p.hands color kind ≤ count_of kind p.cells p.hands = side_within p.cells p.hands color in
    omega (
      arith,
      s kinds.Pawn,
      s kinds.Lance,
      s kinds.Knight,
      s kinds.Silver,
      s kinds.Gold,
      s kinds.Bishop,
      s kinds.Rook,
      h.counts kinds.Pawn,
      h.counts kinds.Lance,
      h.counts kinds.Knight,
      h.counts kinds.Silver,
      h.counts kinds.Gold,
      h.counts kinds.Bishop,
      h.counts kinds.Rook,
    )

pub points_within : (p : Shogi) (e : Eval) (color : Color) → IsValid p → points_of p e color ≤ POINTS_MAX
points_within p e color v = faultless_within p e color (faultless_from p v.no_fault)

-- the material of a valid position is within `POINTS_MAX`
pub material_bounds : (p : Shogi) (e : Eval) → IsValid p → ((pos 0 -ℤ pos POINTS_MAX) ≤ℤ material_of p e) × (material_of p e ≤ℤ pos POINTS_MAX)
unfolding material_of
material_bounds p e v =
    let own : points_of p e p.side ≤ POINTS_MAX = points_within p e p.side v in
    let other : points_of p e (opponent_of p.side) ≤ POINTS_MAX = points_within p e (opponent_of p.side) v in
    (omega (arith, ints), omega (arith, ints))
