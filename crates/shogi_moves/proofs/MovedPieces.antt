-- Pieces that move, promote or are captured.
use Rattle.std.proofs.Common.{◌≡◌, ℕ, ◌+◌, ◌/◌, Bool, true, false, length, refl, arith, inl, inr, Option, Some, None}
use Rattle.std.specs.Prelude.{◌||◌, ℤ, pos, negsuc, ◌+ℤ◌, ◌%◌}
use Rattle.std.proofs.lemmas.Bool.{and_parts}
use Rattle.shogi_core.specs.Movement.{Cells, piece_at, reaches, cell_reaches, is_same_square, square_at, away}
use Rattle.shogi_core.specs.Position.{HandCounts, count_in_hand}
use Rattle.shogi_core.proofs.Faults.{number_below}
use Rattle.shogi_core.specs.declared.piece.Color.{Color}
use Rattle.shogi_core.specs.declared.piece.Color.TheVariants.{Black, White}
use Rattle.shogi_core.specs.declared.piece.Kind.{Kind}
use Rattle.shogi_core.specs.declared.piece.Role.{Role}
use Rattle.shogi_core.specs.declared.piece.Role.TheVariants.{Pawn}
use Rattle.shogi_core.specs.declared.piece.Piece.{Piece}
use Rattle.shogi_core.specs.Pieces.{kind_of, is_of_kind, is_role_of_kind, is_same_color, kind_number, opponent_of, promoted}
use Rattle.shogi_core.specs.Cell.{is_king_role, is_pawn_role, is_king, is_pawn}
use Rattle.shogi_moves.specs.After.{piece_moved, with_captured, with_one_more}
use Rattle.shogi_moves.proofs.Counts.{tally, hand_added}

-- promotion keeps the kind, keeps a king a king, and ends a pawn
pub kind_of-promoted : (role : Role) → kind_of (promoted role) ≡ kind_of role
kind_of-promoted role = grind arith

pub is_king_role-promoted : (role : Role) → is_king_role (promoted role) ≡ is_king_role role
is_king_role-promoted role = grind arith

pub is_pawn_role-promoted : (role : Role) → is_pawn_role (promoted role) ≡ false
is_pawn_role-promoted role = grind arith

-- a move keeps a piece's kind and keeps a king a king
pub is_of_kind-piece_moved : (kind : Kind) (promote : Bool) (cell : Option Piece) → is_of_kind kind (piece_moved promote cell) ≡ is_of_kind kind cell
is_of_kind-piece_moved kind promote cell = grind (arith, kind_of-promoted)

pub is_king-piece_moved : (color : Color) (promote : Bool) (cell : Option Piece) → is_king color (piece_moved promote cell) ≡ is_king color cell
is_king-piece_moved color promote cell = grind (arith, is_king_role-promoted)

-- a promoted piece is no pawn
pub is_pawn-promoted : (color : Color) (cell : Option Piece) → is_pawn color (piece_moved true cell) ≡ false
is_pawn-promoted color cell = grind (arith, is_pawn_role-promoted)

-- a pawn after its move was one before
pub is_pawn-piece_moved : (color : Color) (promote : Bool) (cell : Option Piece) → is_pawn color (piece_moved promote cell) ≡ true → is_pawn color cell ≡ true
is_pawn-piece_moved color promote cell e = grind (arith, is_pawn-promoted)

-- one more in either hand is one more in both together
one_more : (hands : HandCounts) (side : Color) (taken : Option Kind) (kind : Kind) → length hands ≡ 14
    → count_in_hand (with_one_more hands side taken) Black kind + count_in_hand (with_one_more hands side taken) White kind ≡ count_in_hand hands Black kind + count_in_hand hands White kind + tally (is_role_of_kind kind taken)
one_more hands side None kind len = omega arith
one_more hands Black (Some taken) kind len = hand_added hands (kind_number taken) (kind_number taken) (kind_number kind) len (number_below taken) (number_below kind) (inl refl)
one_more hands White (Some taken) kind len = hand_added hands (kind_number taken + 7) (kind_number taken) (kind_number kind) len (number_below taken) (number_below kind) (inr refl)

-- a captured piece is one more in hand
pub hands-with_captured : (hands : HandCounts) (side : Color) (cell : Option Piece) (kind : Kind) → length hands ≡ 14
    → count_in_hand (with_captured hands side cell) Black kind + count_in_hand (with_captured hands side cell) White kind ≡ count_in_hand hands Black kind + count_in_hand hands White kind + tally (is_of_kind kind cell)
hands-with_captured hands side None kind len = omega arith
hands-with_captured hands side (Some piece) kind len = one_more hands side (kind_of piece.role) kind len

-- a square made of a file and a rank is on that file
square_at_file : (m : ℕ) (r : ℤ) (b : ℕ) → is_same_square (square_at (pos m) r) b ≡ true → b / 9 ≡ m
square_at_file m r b e = grind arith

only : (x : Bool) → (x || false) ≡ true → x ≡ true
only x e = grind arith

-- one square forward is on the same file
pawn_step : (cells : Cells) (side : Color) (role : Role) (a b : ℕ) → is_pawn_role role ≡ true → cell_reaches cells (Some (record { color = side; role = role })) a b ≡ true → a / 9 ≡ b / 9
unfolding away
pawn_step cells Black Pawn a b pawn e = let same : b / 9 ≡ a / 9 + 0 = square_at_file (a / 9 + 0) (pos (a % 9) +ℤ negsuc 0) b (only _ (only _ e)) in omega arith
pawn_step cells White Pawn a b pawn e = let same : b / 9 ≡ a / 9 + 0 = square_at_file (a / 9 + 0) (pos (a % 9 + 1)) b (only _ (only _ e)) in omega arith
pawn_step cells side _ a b pawn e = cc

cell_stays : (cells : Cells) (color : Color) (cell : Option Piece) (a b : ℕ) → is_pawn color cell ≡ true → cell_reaches cells cell a b ≡ true → a / 9 ≡ b / 9
cell_stays cells color None a b pawn e = cc
cell_stays cells color (Some piece) a b pawn e = pawn_step cells piece.color piece.role a b ((and_parts (is_same_color color piece.color) (is_pawn_role piece.role) pawn).1) e

-- a pawn moves along its file
pub pawn_stays_on_file : (cells : Cells) (color : Color) (a b : ℕ) → is_pawn color (piece_at cells a) ≡ true → reaches cells a b ≡ true → a / 9 ≡ b / 9
unfolding reaches
pawn_stays_on_file cells color a b pawn e = cell_stays cells color (piece_at cells a) a b pawn e

-- the opponent's opponent is the side itself
pub opponent_twice : (side : Color) → opponent_of (opponent_of side) ≡ side
opponent_twice side = grind arith
