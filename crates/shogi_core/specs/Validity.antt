-- Which positions are valid: one set of pieces, and the rules on kings, pawns and dead pieces (JSA playing rules; that a side may have no king is an own choice).
use Rattle.std.specs.Prelude.{ℕ, ◌+◌, ◌*◌, ◌/◌, ◌==◌, ◌&&◌, ◌||◌, Bool, Option, Some, None, MatchOption, Result, Ok, Err, nat_lt, take, drop, count_by, cond, length, ◌≡◌}
use Rattle.std.specs.List.{list_any}
use Rattle.shogi_core.specs.Below.{some_below}
use Rattle.shogi_core.specs.declared.piece.Color.{Color}
use Rattle.shogi_core.specs.declared.piece.Color.TheVariants.{Black, White}
use Rattle.shogi_core.specs.declared.piece.Kind.{Kind}
use Rattle.shogi_core.specs.declared.validity.PositionFault.{PositionFault}
use Rattle.shogi_core.specs.declared.validity.PositionFault.TheVariants.{TooMany, TwoKings, TwoPawns, DeadPiece, KingOpen}
use Rattle.shogi_core.specs.Attack.{in_check}
use Rattle.shogi_core.specs.Cell.{is_king, is_pawn, is_immobile_on}
use Rattle.shogi_core.specs.Movement.{Cells, piece_at}
use Rattle.shogi_core.specs.Pieces.{opponent_of, all_kinds, set_size, is_of_kind}
use Rattle.shogi_core.specs.Position.{Shogi, HandCounts, count_in_hand}

-- the count of a kind on the board and in both hands, promoted ones included
abbrev pub count_of : Kind → Cells → HandCounts → ℕ
count_of kind cells hands =
    count_by (is_of_kind kind) cells + count_in_hand hands Black kind
    + count_in_hand hands White kind

-- there are more pieces of some kind than one set has
abbrev pub has_too_many : Cells → HandCounts → Bool
has_too_many cells hands =
    list_any (λ kind. nat_lt (set_size kind) (count_of kind cells hands)) all_kinds

-- a side has more than one king
abbrev pub has_two_kings : Cells → Bool
has_two_kings cells =
    nat_lt 1 (count_by (is_king Black) cells) || nat_lt 1 (count_by (is_king White) cells)

-- the nine cells of a file, counted from 0
abbrev pub on_file : ℕ → Cells → Cells
on_file file cells = take 9 (drop (9 * file) cells)

-- the number of unpromoted pawns of the side on the file
abbrev pub pawns_on_file : Color → ℕ → Cells → ℕ
pawns_on_file color file cells = count_by (is_pawn color) (on_file file cells)

-- an unpromoted pawn of the side stands on `square`, and `n` is on its file
abbrev pub is_on_file_of_pawn : Cells → Color → ℕ → ℕ → Bool
is_on_file_of_pawn cells side square n = is_pawn side (piece_at cells square) && n / 9 == square / 9

-- a side has two unpromoted pawns on the file
abbrev pub has_two_pawns_on : Cells → ℕ → Bool
has_two_pawns_on cells file =
    nat_lt 1 (pawns_on_file Black file cells) || nat_lt 1 (pawns_on_file White file cells)

-- a side has two unpromoted pawns on one file
abbrev pub has_two_pawns : Cells → Bool
has_two_pawns cells = some_below 9 (has_two_pawns_on cells)

-- some piece could never move again
abbrev pub has_dead_piece : Cells → Bool
has_dead_piece cells = some_below 81 (is_immobile_on cells)

-- the first fault, if any
unfoldable pub fault_of : Shogi → Option PositionFault
fault_of p =
    cond (has_too_many p.cells p.hands) (Some TooMany)
    (cond (has_two_kings p.cells) (Some TwoKings)
    (cond (has_two_pawns p.cells) (Some TwoPawns)
    (cond (has_dead_piece p.cells) (Some DeadPiece)
    (cond (in_check p.cells (opponent_of p.side)) (Some KingOpen) None))))

-- the result is the parts if they have no fault, else their first fault
abbrev pub IsPositionOf : Shogi → Result Shogi PositionFault → Type 0
IsPositionOf parts result =
    MatchOption (fault_of parts) (result ≡ Ok parts) (λ fault. result ≡ Err fault)

-- the number that the host gives for a fault (own choice)
abbrev pub number_of_fault : PositionFault → ℕ
number_of_fault TooMany = 4
number_of_fault TwoKings = 5
number_of_fault TwoPawns = 6
number_of_fault DeadPiece = 7
number_of_fault KingOpen = 8

-- a valid position: of the right sizes and without a fault
pub record IsValid (p : Shogi) : Type 0 where
  pub cells_fit : length p.cells ≡ 81
  pub hands_fit : length p.hands ≡ 14
  pub no_fault : fault_of p ≡ None
