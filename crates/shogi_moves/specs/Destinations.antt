-- The squares on which a piece may end its move.
use Rattle.std.specs.Prelude.{ℕ, ◌≡◌, ◌≤◌, ◌<◌, ◌+◌, ◌&&◌, ◌||◌, Bool, true, false, not, Option, None, is_none, slice_set}
use Rattle.shogi_moves.specs.CheckInfo.{is_check, squares_of}
use Rattle.shogi_core.specs.declared.piece.Color.{Color}
use Rattle.shogi_core.specs.declared.piece.Kind.{Kind}
use Rattle.shogi_core.specs.declared.piece.Kind.TheVariants.{Pawn}
use Rattle.shogi_core.specs.declared.piece.Piece.{Piece}
use Rattle.shogi_core.specs.declared.moves.Move.{Move}
use Rattle.shogi_core.specs.declared.moves.Move.TheVariants.{Board, Drop}
use Rattle.shogi_core.specs.Attack.{in_check, is_attacked}
use Rattle.shogi_core.specs.Bits.{HasBits, HasThose, has_bit}
use Rattle.shogi_core.specs.Cell.{is_king, is_piece_of}
use Rattle.shogi_core.specs.Codes.{code_of}
use Rattle.shogi_core.specs.Movement.{Cells, piece_at, reaches}
use Rattle.shogi_core.specs.Pieces.{opponent_of}
use Rattle.shogi_core.specs.Position.{Shogi, count_in_hand}
use Rattle.shogi_moves.specs.After.{cells_after}
use Rattle.shogi_moves.specs.Captures.{is_matching}
use Rattle.shogi_moves.specs.declared.check_info.CheckInfo.{CheckInfo}
use Rattle.shogi_moves.specs.declared.destinations.Destinations.{Destinations}
use Rattle.shogi_moves.specs.Legal.{is_legal_code, is_pawn_drop_mate}

-- a move of the kind may end on the cell: captures on an enemy piece, quiet moves on an empty square
abbrev pub is_destination : Bool → Color → Option Piece → Bool
is_destination true side cell = is_piece_of (opponent_of side) cell
is_destination false side cell = is_none cell

-- the squares are those on which a move of the kind may end
abbrev pub AreMatchingEnds : Shogi → Bool → ℕ → Type 0
AreMatchingEnds p capture squares =
    HasBits squares (λ n. is_destination capture p.side (piece_at p.cells n))

-- a piece of the side to move stands on the square
abbrev pub is_own : Shogi → ℕ → Bool
is_own p n = is_piece_of p.side (piece_at p.cells n)

-- the king of the side to move stands on the square
abbrev pub is_own_king : Shogi → ℕ → Bool
is_own_king p n = is_king p.side (piece_at p.cells n)

-- the move leaves the mover's king unattacked
abbrev pub leaves_king_safe : Shogi → Move → Bool
leaves_king_safe p m = not (in_check (cells_after p.cells p.side m) p.side)

-- the squares are the destinations at which the piece leaves its king unattacked
abbrev pub AreKingSafeEnds : Shogi → ℕ → ℕ → ℕ → Type 0
AreKingSafeEnds p from destinations squares =
    HasThose squares destinations (λ n. leaves_king_safe p (Board from n false))

-- the destinations are the squares that pass the test, without promotion and with it
pub record AreDestinations (test : ℕ → Bool → Bool) (destinations : Destinations) : Type 0 where
  pub non_promoting : HasBits destinations.non_promoting.bits (λ n. test n false)
  pub promoting : HasBits destinations.promoting.bits (λ n. test n true)

-- the destinations are the legal ones of the piece, within `among` or all
abbrev pub AreLegalDestinations : Shogi → ℕ → ℕ → Destinations → Type 0
AreLegalDestinations p from among =
    AreDestinations (λ n b. has_bit among n && is_legal_code p (code_of (Board from n b)))

abbrev pub AreAllDestinations : Shogi → ℕ → Destinations → Type 0
AreAllDestinations p from = AreDestinations (λ n b. is_legal_code p (code_of (Board from n b)))

-- the squares in `king_safety` are those of `squares` on which a dropped pawn leaves its king unattacked
abbrev pub AreKingSafeDrops : Shogi → ℕ → ℕ → Type 0
AreKingSafeDrops p squares king_safety =
    HasThose king_safety squares (λ n. leaves_king_safe p (Drop Pawn n))

-- the squares are those on which the side to move may legally drop the kind
abbrev pub AreLegalDrops : Shogi → Kind → ℕ → Type 0
AreLegalDrops p kind squares = HasBits squares (λ n. is_matching p false (code_of (Drop kind n)))

-- a pawn dropped on the square mates
abbrev pub is_mating_square : Shogi → ℕ → Bool
is_mating_square p n = is_pawn_drop_mate p (Drop Pawn n)

-- for each kind in hand, the squares are the empty ones on which its drop leaves the king unattacked
abbrev pub AreDropSquares : Shogi → ℕ → Type 0
AreDropSquares p squares = (kind : Kind) → 0 < count_in_hand p.hands p.side kind
    → HasBits squares (λ n. is_none (piece_at p.cells n) && leaves_king_safe p (Drop kind n))

-- the piece reaches each of the squares, and none of them has a piece of the side to move
abbrev pub AreEnterable : Shogi → ℕ → ℕ → Type 0
AreEnterable p from squares = (n : ℕ) → n < 81 → has_bit squares n ≡ true
    → (reaches p.cells from n ≡ true) × (is_own p n ≡ false)

-- the marked squares are those of the zone and of the info, or all in check
abbrev pub AreMarked : CheckInfo → ℕ → ℕ → Type 0
AreMarked info zone marked =
    HasBits marked (λ n. is_check info || (has_bit (squares_of info) n || has_bit zone n))

-- the enemy attacks the square on the board `seen` exactly if it does once the king has left its own
abbrev pub ShowsAttack : Shogi → Cells → ℕ → ℕ → Type 0
ShowsAttack p seen king to =
    is_attacked seen (opponent_of p.side) to
    ≡ is_attacked (slice_set p.cells king None) (opponent_of p.side) to

-- no piece outside the movers reaches a square on which a move of the kind may end
abbrev pub HasMovers : Shogi → Bool → ℕ → ℕ → Type 0
HasMovers p capture pieces movers = (n t : ℕ) → n < 81 → t < 81
    → has_bit pieces n ≡ true → has_bit movers n ≡ false
    → (reaches p.cells n t && is_destination capture p.side (piece_at p.cells t)) ≡ false

-- each square near one of the squares is in the spread
abbrev pub Spreads : (ℕ → ℕ → Type 0) → ℕ → ℕ → Type 0
Spreads near squares spread = (a b : ℕ) → a < 81 → b < 81 → has_bit squares b ≡ true
    → near b a → has_bit spread a ≡ true

-- each of the squares and the next four above it are in the spread
abbrev pub SpreadsUp : ℕ → ℕ → Type 0
SpreadsUp squares spread = (n k : ℕ) → k ≤ 4 → has_bit squares n ≡ true → has_bit spread (n + k) ≡ true

-- the first set of squares lies within the second
abbrev pub IsWithin : ℕ → ℕ → Type 0
IsWithin some squares = (n : ℕ) → has_bit some n ≡ true → has_bit squares n ≡ true
