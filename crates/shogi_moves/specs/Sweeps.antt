-- What a sweep through the moves of a kind holds: the destinations left of its present piece.
use Rattle.std.specs.Prelude.{ℕ, ◌≡◌, ◌≢◌, ◌≤◌, ◌<◌, ◌+◌, ◌*◌, Bool, true, false, List, [], filter, bit_or, Option}
use Rattle.shogi_core.specs.declared.moves.TheConstants.{FIRST_DROP, SQUARE_CODES}
use Rattle.shogi_core.specs.declared.moves.Move.{Move}
use Rattle.shogi_core.specs.declared.moves.Move.TheVariants.{Board, Drop}
use Rattle.shogi_core.specs.declared.piece.Kind.{Kind}
use Rattle.shogi_core.specs.Bits.{has_bit}
use Rattle.shogi_core.specs.Codes.{code_of}
use Rattle.shogi_core.specs.Pieces.{kind_number}
use Rattle.shogi_core.specs.Position.{Shogi}
use Rattle.shogi_moves.specs.declared.destinations.Destinations.{Destinations}
use Rattle.shogi_moves.specs.declared.next.KeptDestinations.{KeptDestinations}
use Rattle.shogi_moves.specs.declared.sweep.BoardSweep.{BoardSweep}
use Rattle.shogi_moves.specs.declared.sweep.DropSweep.{DropSweep}
use Rattle.shogi_moves.specs.declared.walk.Place.{Place}
use Rattle.shogi_moves.specs.declared.walk.Place.TheVariants as places
use Rattle.shogi_moves.specs.Captures.{matches_kind, is_matching}
use Rattle.shogi_moves.specs.CheckInfo.{IsCheckInfoOf}
use Rattle.shogi_moves.specs.Destinations.{AreDropSquares, AreAllDestinations, AreDestinations}
use Rattle.shogi_moves.specs.LegalMoves.{legal_from}
use Rattle.shogi_moves.specs.Walks.{IsNextOf}

-- the codes of the legal moves of the kind at or above `first`
abbrev pub matching_from : Shogi → Bool → ℕ → List ℕ
matching_from p capture first = filter (matches_kind p capture) (legal_from p first)

-- the codes of the legal drops of the kind; none for captures
abbrev pub matching_drops : Shogi → Bool → List ℕ
matching_drops p capture = matching_from p capture FIRST_DROP

-- the destinations are those of the legal moves of the kind from the square
abbrev pub AreMatchingDestinations : Shogi → Bool → ℕ → Destinations → Type 0
AreMatchingDestinations p capture from =
    AreDestinations (λ n b. is_matching p capture (code_of (Board from n b)))

-- the squares are those whose codes are at or above `code` and pass the test
pub record Keeps (test : ℕ → Bool) (place : ℕ → ℕ) (code squares : ℕ) : Type 0 where
  pub set : (n : ℕ) → n < 81 → has_bit squares n ≡ true → (code ≤ place n) × (test (place n) ≡ true)
  pub clear : (n : ℕ) → n < 81 → has_bit squares n ≡ false → code ≤ place n → test (place n) ≡ false

-- the destinations held for a square are those of all legal moves from it
abbrev pub AreKept : Shogi → KeptDestinations → Type 0
AreKept p kept = AreAllDestinations p kept.from kept.destinations

-- the destinations are those left of the piece on the square, without promotion and with it
pub record KeepsBoard (p : Shogi) (capture : Bool) (from code non_promoting promoting : ℕ) : Type 0 where
  pub low : from * SQUARE_CODES ≤ code
  pub high : code ≤ from * SQUARE_CODES + SQUARE_CODES
  pub plains : Keeps (is_matching p capture) (λ n. code_of (Board from n false)) code non_promoting
  pub promotings : Keeps (is_matching p capture) (λ n. code_of (Board from n true)) code promoting

-- the destinations are those left of the kind in hand
pub record KeepsDrop (p : Shogi) (kind : Kind) (code destinations : ℕ) : Type 0 where
  pub low : FIRST_DROP + kind_number kind * 81 ≤ code
  pub high : code ≤ FIRST_DROP + 81 + kind_number kind * 81
  pub drops : Keeps (is_matching p false) (λ n. code_of (Drop kind n)) code destinations

-- the sweep holds the destinations left of its present piece or kind, and the info of the position
pub record IsBoardSweep (p : Shogi) (capture : Bool) (s : BoardSweep) : Type 0 where
  pub info : IsCheckInfoOf s.info p
  pub destinations : KeepsBoard p capture s.from s.code
      s.destinations.non_promoting.bits s.destinations.promoting.bits

pub record IsDropSweep (p : Shogi) (s : DropSweep) : Type 0 where
  pub squares : AreDropSquares p s.squares.bits
  pub destinations : KeepsDrop p s.kind s.code s.destinations.bits

-- the codes of the moves that a sweep still has to give
abbrev pub board_left : Shogi → Bool → BoardSweep → List ℕ
board_left p capture s = matching_from p capture s.code

abbrev pub drops_left : Shogi → DropSweep → List ℕ
drops_left p s = matching_from p false s.code

-- no board move is left
abbrev pub IsAtDrops : Shogi → Bool → BoardSweep → Type 0
IsAtDrops p capture s = board_left p capture s ≡ matching_drops p capture

-- no destination of the present piece is left; one is
abbrev pub HasNoDestination : BoardSweep → Type 0
HasNoDestination s = bit_or s.destinations.non_promoting.bits s.destinations.promoting.bits ≡ 0

abbrev pub HasDestination : BoardSweep → Type 0
HasDestination s = bit_or s.destinations.non_promoting.bits s.destinations.promoting.bits ≢ 0

-- the sweep stands at a piece, or a kind, that has a move, and skipped no move on the way
abbrev pub ContinuesBoard : Shogi → Bool → BoardSweep → BoardSweep → Type 0
ContinuesBoard p capture old new =
    HasDestination new × (board_left p capture old ≡ board_left p capture new)

abbrev pub ContinuesDrops : Shogi → DropSweep → DropSweep → Type 0
ContinuesDrops p old new = (new.destinations.bits ≢ 0) × (drops_left p old ≡ drops_left p new)

-- a place of a walk over all legal moves, and the codes of the moves still to come
abbrev pub IsPlace : Shogi → Place → Type 0
IsPlace p (places.Board info code kept) = IsCheckInfoOf info p × (code ≤ FIRST_DROP) × AreKept p kept
IsPlace p (places.Drops sweep) = IsDropSweep p sweep

abbrev pub codes_at : Shogi → Place → List ℕ
codes_at p (places.Board info code kept) = legal_from p code
codes_at p (places.Drops sweep) = drops_left p sweep

-- `found` is the first move of the sweep, with the others left, and none only if the sweep has none
abbrev pub IsNextOnBoard : Shogi → Bool → Option Move → BoardSweep → BoardSweep → Type 0
IsNextOnBoard p capture found old new =
    IsNextOf found (board_left p capture old) (board_left p capture new) (matching_drops p capture)

abbrev pub IsNextDrop : Shogi → Option Move → DropSweep → DropSweep → Type 0
IsNextDrop p found old new = IsNextOf found (drops_left p old) (drops_left p new) []
