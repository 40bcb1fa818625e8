-- Moves that a sweep skips together: its first moves, of each of which something is certain (own choice).
use Rattle.std.specs.Prelude.{ℕ, ◌≡◌, ◌≢◌, ◌≤◌, ◌<◌, ◌+◌, ◌-◌, ◌*◌, ◌/◌, ◌%◌, ◌⊎◌, Bool, true, false, List, [], ◌∷◌}
use Rattle.shogi_core.specs.declared.moves.TheConstants.{FIRST_DROP, SQUARE_CODES}
use Rattle.shogi_core.specs.declared.piece.Kind.{Kind}
use Rattle.shogi_core.specs.Attack.{in_check}
use Rattle.shogi_core.specs.Bits.{has_bit}
use Rattle.shogi_core.specs.Pieces.{kind_number, opponent_of}
use Rattle.shogi_core.specs.Position.{Shogi}
use Rattle.shogi_moves.specs.declared.sweep.BoardSweep.{BoardSweep}
use Rattle.shogi_moves.specs.declared.sweep.DropSweep.{DropSweep}
use Rattle.shogi_moves.specs.After.{after_code}
use Rattle.shogi_moves.specs.Captures.{is_matching}
use Rattle.shogi_moves.specs.Legal.{is_legal_code}
use Rattle.shogi_moves.specs.Sweeps.{matching_from, board_left, drops_left}
use Rattle.shogi_replies.specs.declared.move_filter.MoveFilter.{MoveFilter}
use Rattle.shogi_replies.specs.ReplyInfo.{quiet_codes}

-- after the code's move the opponent has a quiet legal reply and, if no escapes are given, is in no check
pub record LeavesReply (p : Shogi) (escapes code : ℕ) : Type 0 where
  pub replied : quiet_codes (after_code p code) ≢ []
  pub unchecked : escapes ≡ 0 → in_check (after_code p code).cells (opponent_of p.side) ≡ false

-- the code, at or above `first`, is that of a legal board move of the kind that the filter has and that leaves a reply
pub record IsGuaranteedMove (p : Shogi) (capture : Bool) (move_filter : MoveFilter) (escapes first code : ℕ) : Type 0 where
  pub above : first ≤ code
  pub on_board : code < FIRST_DROP
  pub piece : has_bit move_filter.pieces.bits (code / SQUARE_CODES) ≡ true
  pub end : has_bit move_filter.squares.bits (code / 2 % 81) ≡ true
  pub promotes : code % 2 ≡ 1 → move_filter.promotes ≡ true
  pub matching : is_matching p capture code ≡ true
  pub leaves : LeavesReply p escapes code

-- the code, at or above `first`, is that of a legal drop of the kind on one of the squares that leaves a reply
pub record IsGuaranteedDrop (p : Shogi) (kind : Kind) (squares escapes first code : ℕ) : Type 0 where
  pub above : first ≤ code
  pub low : FIRST_DROP + kind_number kind * 81 ≤ code
  pub high : code < FIRST_DROP + 81 + kind_number kind * 81
  pub among : has_bit squares (code - FIRST_DROP - kind_number kind * 81) ≡ true
  pub legal : is_legal_code p code ≡ true
  pub leaves : LeavesReply p escapes code

-- `left` is the list without some first codes, of each of which the fact holds
abbrev pub IsSkipped : (ℕ → Type 0) → List ℕ → List ℕ → Type 0
IsSkipped fact [] left = [] ≡ left
IsSkipped fact (code ∷ codes) left = (code ∷ codes ≡ left) ⊎ (fact code × IsSkipped fact codes left)

-- the moves of the kind from `code` up to `next` are skipped, each of which guarantees a reply
pub record IsPassedTo (p : Shogi) (capture : Bool) (move_filter : MoveFilter) (escapes code next : ℕ) : Type 0 where
  pub up : code ≤ next
  pub passed : (first : ℕ) → first ≤ code
      → IsSkipped (IsGuaranteedMove p capture move_filter escapes first)
      (matching_from p capture code) (matching_from p capture next)

-- no destination of the present piece is left, neither without promotion nor with it
abbrev pub HasNoEnds : BoardSweep → Type 0
HasNoEnds sweep =
    (sweep.destinations.non_promoting.bits ≡ 0) × (sweep.destinations.promoting.bits ≡ 0)

-- the sweep skipped only moves that guarantee a reply
abbrev pub SkipsBoard :
    Shogi → Bool → MoveFilter → ℕ → BoardSweep → BoardSweep → Type 0
SkipsBoard p capture move_filter escapes old new =
    IsSkipped (IsGuaranteedMove p capture move_filter escapes old.code)
    (board_left p capture old) (board_left p capture new)

abbrev pub SkipsDrops : Shogi → ℕ → ℕ → DropSweep → DropSweep → Type 0
SkipsDrops p squares escapes old new =
    IsSkipped (IsGuaranteedDrop p old.kind squares escapes old.code)
    (drops_left p old) (drops_left p new)
