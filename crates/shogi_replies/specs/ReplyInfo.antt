-- What shows, of most moves before they are made, that they give no check and leave the opponent a legal reply.
use Rattle.std.specs.Prelude.{ℕ, ◌≡◌, ◌≢◌, ◌<◌, ◌==◌, ◌⊎◌, ◌&&◌, ◌||◌, ⊤, Bool, true, false, not, nat_lt, Option, Some, None, is_none, List, [], filter, slice_set, bit_and}
use Rattle.shogi_core.specs.declared.moves.Move.{Move}
use Rattle.shogi_core.specs.declared.moves.Move.TheVariants.{Board, Drop}
use Rattle.shogi_core.specs.declared.piece.Color.{Color}
use Rattle.shogi_core.specs.declared.piece.Kind.TheVariants.{Silver, Gold, Bishop, Rook}
use Rattle.shogi_core.specs.declared.piece.Piece.{Piece}
use Rattle.shogi_core.specs.Attack.{in_check, is_sniping, cell_steps}
use Rattle.shogi_core.specs.Below.{some_below}
use Rattle.shogi_core.specs.Bits.{has_bit}
use Rattle.shogi_core.specs.Codes.{move_of}
use Rattle.shogi_core.specs.Cell.{is_piece_of, is_king, is_immobile}
use Rattle.shogi_core.specs.Lines.{are_aligned, are_lined, is_seen}
use Rattle.shogi_core.specs.Movement.{Cells, piece_at, reaches, cell_reaches}
use Rattle.shogi_core.specs.Pieces.{opponent_of}
use Rattle.shogi_core.specs.Position.{Shogi, HandCounts, count_in_hand}
use Rattle.shogi_moves.specs.After.{after, piece_moved}
use Rattle.shogi_moves.specs.Destinations.{is_destination}
use Rattle.shogi_moves.specs.Legal.{is_legal}
use Rattle.shogi_moves.specs.Origins.{move_to}
use Rattle.shogi_moves.specs.declared.origin.Origin.{Origin}
use Rattle.shogi_moves.specs.declared.origin.Origin.TheVariants as origins
use Rattle.shogi_core.specs.Zones.{may_promote, is_around}
use Rattle.shogi_moves.specs.LegalMoves.{legal_codes}
use Rattle.shogi_replies.specs.declared.move_filter.MoveFilter.{MoveFilter}
use Rattle.shogi_replies.specs.declared.replies.ReplyInfo.{ReplyInfo}

-- the move is quiet: it takes nothing and does not promote
abbrev pub is_quiet : Shogi → Option Move → Bool
is_quiet p (Some (Board from to promote)) = not promote && is_none (piece_at p.cells to)
is_quiet p (Some (Drop kind to)) = true
is_quiet p None = true

-- the code is that of a quiet move
abbrev pub is_quiet_code : Shogi → ℕ → Bool
is_quiet_code p code = is_quiet p (move_of code)

-- the codes of the quiet legal moves
abbrev pub quiet_codes : Shogi → List ℕ
quiet_codes p = filter (is_quiet_code p) (legal_codes p)

-- the piece on a steps to the empty square t and can move again from there without promotion
abbrev pub is_quiet_step : Cells → ℕ → ℕ → Bool
is_quiet_step cells a t =
    cell_steps (piece_at cells a) a t
    && is_none (piece_at cells t)
    && not (is_immobile t (piece_at cells a))

-- the square lies on a line with a king of the side on `king`, whatever stands between
abbrev pub is_line_of_king : Cells → Color → ℕ → ℕ → Bool
is_line_of_king cells side a king = is_king side (piece_at cells king) && are_aligned king a

-- the square lies on a line with some king of the side, whatever stands between
unfoldable pub is_aligned_with_king : Cells → Color → ℕ → Bool
is_aligned_with_king cells side a = some_below 81 (is_line_of_king cells side a)

-- a piece of the side, no king, and on no line with one of its kings
abbrev pub is_unbound : Cells → Color → ℕ → Bool
is_unbound cells side a =
    is_piece_of side (piece_at cells a)
    && not (is_king side (piece_at cells a))
    && not (is_aligned_with_king cells side a)

-- the piece on a has a quiet step to t, and t is not `to`
abbrev pub is_step_beside : Cells → ℕ → ℕ → ℕ → Bool
is_step_beside cells to a t = is_quiet_step cells a t && not (t == to)

-- an unbound piece stands on a, which is not `to`, and has a quiet step to a square other than `to`
unfoldable pub is_spare : Cells → Color → ℕ → ℕ → Bool
is_spare cells side to a =
    not (a == to) && is_unbound cells side a && some_below 81 (is_step_beside cells to a)

-- the side has a piece in hand that it may drop on every empty square when it is in no check
abbrev pub holds_free : HandCounts → Color → Bool
holds_free hands side =
    nat_lt 0 (count_in_hand hands side Silver)
    || nat_lt 0 (count_in_hand hands side Gold)
    || nat_lt 0 (count_in_hand hands side Bishop)
    || nat_lt 0 (count_in_hand hands side Rook)

-- a is not `to`, and either a spare piece stands there, or a is empty and the hand has a piece for any empty square
abbrev pub is_way : Shogi → Color → ℕ → ℕ → Bool
is_way p side to a =
    is_spare p.cells side to a
    || not (a == to) && is_none (piece_at p.cells a) && holds_free p.hands side

-- for each square the set has another one
abbrev pub HasOthers : ℕ → Type 0
HasOthers set = (n : ℕ) → some_below 81 (λ a. has_bit set a && not (a == n)) ≡ true

-- the piece on a has a quiet step to each of the squares
abbrev pub AreQuietSteps : Cells → ℕ → ℕ → Type 0
AreQuietSteps cells a squares =
    (t : ℕ) → t < 81 → has_bit squares t ≡ true → is_quiet_step cells a t ≡ true

-- if some square of the set is not the move's destination, the side keeps a spare piece
abbrev pub LeaveFreeMovers : Cells → Color → ℕ → Type 0
LeaveFreeMovers cells side squares = (a to : ℕ) → a < 81 → has_bit squares a ≡ true → a ≢ to
    → some_below 81 (is_spare cells side to) ≡ true

-- the mask has the kings of the side, and each square for which the test holds with a king that is not left to look at
pub record HasFromKings (holds : ℕ → ℕ → Bool) (cells : Cells) (side : Color) (left mask : ℕ) : Type 0 where
  pub kings : (n : ℕ) → n < 81 → is_king side (piece_at cells n) ≡ true → has_bit mask n ≡ true
  pub squares : (k n : ℕ) → k < 81 → n < 81 → is_king side (piece_at cells k) ≡ true
      → has_bit left k ≡ false → holds k n ≡ true → has_bit mask n ≡ true

-- the mask has the kings of the side and the squares in view of the kings that are not left to look at
abbrev pub Sees : Cells → Color → ℕ → ℕ → Type 0
Sees cells = HasFromKings (is_seen cells) cells

-- the mask has the kings of the side and the squares on lines with the kings that are not left to look at
abbrev pub Aligns : Cells → Color → ℕ → ℕ → Type 0
Aligns = HasFromKings are_aligned

-- no enemy slider on a line with a king of the side is on an open line with the square
abbrev pub StaysCovered : Cells → Color → ℕ → Type 0
StaysCovered cells side n =
    (a : ℕ) → a < 81 → is_sniping cells side a ≡ true → are_lined cells n a ≡ false

-- the piece, put on the square, attacks no king of the side
abbrev pub IsHarmless : Cells → Color → Option Piece → ℕ → Type 0
IsHarmless cells side cell to = (k : ℕ) → k < 81 → is_king side (piece_at cells k) ≡ true
    → cell_reaches cells cell to k ≡ false

-- the piece attacks no king of the side from squares outside the set
abbrev pub ChecksWithin : Cells → Color → Option Piece → ℕ → Type 0
ChecksWithin cells side cell set =
    (n : ℕ) → n < 81 → has_bit set n ≡ false → IsHarmless cells side cell n

-- the piece, put on the square, attacks no king of the side once `from` is empty
abbrev pub IsHarmlessFrom : Cells → Color → ℕ → Option Piece → ℕ → Type 0
IsHarmlessFrom cells side from cell to = (k : ℕ) → k < 81 → is_king side (piece_at cells k) ≡ true
    → cell_reaches (slice_set cells from None) cell to k ≡ false

-- the piece leaves a square out of the king view; or it blocks no slider there and attacks no king from its destination once `from` is empty
abbrev pub DiscoversNothing : Cells → Color → ℕ → ℕ → Option Piece → ℕ → Type 0
DiscoversNothing cells side king_view from cell to =
    (has_bit king_view from ≡ false)
    ⊎ (IsHarmlessFrom cells side from cell to × StaysCovered cells side from)

-- the piece on `from` discovers nothing by a move to a square outside the set from which it attacks no king
abbrev pub DiscoversWithin : Cells → Color → ℕ → ℕ → ℕ → Type 0
DiscoversWithin cells side king_view from set = (promote : Bool) (n : ℕ) → n < 81
    → has_bit set n ≡ false
    → IsHarmless cells side (piece_moved promote (piece_at cells from)) n
    → DiscoversNothing cells side king_view from (piece_moved promote (piece_at cells from)) n

-- `DiscoversWithin` for the opponent's kings
abbrev pub DiscoversChecksWithin : Shogi → ℕ → ℕ → ℕ → Type 0
DiscoversChecksWithin p king_view from set = DiscoversWithin p.cells (opponent_of p.side) king_view from set

-- a move of the origin to a square outside the set discovers nothing; a drop never does
abbrev pub OpensChecksWithin : Shogi → ℕ → Origin → ℕ → Type 0
OpensChecksWithin p king_view (origins.Board from promote) set =
    (from < 81) × DiscoversChecksWithin p king_view from set
OpensChecksWithin p king_view (origins.Drop kind) set = ⊤

-- `king_view` has the squares in view of the opponent's kings; if some square of `free_movers` is not the move's destination, the opponent keeps a step or a drop
pub record IsReplyInfo (p : Shogi) (king_view free_movers : ℕ) : Type 0 where
  pub sees : Sees p.cells (opponent_of p.side) 0 king_view
  pub spares : (a to : ℕ) → a < 81 → has_bit free_movers a ≡ true → a ≢ to
      → some_below 81 (is_way p (opponent_of p.side) to) ≡ true

-- the reply info is true of the position
abbrev pub IsReplyInfoOf : ReplyInfo → Shogi → Type 0
IsReplyInfoOf info p = IsReplyInfo p info.king_view.bits info.free_movers.bits

-- neither `from` nor any of the squares is in the king view
pub record IsUnseen (info : ReplyInfo) (from squares : ℕ) : Type 0 where
  pub start : has_bit info.king_view.bits from ≡ false
  pub ends : bit_and squares info.king_view.bits ≡ 0

-- the square is not closed, and `free_movers` has another one
pub record IsOpen (closed free_movers n : ℕ) : Type 0 where
  pub unclosed : has_bit closed n ≡ false
  pub way : (a : ℕ) × (a < 81) × (has_bit free_movers a ≡ true) × (a ≢ n)

-- each of the squares is open
abbrev pub AreOpen : ℕ → ℕ → ℕ → Type 0
AreOpen closed free_movers squares =
    (n : ℕ) → n < 81 → has_bit squares n ≡ true → IsOpen closed free_movers n

-- if the move is legal, the opponent has a legal reply
abbrev pub IsAnswered : Shogi → Move → Type 0
IsAnswered p m = is_legal p m ≡ true → legal_codes (after p m) ≢ []

-- after the move the opponent has a quiet legal reply
abbrev pub HasQuietReply : Shogi → Move → Type 0
HasQuietReply p m = quiet_codes (after p m) ≢ []

-- if the move is legal, the opponent has a quiet legal reply
abbrev pub IsQuietlyAnswered : Shogi → Move → Type 0
IsQuietlyAnswered p m = is_legal p m ≡ true → HasQuietReply p m

-- each move of the origin to a square of the set, if legal, has a quiet legal reply
abbrev pub AreAnswered : Shogi → Origin → ℕ → Type 0
AreAnswered p origin set =
    (n : ℕ) → n < 81 → has_bit set n ≡ true → IsQuietlyAnswered p (move_to origin n)

-- each board move of a piece on one of the squares, if legal, has a quiet legal reply
abbrev pub AreDistant : Shogi → ℕ → Type 0
AreDistant p squares = (a n : ℕ) (promote : Bool) → a < 81 → n < 81 → has_bit squares a ≡ true
    → reaches p.cells a n ≡ true → IsQuietlyAnswered p (Board a n promote)

-- each of the squares is in the set
abbrev pub AreAmong : ℕ → ℕ → Type 0
AreAmong squares set = (n : ℕ) → n < 81 → has_bit squares n ≡ true → has_bit set n ≡ true

-- the set has those of the squares at which a piece from `from` may promote
abbrev pub PromotesWithin : Cells → ℕ → ℕ → ℕ → Type 0
PromotesWithin cells from squares set = (n : ℕ) → n < 81 → has_bit squares n ≡ true
    → may_promote (piece_at cells from) from n ≡ true → has_bit set n ≡ true

-- if the move is legal, it gives no check
abbrev pub GivesNoCheck : Shogi → Move → Type 0
GivesNoCheck p m = is_legal p m ≡ true → in_check (after p m).cells (opponent_of p.side) ≡ false

-- if the move is legal, it has a quiet legal reply and, if no escapes are given, gives no check
abbrev pub GuaranteesReply : Shogi → ℕ → Move → Type 0
GuaranteesReply p escapes m = IsQuietlyAnswered p m × (escapes ≡ 0 → GivesNoCheck p m)

-- each move of the origin to a square of the set guarantees a reply
abbrev pub AreGuaranteed : Shogi → ℕ → Origin → ℕ → Type 0
AreGuaranteed p escapes origin set =
    (n : ℕ) → n < 81 → has_bit set n ≡ true → GuaranteesReply p escapes (move_to origin n)

-- each move from `from` to a square of the set guarantees a reply, promoting or not, whatever escapes are given
abbrev pub AreAlwaysGuaranteed : Shogi → ℕ → ℕ → Type 0
AreAlwaysGuaranteed p from set = (escapes : ℕ) (promote : Bool)
    → AreGuaranteed p escapes (origins.Board from promote) set

-- the squares include all around each king of the side
abbrev pub HasAroundKings : Cells → Color → ℕ → Type 0
HasAroundKings cells side squares = (k n : ℕ) → k < 81 → n < 81
    → is_king side (piece_at cells k) ≡ true → is_around k n ≡ true → has_bit squares n ≡ true

-- a move from `from` to n starts out of the king view, attacks no king and, if promotions are excluded, cannot promote
pub record IsFarMove (p : Shogi) (king_view : ℕ) (promotes : Bool) (from n : ℕ) : Type 0 where
  pub unseen : has_bit king_view from ≡ false
  pub harmless : (promote : Bool)
      → IsHarmless p.cells (opponent_of p.side) (piece_moved promote (piece_at p.cells from)) n
  pub non_promoting : promotes ≡ false → may_promote (piece_at p.cells from) from n ≡ false

-- the piece on `from` reaches n, and a move of the kind may end there
abbrev pub is_reached : Shogi → Bool → ℕ → ℕ → Bool
is_reached p capture from n =
    reaches p.cells from n && is_destination capture p.side (piece_at p.cells n)

-- the set is empty unless promotions are included
abbrev pub LetPromote : Bool → ℕ → Type 0
LetPromote promotes set = (n : ℕ) → has_bit set n ≡ true → promotes ≡ true

-- the filter has each move of the kind from `from`, and each guarantees a reply
pub record GuaranteesReplies (p : Shogi) (capture : Bool) (move_filter : MoveFilter) (escapes from : ℕ) : Type 0 where
  pub piece : has_bit move_filter.pieces.bits from ≡ true
  pub non_promoting : (n : ℕ) → n < 81 → is_reached p capture from n ≡ true
      → (has_bit move_filter.squares.bits n ≡ true) × GuaranteesReply p escapes (Board from n false)
  pub promoting : (n : ℕ) → n < 81 → is_reached p capture from n ≡ true
      → may_promote (piece_at p.cells from) from n ≡ true
      → (move_filter.promotes ≡ true) × GuaranteesReply p escapes (Board from n true)

-- the filter has each move of the kind from each of the squares, and each guarantees a reply
abbrev pub GuaranteeReplies : Shogi → Bool → MoveFilter → ℕ → ℕ → Type 0
GuaranteeReplies p capture move_filter escapes squares =
    (n : ℕ) → n < 81 → has_bit squares n ≡ true → GuaranteesReplies p capture move_filter escapes n

-- all moves of the pieces on the squares are far moves
abbrev pub AreNonChecking : Shogi → ℕ → Bool → ℕ → Type 0
AreNonChecking p king_view promotes squares = (a n : ℕ) → a < 81 → n < 81 → has_bit squares a ≡ true
    → reaches p.cells a n ≡ true → IsFarMove p king_view promotes a n

-- the piece attacks no king of the opponent from those squares of `among` that are outside the set
abbrev pub ChecksAmong : Shogi → Option Piece → ℕ → ℕ → Type 0
ChecksAmong p cell among set = (n : ℕ) → n < 81 → has_bit among n ≡ true → has_bit set n ≡ false
    → IsHarmless p.cells (opponent_of p.side) cell n

-- a legal move from `from` to `to` gives no check unless the moved piece attacks a king from `to`
abbrev pub DiscoversNoCheck : Shogi → ℕ → ℕ → Type 0
DiscoversNoCheck p from to = (promote : Bool)
    → IsHarmless p.cells (opponent_of p.side) (piece_moved promote (piece_at p.cells from)) to
    → GivesNoCheck p (Board from to promote)
