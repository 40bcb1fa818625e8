-- Threats, and what their absence relies on, of a `PassedReply`: the position after a pass and a reply (own choice).
use Rattle.std.specs.Prelude.{ℕ, ◌≡◌, ◌<◌, true, false, Option, Some}
use Rattle.shogi_core.specs.declared.piece.Kind.{Kind}
use Rattle.shogi_core.specs.declared.piece.Piece.{Piece}
use Rattle.shogi_core.specs.Bits.{has_bit}
use Rattle.shogi_core.specs.Cell.{is_piece_of}
use Rattle.shogi_core.specs.Movement.{Cells, cell_reaches, piece_at, reaches}
use Rattle.shogi_core.specs.Position.{Shogi, count_in_hand}
use Rattle.shogi_moves.specs.After.{dropped}
use Rattle.analogous_moves.specs.declared.passed_reply.ForbiddenSquares.{ForbiddenSquares}
use Rattle.analogous_moves.specs.declared.passed_reply.PassedReply.{PassedReply}
use Rattle.analogous_moves.specs.Analogies.{Allows, AllowsPromotions, AreUnthreatening, AreOffLines, IsUnthreatening, HasNoThreats, ExposesOwnKing, KingHasReplies, IsOffOpenLines, DropsAreNoThreat, DropGetsNoThreat, PieceHasNoThreat, PieceGetsNoThreat, lifted}

-- the position with another board
abbrev pub with_cells : Shogi → Cells → Shogi
with_cells p cells = record { cells = cells; hands = p.hands; side = p.side }

-- the position of a passed reply: its board, with the hands and side of its node
abbrev pub place_in : PassedReply → Shogi
place_in s = with_cells s.node.position s.board

-- a piece of the side to move stands on the square
abbrev pub IsOwnIn : PassedReply → ℕ → Type 0
IsOwnIn s a = is_piece_of s.node.position.side (piece_at s.board a) ≡ true

-- off the set, promotions of the piece are no threats
abbrev pub PromotionsAllowedIn : PassedReply → Piece → ℕ → ℕ → Type 0
PromotionsAllowedIn s piece squares set =
    AllowsPromotions s.quiet_only (place_in s) s.node.eval s.gains s.king piece squares set

-- off the sets, moves of the piece are no threats
abbrev pub AllowsIn : PassedReply → Piece → ℕ → ForbiddenSquares → Type 0
AllowsIn s piece squares forbidden =
    Allows s.quiet_only (place_in s) s.node.eval s.gains s.king piece squares forbidden

-- each board move of the piece on `from` is no threat, or exposes its own king
abbrev pub PieceHasNoThreatIn : PassedReply → ℕ → ℕ → Type 0
PieceHasNoThreatIn s kept_empty from =
    PieceHasNoThreat s.quiet_only (place_in s) s.node.eval s.gains s.king s.squares.bits kept_empty
    from

-- no piece of the side to move has a threat
abbrev pub PiecesHaveNoThreatIn : PassedReply → ℕ → Type 0
PiecesHaveNoThreatIn s kept_empty = (from : ℕ) → from < 81 → IsOwnIn s from
    → PieceHasNoThreatIn s kept_empty from

-- moves from `from` to the squares of `set` expose their own king, as long as nothing comes to stand on `kept_empty`
abbrev pub ExposeOwnKingIn : PassedReply → ℕ → ℕ → ℕ → Type 0
ExposeOwnKingIn s from set kept_empty = (n : ℕ) → n < 81 → has_bit set n ≡ true
    → ExposesOwnKing (place_in s) kept_empty from n

-- the piece on `from` has no new threat once a piece of its side has left `a`
abbrev pub PieceGetsNoThreatIn : PassedReply → ℕ → ℕ → Type 0
PieceGetsNoThreatIn s from a =
    PieceGetsNoThreat s.quiet_only (place_in s) s.node.eval s.gains s.king s.squares.bits from a

-- the piece on `from` has no new threat once any piece of its side outside `relied` has left its square
abbrev pub PieceGetsNoThreatsIn : PassedReply → ℕ → ℕ → Type 0
PieceGetsNoThreatsIn s from relied = (a : ℕ) → a < 81 → has_bit relied a ≡ false → IsOwnIn s a
    → PieceGetsNoThreatIn s from a

-- the set has only reply squares on no line with `from`
abbrev pub AreOffLinesIn : PassedReply → ℕ → ℕ → Type 0
AreOffLinesIn s from set = AreOffLines from s.squares.bits set

-- the set has the squares that the piece attacks from `from`
abbrev pub AreTargetsIn : PassedReply → Piece → ℕ → ℕ → Type 0
AreTargetsIn s piece from set =
    (n : ℕ) → n < 81 → has_bit set n ≡ cell_reaches s.kingless (Some piece) from n

-- no piece of the side to move has a new threat once one outside `relied` has left its square
abbrev pub PiecesGetNoThreatsIn : PassedReply → ℕ → Type 0
PiecesGetNoThreatsIn s relied = (from : ℕ) → from < 81 → IsOwnIn s from
    → PieceGetsNoThreatsIn s from relied

-- the side to move has a piece of the kind in hand
abbrev pub IsInHandIn : PassedReply → Kind → Type 0
IsInHandIn s kind = 0 < count_in_hand s.node.position.hands s.node.position.side kind

-- if the kind is in hand, its drops leave one of the reply squares
abbrev pub DropsAreNoThreatIn : PassedReply → Kind → Type 0
DropsAreNoThreatIn s kind = IsInHandIn s kind
    → DropsAreNoThreat s.quiet_only (place_in s) s.king s.squares.bits kind

-- if the kind is in hand, its drops on emptied squares outside `relied` leave one of the reply squares
abbrev pub DropsGetNoThreatsIn : PassedReply → Kind → ℕ → Type 0
DropsGetNoThreatsIn s kind relied = IsInHandIn s kind → (a : ℕ) → a < 81 → has_bit relied a ≡ false
    → DropGetsNoThreat s.quiet_only (place_in s) s.king s.squares.bits kind a

-- the set has each square on an open line with the king or a reply square
abbrev pub CoversOpenLinesIn : PassedReply → ℕ → Type 0
CoversOpenLinesIn s lines = (a : ℕ) → a < 81 → has_bit lines a ≡ false
    → IsOffOpenLines (place_in s) s.king s.squares.bits a

-- with `a` emptied, the enemy king keeps its reply squares and is not in check
abbrev pub KingHasRepliesLifted : PassedReply → ℕ → Type 0
KingHasRepliesLifted s a = KingHasReplies s.quiet_only (lifted (place_in s) a) s.king s.squares.bits

-- with any one of the pieces lifted, the enemy king keeps its reply squares and is not in check
abbrev pub KingHasRepliesEachLifted : PassedReply → ℕ → Type 0
KingHasRepliesEachLifted s pieces = (a : ℕ) → a < 81 → has_bit pieces a ≡ true
    → KingHasRepliesLifted s a

-- the side to move has no threat
abbrev pub HasNoThreatsIn : PassedReply → ℕ → Type 0
HasNoThreatsIn s kept_empty =
    HasNoThreats s.quiet_only (place_in s) s.node.eval s.gains s.king s.squares.bits kept_empty

-- the side to move has no threat with `a` emptied
abbrev pub HasNoThreatsLifted : PassedReply → ℕ → ℕ → Type 0
HasNoThreatsLifted s kept_empty a =
    HasNoThreats s.quiet_only (lifted (place_in s) a) s.node.eval s.gains s.king s.squares.bits
    kept_empty

-- the side to move has no threat with one of its pieces outside `relied` lifted, and no square outside `relied` is on an open line with the king or a reply square
pub record HasNoThreatsWithout (s : PassedReply) (kept_empty relied : ℕ) : Type 0 where
  pub no_threats : (a : ℕ) → a < 81 → IsOwnIn s a → has_bit relied a ≡ false
      → HasNoThreatsLifted s kept_empty a
  pub off_open_lines : (a : ℕ) → a < 81 → has_bit relied a ≡ false
      → IsOffOpenLines (place_in s) s.king s.squares.bits a

-- the passed replies differ only in what stands on the board
pub record IsAlike (s t : PassedReply) : Type 0 where
  pub node : t.node ≡ s.node
  pub king : t.king ≡ s.king
  pub squares : t.squares ≡ s.squares
  pub gains : t.gains ≡ s.gains
  pub quiet_only : t.quiet_only ≡ s.quiet_only

-- this piece makes no threat on `to`
abbrev pub IsUnthreateningIn : PassedReply → Option Piece → ℕ → Type 0
IsUnthreateningIn s cell to =
    IsUnthreatening s.quiet_only (place_in s) s.node.eval s.gains s.king s.squares.bits cell to

-- this piece makes no threat on any square of the set
abbrev pub AreUnthreateningIn : PassedReply → Option Piece → ℕ → Type 0
AreUnthreateningIn s cell set =
    AreUnthreatening s.quiet_only (place_in s) s.node.eval s.gains s.king s.squares.bits cell set

-- if the kind is in hand, its drops on the set make no threat
abbrev pub AreUnthreateningDropsIn : PassedReply → Kind → ℕ → Type 0
AreUnthreateningDropsIn s kind set = IsInHandIn s kind
    → AreUnthreateningIn s (dropped s.node.position.side kind) set

-- the piece lifted from `from` makes no threat on squares of the set that are among its targets
abbrev pub IsUnthreateningFrom : PassedReply → ℕ → ℕ → ℕ → Type 0
IsUnthreateningFrom s from targets set = (to : ℕ) → to < 81 → has_bit set to ≡ true
    → has_bit targets to ≡ true
    → IsUnthreatening s.quiet_only (lifted (place_in s) from) s.node.eval s.gains s.king
    s.squares.bits (piece_at s.board from) to

-- each of the pieces, once lifted, makes no threat on squares of the set that it reaches on the board before
abbrev pub AreUnthreateningEnds : PassedReply → Cells → ℕ → ℕ → Type 0
AreUnthreateningEnds s before pieces set = (from to : ℕ) → from < 81 → to < 81
    → has_bit pieces from ≡ true → has_bit set to ≡ true → reaches before from to ≡ true
    → IsUnthreatening s.quiet_only (lifted (place_in s) from) s.node.eval s.gains s.king
    s.squares.bits (piece_at s.board from) to
