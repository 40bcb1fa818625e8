-- The method of analogies: drops and quiet moves with three or four plies left that one reply refutes, since they change nothing that the refutation relies on (own choice).
use Rattle.std.specs.Prelude.{ℕ, ◌≡◌, ◌≢◌, ◌⊎◌, ◌<◌, ◌≤◌, ◌≤ℤ◌, ◌+◌, ◌-◌, ℤ, Bool, true, false, Option, None, Some, is_none, length, slice_set}
use Rattle.shogi_core.specs.declared.moves.Move.{Move}
use Rattle.shogi_core.specs.declared.moves.Move.TheVariants.{Board, Drop}
use Rattle.shogi_core.specs.declared.piece.Color.{Color}
use Rattle.shogi_core.specs.declared.piece.Kind.{Kind}
use Rattle.shogi_core.specs.declared.piece.Piece.{Piece}
use Rattle.shogi_core.specs.Bits.{has_bit}
use Rattle.shogi_core.specs.Cell.{HasNoOtherKing, is_immobile, is_king, is_piece_of}
use Rattle.shogi_core.specs.Attack.{in_check}
use Rattle.shogi_core.specs.Codes.{code_of}
use Rattle.shogi_core.specs.Lines.{are_aligned, are_lined}
use Rattle.shogi_core.specs.Movement.{Cells, cell_reaches, piece_at, reaches}
use Rattle.shogi_core.specs.Pieces.{opponent_of}
use Rattle.shogi_core.specs.Position.{Shogi, count_in_hand}
use Rattle.shogi_core.specs.Rays.{direction_at, is_on_ray}
use Rattle.shogi_core.specs.Zones.{may_promote}
use Rattle.shogi_moves.specs.After.{after, dropped, piece_moved}
use Rattle.shogi_moves.specs.Escapes.{IsEscape}
use Rattle.shogi_moves.specs.Legal.{is_legal, is_pawn_drop}
use Rattle.shogi_replies.specs.ReplyInfo.{IsHarmless, is_quiet_step}
use Rattle.shogi_eval.specs.declared.eval.Eval.{Eval}
use Rattle.shogi_eval.specs.Exchange.{resolves_captures}
use Rattle.shogi_eval.specs.Material.{promotion_gain, taken_gain}
use Rattle.minimax.specs.Minimax.{worth}
use Rattle.shogi_core.specs.declared.piece.Kind.TheVariants as kinds
use Rattle.shogi_core.specs.declared.squares.Squares.{Squares}
use Rattle.analogous_moves.specs.declared.moves.DropSquares.{DropSquares}
use Rattle.analogous_moves.specs.declared.moves.AnalogousMoves.{AnalogousMoves}
use Rattle.analogous_moves.specs.declared.passed_reply.ForbiddenSquares.{ForbiddenSquares}

-- the position after a pass: the opponent is to move
abbrev pub passed : Shogi → Shogi
passed p = record { cells = p.cells; hands = p.hands; side = opponent_of p.side }

-- the position after a pass and the reply: the side that passed is to move again
abbrev pub after_reply : Shogi → Move → Shogi
after_reply p r = after (passed p) r

-- the position with the square `a` emptied
abbrev pub lifted : Shogi → ℕ → Shogi
lifted q a = record { cells = slice_set q.cells a None; hands = q.hands; side = q.side }

-- the position with this piece put on the square `b`
abbrev pub placed : Shogi → Option Piece → ℕ → Shogi
placed q cell b = record { cells = slice_set q.cells b cell; hands = q.hands; side = q.side }

-- the squares of the move are on the board
abbrev pub IsOnSquares : Move → Type 0
IsOnSquares (Board from to promote) = (from < 81) × (to < 81)
IsOnSquares (Drop kind to) = to < 81

-- the move neither begins nor ends on the square
abbrev pub IsOff : Move → ℕ → Type 0
IsOff (Board from to promote) n = (n ≢ from) × (n ≢ to)
IsOff (Drop kind to) n = n ≢ to

-- the square is not between those of the move
abbrev pub IsOffWay : Move → ℕ → Type 0
IsOffWay (Board from to promote) n = (d : ℕ) → d < 8 → is_on_ray (direction_at d) from n ≡ true
    → is_on_ray (direction_at d) n to ≡ false
IsOffWay (Drop kind to) n = Unit {0}

-- the square is neither one of the move's nor between them
abbrev pub IsClearOf : Move → ℕ → Type 0
IsClearOf r n = IsOff r n × IsOffWay r n

-- the set has the squares of the move and all between them
abbrev pub CoversMove : Move → ℕ → Type 0
CoversMove r set = (n : ℕ) → n < 81 → has_bit set n ≡ false → IsClearOf r n

-- the drop leaves the reply legal: it is clear of the reply, which drops no pawn, and gives no check after a pass and the reply
pub record LeavesReplyLegal (p : Shogi) (kind : Kind) (to : ℕ) (r : Move) : Type 0 where
  pub spared : IsClearOf r to
  pub harmless :
      IsHarmless (after_reply p r).cells (opponent_of p.side) (dropped p.side kind) to
  pub plain : is_pawn_drop r ≡ false

-- from the square `n`, this piece does not attack all of the squares: one is left, another than `n` itself if replies have to be quiet
abbrev pub LeavesReplySquare : Bool → Cells → Option Piece → ℕ → ℕ → Type 0
LeavesReplySquare quiet_only cells cell n squares = (e : ℕ) × (e < 81) × (has_bit squares e ≡ true)
    × (cell_reaches cells cell n e ≡ false) × (quiet_only ≡ true → e ≢ n)

-- the board without the enemy king, so that attacks pass through its square
abbrev pub without_king : Shogi → ℕ → Cells
without_king q king = slice_set q.cells king None

-- the move of this piece to the square `n` is no threat: it gains at most `gains`, and leaves one of the reply squares unattacked
pub record IsNoThreat (quiet_only : Bool) (q : Shogi) (e : Eval) (gains king : ℕ)
    (cell : Option Piece) (squares n : ℕ) (promote : Bool) : Type 0 where
  pub gain : taken_gain e (piece_at q.cells n) + promotion_gain promote cell ≤ gains
  pub leaves : LeavesReplySquare quiet_only (without_king q king) (piece_moved promote cell) n
      squares

-- the set has each square on which a capture gains more than `most`
abbrev pub AreCapturesAbove : Cells → Color → Eval → ℕ → ℕ → Type 0
AreCapturesAbove cells side e most set = (n : ℕ) → n < 81
    → is_piece_of side (piece_at cells n) ≡ false
    → has_bit set n ≡ false → taken_gain e (piece_at cells n) ≤ most

-- off the set, a promotion of the piece gains at most `gains`, with and without a capture, and leaves one of the reply squares
pub record AllowsPromotions (quiet_only : Bool) (q : Shogi) (e : Eval) (gains king : ℕ)
    (piece : Piece) (squares set : ℕ) : Type 0 where
  pub leaves : (n : ℕ) → n < 81 → has_bit set n ≡ false
      → LeavesReplySquare quiet_only (without_king q king) (piece_moved true (Some piece)) n squares
  pub gain : (n : ℕ) → n < 81 → has_bit set n ≡ false
      → promotion_gain true (Some piece) ≤ gains
  pub takes : (n : ℕ) → n < 81 → has_bit set n ≡ false
      → is_piece_of q.side (piece_at q.cells n) ≡ false
      → taken_gain e (piece_at q.cells n) + promotion_gain true (Some piece) ≤ gains

-- off the one set, moves of the piece without promotion gain at most `gains` and leave a reply square; off the other, promotions do
pub record Allows (quiet_only : Bool) (q : Shogi) (e : Eval) (gains king : ℕ) (piece : Piece)
    (squares : ℕ) (forbidden : ForbiddenSquares) : Type 0 where
  pub leaves : (n : ℕ) → n < 81 → has_bit forbidden.non_promoting.bits n ≡ false
      → LeavesReplySquare quiet_only (without_king q king) (Some piece) n squares
  pub takes : AreCapturesAbove q.cells q.side e gains forbidden.non_promoting.bits
  pub promotions : AllowsPromotions quiet_only q e gains king piece squares
      forbidden.promoting.bits

-- the set has only those of the squares that share no rank, file or diagonal with `from`
abbrev pub AreOffLines : ℕ → ℕ → ℕ → Type 0
AreOffLines from squares set = (n : ℕ) → n < 81 → has_bit set n ≡ true
    → (has_bit squares n ≡ true) × (are_aligned from n ≡ false)

-- the board after a move without promotion
abbrev pub moved : Cells → ℕ → ℕ → Cells
moved cells from n = slice_set (slice_set cells from None) n (piece_at cells from)

-- the move from `from` to `n` leaves its own king attacked, as long as nothing comes to stand on the set
pub record ExposesOwnKing (q : Shogi) (kept_empty from n : ℕ) : Type 0 where
  pub foe : ℕ
  pub home : ℕ
  pub on_board : (foe < 81) × (home < 81)
  pub stands : is_piece_of (opponent_of q.side) (piece_at (moved q.cells from n) foe) ≡ true
  pub crown : is_king q.side (piece_at (moved q.cells from n) home) ≡ true
  pub attacks : reaches (moved q.cells from n) foe home ≡ true
  pub way : CoversMove (Board foe home false) kept_empty

-- the move is no threat, judged by reply squares off the lines through `from` alone
abbrev pub IsNoThreatOffLines : Bool → Shogi → Eval → ℕ → ℕ → ℕ → ℕ → ℕ → Bool → Type 0
IsNoThreatOffLines quiet_only q e gains king squares from n promote =
    (taken_gain e (piece_at q.cells n) + promotion_gain promote (piece_at q.cells from) ≤ gains)
    × ((set : ℕ) × AreOffLines from squares set
    × LeavesReplySquare quiet_only (without_king q king)
    (piece_moved promote (piece_at q.cells from)) n set)

-- each board move of the piece on `from` is no threat, or exposes its own king
abbrev pub PieceHasNoThreat : Bool → Shogi → Eval → ℕ → ℕ → ℕ → ℕ → ℕ → Type 0
PieceHasNoThreat quiet_only q e gains king squares kept_empty from =
    (n : ℕ) (promote : Bool) → n < 81
    → is_piece_of q.side (piece_at q.cells n) ≡ false
    → cell_reaches (without_king q king) (piece_at q.cells from) from n ≡ true
    → (promote ≡ true → may_promote (piece_at q.cells from) from n ≡ true)
    → IsNoThreatOffLines quiet_only q e gains king squares from n promote
    ⊎ ExposesOwnKing q kept_empty from n

-- a drop of the kind leaves one of the reply squares, wherever it may end
abbrev pub DropsAreNoThreat : Bool → Shogi → ℕ → ℕ → Kind → Type 0
DropsAreNoThreat quiet_only q king squares kind = (n : ℕ) → n < 81 → piece_at q.cells n ≡ None
    → is_immobile n (dropped q.side kind) ≡ false
    → LeavesReplySquare quiet_only (without_king q king) (dropped q.side kind) n squares

-- a piece of the opponent, on no line with its king, steps to an empty square
pub record IsSpareMove (q : Shogi) (king a t : ℕ) : Type 0 where
  pub own : is_piece_of (opponent_of q.side) (piece_at q.cells a) ≡ true
  pub off_king : a ≢ king
  pub off_lines : are_aligned king a ≡ false
  pub step : is_quiet_step q.cells a t ≡ true

-- there is a spare move whatever square `b` is filled first, and whatever square `d` the next move ends on
abbrev pub HasSpareMoves : Shogi → ℕ → Type 0
HasSpareMoves q king = (b d : ℕ) → (a : ℕ) × (t : ℕ) × (a < 81) × (t < 81) × (a ≢ d) × (t ≢ d)
    × (t ≢ b) × IsSpareMove q king a t

-- one of two statements holds, without saying which
abbrev pub HoldsEither : Type 0 → Type 0 → Type 0
HoldsEither A B = (A → ⊥) → (B → ⊥) → ⊥

-- the square is a flight square of the king, and empty if replies have to be quiet
pub record IsFlight (quiet_only : Bool) (q : Shogi) (king n : ℕ) : Type 0 where
  pub escape : IsEscape q.cells (opponent_of q.side) king n
  pub bare : quiet_only ≡ true → is_none (piece_at q.cells n) ≡ true

-- each of the squares leaves the opponent a reply while not attacked: its king may go there, or stands there and there are spare moves
abbrev pub AreReplySquares : Bool → Shogi → ℕ → ℕ → Type 0
AreReplySquares quiet_only q king squares = (n : ℕ) → n < 81 → has_bit squares n ≡ true
    → HoldsEither (IsFlight quiet_only q king n) ((n ≡ king) × HasSpareMoves q king)

-- the opponent's only king stands on `king` and is not in check, and these are its reply squares
pub record KingHasReplies (quiet_only : Bool) (q : Shogi) (king squares : ℕ) : Type 0 where
  pub cells_fit : length q.cells ≡ 81
  pub king_fits : king < 81
  pub crown : is_king (opponent_of q.side) (piece_at q.cells king) ≡ true
  pub only_king : HasNoOtherKing q.cells (opponent_of q.side) king
  pub unchecked : in_check q.cells (opponent_of q.side) ≡ false
  pub replies : AreReplySquares quiet_only q king squares

-- the side to move has no threat on the board or by drops
pub record HasNoThreats (quiet_only : Bool) (q : Shogi) (e : Eval)
    (gains king squares kept_empty : ℕ) : Type 0 where
  pub king_replies : KingHasReplies quiet_only q king squares
  pub pieces : (from : ℕ) → from < 81 → is_piece_of q.side (piece_at q.cells from) ≡ true
      → PieceHasNoThreat quiet_only q e gains king squares kept_empty from
  pub kinds : (kind : Kind) → 0 < count_in_hand q.hands q.side kind
      → DropsAreNoThreat quiet_only q king squares kind

-- once a piece of its side has left `a`, the piece on `from` has no new threat: none at `a`, and none on squares that it did not reach before
pub record PieceGetsNoThreat (quiet_only : Bool) (q : Shogi) (e : Eval)
    (gains king squares from a : ℕ) : Type 0 where
  pub no_threat : (n : ℕ) (promote : Bool) → n < 81
      → is_piece_of q.side (piece_at (lifted q a).cells n) ≡ false
      → cell_reaches (without_king (lifted q a) king) (piece_at q.cells from) from n ≡ true
      → (cell_reaches (without_king q king) (piece_at q.cells from) from n ≡ true → n ≡ a)
      → (promote ≡ true → may_promote (piece_at q.cells from) from n ≡ true)
      → (taken_gain e (piece_at (lifted q a).cells n)
      + promotion_gain promote (piece_at q.cells from) ≤ gains)
      × ((set : ℕ) × AreOffLines from squares set
      × LeavesReplySquare quiet_only (without_king q king)
      (piece_moved promote (piece_at q.cells from)) n set)

-- a drop of the kind on `a`, once emptied, leaves one of the reply squares
abbrev pub DropGetsNoThreat : Bool → Shogi → ℕ → ℕ → Kind → ℕ → Type 0
DropGetsNoThreat quiet_only q king squares kind a = is_immobile a (dropped q.side kind) ≡ false
    → LeavesReplySquare quiet_only (without_king q king) (dropped q.side kind) a squares

-- the square is on no open line with the king or a reply square, so that leaving it opens no attack on them
pub record IsOffOpenLines (q : Shogi) (king squares a : ℕ) : Type 0 where
  pub off_king : are_lined (without_king q king) a king ≡ false
  pub off_squares : (n : ℕ) → n < 81 → has_bit squares n ≡ true
      → are_lined (without_king q king) a n ≡ false

-- this piece on `to` attacks neither the king nor a reply square, and no next move of it is a threat
pub record IsUnthreatening (quiet_only : Bool) (q : Shogi) (e : Eval) (gains king squares : ℕ)
    (cell : Option Piece) (to : ℕ) : Type 0 where
  pub off : has_bit squares to ≡ false
  pub king_far : cell_reaches (without_king q king) cell to king ≡ false
  pub far : (n : ℕ) → n < 81 → has_bit squares n ≡ true
      → cell_reaches (without_king q king) cell to n ≡ false
  pub next : (n : ℕ) (promote : Bool) → n < 81
      → is_piece_of q.side (piece_at q.cells n) ≡ false
      → cell_reaches (without_king q king) cell to n ≡ true
      → (promote ≡ true → may_promote cell to n ≡ true)
      → IsNoThreat quiet_only q e gains king cell squares n promote

-- this piece is unthreatening on each square of the set
abbrev pub AreUnthreatening : Bool → Shogi → Eval → ℕ → ℕ → ℕ → Option Piece → ℕ → Type 0
AreUnthreatening quiet_only q e gains king squares cell set =
    (n : ℕ) → n < 81 → has_bit set n ≡ true
    → IsUnthreatening quiet_only q e gains king squares cell n

-- a reply that bounds the value after the next move: any at depth 3; at depth 4 a quiet one, or any if captures are not settled
abbrev pub ReplySuffices : Bool → Eval → ℕ → Type 0
ReplySuffices quiet_only e depth = (depth ≡ 3)
    ⊎ ((depth ≡ 4) × ((resolves_captures e ≡ false) ⊎ (quiet_only ≡ true)))

-- the move is worth at most `most` with `depth` plies left
abbrev pub MoveIsWorthAtMost : Shogi → Eval → ℕ → ℤ → Move → Type 0
MoveIsWorthAtMost p e depth most m = worth p e (depth - 1) (code_of m) ≤ℤ most

-- each legal drop of the kind on the squares is worth at most `most`
abbrev pub DropsAreWorthAtMost : Shogi → Eval → ℕ → ℤ → Kind → ℕ → Type 0
DropsAreWorthAtMost p e depth most kind squares = (to : ℕ) → to < 81 → has_bit squares to ≡ true
    → is_legal p (Drop kind to) ≡ true → MoveIsWorthAtMost p e depth most (Drop kind to)

-- each legal move from `pieces` to `ends` that neither captures nor promotes is worth at most `most`
abbrev pub QuietsAreWorthAtMost : Shogi → Eval → ℕ → ℤ → ℕ → ℕ → Type 0
QuietsAreWorthAtMost p e depth most pieces ends = (from to : ℕ) → from < 81 → to < 81
    → has_bit pieces from ≡ true → has_bit ends to ≡ true → piece_at p.cells to ≡ None
    → is_legal p (Board from to false) ≡ true
    → MoveIsWorthAtMost p e depth most (Board from to false)

-- the move neither captures nor promotes
abbrev pub IsQuietMove : Shogi → Move → Type 0
IsQuietMove p (Board from to promote) = (promote ≡ false) × (piece_at p.cells to ≡ None)
IsQuietMove p (Drop kind to) = Unit {0}

-- the destinations for drops of the kind
abbrev pub drops_of : DropSquares → Kind → Squares
drops_of drops kinds.Pawn = drops.pawn
drops_of drops kinds.Lance = drops.lance
drops_of drops kinds.Knight = drops.knight
drops_of drops kinds.Silver = drops.silver
drops_of drops kinds.Gold = drops.gold
drops_of drops kinds.Bishop = drops.bishop
drops_of drops kinds.Rook = drops.rook

-- the sets hold the move, if it is quiet
abbrev pub IsOneOf : AnalogousMoves → Move → Type 0
IsOneOf d (Board from to promote) =
    (has_bit d.pieces.bits from ≡ true) × (has_bit d.ends.bits to ≡ true)
IsOneOf d (Drop kind to) = has_bit (drops_of d.drops kind).bits to ≡ true

-- each legal quiet move that the sets hold is worth at most their bound with `depth` plies left
abbrev pub AreAnalogous : Shogi → Eval → ℕ → AnalogousMoves → Type 0
AreAnalogous p e depth d = (m : Move) → IsOnSquares m → IsOneOf d m → IsQuietMove p m
    → is_legal p m ≡ true → MoveIsWorthAtMost p e depth d.most m
