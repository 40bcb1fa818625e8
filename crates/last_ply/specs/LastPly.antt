-- Scores, mates and replies of the legal moves of a node with one ply left (own choice).
use Rattle.std.specs.Prelude.{◌&&◌, ◌+◌, ◌*◌, ◌≤◌, ◌+ℤ◌, pos, not, ◌≡◌, ◌≢◌, ◌<◌, ◌≤ℤ◌, ◌<ℤ◌, ◌⊎◌, ℕ, ℤ, [], true, false, Bool, Option, Some}
use Rattle.shogi_core.specs.declared.moves.Move.{Move}
use Rattle.shogi_core.specs.declared.moves.Move.TheVariants.{Board, Drop}
use Rattle.shogi_core.specs.declared.moves.TheConstants.{SQUARE_CODES}
use Rattle.shogi_core.specs.declared.piece.Kind.{Kind}
use Rattle.shogi_core.specs.declared.piece.Piece.{Piece}
use Rattle.shogi_core.specs.Bits.{HasBits, has_bit}
use Rattle.shogi_core.specs.Cell.{is_piece_of, is_slider}
use Rattle.shogi_core.specs.Codes.{code_of}
use Rattle.shogi_core.specs.Movement.{Cells, cell_reaches, piece_at, reaches}
use Rattle.shogi_core.specs.Pieces.{opponent_of}
use Rattle.shogi_core.specs.Position.{Shogi}
use Rattle.shogi_moves.specs.After.{after_code, piece_moved}
use Rattle.shogi_moves.specs.Destinations.{is_own, AreEnterable}
use Rattle.shogi_moves.specs.Legal.{is_legal_code}
use Rattle.shogi_moves.specs.LegalMoves.{legal_codes}
use Rattle.shogi_moves.specs.Origins.{move_to}
use Rattle.shogi_moves.specs.declared.origin.Origin.{Origin}
use Rattle.shogi_moves.specs.Rising.{is_in}
use Rattle.shogi_replies.specs.ReplyInfo.{IsAnswered}
use Rattle.shogi_eval.specs.declared.eval.Eval.{Eval}
use Rattle.shogi_eval.specs.declared.gain.TheConstants.{PROMOTION_GAIN_MAX}
use Rattle.shogi_eval.specs.Evaluated.{Evaluated}
use Rattle.shogi_eval.specs.Exchange.{leaf_after}
use Rattle.shogi_eval.specs.Material.{material_of, taken_gain}
use Rattle.minimax.specs.Minimax.{negated, lost_value, IsTrueEntry}
use Rattle.minimax.specs.declared.entry.Entry.{Entry}

-- the move from `from` to `to` is legal, promoting or not
abbrev pub is_legal_board_move : Shogi → ℕ → ℕ → Bool → Bool
is_legal_board_move p from to promote = is_legal_code p (code_of (Board from to promote))

-- the piece on the square becomes this piece by its move, promoting or not
abbrev pub IsPieceMoved : Shogi → ℕ → Bool → Piece → Type 0
IsPieceMoved p from promote piece = piece_moved promote (piece_at p.cells from) ≡ Some piece

-- a piece of the opponent stands on the square
abbrev pub is_foe : Shogi → ℕ → Bool
is_foe p n = is_piece_of (opponent_of p.side) (piece_at p.cells n)

-- `squares` are those that the piece on `from` reaches, without those of its own side's pieces
abbrev pub IsReach : Shogi → ℕ → ℕ → Type 0
IsReach p from squares = HasBits squares (λ n. reaches p.cells from n && not (is_own p n))

-- the fact holds of each of the squares
abbrev pub OnEach : ℕ → (ℕ → Type 0) → Type 0
OnEach squares fact = (n : ℕ) → n < 81 → has_bit squares n ≡ true → fact n

-- the fact holds of each square of the board outside `squares`
abbrev pub Outside : ℕ → (ℕ → Type 0) → Type 0
Outside squares fact = (n : ℕ) → n < 81 → has_bit squares n ≡ false → fact n

-- the fact holds of each of `squares` that is not one of `others`
abbrev pub OnRest : ℕ → ℕ → (ℕ → Type 0) → Type 0
OnRest squares others fact =
    (n : ℕ) → n < 81 → has_bit squares n ≡ true → has_bit others n ≡ false → fact n

-- the fact holds of the square of each piece of the side to move
abbrev pub OnOwn : Shogi → (ℕ → Type 0) → Type 0
OnOwn p fact = (n : ℕ) → n < 81 → is_own p n ≡ true → fact n

-- the node's material, for the side to move
abbrev pub base_of : Evaluated → ℤ
base_of node = material_of node.position node.eval

-- the score of a move for its mover: the points after it, and after the opponent's best exchange if the evaluation resolves captures
abbrev pub score_at : Shogi → Eval → ℕ → ℤ
score_at p e code = negated (leaf_after p e code)

-- the material after the move, for its mover, before any exchange
abbrev pub raw_score : Shogi → Eval → ℕ → ℤ
raw_score p e code = negated (material_of (after_code p code) e)

-- the score of a node's move; then its material alone
abbrev pub score_of : Evaluated → ℕ → ℤ
score_of node = score_at node.position node.eval

abbrev pub raw_of : Evaluated → ℕ → ℤ
raw_of node = raw_score node.position node.eval

-- the opponent has no legal reply to the move of the code
abbrev pub LeavesNone : Shogi → ℕ → Type 0
LeavesNone p code = legal_codes (after_code p code) ≡ []

-- the opponent has a legal reply to the move of the code
abbrev pub LeavesSome : Shogi → ℕ → Type 0
LeavesSome p code = legal_codes (after_code p code) ≢ []

-- the move leaves the opponent no legal reply
abbrev pub IsMate : Shogi → Move → Type 0
IsMate p m = LeavesNone p (code_of m)

-- the move leaves the opponent a legal reply
abbrev pub IsNoMate : Shogi → Move → Type 0
IsNoMate p m = LeavesSome p (code_of m)

-- some legal move scores v or more
pub record HasScore (p : Shogi) (e : Eval) (v : ℤ) : Type 0 where
  pub code : ℕ
  pub listed : is_in code (legal_codes p) ≡ true
  pub at_least : v ≤ℤ score_at p e code

-- no legal move scores more than v
abbrev pub ScoresAtMost : Shogi → Eval → ℤ → Type 0
ScoresAtMost p e v = (code : ℕ) → is_in code (legal_codes p) ≡ true → score_at p e code ≤ℤ v

-- some legal move mates
pub record HasMate (p : Shogi) : Type 0 where
  pub code : ℕ
  pub listed : is_in code (legal_codes p) ≡ true
  pub none : LeavesNone p code

-- each legal move leaves the opponent a legal reply
abbrev pub HasNoMate : Shogi → Type 0
HasNoMate p = (code : ℕ) → is_in code (legal_codes p) ≡ true → LeavesSome p code

-- the code is the least of the legal moves that meet a condition
pub record IsLeast (p : Shogi) (meets : ℕ → Type 0) (code : ℕ) : Type 0 where
  pub listed : is_in code (legal_codes p) ≡ true
  pub met : meets code
  pub least : (n : ℕ) → is_in n (legal_codes p) ≡ true → n < code → meets n → ⊥

-- the code is the least of the legal moves that mate
abbrev pub IsFirstMate : Shogi → ℕ → Type 0
IsFirstMate p = IsLeast p (LeavesNone p)

-- no legal move meets the condition
abbrev pub NoneMeets : Shogi → (ℕ → Type 0) → Type 0
NoneMeets p meets = (n : ℕ) → is_in n (legal_codes p) ≡ true → meets n → ⊥

-- the piece on the square has no legal move
abbrev pub HasNoneFrom : Shogi → ℕ → Type 0
HasNoneFrom p from =
    (n : ℕ) (promote : Bool) → n < 81 → is_legal_board_move p from n promote ≡ true → ⊥

-- the move scores v
abbrev pub Scores : Evaluated → ℤ → ℕ → Type 0
Scores node v code = score_at node.position node.eval code ≡ v

-- the code is the least of the legal moves that score v
abbrev pub IsFirstToScore : Evaluated → ℤ → ℕ → Type 0
IsFirstToScore node v = IsLeast node.position (Scores node v)

-- no legal move scores v
abbrev pub NoneScores : Evaluated → ℤ → Type 0
NoneScores node v = NoneMeets node.position (Scores node v)

-- if v exceeds the node's material, no legal move scores v
abbrev pub NoneGains : Evaluated → ℤ → Type 0
NoneGains node v = base_of node <ℤ v → NoneScores node v

-- the move from `from` to `to` scores v
abbrev pub BoardMoveScores : Evaluated → ℤ → ℕ → ℕ → Bool → Type 0
BoardMoveScores node v from to promote = Scores node v (code_of (Board from to promote))

-- the move from `from` to `to`, if legal, has the material score v
abbrev pub RawScoresTo : Evaluated → ℤ → ℕ → ℕ → Bool → Type 0
RawScoresTo node v from to promote = is_legal_board_move node.position from to promote ≡ true
    → raw_of node (code_of (Board from to promote)) ≡ v

-- the move from `from` to `to`, if legal, does not score v
abbrev pub ScoresElse : Evaluated → ℤ → ℕ → ℕ → Bool → Type 0
ScoresElse node v from to promote = is_legal_board_move node.position from to promote ≡ true
    → Scores node v (code_of (Board from to promote)) → ⊥

-- the move from `from` to `to`, if legal, scores at most v
abbrev pub ScoresToAtMost : Shogi → Eval → ℤ → ℕ → ℕ → Bool → Type 0
ScoresToAtMost p e v from to promote = is_legal_board_move p from to promote ≡ true
    → score_at p e (code_of (Board from to promote)) ≤ℤ v

-- no legal move of the piece on the square scores v
abbrev pub NoneScoresFrom : Evaluated → ℤ → ℕ → Type 0
NoneScoresFrom node v from = (n : ℕ) (promote : Bool) → n < 81 → ScoresElse node v from n promote

-- no legal move of the piece on `from` to a square off `squares` scores v
abbrev pub NoneScoresAmong : Evaluated → ℤ → ℕ → ℕ → Type 0
NoneScoresAmong node v from squares = (n : ℕ) (promote : Bool) → n < 81
    → has_bit squares n ≡ false
    → ScoresElse node v from n promote

-- the code is the least of the legal moves of the piece on `from` that score v
pub record IsFirstFrom (node : Evaluated) (v : ℤ) (from code : ℕ) : Type 0 where
  pub listed : is_legal_code node.position code ≡ true
  pub scores : Scores node v code
  pub low : from * SQUARE_CODES ≤ code
  pub high : code < from * SQUARE_CODES + SQUARE_CODES
  pub least : (n : ℕ) (promote : Bool) → n < 81
      → is_legal_board_move node.position from n promote ≡ true
      → code_of (Board from n promote) < code → Scores node v (code_of (Board from n promote)) → ⊥

-- a move is legal, or v is at least the value of a lost position with one ply left
abbrev pub IsNoLoss : Shogi → ℤ → Type 0
IsNoLoss p v = (lost_value 1 ≤ℤ v) ⊎ (legal_codes p ≢ [])

-- the entry tells the truth about the node at depth 1
abbrev pub IsTrueOf : Evaluated → Entry → Type 0
IsTrueOf node entry = IsTrueEntry node.position node.eval 1 entry

-- the legal moves of the piece on `from` score at most v
abbrev pub ScoresFromAtMost : Shogi → Eval → ℕ → ℤ → Type 0
ScoresFromAtMost p e from v =
    (n : ℕ) (promote : Bool) → n < 81 → ScoresToAtMost p e v from n promote

-- the legal moves of the piece on `from` to the squares score at most v, promoting or not
abbrev pub ScoresAmongAtMost : Shogi → Eval → ℕ → Bool → ℕ → ℤ → Type 0
ScoresAmongAtMost p e from promote squares v =
    OnEach squares (λ n. ScoresToAtMost p e v from n promote)

-- the capture of a non-slider gains at most `gain`
abbrev pub NonSliderGainAtMost : Eval → ℕ → Type 0
NonSliderGainAtMost e gain = (cell : Option Piece) → is_slider cell ≡ false → taken_gain e cell ≤ gain

-- a capture on the square scores at most v, whatever captures and promotes
abbrev pub TakesTooLittle : Evaluated → ℕ → ℤ → Type 0
TakesTooLittle node t v =
    (base_of node
    +ℤ pos (taken_gain node.eval (piece_at node.position.cells t) + PROMOTION_GAIN_MAX)) ≤ℤ v

-- if the piece on n reaches t, a capture on t scores at most v, whatever promotes
abbrev pub TakesLittle : Evaluated → ℤ → ℕ → ℕ → Type 0
TakesLittle node v t n = reaches node.position.cells n t ≡ true → TakesTooLittle node t v

-- pieces that reach the square t all stand on `squares`
abbrev pub HasReachers : Cells → ℕ → ℕ → Type 0
HasReachers cells squares t = Outside squares (λ n. reaches cells n t ≡ false)

-- the moves of the origin to the ends are legal
abbrev pub AreLegalEnds : Shogi → Origin → ℕ → Type 0
AreLegalEnds p origin ends = OnEach ends (λ n. is_legal_code p (code_of (move_to origin n)) ≡ true)

-- the move from `from` to `to`, if legal, leaves the opponent a reply
abbrev pub LeavesSomeTo : Shogi → ℕ → ℕ → Bool → Type 0
LeavesSomeTo p from to promote = is_legal_board_move p from to promote ≡ true
    → LeavesSome p (code_of (Board from to promote))

-- each legal move of the piece on the square leaves the opponent a reply
abbrev pub LeaveSomeFrom : Shogi → ℕ → Type 0
LeaveSomeFrom p from = (n : ℕ) (promote : Bool) → n < 81 → LeavesSomeTo p from n promote

-- each legal move on the board leaves the opponent a reply
abbrev pub BoardLeavesSome : Shogi → Type 0
BoardLeavesSome p = OnOwn p (LeaveSomeFrom p)

-- the piece on `from` may go to each end, and each of its legal moves elsewhere leaves the opponent a reply
pub record AreDoubtfulEnds (p : Shogi) (from : ℕ) (promote : Bool) (ends : ℕ) : Type 0 where
  pub enterable : AreEnterable p from ends
  pub others : Outside ends (λ n. LeavesSomeTo p from n promote)

-- each move of the origin to one of the ends leaves the opponent a reply
abbrev pub LeaveSomeAmong : Shogi → Origin → ℕ → Type 0
LeaveSomeAmong p origin ends = OnEach ends (λ n. LeavesSome p (code_of (move_to origin n)))

-- each legal drop of the kind leaves the opponent a reply
abbrev pub DropsLeaveSome : Shogi → Kind → Type 0
DropsLeaveSome p kind = (n : ℕ) → n < 81 → is_legal_code p (code_of (Drop kind n)) ≡ true
    → LeavesSome p (code_of (Drop kind n))

-- each legal drop leaves the opponent a reply
abbrev pub AllDropsLeaveSome : Shogi → Type 0
AllDropsLeaveSome p = (kind : Kind) → DropsLeaveSome p kind

-- the piece does not reach one square from another, whatever stands between
abbrev pub IsOutOfReach : Piece → ℕ → ℕ → Type 0
IsOutOfReach piece from to = (cells : Cells) → cell_reaches cells (Some piece) from to ≡ false

-- each legal move from the square to an end not kept leaves the opponent a reply
abbrev pub AreAnsweredOff : Shogi → ℕ → Bool → ℕ → ℕ → Type 0
AreAnsweredOff p from promote ends kept =
    OnRest ends kept (λ n. IsAnswered p (Board from n promote))

-- each legal drop of the kind on a square not kept leaves the opponent a reply
abbrev pub AreDropsAnsweredOff : Shogi → Kind → ℕ → ℕ → Type 0
AreDropsAnsweredOff p kind squares kept = OnRest squares kept (λ n. IsAnswered p (Drop kind n))

-- the definitions above, with the position and evaluation of a node
abbrev pub NodeHasScore : Evaluated → ℤ → Type 0
NodeHasScore node v = HasScore node.position node.eval v

abbrev pub NodeScoresToAtMost : Evaluated → ℤ → ℕ → ℕ → Bool → Type 0
NodeScoresToAtMost node = ScoresToAtMost node.position node.eval

abbrev pub NodeScoresAmongAtMost : Evaluated → ℕ → Bool → ℕ → ℤ → Type 0
NodeScoresAmongAtMost node = ScoresAmongAtMost node.position node.eval

abbrev pub NodeScoresAtMost : Evaluated → ℤ → Type 0
NodeScoresAtMost node v = ScoresAtMost node.position node.eval v

abbrev pub NodeScoresFromAtMost : Evaluated → ℤ → ℕ → Type 0
NodeScoresFromAtMost node v from = ScoresFromAtMost node.position node.eval from v
