-- Facts about a prepared node with one ply left and its pieces (own choice).
use Rattle.std.specs.Prelude.{ℕ, ℤ, Bool}
use Rattle.shogi_core.specs.declared.piece.Kind.{Kind}
use Rattle.shogi_moves.specs.declared.origin.Origin.{Origin}
use Rattle.last_ply.specs.declared.frontier.FrontierNode.{FrontierNode}
use Rattle.last_ply.specs.declared.moving_piece.MovingPiece.{MovingPiece}
use Rattle.last_ply.specs.LastPly.{AreAnsweredOff, AreDoubtfulEnds, AreDropsAnsweredOff, HasNoneFrom, is_legal_board_move, LeaveSomeAmong, NodeScoresFromAtMost, NoneScoresFrom, OnEach, OnRest, TakesLittle}

-- the piece's move to the square is legal, promoting or not
abbrev pub is_legal_to : MovingPiece → ℕ → Bool → Bool
is_legal_to piece = is_legal_board_move piece.frontier.now.node.now.position piece.from

-- no piece of the side to move outside `pieces` has a legal move
abbrev pub OthersCannotMove : FrontierNode → ℕ → Type 0
OthersCannotMove frontier pieces =
    OnRest frontier.own.bits pieces (HasNoneFrom frontier.node.now.position)

-- no legal move of a piece of the side to move outside `pieces` scores v
abbrev pub OthersScoreElse : FrontierNode → ℤ → ℕ → Type 0
OthersScoreElse frontier v pieces =
    OnRest frontier.own.bits pieces (NoneScoresFrom frontier.node.now v)

-- legal moves of pieces of the side to move outside `pieces` score at most v
abbrev pub OthersScoreAtMost : FrontierNode → ℤ → ℕ → Type 0
OthersScoreAtMost frontier v pieces =
    OnRest frontier.own.bits pieces (NodeScoresFromAtMost frontier.node.now v)

-- captures of a victim by pieces of the side to move outside `pieces` score at most v, whatever promotes
abbrev pub OthersTakeLittle : FrontierNode → ℤ → ℕ → ℕ → Type 0
OthersTakeLittle frontier v victims pieces =
    OnEach victims (λ t. OnRest frontier.own.bits pieces (TakesLittle frontier.node.now v t))

-- each legal move from the square to an end not kept leaves a reply
abbrev pub FrontierAnsweredOff : FrontierNode → ℕ → Bool → ℕ → ℕ → Type 0
FrontierAnsweredOff frontier = AreAnsweredOff frontier.node.now.position

-- each legal drop of the kind on a square not kept leaves a reply
abbrev pub FrontierDropsAnsweredOff : FrontierNode → Kind → ℕ → ℕ → Type 0
FrontierDropsAnsweredOff frontier = AreDropsAnsweredOff frontier.node.now.position

-- the piece on the square may go to each end, and each of its legal moves elsewhere leaves a reply
abbrev pub FrontierDoubtfulEnds : FrontierNode → ℕ → Bool → ℕ → Type 0
FrontierDoubtfulEnds frontier = AreDoubtfulEnds frontier.node.now.position

-- each move of the origin to one of the ends leaves a reply
abbrev pub FrontierLeavesSomeAmong : FrontierNode → Origin → ℕ → Type 0
FrontierLeavesSomeAmong frontier = LeaveSomeAmong frontier.node.now.position
