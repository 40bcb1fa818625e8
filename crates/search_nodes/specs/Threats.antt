-- Threats of the opponent that stand after most moves, as a node keeps them to prune its moves (own choice).
use Rattle.std.specs.Prelude.{◌≡◌, ◌≢◌, ◌<◌, ◌≤◌, ◌+◌, ◌+ℤ◌, ◌≤ℤ◌, ℕ, pos, Bool, true, false, Option, Some, None}
use Rattle.std.specs.Option.{ForSome}
use Rattle.shogi_core.specs.Bits.{has_bit}
use Rattle.shogi_core.specs.Cell.{is_slider}
use Rattle.shogi_core.specs.Lines.{are_aligned}
use Rattle.shogi_core.specs.declared.moves.Move.{Move}
use Rattle.shogi_core.specs.declared.piece.Piece.{Piece}
use Rattle.shogi_core.specs.Movement.{piece_at}
use Rattle.shogi_core.specs.Pieces.{opponent_of}
use Rattle.shogi_core.specs.Moves.{end_of}
use Rattle.shogi_core.specs.Position.{Shogi}
use Rattle.shogi_core.specs.Rays.{direction_at, is_on_ray}
use Rattle.shogi_moves.specs.After.{after}
use Rattle.shogi_replies.specs.ReplyInfo.{is_aligned_with_king}
use Rattle.shogi_replies.specs.Threats.{IsAttack, IsThreat, EndsNonInterfering, KeepsThreats, LeavesThreat, MayRetake, put_by}
use Rattle.shogi_eval.specs.declared.eval.Eval.{Eval}
use Rattle.shogi_eval.specs.Material.{material_of, promotion_gain, taken_gain}
use Rattle.shogi_eval.specs.Exchange.{resolves_captures}
use Rattle.minimax.specs.Minimax.{value}
use Rattle.search_nodes.specs.declared.threat.ThreatCandidate.{ThreatCandidate}
use Rattle.search_nodes.specs.declared.threat.Threat.{Threat}
use Rattle.search_nodes.specs.declared.threat.Threats.{Threats}

-- the opponent's piece on `a` has a threat on `t`, promoting or not, that gains `gain`
pub record Gains (p : Shogi) (e : Eval) (a t : ℕ) (promote : Bool) (gain : ℕ) : Type 0 where
  pub is_threat : IsThreat p a t promote
  pub gain_is : gain
      ≡ taken_gain e (piece_at p.cells t) + promotion_gain promote (piece_at p.cells a)
  pub gain_fits : gain ≤ 4000

-- each move of the piece on `a` to one of the ends is a threat
abbrev pub AreThreatEnds : Shogi → ℕ → Bool → ℕ → Type 0
AreThreatEnds p a promote ends =
    (t : ℕ) → t < 81 → has_bit ends t ≡ true → IsThreat p a t promote

-- if the piece on `a` is aligned with its king, the set has each square on a line with both
abbrev pub HoldsPinning : Shogi → ℕ → ℕ → Type 0
HoldsPinning p a squares = is_aligned_with_king p.cells (opponent_of p.side) a ≡ true → (n : ℕ)
    → n < 81 → has_bit squares n ≡ false
    → is_aligned_with_king p.cells (opponent_of p.side) n ≡ true → are_aligned a n ≡ false

-- the square is neither `a` nor `t` nor between them
pub record IsOffPath (a t n : ℕ) : Type 0 where
  pub attacker : n ≢ a
  pub target : n ≢ t
  pub way : (d : ℕ) → d < 8 → is_on_ray (direction_at d) a n ≡ true
      → is_on_ray (direction_at d) n t ≡ false

-- the threat stands in the position, its gain is right, and its sets have its path and the squares on which a slider might pin its piece
pub record IsThreatIn (p : Shogi) (e : Eval) (threat : Threat) : Type 0 where
  pub gains : Gains p e threat.from threat.target threat.promote threat.gain
  pub way_is : (n : ℕ) → n < 81 → has_bit threat.way.bits n ≡ false
      → IsOffPath threat.from threat.target n
  pub line_is : HoldsPinning p threat.from threat.line.bits

-- the candidate is a threat with this gain, unless its gain is 0
abbrev pub IsCandidateIn : Shogi → Eval → ThreatCandidate → Type 0
IsCandidateIn p e candidate = 0 < candidate.gain → Gains p e candidate.from candidate.target candidate.promote candidate.gain

-- an unpinnable piece of the opponent attacks the square and may go there without promotion
abbrev pub IsAttacked : Shogi → ℕ → Type 0
IsAttacked p n = (a : ℕ) × IsAttack p a n false

-- an unpinnable piece of the opponent attacks each square of the set
abbrev pub AreAttacked : Shogi → ℕ → Type 0
AreAttacked p mask = (n : ℕ) → n < 81 → has_bit mask n ≡ true → ∥ IsAttacked p n ∥₁

-- the evaluation does not settle captures at the end of a line
abbrev pub LeavesCaptures : Eval → Type 0
LeavesCaptures e = resolves_captures e ≡ false

-- captures are not settled, each square of `takes` is attacked, and the greatest threat stands
pub record AreThreatsIn (p : Shogi) (e : Eval) (threats : Threats) : Type 0 where
  pub plain : LeavesCaptures e
  pub takes : AreAttacked p threats.takes.bits
  pub greatest : ForSome threats.greatest (IsThreatIn p e)

-- the threats, if they were computed, are true of the position
abbrev pub AreSomeThreats : Shogi → Eval → Option Threats → Type 0
AreSomeThreats p e threats = ForSome threats (AreThreatsIn p e)

-- a move that puts this piece on `to` interferes neither with the threat's attacker nor with its way or target
abbrev pub SurvivesAt : Threat → Option Piece → ℕ → Type 0
SurvivesAt threat put to = (p : Shogi) (e : Eval) (m : Move) → IsThreatIn p e threat
    → put_by p m ≡ put → end_of m ≡ to → EndsNonInterfering p threat.from threat.target m

-- the move, which puts this piece on its destination, leaves the threat
abbrev pub SurvivesMove : Threat → Option Piece → Move → Type 0
SurvivesMove threat put m = (p : Shogi) (e : Eval) → IsThreatIn p e threat → put_by p m ≡ put
    → LeavesThreat p threat.from threat.target m

-- the threat gains `gain` and survives the move
abbrev pub GainsAfter : Option Threat → Option Piece → Move → ℕ → Type 0
GainsAfter (Some threat) put m gain = (threat.gain ≡ gain) × SurvivesMove threat put m
GainsAfter None put m gain = ⊥

-- a piece put on one of the squares does not interfere with the threat; only if `slides` may it be a slider
abbrev pub AreNonInterfering : Threat → Bool → ℕ → Type 0
AreNonInterfering threat slides squares = (n : ℕ) (put : Option Piece) → n < 81 → has_bit squares n ≡ true
    → (is_slider put ≡ true → slides ≡ true) → SurvivesAt threat put n

-- after the move, with one ply left, the opponent is worth at least its material and `gain`
abbrev pub GainsAtLeast : Shogi → Eval → Move → ℕ → Type 0
GainsAtLeast p e m gain =
    (material_of (after p m) e +ℤ pos gain) ≤ℤ value (after p m) e 1

-- the opponent gains at least `gain` after the move if it may carry out the threats left, and capture on its destination
abbrev pub TakesAfter : Shogi → Eval → Move → ℕ → Type 0
TakesAfter p e m gain = KeepsThreats p m → MayRetake p m → GainsAtLeast p e m gain
