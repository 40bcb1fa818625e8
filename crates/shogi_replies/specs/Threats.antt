-- Moves of the side not to move that stay possible after most moves (own choice).
use Rattle.std.specs.Prelude.{ℕ, ◌≡◌, ◌≢◌, ◌<◌, Bool, true, false, Option}
use Rattle.shogi_core.specs.declared.moves.Move.{Move}
use Rattle.shogi_core.specs.declared.moves.Move.TheVariants.{Board, Drop}
use Rattle.shogi_core.specs.declared.piece.Color.{Color}
use Rattle.shogi_core.specs.declared.piece.Piece.{Piece}
use Rattle.shogi_core.specs.Attack.{is_sniper, is_sniper_of_king}
use Rattle.shogi_core.specs.Bits.{has_bit}
use Rattle.shogi_core.specs.Cell.{is_piece_of, is_king, is_immobile, is_slider}
use Rattle.shogi_core.specs.Lines.{are_aligned}
use Rattle.shogi_core.specs.Moves.{end_of}
use Rattle.shogi_core.specs.Movement.{Cells, piece_at, reaches}
use Rattle.shogi_core.specs.Pieces.{opponent_of}
use Rattle.shogi_core.specs.Position.{Shogi}
use Rattle.shogi_core.specs.Rays.{direction_at, is_on_ray}
use Rattle.shogi_moves.specs.After.{after, piece_moved}
use Rattle.shogi_moves.specs.Legal.{is_legal}
use Rattle.shogi_moves.specs.Origins.{origin_of, put_from}
use Rattle.shogi_core.specs.Zones.{may_promote}
use Rattle.shogi_replies.specs.ReplyInfo.{is_aligned_with_king}

-- the set has the squares between the two on a line, whatever stands there
abbrev pub HasBetween : ℕ → ℕ → ℕ → Type 0
HasBetween from to set = (d n : ℕ) → d < 8 → n < 81 → is_on_ray (direction_at d) from n ≡ true
    → is_on_ray (direction_at d) n to ≡ true → has_bit set n ≡ true

-- the set has the squares between the king and each enemy slider on a line with it that is not left to look at
abbrev pub HasBeforeSnipers : Cells → Color → ℕ → ℕ → ℕ → Type 0
HasBeforeSnipers cells side king left set = (x : ℕ) → x < 81
    → is_sniper cells (opponent_of side) king x ≡ true → has_bit left x ≡ false → HasBetween king x set

-- the square lies between no king of the side and an enemy slider on a line with it, whatever stands between
abbrev pub IsOffPins : Cells → Color → ℕ → Type 0
IsOffPins cells side a = (k x d : ℕ) → k < 81 → x < 81 → d < 8
    → is_sniper_of_king cells side x k ≡ true → is_on_ray (direction_at d) k a ≡ true
    → is_on_ray (direction_at d) a x ≡ false

-- a piece of the opponent, no king, that no piece now on the board can pin, whatever leaves its square
pub record IsUnpinnable (p : Shogi) (a : ℕ) : Type 0 where
  pub on_board : a < 81
  pub theirs : is_piece_of (opponent_of p.side) (piece_at p.cells a) ≡ true
  pub no_king : is_king (opponent_of p.side) (piece_at p.cells a) ≡ false
  pub unpinned : IsOffPins p.cells (opponent_of p.side) a

-- an unpinnable piece reaches another square and may go there, promoting or not, as its role allows
pub record IsAttack (p : Shogi) (a t : ℕ) (promote : Bool) : Type 0 where
  pub attacker : IsUnpinnable p a
  pub on_board : t < 81
  pub apart : a ≢ t
  pub reached : reaches p.cells a t ≡ true
  pub promotes : promote ≡ true → may_promote (piece_at p.cells a) a t ≡ true
  pub mobile : is_immobile t (piece_moved promote (piece_at p.cells a)) ≡ false

-- the piece attacks each of the squares, promoting or not
abbrev pub AreAttacks : Shogi → ℕ → ℕ → Bool → Type 0
AreAttacks p a squares promote =
    (t : ℕ) → t < 81 → has_bit squares t ≡ true → IsAttack p a t promote

-- an attack on a square without a piece of the attacker's own side
pub record IsThreat (p : Shogi) (a t : ℕ) (promote : Bool) : Type 0 where
  pub attack : IsAttack p a t promote
  pub target : is_piece_of (opponent_of p.side) (piece_at p.cells t) ≡ false

-- the piece that the move puts on its destination
abbrev pub put_by : Shogi → Move → Option Piece
put_by p m = put_from p (origin_of m)

-- the move ends neither on the attacker, nor on the target, nor between them. If it puts a slider there, that slider is not at once on a line with the attacker and with a king with which the attacker is on a line
pub record EndsNonInterfering (p : Shogi) (a t : ℕ) (m : Move) : Type 0 where
  pub attacker_stays : end_of m ≢ a
  pub target_stays : end_of m ≢ t
  pub way_stays : (d : ℕ) → d < 8 → is_on_ray (direction_at d) a (end_of m) ≡ true
      → is_on_ray (direction_at d) (end_of m) t ≡ false
  pub unpinned : is_slider (put_by p m) ≡ true
      → is_aligned_with_king p.cells (opponent_of p.side) a ≡ true
      → is_aligned_with_king p.cells (opponent_of p.side) (end_of m) ≡ true
      → are_aligned a (end_of m) ≡ false

-- the move leaves the attacker, the target and the squares between them as they are
abbrev pub LeavesThreat : Shogi → ℕ → ℕ → Move → Type 0
LeavesThreat p a t (Board from to promote) =
    (from ≢ t) × EndsNonInterfering p a t (Board from to promote)
LeavesThreat p a t (Drop kind to) = EndsNonInterfering p a t (Drop kind to)

-- the side to move may legally go from a to t, promoting or not, and `cell` stands on t
pub record MayTake (q : Shogi) (a t : ℕ) (promote : Bool) (cell : Option Piece) : Type 0 where
  pub legal : is_legal q (Board a t promote) ≡ true
  pub stands : piece_at q.cells t ≡ cell

-- after the move the opponent may capture the piece that it put on its destination, without promotion
pub record IsTaken (p : Shogi) (m : Move) : Type 0 where
  pub taker : ℕ
  pub on_board : (taker < 81) × (end_of m < 81)
  pub takes : MayTake (after p m) taker (end_of m) false (put_by p m)

-- after the move the opponent may carry out each threat that the move leaves
abbrev pub KeepsThreats : Shogi → Move → Type 0
KeepsThreats p m = (a t : ℕ) (promote : Bool) → IsThreat p a t promote → LeavesThreat p a t m
    → MayTake (after p m) a t promote (piece_at p.cells t)

-- after the move each of the opponent's attacks on its destination may capture there
abbrev pub MayRetake : Shogi → Move → Type 0
MayRetake p m = (a : ℕ) (promote : Bool) → IsAttack p a (end_of m) promote
    → MayTake (after p m) a (end_of m) promote (put_by p m)
