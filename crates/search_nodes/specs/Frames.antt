-- What a node on the stack and its moves are worth, and which moves fail low (own choice).
use Rattle.std.specs.Prelude.{◌≡◌, ◌≢◌, ◌<◌, ◌⊎◌, ℕ, ◌-◌, ℤ, ◌-ℤ◌, ◌≤ℤ◌, pos, List, [], Bool, true, false, Option, cond, nat_lt}
use Rattle.shogi_core.specs.declared.moves.Move.{Move}
use Rattle.shogi_core.specs.declared.moves.Move.TheVariants.{Board, Drop}
use Rattle.shogi_core.specs.declared.piece.Kind.{Kind}
use Rattle.shogi_core.specs.Bits.{has_bit}
use Rattle.shogi_core.specs.Codes.{code_of}
use Rattle.shogi_core.specs.Pieces.{opponent_of}
use Rattle.shogi_core.specs.Position.{Shogi}
use Rattle.shogi_moves.specs.After.{after, after_code}
use Rattle.shogi_moves.specs.Legal.{is_legal}
use Rattle.shogi_moves.specs.LegalMoves.{legal_codes}
use Rattle.shogi_moves.specs.Escapes.{AreEscapes}
use Rattle.shogi_replies.specs.declared.move_filter.MoveFilter.{MoveFilter}
use Rattle.shogi_replies.specs.Passes.{IsGuaranteedDrop, IsGuaranteedMove}
use Rattle.shogi_replies.specs.ReplyInfo.{GuaranteesReply, quiet_codes}
use Rattle.shogi_replies.specs.Threats.{IsTaken, KeepsThreats, MayRetake}
use Rattle.search_nodes.specs.declared.frame.Frame.{Frame}
use Rattle.minimax.specs.declared.entry.Entry.{Entry}
use Rattle.minimax.specs.Entries.{IsConclusive}
use Rattle.shogi_eval.specs.declared.eval.Eval.{Eval}
use Rattle.shogi_eval.specs.Exchange.{resolves_captures}
use Rattle.shogi_eval.specs.Losses.{LosesAtMost}
use Rattle.shogi_eval.specs.Material.{material_of}
use Rattle.minimax.specs.Minimax.{value, worth, IsTrueEntry, negated}
use Rattle.search_nodes.specs.PriorityMoves.{with_each, with_some}
use Rattle.search_nodes.specs.Order.{todo}
use Rattle.search_nodes.specs.Threats.{LeavesCaptures}
use Rattle.search_nodes.specs.Visits.{IsOver, WhereCurrent}
use Rattle.minimax.specs.Window.{move_alpha, code_at}

-- the position after a move of the node
abbrev pub position_after : Frame → Move → Shogi
position_after f m = after_code f.node.position (code_of m)

-- the worth of a move to its mover
abbrev pub worth_of : Frame → Move → ℤ
worth_of f m = worth f.node.position f.node.eval (f.depth - 1) (code_of m)

-- the threshold that a move has to beat
abbrev pub move_alpha_of : Frame → Move → ℤ
move_alpha_of f m = move_alpha f.best_value (code_at f.best_move) (code_of m)

-- the entry holds of the node
abbrev pub IsTrueOf : Frame → Entry → Type 0
IsTrueOf f entry = IsTrueEntry f.node.position f.node.eval f.depth entry

-- the entry holds of the position after the move
abbrev pub IsTrueAfter : Frame → Move → Entry → Type 0
IsTrueAfter f m entry = IsTrueEntry (position_after f m) f.node.eval (f.depth - 1) entry

-- the entry is conclusive for the window of the child after the move
abbrev pub IsConclusiveAfter : Frame → Move → Entry → Type 0
IsConclusiveAfter f m entry = IsConclusive (negated f.beta) (negated (move_alpha_of f m)) entry

-- the node is cut off, or no move is left to visit
abbrev pub IsToBeLeft : Frame → Type 0
IsToBeLeft f = IsOver f.state (todo f.node.position f.picker)

-- the move is worth at most `most` to its mover
abbrev pub IsWorthAtMost : Frame → Move → ℤ → Type 0
IsWorthAtMost f m most = worth_of f m ≤ℤ most

-- the move fails low: it does not beat its threshold
abbrev pub IsLost : Frame → Move → Type 0
IsLost f m = IsWorthAtMost f m (move_alpha_of f m)

-- the current move fails low
abbrev pub FailsLow : Frame → Type 0
FailsLow f = WhereCurrent f.state (IsLost f)

-- the codes of the legal moves that keep the material as it is after them: all of them or, if captures are settled, the quiet ones
abbrev pub standing_codes : Shogi → Eval → List ℕ
standing_codes p e = cond (resolves_captures e) (quiet_codes p) (legal_codes p)

-- after the move the opponent has a legal reply that is not settled
abbrev pub HasReply : Frame → Move → Type 0
HasReply f m = standing_codes (after f.node.position m) f.node.eval ≢ []

-- the move fails low if afterwards the opponent may carry out the threats that it leaves, and capture on its destination
abbrev pub IsLostWhere : Frame → Move → Type 0
IsLostWhere f m = KeepsThreats f.node.position m → MayRetake f.node.position m → IsLost f m

-- the move fails low if the opponent may capture on its destination, unless captures are settled
abbrev pub FailsLowIfTaken : Frame → Move → Type 0
FailsLowIfTaken f m = LeavesCaptures f.node.eval → ∥ IsTaken f.node.position m ∥₁ → IsLost f m

-- no drop of the opponent costs more than `loss`
abbrev pub RepliesLoseAtMost : Frame → ℤ → Type 0
RepliesLoseAtMost f loss =
    LosesAtMost f.node.position.hands (opponent_of f.node.position.side) f.node.eval loss

-- after the move, with one ply left, the opponent is worth at least its material less `loss`
abbrev pub LeavesAtLeast : Frame → ℤ → Move → Type 0
LeavesAtLeast f loss m = (material_of (after f.node.position m) f.node.eval -ℤ loss)
    ≤ℤ value (after f.node.position m) f.node.eval 1

-- each legal board move from `pieces` to `squares` that guarantees a reply leaves the opponent at least its material less `loss`
abbrev pub MovesLeave : Frame → ℤ → ℕ → ℕ → ℕ → Type 0
MovesLeave f loss pieces squares escapes = (from to : ℕ) (promote : Bool) → from < 81 → to < 81
    → has_bit pieces from ≡ true → has_bit squares to ≡ true
    → is_legal f.node.position (Board from to promote) ≡ true
    → GuaranteesReply f.node.position escapes (Board from to promote)
    → LeavesAtLeast f loss (Board from to promote)

-- the threshold that a move with the code has to beat
abbrev pub move_alpha_at : Frame → ℕ → ℤ
move_alpha_at f code = move_alpha f.best_value (code_at f.best_move) code

-- a drop of the kind fails low if the opponent is then worth its material less `loss`
abbrev pub DropFailsLow : Frame → Kind → ℕ → ℤ → Type 0
DropFailsLow f kind code loss = (to : ℕ) → to < 81 → is_legal f.node.position (Drop kind to) ≡ true
    → (loss -ℤ material_of (after f.node.position (Drop kind to)) f.node.eval) ≤ℤ move_alpha_at f code

-- each drop of the kind on `squares` that guarantees a reply, from the code `first` on, fails low
abbrev pub DropsFailLow : Frame → Kind → ℕ → ℕ → ℕ → Type 0
DropsFailLow f kind squares escapes first = (code : ℕ)
    → IsGuaranteedDrop f.node.position kind squares escapes first code
    → worth f.node.position f.node.eval (f.depth - 1) code ≤ℤ move_alpha_at f code

-- each quiet board move of the filter that guarantees a reply, from the code `first` on, fails low
pub record AreFutileQuiets (f : Frame) (move_filter : MoveFilter) (escapes first : ℕ) : Type 0 where
  pub lost : (code : ℕ) → IsGuaranteedMove f.node.position false move_filter escapes first code
      → worth f.node.position f.node.eval (f.depth - 1) code ≤ℤ move_alpha_at f code
  pub are_escapes : AreEscapes f.node.position escapes

-- the range of what a reply may cost its side, from -4,000 to 100; a negative cost is a gain
abbrev pub IsLoss : ℤ → Type 0
IsLoss loss = ((pos 0 -ℤ pos 4000) ≤ℤ loss) × (loss ≤ℤ pos 100)

-- the killers of the frame, from depth 3 on
abbrev pub killers_at : Frame → ℕ → List ℕ
killers_at f depth = cond (nat_lt 2 depth) f.killers []

-- the priority moves of a node to be entered in this frame: the given ones, the hash move, the best move of the frame's last node, its killers
abbrev pub priority_moves_at : List ℕ → Option Move → Frame → ℕ → List ℕ
priority_moves_at given hash_move f depth =
    with_each (with_some (with_some given hash_move) f.best_move) (killers_at f depth)

-- the node is at depth 3 or 4, so it skips analogous moves
abbrev pub PrunesAnalogous : Frame → Type 0
PrunesAnalogous f = (f.depth ≡ 3) ⊎ (f.depth ≡ 4)
