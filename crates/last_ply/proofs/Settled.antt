-- The score of a move, by the points that the opponent wins in the exchange.
use Rattle.std.proofs.Common.{◌≡◌, ◌<◌, ℕ, ℤ, pos, negsuc, ◌-ℤ◌, ◌≤ℤ◌, Bool, true, FitsSigned, w32, to_z, of_z, sym, ap, ◌∙◌, arith}
use Rattle.std.specs.Prelude.{unsigned_abs}
use Rattle.std.proofs.lemmas.Int.{ints, to_z-of_z}
use Rattle.shogi_core.specs.declared.moves.Move.TheVariants.{Board}
use Rattle.shogi_core.specs.Codes.{code_of}
use Rattle.shogi_core.specs.Position.{Shogi}
use Rattle.shogi_core.proofs.CodesBack.{move_of-board}
use Rattle.shogi_moves.specs.Legal.{is_legal}
use Rattle.shogi_moves.proofs.LegalLaws.{is_legal_code_of}
use Rattle.shogi_eval.specs.declared.eval.Eval.{Eval}
use Rattle.shogi_eval.specs.declared.eval.Eval.TheVariants.{Plain, Hand, Exchange}
use Rattle.shogi_eval.specs.declared.points.TheConstants.{POINTS_MAX}
use Rattle.shogi_eval.specs.Exchange.{resolves_captures}
use Rattle.static_exchange.specs.Reprisals.{IsReprisal, IsEnough}
use Rattle.last_ply.specs.declared.scored_move.ScoredMove.{ScoredMove}
use Rattle.last_ply.specs.LastPly.{is_legal_board_move, score_at, raw_score, score_of, raw_of}
use Rattle.last_ply.proofs.Composing.{score_bounds, raw_bounds}

-- the distance of a number from a lower one
pub apart : (z : ℤ) (n : ℕ) → n ≡ unsigned_abs z → pos 0 ≤ℤ z → pos n ≡ z
apart (pos k) n is above = ap pos is
apart (negsuc k) n is above = absurd (omega (arith, ints, above))

-- the distance of a passed number from a lower one
pub apart_held : (a b : ℤ) (n : ℕ) → FitsSigned w32 a → FitsSigned w32 b → n ≡ unsigned_abs (to_z w32 (of_z w32 a) -ℤ to_z w32 (of_z w32 b)) → b ≤ℤ a → pos n ≡ (a -ℤ b)
apart_held a b n fa fb is up =
    let first : unsigned_abs (to_z w32 (of_z w32 a) -ℤ to_z w32 (of_z w32 b)) ≡ unsigned_abs (a -ℤ to_z w32 (of_z w32 b)) = ap (λ (x : ℤ). unsigned_abs (x -ℤ to_z w32 (of_z w32 b))) (to_z-of_z w32 a fa) in
    let second : unsigned_abs (a -ℤ to_z w32 (of_z w32 b)) ≡ unsigned_abs (a -ℤ b) = ap (λ (x : ℤ). unsigned_abs (a -ℤ x)) (to_z-of_z w32 b fb) in
    apart (a -ℤ b) n (is ∙ first ∙ second) (omega (arith, ints, up))

-- the score is the material after the move less the points that the opponent wins
pub score_won : (p : Shogi) (e : Eval) (code won : ℕ) → resolves_captures e ≡ true → IsReprisal p code won → score_at p e code ≡ raw_score p e code -ℤ pos won
score_won p Plain code won s w = absurd (cc)
score_won p Hand code won s w = absurd (cc)
score_won p Exchange code won s w = omega (arith, ints, w)

pub score_enough : (p : Shogi) (e : Eval) (code won : ℕ) → resolves_captures e ≡ true → IsEnough p code won → score_at p e code ≤ℤ (raw_score p e code -ℤ pos won)
score_enough p Plain code won s w = absurd (cc)
score_enough p Hand code won s w = absurd (cc)
score_enough p Exchange code won s w = omega (arith, ints, w)

-- the move on the board of a legal code is legal
pub legal_to : (p : Shogi) (from to : ℕ) (promote : Bool) → from < 81 → to < 81 → is_legal_board_move p from to promote ≡ true → is_legal p (Board from to promote) ≡ true
legal_to p from to promote hf ht l = sym (is_legal_code_of p (code_of (Board from to promote)) (Board from to promote) (move_of-board from to promote hf ht)) ∙ l

-- the score of a legal move that loses `lost` in the exchange
pub record IsSettled (m : ScoredMove) (lost : ℕ) : Type 0 where
  pub is : score_of m.node.now (code_of m.current) ≡ m.raw -ℤ pos lost
  pub least : (pos 0 -ℤ pos POINTS_MAX) ≤ℤ (m.raw -ℤ pos lost)
  pub most : m.raw ≤ℤ pos POINTS_MAX

pub settled : (m : ScoredMove) (lost : ℕ) → resolves_captures m.node.now.eval ≡ true → IsReprisal m.node.now.position (code_of m.current) lost → IsSettled m lost
settled m lost resolves reprisal =
    let won : score_of m.node.now (code_of m.current) ≡ raw_of m.node.now (code_of m.current) -ℤ pos lost = score_won m.node.now.position m.node.now.eval (code_of m.current) lost resolves reprisal in
    let least : _ = score_bounds m.node.now.position m.node.now.eval (code_of m.current) m.valid m.listed in
    let most : _ = raw_bounds m.node.now.position m.node.now.eval (code_of m.current) m.valid m.listed in
    record { is = omega (arith, ints, won, m.value); least = omega (arith, ints, won, least.0, m.value); most = omega (arith, ints, most.1, m.value) }
