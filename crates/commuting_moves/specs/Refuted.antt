-- A move that a reply refutes, and what that says of the move after two others (own choice).
use Rattle.std.specs.Prelude.{ℕ, ◌-◌, ◌<◌, ℤ, ◌≡◌, ◌≤ℤ◌, true, slice_index}
use Rattle.shogi_core.specs.declared.moves.Move.{Move}
use Rattle.shogi_core.specs.Codes.{code_of}
use Rattle.shogi_core.specs.Position.{Shogi}
use Rattle.shogi_core.specs.Validity.{IsValid}
use Rattle.shogi_moves.specs.After.{after, after_code}
use Rattle.shogi_moves.specs.Legal.{is_legal}
use Rattle.shogi_moves.specs.LegalMoves.{legal_codes}
use Rattle.shogi_moves.specs.Rising.{is_in}
use Rattle.shogi_eval.specs.declared.eval.Eval.{Eval}
use Rattle.minimax.specs.Minimax.{value, worth}
use Rattle.commuting_moves.specs.declared.refuted_moves.RefutedMoves.{RefutedMoves}

-- after the move and the reply, both legal, the side of the move is worth no more than the bound with d plies left
pub record IsRefuted (p : Shogi) (e : Eval) (d : ℕ) (x r : Move) (bound : ℤ) : Type 0 where
  pub legal : is_legal p x ≡ true
  pub reply : is_legal (after p x) r ≡ true
  pub low : value (after (after p x) r) e d ≤ℤ bound

-- one by one the three moves are legal, and the last one is legal at the start too
pub record IsLegalPair (p : Shogi) (m r x : Move) : Type 0 where
  pub first : is_legal p m ≡ true
  pub reply : is_legal (after p m) r ≡ true
  pub last : is_legal (after (after p m) r) x ≡ true

-- at every valid position, if the moves are legal in turn and the reply refutes x, then x is worth no more than alpha
abbrev pub IsLostAfter : Move → Move → Move → ℤ → ℤ → Type 0
IsLostAfter m r x bound alpha = (p : Shogi) (e : Eval) (depth : ℕ) → 1 < depth → IsValid p
    → IsLegalPair p m r x → IsRefuted p e depth x r bound
    → worth (after (after p m) r) e (depth - 1) (code_of x) ≤ℤ alpha

-- at every valid position, if both moves are legal, x, the reply and m lead to the position of m, the reply and x
abbrev pub LeadToOne : Move → Move → Move → Type 0
LeadToOne m r x = (p : Shogi) → IsValid p → is_legal p m ≡ true → is_legal p x ≡ true
    → after_code (after_code (after_code p (code_of x)) (code_of r)) (code_of m)
    ≡ after_code (after_code (after_code p (code_of m)) (code_of r)) (code_of x)

-- if the moves are legal as far as two nodes of a search go, m is legal after x and the reply as well
abbrev pub IsStillLegal : Move → Move → Move → Type 0
IsStillLegal m r x = (p : Shogi) → IsValid p → IsLegalPair p m r x → is_legal p x ≡ true
    → is_legal (after p x) r ≡ true → is_legal (after (after p x) r) m ≡ true

-- a refuted move, by its code and that of the reply
abbrev pub IsRefutedByCode : Shogi → Eval → ℕ → ℕ → ℕ → ℤ → Type 0
IsRefutedByCode p e d x r bound = (is_in x (legal_codes p) ≡ true)
    × (is_in r (legal_codes (after_code p x)) ≡ true)
    × (value (after_code (after_code p x) r) e d ≤ℤ bound)

-- each kept move is refuted by its reply
abbrev pub AreRefuted : Shogi → Eval → ℕ → RefutedMoves → Type 0
AreRefuted p e d kept = (n : ℕ) → n < kept.len
    → IsRefutedByCode p e d (slice_index kept.moves n) (slice_index kept.replies n) kept.bound

-- at every valid position, if the kept moves are refuted and these moves are legal in turn, x is worth no more than alpha
abbrev pub IsLostWith : RefutedMoves → Move → Move → Move → ℤ → Type 0
IsLostWith kept m r x alpha = (p : Shogi) (e : Eval) (depth : ℕ) → 1 < depth → IsValid p
    → IsLegalPair p m r x → AreRefuted p e depth kept
    → worth (after (after p m) r) e (depth - 1) (code_of x) ≤ℤ alpha
