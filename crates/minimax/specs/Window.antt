-- What a search knows of a node's moves while it goes through them (own choice).
use Rattle.std.specs.Prelude.{◌≡◌, ℕ, ℤ, pos, ◌-ℤ◌, ◌≤ℤ◌, List, Option, Some, None, true, false, nat_lt, MatchOption, if◌then◌else◌}
use Rattle.shogi_core.specs.declared.moves.Move.{Move}
use Rattle.shogi_core.specs.Codes.{code_of}
use Rattle.shogi_moves.specs.Rising.{is_in}

-- the code of a move, if there is one
abbrev pub code_at : Option Move → Option ℕ
code_at None = None
code_at (Some m) = Some (code_of m)

-- the alpha that a move has to exceed: the best value so far, less one if the move's code is below that of the best move
abbrev pub move_alpha : ℤ → Option ℕ → ℕ → ℤ
move_alpha best_value None n = best_value
move_alpha best_value (Some b) n = if nat_lt n b then best_value -ℤ pos 1 else best_value

-- each move of `all` that is not in `todo` is worth at most its alpha, and the best move is worth the best value so far
pub record IsCovered (worth_of : ℕ → ℤ) (all todo : List ℕ) (alpha best_value : ℤ)
    (best_move : Option ℕ) : Type 0 where
  pub among : (n : ℕ) → is_in n todo ≡ true → is_in n all ≡ true
  pub below :
      (n : ℕ) → is_in n all ≡ true → is_in n todo ≡ false
      → worth_of n ≤ℤ move_alpha best_value best_move n
  pub reached :
      MatchOption best_move (best_value ≡ alpha)
      (λ b. (is_in b all ≡ true) × (worth_of b ≡ best_value))
