-- Moves ranked by worth (own choice: the greater worth first, among equal ones the lesser code).
use Rattle.std.specs.List.{slice_get}
use Rattle.std.specs.Prelude.{◌≡◌, ◌≤◌, Option, Some, None, ℕ, ℤ, ◌-◌, List, [], ◌∷◌, ◌++◌, length, map, take, insert, cond, ◌&&◌, ◌||◌, Bool, true, false, int_lt, nat_lt}
use Rattle.std.specs.Ordering.{int_eq}
use Rattle.shogi_core.specs.declared.moves.Move.{Move}
use Rattle.shogi_core.specs.Codes.{code_of}
use Rattle.shogi_core.specs.Position.{Shogi}
use Rattle.shogi_moves.specs.LegalMoves.{legal_codes}
use Rattle.shogi_moves.specs.Rising.{is_in}
use Rattle.shogi_eval.specs.declared.eval.Eval.{Eval}
use Rattle.minimax.specs.Minimax.{worth, negated}
use Rattle.minimax.specs.declared.bounds.TheConstants.{INFINITY}
use Rattle.shogi_search.specs.declared.ranks.TheConstants.{MULTI_PV_MAX}

-- a move of worth `v` ranks before another of worth `w`: it is worth more, or as much with the lesser code
abbrev pub is_better : ℤ → ℕ → ℤ → ℕ → Bool
is_better v code w other = int_lt w v || (int_eq v w && nat_lt code other)

-- the code inserted before the first code that it ranks before, or last
abbrev pub insert_code : (ℕ → ℤ) → ℕ → List ℕ → List ℕ
insert_code worth_of code [] = code ∷ []
insert_code worth_of code (next ∷ more) =
    cond (is_better (worth_of code) code (worth_of next) next) (code ∷ next ∷ more)
    (next ∷ insert_code worth_of code more)

-- the codes sorted by rank
unfoldable pub ranked : (ℕ → ℤ) → List ℕ → List ℕ
ranked worth_of [] = []
ranked worth_of (code ∷ codes) = insert_code worth_of code (ranked worth_of codes)

-- the codes of the legal moves, ranked by worth at a depth of at least 1
abbrev pub ranked_codes : Shogi → Eval → ℕ → List ℕ
ranked_codes p e d = ranked (worth p e (d - 1)) (legal_codes p)

-- the moves of the lines with their values, and the most lines
pub record Ranking : Type 0 where
  pub lines : ℕ
  pub pairs : List (Move × ℤ)

-- the move with its value inserted before the first pair that it ranks before, or last
abbrev pub insert_pair : Move → ℤ → List (Move × ℤ) → List (Move × ℤ)
insert_pair m v [] = (m, v) ∷ []
insert_pair m v (x ∷ xs) =
    cond (is_better v (code_of m) x.1 (code_of x.0)) ((m, v) ∷ x ∷ xs) (x ∷ insert_pair m v xs)

-- inserting the pair at this index keeps the ranks
abbrev pub IsPlaceOf : Move → ℤ → List (Move × ℤ) → ℕ → Type 0
IsPlaceOf m v pairs place = insert pairs place (m, v) ≡ insert_pair m v pairs

-- the codes of the moves
abbrev pub codes_in : List (Move × ℤ) → List ℕ
codes_in pairs = map (λ x. code_of x.0) pairs

-- each pair ranks before the next
abbrev pub are_ranked : List (Move × ℤ) → Bool
are_ranked [] = true
are_ranked (x ∷ []) = true
are_ranked (x ∷ y ∷ rest) = is_better x.1 (code_of x.0) y.1 (code_of y.0) && are_ranked (y ∷ rest)

-- there are 1 to 8 lines, and at most as many pairs, which are ranked
abbrev pub AreRankedWithin : ℕ → List (Move × ℤ) → Type 0
AreRankedWithin lines pairs =
    (1 ≤ lines) × (lines ≤ MULTI_PV_MAX) × (length pairs ≤ lines) × (are_ranked pairs ≡ true)

-- the pair with the code instead of the move
abbrev pub coded : Move × ℤ → ℕ × ℤ
coded x = (code_of x.0, x.1)

-- the code with its worth
abbrev pub with_worth : (ℕ → ℤ) → ℕ → ℕ × ℤ
with_worth worth_of code = (code, worth_of code)

-- the pairs are the best of these codes with their worths, as many as there are lines
abbrev pub IsTop : (ℕ → ℤ) → List ℕ → Ranking → Type 0
IsTop worth_of codes r =
    map coded r.pairs ≡ map (with_worth worth_of) (take r.lines (ranked worth_of codes))

-- if the pairs were the best of some codes, they are now the best of these and of the new move
abbrev pub JoinsTop : Move → ℤ → Ranking → Ranking → Type 0
JoinsTop m v old new = (f : ℕ → ℤ) (codes : List ℕ) → IsTop f codes old
    → is_in (code_of m) codes ≡ false → v ≡ f (code_of m) → IsTop f (codes ++ code_of m ∷ []) new

-- the value of the pair, if there is one
abbrev pub value_in : Option (Move × ℤ) → Option ℤ
value_in None = None
value_in (Some x) = Some x.1

-- the value on the last line, if all lines are taken: a later move of greater code is listed only if it is worth more
abbrev pub value_to_pass : Ranking → Option ℤ
value_to_pass r = value_in (slice_get r.pairs (r.lines - 1))

-- the value to beat as the opponent sees it, or the end of the full window
abbrev pub beta_above : Option ℤ → ℤ
beta_above None = INFINITY
beta_above (Some v) = negated v

-- the beta of the next child: a child of this value or more is not listed
abbrev pub child_beta : Ranking → ℤ
child_beta r = beta_above (value_to_pass r)
