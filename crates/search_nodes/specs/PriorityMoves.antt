-- The priority moves of a node, which it visits first, by their codes (own choice).
use Rattle.std.specs.Prelude.{ℕ, ◌≡◌, ◌==◌, Bool, true, ◌&&◌, ◌||◌, not, cond, Option, Some, None, MatchOption, List, [], ◌∷◌, ◌++◌, length, filter, drop, remove, take, slice_index}
use Rattle.shogi_core.specs.declared.moves.Move.{Move}
use Rattle.shogi_core.specs.Codes.{code_of}
use Rattle.shogi_core.specs.Position.{Shogi}
use Rattle.shogi_moves.specs.LegalMoves.{legal_codes}
use Rattle.shogi_moves.specs.Rising.{is_in}
use Rattle.search_nodes.specs.declared.priority_moves.TheConstants.{PRIORITY_MOVES_MAX}

-- the list has no number twice
abbrev pub is_distinct : List ℕ → Bool
is_distinct [] = true
is_distinct (m ∷ ms) = not (is_in m ms) && is_distinct ms

-- `code` is appended, unless it is in the list or the list is full
abbrev pub with_priority_move : List ℕ → ℕ → List ℕ
with_priority_move codes code =
    cond (length codes == PRIORITY_MOVES_MAX || is_in code codes) codes (codes ++ code ∷ [])

-- the code of a move is appended, if there is one
abbrev pub with_some : List ℕ → Option Move → List ℕ
with_some codes None = codes
with_some codes (Some m) = with_priority_move codes (code_of m)

-- each code is appended in turn
abbrev pub with_each : List ℕ → List ℕ → List ℕ
with_each codes [] = codes
with_each codes (code ∷ more) = with_each (with_priority_move codes code) more

-- the killers, the last one first, after `code` caused a cutoff: a killer moves to the front, another move replaces the oldest
abbrev pub with_killer : List ℕ → ℕ → List ℕ
with_killer killers code =
    cond (slice_index killers 0 == code) killers
    (cond (slice_index killers 1 == code) (code ∷ remove killers 1)
    (cond (slice_index killers 2 == code) (code ∷ remove killers 2)
    (code ∷ take 3 killers)))

-- the legal priority moves from index `from` on
abbrev pub legal_priority_moves : Shogi → List ℕ → ℕ → List ℕ
legal_priority_moves p codes from = filter (λ code. is_in code (legal_codes p)) (drop from codes)

-- the next legal priority move with the index after it, if there is one
abbrev pub IsNextPriorityMove : Shogi → List ℕ → ℕ → Option (Move × ℕ) → Type 0
IsNextPriorityMove p codes from found =
    MatchOption found (legal_priority_moves p codes from ≡ [])
    (λ next. legal_priority_moves p codes from ≡ code_of next.0 ∷ legal_priority_moves p codes next.1)
