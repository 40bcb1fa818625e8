-- The legal moves of a position by their codes, and sequences of legal moves (their order is an own choice).
use Rattle.std.specs.Prelude.{◌≡◌, ℕ, zero, suc, ◌+◌, List, [], ◌∷◌, Option, Some, None, MatchOption, filter, length, sum_by, ◌*◌}
use Rattle.shogi_core.specs.declared.moves.Move.{Move}
use Rattle.shogi_core.specs.declared.moves.TheConstants.{FIRST_DROP, SQUARE_CODES}
use Rattle.shogi_core.specs.Codes.{code_of, codes_from}
use Rattle.shogi_core.specs.Position.{Shogi}
use Rattle.shogi_moves.specs.After.{after_code}
use Rattle.shogi_moves.specs.Legal.{is_legal_code}

-- the codes of the legal moves at or above `first`, in order
unfoldable pub legal_from : Shogi → ℕ → List ℕ
legal_from p first = filter (is_legal_code p) (codes_from first)

-- the codes of all legal moves, in order
abbrev pub legal_codes : Shogi → List ℕ
legal_codes p = legal_from p 0

-- the codes of the legal moves above that of a move, in order; all of them if there is no move
abbrev pub legal_above : Shogi → Option Move → List ℕ
legal_above p None = legal_from p 0
legal_above p (Some m) = legal_from p (code_of m + 1)

-- no board move is legal; no pawn drop; no drop of another piece
abbrev pub HasNoBoardMove : Shogi → Type 0
HasNoBoardMove p = legal_codes p ≡ legal_from p FIRST_DROP

abbrev pub HasNoPawnDrop : Shogi → Type 0
HasNoPawnDrop p = legal_from p FIRST_DROP ≡ legal_from p (FIRST_DROP + 81)

abbrev pub HasNoPieceDrop : Shogi → Type 0
HasNoPieceDrop p = legal_from p (FIRST_DROP + 81) ≡ []

-- `count` is the number of legal moves with codes from `first` up to, not including, `end`
abbrev pub CountsLegal : Shogi → ℕ → ℕ → ℕ → Type 0
CountsLegal p first end count = count + length (legal_from p end) ≡ length (legal_from p first)

-- `found` is the legal move of least code at or above `first`, and none only if there is none below `end`
abbrev pub IsLeastFrom : Shogi → Option Move → ℕ → ℕ → Type 0
IsLeastFrom p found first end = MatchOption found (legal_from p first ≡ legal_from p end)
    (λ m. legal_from p first ≡ code_of m ∷ legal_from p (code_of m + 1))

-- `found` is the legal move of least code at or above `code` from the square, and none only if the square has none left
abbrev pub IsLeastOn : Shogi → Option Move → ℕ → ℕ → Type 0
IsLeastOn p found code from = IsLeastFrom p found code (from * SQUARE_CODES + SQUARE_CODES)

-- `found` is the first legal move above `after`, or the first of all, and none only if there is none
abbrev pub IsNextAbove : Shogi → Option Move → Option Move → Type 0
IsNextAbove p after found = MatchOption found (legal_above p after ≡ [])
    (λ m. legal_above p after ≡ code_of m ∷ legal_above p (Some m))

-- the number of sequences of n legal moves
unfoldable pub perft : Shogi → ℕ → ℕ
perft p zero = 1
perft p (suc n) = sum_by (λ code. perft (after_code p code) n) (legal_codes p)
