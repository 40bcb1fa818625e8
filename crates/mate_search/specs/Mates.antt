-- Mates by checks (tsume): each move of the attacker gives check, and each legal reply is met. Moves of the attacker are counted; a mate in n of them has 2 n - 1 plies, each interposition counted.
use Rattle.std.specs.Prelude.{◌≡◌, ◌++◌, ℕ, zero, suc, ◌-◌, ◌<◌, ◌≤◌, ◌&&◌, Bool, true, false, not, cond, List, [], ◌∷◌, Option, Some, None, MatchOption, length, ◌*◌, Result, OnOk, Vec, map, filter, find}
use Rattle.std.specs.List.{list_any, list_all}
use Rattle.shogi_core.specs.declared.moves.Move.{Move}
use Rattle.shogi_core.specs.Attack.{in_check}
use Rattle.shogi_core.specs.Codes.{code_of}
use Rattle.shogi_core.specs.Position.{Shogi}
use Rattle.shogi_moves.specs.After.{after_code}
use Rattle.shogi_moves.specs.LegalMoves.{legal_codes}
use Rattle.shogi_moves.specs.Rising.{is_in}

-- the side to move is in check, and whatever it replies, the other side wins; without a reply it is mated
abbrev pub is_lost : (Shogi → Bool) → Shogi → Bool
is_lost wins q =
    in_check q.cells q.side && list_all (λ reply. wins (after_code q reply)) (legal_codes q)

-- the side to move mates by checks in at most n moves of its own
unfoldable pub mates : Shogi → ℕ → Bool
mates p zero = false
mates p (suc n) = list_any (λ code. is_lost (λ r. mates r n) (after_code p code)) (legal_codes p)

-- the side to move is in check and, whatever it replies, mated by checks in at most n further moves
abbrev pub is_mated : Shogi → ℕ → Bool
is_mated q n = is_lost (λ r. mates r n) q

-- the keys: the moves that mate by checks with at most n moves after them, in the order of codes
abbrev pub keys : Shogi → ℕ → List ℕ
keys p n = filter (λ code. is_mated (after_code p code) n) (legal_codes p)

-- the first number from n on, among so many, of moves in which it mates by checks
unfoldable pub shortest_from : Shogi → (n tries : ℕ) → Option ℕ
shortest_from p n zero = None
shortest_from p n (suc tries) = cond (mates p n) (Some n) (shortest_from p (suc n) tries)

-- the least number of moves in which it mates by checks, if that is at most so many
abbrev pub shortest : Shogi → ℕ → Option ℕ
shortest p most = shortest_from p 1 most

-- the least number of moves in which it mates by checks
pub record IsShortest (p : Shogi) (n : ℕ) : Type 0 where
  pub mating : mates p n ≡ true
  pub least : (k : ℕ) → k < n → mates p k ≡ false

-- that number, at most so many; if none is found, there is no such mate
abbrev pub IsShortestWithin : Shogi → ℕ → Option ℕ → Type 0
IsShortestWithin p most found =
    MatchOption found ((k : ℕ) → k ≤ most → mates p k ≡ false) (λ n. (n ≤ most) × IsShortest p n)

-- the first key
abbrev pub first_key : Shogi → ℕ → Option ℕ
first_key p n = find (λ code. is_mated (after_code p code) n) (legal_codes p)

-- the reply of least code among those that hold out for all of the n further moves
abbrev pub longest_defence : Shogi → ℕ → Option ℕ
longest_defence q n = find (λ reply. not (mates (after_code q reply) (n - 1))) (legal_codes q)

-- a move, and what follows it; without a move, nothing
abbrev pub then_line : (Shogi → List ℕ) → Shogi → Option ℕ → List ℕ
then_line rest p None = []
then_line rest p (Some code) = code ∷ rest (after_code p code)

-- the main line of a mate in n moves: the first key, the longest defence, and so on
unfoldable pub line : Shogi → ℕ → List ℕ
line p zero = []
line p (suc n) =
    then_line (λ q. then_line (λ r. line r n) q (longest_defence q n)) p (first_key p n)

-- each move is legal where it is played, and after the last one the side to move is in check and has no legal move
abbrev pub PlaysToMate : Shogi → List ℕ → Type 0
PlaysToMate p [] = (in_check p.cells p.side ≡ true) × (legal_codes p ≡ [])
PlaysToMate p (code ∷ codes) =
    (is_in code (legal_codes p) ≡ true) × PlaysToMate (after_code p code) codes

-- the line of the shortest mate ends in mate, and has 2 n - 1 plies
pub record IsMainLine (p : Shogi) (n : ℕ) (codes : List ℕ) : Type 0 where
  pub mating : PlaysToMate p codes
  pub plies : length codes ≡ 2 * n - 1

-- if it succeeds, moves of these codes were appended
abbrev pub AppendsMoves : {A E : Type 0} → Result (Unit {0}) E → Vec Move A → Vec Move A → List ℕ
    → Type 0
AppendsMoves result before after codes =
    OnOk result (map code_of after.items ≡ map code_of before.items ++ codes)
