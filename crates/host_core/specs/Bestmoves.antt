-- How often bytes have the word `bestmove`, with which the answer to a `go` ends (USI, bestmove).
use Rattle.std.specs.Prelude.{ℕ, ◌+◌, List, [], ◌∷◌, cond, codes, nat_eq}
use Rattle.std.specs.List.{starts_with}

-- 1 if the bytes begin with the word, else 0
abbrev pub bestmove_at_front : List ℕ → ℕ
bestmove_at_front bytes = cond (starts_with nat_eq bytes (codes "bestmove")) 1 0

-- the number of places at which the word begins
unfoldable pub bestmove_count : List ℕ → ℕ
bestmove_count [] = 0
bestmove_count (byte ∷ rest) = bestmove_at_front (byte ∷ rest) + bestmove_count rest
