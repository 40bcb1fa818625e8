-- Sequences of legal moves, counted by their first moves.
use Rattle.std.proofs.Common.{◌≡◌, ◌≢◌, ℕ, ◌+◌, ◌-◌, ◌^◌, ◌<◌, ◌≤◌, List, [], ◌∷◌, refl, arith, length}
use Rattle.std.specs.Prelude.{zero, suc, sum_by}
use Rattle.std.proofs.lemmas.List.Sums.{sum_by-cons}
use Rattle.shogi_core.specs.Position.{Shogi}
use Rattle.shogi_moves.specs.After.{after_code}
use Rattle.shogi_moves.specs.LegalMoves.{legal_codes, perft}

-- the sequences of n more moves after each of the moves
unfoldable pub perft_by : Shogi → ℕ → List ℕ → ℕ
perft_by p n codes = sum_by (λ code. perft (after_code p code) n) codes

-- at depth 0 there is one sequence, the empty one
pub perft_none : (p : Shogi) (n : ℕ) → n ≡ 0 → perft p n ≡ 1
unfolding perft
perft_none p n e = rw e refl

-- the sequences of n moves, by their first move
pub perft_step : (p : Shogi) (n : ℕ) → 1 ≤ n → perft_by p (n - 1) (legal_codes p) ≡ perft p n
unfolding perft perft_by
perft_step p zero h = absurd (omega arith)
perft_step p (suc n) h = let same : suc n - 1 ≡ n = omega arith in rw same refl

-- no move left, no sequence left
pub perft_by-none : (p : Shogi) (n : ℕ) → perft_by p n [] ≡ 0
unfolding perft_by
perft_by-none p n = refl

pub perft_by-more : (p : Shogi) (n code : ℕ) (codes : List ℕ) → perft_by p n (code ∷ codes) ≡ perft (after_code p code) n + perft_by p n codes
unfolding perft_by
perft_by-more p n code codes = sum_by-cons (λ code. perft (after_code p code) n) code codes

-- the first move's share of the sequences left
pub perft_by-left : (p : Shogi) (n code : ℕ) (codes rest : List ℕ) (child : Shogi) → codes ≡ code ∷ rest → child ≡ after_code p code → perft_by p n codes ≡ perft child n + perft_by p n rest
perft_by-left p n code codes rest child e f = rw (e, f) (perft_by-more p n code rest)

-- before the first move nothing is counted and all is left
pub perft_first : (p : Shogi) (n : ℕ) (codes : List ℕ) → n ≢ 0 → codes ≡ legal_codes p → 0 + perft_by p (n - 1) codes ≡ perft p n
perft_first p n codes some e = rw e (let all : perft_by p (n - 1) (legal_codes p) ≡ perft p n = perft_step p n (omega arith) in omega arith)

-- after the last move all is counted
pub perft_last : (p : Shogi) (n total : ℕ) (codes : List ℕ) → total + perft_by p (n - 1) codes ≡ perft p n → codes ≡ [] → total ≡ perft p n
perft_last p n total codes whole e = let none : perft_by p (n - 1) codes ≡ 0 = rw e (perft_by-none p (n - 1)) in omega arith

pub perft_none-few : (p : Shogi) (n : ℕ) → n ≡ 0 → 2 ^ 64 ≤ perft p n → ⊥
perft_none-few p n e many = omega (arith, perft_none p n e)

pub fewer_left : (codes left : List ℕ) (code : ℕ) → codes ≡ code ∷ left → length left < length codes
fewer_left codes left code e = rw e (omega arith)

-- at depth 1 the number is that of the legal moves
pub perft_one : (p : Shogi) → perft p 1 ≡ length (legal_codes p)
unfolding perft
perft_one p = go (legal_codes p)
  where
    go : (codes : List ℕ) → sum_by (λ code. perft (after_code p code) 0) codes ≡ length codes
    go [] = refl
    go (code ∷ codes) = omega (arith, sum_by-cons (λ code. perft (after_code p code) 0) code codes, go codes)

pub ruleset steps = (perft_none, perft_step, perft_by-none)
