-- The word `bestmove` in bytes, place by place.
use Rattle.std.proofs.Common.{◌≡◌, ◌<◌, ◌+◌, ◌≤◌, ℕ, zero, suc, List, [], ◌∷◌, length, drop, refl, arith}
use Rattle.host_core.specs.Bestmoves.{bestmove_at_front, bestmove_count}

suc_plus : (i : ℕ) → suc i + 1 ≡ suc (i + 1)
suc_plus i = omega arith

-- the count up to one more place
pub bestmoves_at : (bytes : List ℕ) (at : ℕ) → at < length bytes
    → bestmove_count (drop at bytes) ≡ bestmove_at_front (drop at bytes) + bestmove_count (drop (at + 1) bytes)
unfolding bestmove_count
bestmoves_at [] at lt = absurd (omega (arith, lt))
bestmoves_at (byte ∷ rest) zero lt = refl
bestmoves_at (byte ∷ rest) (suc at) lt = rw (suc_plus at) (bestmoves_at rest at (omega (arith, lt)))

-- behind the last place the word does not begin
pub bestmoves_end : (bytes : List ℕ) (at : ℕ) → length bytes ≤ at → bestmove_count (drop at bytes) ≡ 0
unfolding bestmove_count
bestmoves_end [] zero le = refl
bestmoves_end [] (suc at) le = refl
bestmoves_end (byte ∷ rest) zero le = absurd (omega (arith, le))
bestmoves_end (byte ∷ rest) (suc at) le = bestmoves_end rest at (omega (arith, le))
