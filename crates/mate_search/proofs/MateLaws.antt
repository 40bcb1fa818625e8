-- Mates by checks, move by move.
use Rattle.std.proofs.Common.{◌≡◌, ◌≢◌, ℕ, ◌-◌, ◌<◌, ◌≤◌, List, [], ◌∷◌, Bool, true, false, refl, sym, ◌∙◌, arith, length}
use Rattle.std.specs.Prelude.{zero, suc, ◌&&◌, ◌||◌}
use Rattle.std.specs.List.{list_any, list_all}
use Rattle.shogi_core.specs.Attack.{in_check}
use Rattle.shogi_core.specs.Position.{Shogi}
use Rattle.shogi_moves.specs.After.{after_code}
use Rattle.shogi_moves.specs.LegalMoves.{legal_codes}
use Rattle.std.proofs.lemmas.Bool.{true≢false}
use Rattle.mate_search.specs.Mates.{IsShortest, is_mated, mates}

-- whether one of these moves mates, with at most n moves after it; whether each of these replies is so met
unfoldable pub mates_by : Shogi → ℕ → List ℕ → Bool
mates_by p n codes = list_any (λ code. is_mated (after_code p code) n) codes

unfoldable pub is_met_by : Shogi → ℕ → List ℕ → Bool
is_met_by q n replies = list_all (λ reply. mates (after_code q reply) n) replies

-- no move more: no mate
pub mates_none : (p : Shogi) (n : ℕ) → n ≡ 0 → mates p n ≡ false
unfolding mates
mates_none p n e = rw e refl

-- one of its moves mates
pub mates_step : (p : Shogi) (n : ℕ) → n ≢ 0 → mates_by p (n - 1) (legal_codes p) ≡ mates p n
unfolding mates mates_by
mates_step p zero some = absurd (some refl)
mates_step p (suc n) some = let same : suc n - 1 ≡ n = omega arith in rw same refl

-- the side to move is in check, and each of its replies is met
pub mated_step : (q : Shogi) (n : ℕ) → is_mated q n ≡ (in_check q.cells q.side && is_met_by q n (legal_codes q))
unfolding is_met_by
mated_step q n = refl

-- what is left, move by move
pub mates_by-none : (p : Shogi) (n : ℕ) (codes : List ℕ) → codes ≡ [] → mates_by p n codes ≡ false
unfolding mates_by
mates_by-none p n codes e = rw e refl

pub mates_by-left : (p : Shogi) (n code : ℕ) (codes rest : List ℕ) (next : Shogi) → codes ≡ code ∷ rest → next ≡ after_code p code → mates_by p n codes ≡ (is_mated next n || mates_by p n rest)
unfolding mates_by
mates_by-left p n code codes rest next e f = rw (e, f) refl

pub is_met_by-none : (q : Shogi) (n : ℕ) (replies : List ℕ) → replies ≡ [] → is_met_by q n replies ≡ true
unfolding is_met_by
is_met_by-none q n replies e = rw e refl

pub is_met_by-left : (q : Shogi) (n reply : ℕ) (replies rest : List ℕ) (next : Shogi) → replies ≡ reply ∷ rest → next ≡ after_code q reply → is_met_by q n replies ≡ (mates next n && is_met_by q n rest)
unfolding is_met_by
is_met_by-left q n reply replies rest next e f = rw (e, f) refl

pub fewer_left : (codes left : List ℕ) (code : ℕ) → codes ≡ code ∷ left → length left < length codes
fewer_left codes left code e = rw e (omega arith)

-- before the first reply each is still to be met, and before the first move none was tried
pub mated_first : (q : Shogi) (n : ℕ) (replies : List ℕ) → in_check q.cells q.side ≡ true → replies ≡ legal_codes q → is_met_by q n replies ≡ is_mated q n
mated_first q n replies check e = rw (e, mated_step q n, check) refl

pub mates_first : (p : Shogi) (n : ℕ) (codes : List ℕ) → n ≢ 0 → codes ≡ legal_codes p → mates_by p (n - 1) codes ≡ mates p n
mates_first p n codes some e = rw e (mates_step p n some)

-- without a check there is no mate
pub mated_unchecked : (q : Shogi) (n : ℕ) → in_check q.cells q.side ≡ false → is_mated q n ≡ false
mated_unchecked q n check = rw (mated_step q n, check) refl

-- a reply that is met leaves the others, and one that is not settles it
pub reply_met : (q : Shogi) (n reply : ℕ) (replies rest : List ℕ) (next : Shogi) → replies ≡ reply ∷ rest → next ≡ after_code q reply → mates next n ≡ true → is_met_by q n rest ≡ is_met_by q n replies
reply_met q n reply replies rest next e f met = rw (is_met_by-left q n reply replies rest next e f, met) refl

pub reply_saves : (q : Shogi) (n reply : ℕ) (replies rest : List ℕ) (next : Shogi) → replies ≡ reply ∷ rest → next ≡ after_code q reply → mates next n ≡ false → is_met_by q n replies ≡ false
reply_saves q n reply replies rest next e f saved = rw (is_met_by-left q n reply replies rest next e f, saved) refl

-- a move that mates settles it, and one that does not leaves the others
pub move_mates : (p : Shogi) (n code : ℕ) (codes rest : List ℕ) (next : Shogi) → codes ≡ code ∷ rest → next ≡ after_code p code → is_mated next n ≡ true → mates_by p n codes ≡ true
move_mates p n code codes rest next e f mated = rw (mates_by-left p n code codes rest next e f, mated) refl

pub move_fails : (p : Shogi) (n code : ℕ) (codes rest : List ℕ) (next : Shogi) → codes ≡ code ∷ rest → next ≡ after_code p code → is_mated next n ≡ false → mates_by p n rest ≡ mates_by p n codes
move_fails p n code codes rest next e f unmated = rw (mates_by-left p n code codes rest next e f, unmated) refl

-- the least number of moves is no less than one
pub some_move : (p : Shogi) (n : ℕ) → IsShortest p n → 1 ≤ n
some_move p zero s = absurd (true≢false (sym s.mating ∙ mates_none p 0 refl))
some_move p (suc n) s = omega arith
