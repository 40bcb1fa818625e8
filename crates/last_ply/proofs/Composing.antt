-- The value and the best move of a node with one ply left, from the scores and mates of its moves.
use Rattle.std.proofs.Common.{◌≡◌, ◌≢◌, ◌<◌, ◌⊎◌, ℕ, ℤ, pos, ◌-ℤ◌, ◌≤ℤ◌, List, [], ◌∷◌, true, Some, refl, ap, ◌∙◌, sym, subst, arith, inl, inr}
use Rattle.std.proofs.lemmas.Int.{ints}
use Rattle.std.specs.Prelude.{◌==◌}
use Rattle.std.proofs.lemmas.Bool.{cases_lt, lt-ltb, le-ltb, or_left, eq-eqb}
use Rattle.shogi_core.specs.declared.moves.Move.{Move}
use Rattle.shogi_core.specs.Codes.{code_of, move_of}
use Rattle.shogi_core.specs.Position.{Shogi}
use Rattle.shogi_core.specs.Validity.{IsValid}
use Rattle.shogi_moves.specs.After.{after_code}
use Rattle.shogi_moves.specs.LegalMoves.{legal_codes}
use Rattle.shogi_moves.specs.Rising.{is_in}
use Rattle.shogi_moves.proofs.LegalLaws.{legal_rising}
use Rattle.shogi_eval.specs.declared.eval.Eval.{Eval}
use Rattle.shogi_eval.specs.declared.points.TheConstants.{POINTS_MAX}
use Rattle.shogi_eval.specs.Material.{material_of}
use Rattle.shogi_eval.proofs.Bounds.{material_bounds}
use Rattle.minimax.specs.declared.bounds.TheConstants.{MATE}
use Rattle.shogi_eval.specs.Exchange.{leaf_after}
use Rattle.minimax.specs.Minimax.{value, worth, ended, lost_value, greatest_or}
use Rattle.minimax.proofs.Settling.{IsBounded, left_bounded}
use Rattle.minimax.specs.Window.{IsCovered, move_alpha}
use Rattle.minimax.proofs.MinimaxLaws.{value-above, ended_some, ended_none, cut}
use Rattle.minimax.proofs.Greatest.{greatest_or-least}
use Rattle.minimax.proofs.Left.{IsFound, found_best, left_lost}
use Rattle.minimax.proofs.Valid.{after_valid}
use Rattle.last_ply.specs.LastPly.{score_at, raw_score, LeavesNone, LeavesSome, HasScore, ScoresAtMost, HasMate, HasNoMate, IsLeast, IsNoLoss, IsFirstMate}

-- a list is empty or not
pub some_or_none : (xs : List ℕ) → (xs ≡ []) ⊎ (xs ≢ [])
some_or_none [] = inl refl
some_or_none (x ∷ xs) = inr (λ e. cc)

pub none_left : (q : Shogi) → ((legal_codes q ≢ []) → ⊥) → legal_codes q ≡ []
none_left q not_some = elim (some_or_none (legal_codes q)) [ inl none ↦ none | inr some ↦ absurd (not_some some) ]

-- the worth of a move at depth 1: its score, or that of a mate
pub worth_some : (p : Shogi) (e : Eval) (n : ℕ) → LeavesSome p n → worth p e 0 n ≡ score_at p e n
worth_some p e n s = ap (λ (v : ℤ). pos 0 -ℤ v) (ended_some p e n s)

pub worth_none : (p : Shogi) (e : Eval) (n : ℕ) → LeavesNone p n → worth p e 0 n ≡ MATE
worth_none p e n none =
    let v : ended p e n ≡ lost_value 0 = ended_none p e n none in
    omega (arith, ints, v)

-- the score of a legal move lies within the bounds of material
pub score_bounds : (p : Shogi) (e : Eval) (n : ℕ) → IsValid p → is_in n (legal_codes p) ≡ true → ((pos 0 -ℤ pos POINTS_MAX) ≤ℤ score_at p e n) × (score_at p e n ≤ℤ pos POINTS_MAX)
score_bounds p e n ok i =
    let b : IsBounded (leaf_after p e n) = left_bounded p e n (after_valid p n ok i) in
    let low : (pos 0 -ℤ pos POINTS_MAX) ≤ℤ leaf_after p e n = b.least in
    let high : leaf_after p e n ≤ℤ pos POINTS_MAX = b.most in
    (omega (arith, ints, low, high), omega (arith, ints, low, high))

pub raw_bounds : (p : Shogi) (e : Eval) (n : ℕ) → IsValid p → is_in n (legal_codes p) ≡ true → ((pos 0 -ℤ pos POINTS_MAX) ≤ℤ raw_score p e n) × (raw_score p e n ≤ℤ pos POINTS_MAX)
raw_bounds p e n ok i =
    let b : ((pos 0 -ℤ pos POINTS_MAX) ≤ℤ material_of (after_code p n) e) × (material_of (after_code p n) e ≤ℤ pos POINTS_MAX) = material_bounds (after_code p n) e (after_valid p n ok i) in
    let low : (pos 0 -ℤ pos POINTS_MAX) ≤ℤ material_of (after_code p n) e = b.0 in
    let high : material_of (after_code p n) e ≤ℤ pos POINTS_MAX = b.1 in
    (omega (arith, ints), omega (arith, ints))

-- a legal move scores less than a mate, and at most its worth
pub record IsScored (p : Shogi) (e : Eval) (n : ℕ) : Type 0 where
  pub worth_is : score_at p e n ≤ℤ worth p e 0 n
  pub small : score_at p e n ≤ℤ pos POINTS_MAX
  pub most : worth p e 0 n ≤ℤ MATE

pub scored : (p : Shogi) (e : Eval) (n : ℕ) → IsValid p → is_in n (legal_codes p) ≡ true → IsScored p e n
scored p e n ok i =
    let b : ((pos 0 -ℤ pos POINTS_MAX) ≤ℤ score_at p e n) × (score_at p e n ≤ℤ pos POINTS_MAX) = score_bounds p e n ok i in
    let high : score_at p e n ≤ℤ pos POINTS_MAX = b.1 in
    elim (some_or_none (legal_codes (after_code p n))) [
      | inl none ↦ (let q : worth p e 0 n ≡ MATE = worth_none p e n none in record { worth_is = omega (arith, ints, q, high); small = high; most = omega (arith, ints, q) })
      | inr some ↦ (let q : worth p e 0 n ≡ score_at p e n = worth_some p e n some in record { worth_is = omega (arith, ints, q); small = high; most = omega (arith, ints, q, high) })
    ]

-- the score of a legal move bounds the value from below
pub at_least : (p : Shogi) (e : Eval) (v : ℤ) → IsValid p → HasScore p e v → v ≤ℤ value p e 1
at_least p e v ok h =
    let s : IsScored p e h.code = scored p e h.code ok h.listed in
    let l : v ≤ℤ score_at p e h.code = h.at_least in
    let m : score_at p e h.code ≤ℤ worth p e 0 h.code = s.worth_is in
    cut p e 1 h.code v (omega arith) h.listed (omega (arith, ints))

-- a mate bounds the value from below
pub mate_at_least : (p : Shogi) (e : Eval) → HasMate p → MATE ≤ℤ value p e 1
mate_at_least p e h =
    let q : worth p e 0 h.code ≡ MATE = worth_none p e h.code h.none in
    cut p e 1 h.code MATE (omega arith) h.listed (omega (arith, ints))

-- a bound of the worth of each move bounds the value
worth_at_most : (p : Shogi) (e : Eval) (v : ℤ) → ((n : ℕ) → is_in n (legal_codes p) ≡ true → worth p e 0 n ≤ℤ v) → IsNoLoss p v → value p e 1 ≤ℤ v
worth_at_most p e v h lost = go (legal_codes p) refl
  where
    go : (ms : List ℕ) → legal_codes p ≡ ms → value p e 1 ≤ℤ v
    go [] q = elim lost [ inl low ↦ (let l : value p e 1 ≡ lost_value 1 = (left_lost p e 1 (omega arith) q).value_is in omega (arith, ints)) | inr some ↦ absurd (some q) ]
    go (m ∷ ms) q =
        let here : is_in m (legal_codes p) ≡ true = ap (is_in m) q ∙ or_left (m == m) (is_in m ms) (eq-eqb m m refl) in
        let above : value p e 1 ≡ greatest_or (lost_value 1) (worth p e 0) (legal_codes p) = value-above p e 1 (omega arith) in
        let least : greatest_or (lost_value 1) (worth p e 0) (legal_codes p) ≤ℤ v = greatest_or-least (lost_value 1) (worth p e 0) (legal_codes p) m v here h in
        omega (arith, ints)

-- no value exceeds that of a mate at once
pub at_most_mate : (p : Shogi) (e : Eval) → IsValid p → value p e 1 ≤ℤ MATE
at_most_mate p e ok = worth_at_most p e MATE (λ n i. (scored p e n ok i).most) (inl (omega (arith, ints)))

-- without a mate, a bound of all scores bounds the value
pub at_most : (p : Shogi) (e : Eval) (v : ℤ) → HasNoMate p → ScoresAtMost p e v → IsNoLoss p v → value p e 1 ≤ℤ v
at_most p e v quiet most lost = worth_at_most p e v (λ n i. let q : worth p e 0 n ≡ score_at p e n = worth_some p e n (quiet n i) in let l : score_at p e n ≤ℤ v = most n i in omega (arith, ints)) lost

-- a move is worth at most the bound for its code, if none is worth more than v and b is the first worth v
before : (v w : ℤ) (b n : ℕ) → w ≤ℤ v → (n < b → w ≡ v → ⊥) → w ≤ℤ move_alpha v (Some b) n
before v w b n most first = elim (cases_lt n b) [
  | inl low ↦ rw (lt-ltb n b low) (less (first low))
  | inr high ↦ rw (le-ltb n b high) most
]
  where
    less : (w ≡ v → ⊥) → w ≤ℤ (v -ℤ pos 1)
    less ne = omega (arith, ints)

-- the first code of worth v covers the legal moves, if none is worth more
covered : (p : Shogi) (e : Eval) (v : ℤ) (b : ℕ) → is_in b (legal_codes p) ≡ true → worth p e 0 b ≡ v → ((n : ℕ) → is_in n (legal_codes p) ≡ true → worth p e 0 n ≤ℤ v) → ((n : ℕ) → is_in n (legal_codes p) ≡ true → n < b → worth p e 0 n ≡ v → ⊥) → IsCovered (worth p e 0) (legal_codes p) [] v v (Some b)
covered p e v b i is most first = record {
  among = λ n j. absurd (cc);
  below = λ n j _. before v (worth p e 0 n) b n (most n j) (first n j);
  reached = (i, is);
}

-- the value and the best move if the move is the first that mates
pub mate_found : (p : Shogi) (e : Eval) (m : Move) → IsValid p → move_of (code_of m) ≡ Some m → IsFirstMate p (code_of m) → IsFound p e 1 MATE (Some m)
mate_found p e m ok back l =
    found_best p e 1 MATE MATE [] m (Some m) (omega arith) (legal_rising p 0) back refl refl
    (covered p e MATE (code_of m) l.listed (worth_none p e (code_of m) l.met) (λ n i. (scored p e n ok i).most) (λ n i lt q. l.least n i lt (mates n i q)))
  where
    mates : (n : ℕ) → is_in n (legal_codes p) ≡ true → worth p e 0 n ≡ MATE → LeavesNone p n
    mates n i q = elim (some_or_none (legal_codes (after_code p n))) [
      | inl none ↦ none
      | inr some ↦ (let w : worth p e 0 n ≡ score_at p e n = worth_some p e n some in let s : score_at p e n ≤ℤ pos POINTS_MAX = (scored p e n ok i).small in absurd (omega (arith, ints)))
    ]

-- the value and the best move if no move mates and the move is the first with the greatest score
pub score_found : (p : Shogi) (e : Eval) (v : ℤ) (m : Move) → IsValid p → move_of (code_of m) ≡ Some m → HasNoMate p → ScoresAtMost p e v → IsLeast p (λ n. score_at p e n ≡ v) (code_of m) → IsFound p e 1 v (Some m)
score_found p e v m ok back quiet most l =
    let same : (n : ℕ) → is_in n (legal_codes p) ≡ true → worth p e 0 n ≡ score_at p e n = λ n i. worth_some p e n (quiet n i) in
    found_best p e 1 v v [] m (Some m) (omega arith) (legal_rising p 0) back refl refl
    (covered p e v (code_of m) l.listed (same (code_of m) l.listed ∙ l.met) (λ n i. subst (λ (x : ℤ). x ≤ℤ v) (sym (same n i)) (most n i)) (λ n i lt q. l.least n i lt (sym (same n i) ∙ q)))
