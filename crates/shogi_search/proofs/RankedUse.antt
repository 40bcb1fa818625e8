-- Callers that offer each legal move once, by rising code, end with the best moves of the position.
use Rattle.std.proofs.Common.{◌≡◌, ◌<◌, ◌≤◌, ◌≤ℤ◌, ◌<ℤ◌, ◌-◌, ℕ, zero, suc, ℤ, List, [], ◌∷◌, ◌++◌, Option, Some, None, true, false, refl, ap, ◌∙◌, sym, arith, map, take, subst, append-nil}
use Rattle.std.specs.List.{slice_get}
use Rattle.std.proofs.lemmas.Int.{ints}
use Rattle.std.proofs.lemmas.Bool.Decides.{nat_tests}
use Rattle.std.proofs.lemmas.List.{append_assoc}
use Rattle.shogi_core.specs.declared.moves.Move.{Move}
use Rattle.shogi_core.specs.Codes.{code_of}
use Rattle.shogi_core.specs.Position.{Shogi}
use Rattle.shogi_core.specs.Validity.{IsValid}
use Rattle.shogi_moves.specs.After.{after_code}
use Rattle.shogi_moves.specs.LegalMoves.{legal_codes, legal_above}
use Rattle.shogi_moves.specs.Rising.{is_in, IsRising}
use Rattle.shogi_moves.proofs.LegalLaws.{legal_rising}
use Rattle.shogi_eval.specs.declared.eval.Eval.{Eval}
use Rattle.minimax.proofs.MinimaxLaws.{worth_bounds, WorthWithin}
use Rattle.search_nodes.proofs.MatchingOthers.{is_in-append_left, is_in-append_right}
use Rattle.shogi_search.proofs.RankedLaws.{in_ranked, first_in, rank_past, not_before, ranked_last, ranked_list, AreDistinct}
use Rattle.shogi_search.specs.declared.found.Found.{Found}
use Rattle.shogi_search.specs.Progress.{IsFoundBelow}
use Rattle.minimax.specs.Minimax.{value, worth, negated}
use Rattle.shogi_search.specs.Ranked.{ranked, insert_code, is_better, codes_in, coded, with_worth, Ranking, IsTop, value_in, value_to_pass, beta_above, child_beta}
use Rattle.minimax.specs.declared.bounds.TheConstants.{SEARCH_DEPTH_MAX, INFINITY}

codes_are : (f : ℕ → ℤ) (xs : List (Move × ℤ)) (ks : List ℕ) → map coded xs ≡ map (with_worth f) ks → codes_in xs ≡ ks
codes_are f [] [] h = refl
codes_are f [] (k ∷ ks) h = absurd (cc)
codes_are f (x ∷ xs) [] h = absurd (cc)
codes_are f (x ∷ xs) (k ∷ ks) h = grind (arith, codes_are f xs ks)

not_in_front : (c n : ℕ) (ks : List ℕ) → is_in c ks ≡ false → is_in c (take n ks) ≡ false
not_in_front c zero ks h = refl
not_in_front c (suc n) [] h = refl
not_in_front c (suc n) (k ∷ ks) h = grind (arith, not_in_front c n ks)

-- a move not offered is not listed
top_not_listed : (f : ℕ → ℤ) (codes : List ℕ) (n c : ℕ) (xs : List (Move × ℤ)) → map coded xs ≡ map (with_worth f) (take n (ranked f codes)) → is_in c codes ≡ false → is_in c (codes_in xs) ≡ false
top_not_listed f codes n c xs h i = grind (arith, codes_are f xs (take n (ranked f codes)), not_in_front c n (ranked f codes), in_ranked f c codes)

-- in a rising list the codes before one are less
rising_front : (xs : List ℕ) (m : ℕ) (ys : List ℕ) → IsRising (xs ++ m ∷ ys) → (n : ℕ) → is_in n xs ≡ true → n < m
rising_front [] m ys r n i = absurd (cc)
rising_front (x ∷ xs) m ys r n i = grind (arith, nat_tests, r.0 m (is_in-append_right m xs (m ∷ ys) (first_in m ys)), rising_front xs m ys r.1 n)

-- in a rising list a code does not stand among those before it
rising_apart : (xs : List ℕ) (m : ℕ) (ys : List ℕ) → IsRising (xs ++ m ∷ ys) → is_in m xs ≡ false
rising_apart xs m ys r = grind (arith, rising_front xs m ys r m)

front_distinct : (xs ys : List ℕ) → IsRising (xs ++ ys) → AreDistinct xs
front_distinct [] ys r = tt
front_distinct (x ∷ xs) ys r = (grind (arith, r.0 x, is_in-append_left x xs ys), front_distinct xs ys r.1)

-- the list has the best of the legal moves up to the one last passed
pub record IsGoneThrough (p : Shogi) (f : ℕ → ℤ) (passed : Option Move) (r : Ranking) : Type 0 where
  pub seen : List ℕ
  pub whole : seen ++ legal_above p passed ≡ legal_codes p
  pub top : IsTop f seen r

not_seen : (p : Shogi) (seen : List ℕ) (m : ℕ) (rest above : List ℕ) → seen ++ above ≡ legal_codes p → above ≡ m ∷ rest → is_in m seen ≡ false
not_seen p seen m rest above w e = rising_apart seen m rest (subst IsRising (sym w ∙ ap (λ (l : List ℕ). seen ++ l) e) (legal_rising p 0))

-- the next move is not listed yet
pub gone_fresh : (p : Shogi) (f : ℕ → ℤ) (passed : Option Move) (r : Ranking) (m : ℕ) (rest : List ℕ) → IsGoneThrough p f passed r → legal_above p passed ≡ m ∷ rest → is_in m (codes_in r.pairs) ≡ false
gone_fresh p f passed r m rest g e = top_not_listed f g.seen r.lines m r.pairs g.top (not_seen p g.seen m rest (legal_above p passed) g.whole e)

-- an offer passes the next move
pub gone_on : (p : Shogi) (f : ℕ → ℤ) (passed : Option Move) (r new : Ranking) (m : Move) → IsGoneThrough p f passed r → legal_above p passed ≡ code_of m ∷ legal_above p (Some m)
    → ((codes : List ℕ) → IsTop f codes r → is_in (code_of m) codes ≡ false → IsTop f (codes ++ code_of m ∷ []) new) → IsGoneThrough p f (Some m) new
gone_on p f passed r new m g e h = record {
  seen = g.seen ++ code_of m ∷ [];
  whole = append_assoc g.seen (code_of m ∷ []) (legal_above p (Some m)) ∙ sym (ap (λ (l : List ℕ). g.seen ++ l) e) ∙ g.whole;
  top = h g.seen g.top (not_seen p g.seen (code_of m) (legal_above p (Some m)) (legal_above p passed) g.whole e);
}

-- once no move is left, the list has the best of all legal moves
pub gone_all : (p : Shogi) (f : ℕ → ℤ) (passed : Option Move) (r : Ranking) → IsGoneThrough p f passed r → legal_above p passed ≡ [] → IsTop f (legal_codes p) r
gone_all p f passed r g e = subst (λ (l : List ℕ). IsTop f l r) (sym (append-nil g.seen) ∙ ap (λ (l : List ℕ). g.seen ++ l) (sym e) ∙ g.whole) g.top

-- the code and the worth on a line
record IsLineOf (f : ℕ → ℤ) (codes : List ℕ) (n i : ℕ) (w : ℤ) : Type 0 where
  pub code : ℕ
  pub short : i < n
  pub code_is : slice_get codes i ≡ Some code
  pub worth_is : f code ≡ w
  pub listed : is_in code codes ≡ true

line_of : (f : ℕ → ℤ) (xs : List (Move × ℤ)) (codes : List ℕ) (n i : ℕ) (w : ℤ) → map coded xs ≡ map (with_worth f) (take n codes) → value_in (slice_get xs i) ≡ Some w → IsLineOf f codes n i w
line_of f [] codes n i w h e = absurd (cc)
line_of f (y ∷ ys) codes zero i w h e = absurd (cc)
line_of f (y ∷ ys) [] (suc n) i w h e = absurd (cc)
line_of f (y ∷ ys) (k ∷ ks) (suc n) zero w h e = record { code = k; short = omega arith; code_is = refl; worth_is = grind arith; listed = first_in k ks }
line_of f (y ∷ ys) (k ∷ ks) (suc n) (suc i) w h e =
    let r : IsLineOf f ks n i w = line_of f ys ks n i w (grind arith) e in
    record { code = r.code; short = omega (arith, r.short); code_is = r.code_is; worth_is = r.worth_is; listed = grind (arith, r.listed) }

-- the best codes do not change if the next one is worth no more than the last line
top_past : (f : ℕ → ℤ) (codes : List ℕ) (r : Ranking) (w : ℤ) (m : ℕ) → IsTop f codes r → value_to_pass r ≡ Some w → AreDistinct codes → ((n : ℕ) → is_in n codes ≡ true → n < m) → is_in m codes ≡ false → f m ≤ℤ w → IsTop f (codes ++ m ∷ []) r
top_past f codes r w m t e distinct less i low =
    let l : IsLineOf f (ranked f codes) r.lines (r.lines - 1) w = line_of f r.pairs (ranked f codes) r.lines (r.lines - 1) w t e in
    let behind : is_better (f m) m (f l.code) l.code ≡ false = not_before f m l.code (less l.code (sym (in_ranked f l.code codes) ∙ l.listed)) (omega (arith, ints, l.worth_is)) in
    let n : suc (r.lines - 1) ≡ r.lines = omega (arith, l.short) in
    let same : take r.lines (insert_code f m (ranked f codes)) ≡ take r.lines (ranked f codes) = rw n at (rank_past f m (ranked f codes) (r.lines - 1) l.code (ranked_list f codes distinct) l.code_is behind) in
    t ∙ ap (map (with_worth f)) (sym (ap (take r.lines) (ranked_last f codes m i) ∙ same))

-- if all lines are taken, a move that is worth no more than the last line is passed without an offer
pub gone_past : (p : Shogi) (f : ℕ → ℤ) (passed : Option Move) (r : Ranking) (m : Move) (w : ℤ) → IsGoneThrough p f passed r → legal_above p passed ≡ code_of m ∷ legal_above p (Some m) → value_to_pass r ≡ Some w → f (code_of m) ≤ℤ w → IsGoneThrough p f (Some m) r
gone_past p f passed r m w g e v low =
    let rising : IsRising (g.seen ++ code_of m ∷ legal_above p (Some m)) = subst IsRising (sym g.whole ∙ ap (λ (l : List ℕ). g.seen ++ l) e) (legal_rising p 0) in
    record {
      seen = g.seen ++ code_of m ∷ [];
      whole = append_assoc g.seen (code_of m ∷ []) (legal_above p (Some m)) ∙ sym (ap (λ (l : List ℕ). g.seen ++ l) e) ∙ g.whole;
      top = top_past f g.seen r w (code_of m) g.top v (front_distinct g.seen (code_of m ∷ legal_above p (Some m)) rising) (rising_front g.seen (code_of m) (legal_above p (Some m)) rising)
          (rising_apart g.seen (code_of m) (legal_above p (Some m)) rising) low;
    }

-- the value on the last line lies inside the full window
gone_within : (p : Shogi) (eval : Eval) (d : ℕ) (passed : Option Move) (r : Ranking) (w : ℤ) → IsValid p → d ≤ SEARCH_DEPTH_MAX → IsGoneThrough p (worth p eval d) passed r → value_to_pass r ≡ Some w → (negated INFINITY <ℤ w) × (w <ℤ INFINITY)
gone_within p eval d passed r w ok h g v =
    let l : IsLineOf (worth p eval d) (ranked (worth p eval d) g.seen) r.lines (r.lines - 1) w = line_of (worth p eval d) r.pairs (ranked (worth p eval d) g.seen) r.lines (r.lines - 1) w g.top v in
    let legal : is_in l.code (legal_codes p) ≡ true = subst (λ (xs : List ℕ). is_in l.code xs ≡ true) g.whole (is_in-append_left l.code g.seen (legal_above p passed) (sym (in_ranked (worth p eval d) l.code g.seen) ∙ l.listed)) in
    let k : WorthWithin d (worth p eval d l.code) = worth_bounds d p eval l.code ok legal in
    let at : worth p eval d l.code ≡ w = l.worth_is in
    (omega (arith, ints), omega (arith, ints))

-- the next child's beta is one that a search accepts
window_within : (o : Option ℤ) → ((w : ℤ) → o ≡ Some w → (negated INFINITY <ℤ w) × (w <ℤ INFINITY)) → (negated INFINITY <ℤ beta_above o) × (beta_above o ≤ℤ INFINITY)
window_within None h = grind (arith, ints)
window_within (Some w) h = grind (arith, ints, h w refl)

pub gone_window : (p : Shogi) (eval : Eval) (d : ℕ) (passed : Option Move) (r : Ranking) → IsValid p → d ≤ SEARCH_DEPTH_MAX → IsGoneThrough p (worth p eval d) passed r → (negated INFINITY <ℤ child_beta r) × (child_beta r ≤ℤ INFINITY)
gone_window p eval d passed r ok h g = window_within (value_to_pass r) (λ w e. gone_within p eval d passed r w ok h g e)

past_window : (o : Option ℤ) (v x : ℤ) → x <ℤ INFINITY → x ≤ℤ v → beta_above o ≤ℤ x → (w : ℤ) × (o ≡ Some w) × (negated v ≤ℤ w)
past_window None v x most lower at = absurd (omega (arith, ints))
past_window (Some w) v x most lower at = (w, refl, omega (arith, ints))

-- a move whose child is found to be worth its beta or more is passed without an offer
pub gone_unlisted : (p : Shogi) (eval : Eval) (d : ℕ) (passed : Option Move) (r : Ranking) (m : Move) (q : Shogi) (beta : ℤ) (found : Found) → worth p eval d (code_of m) ≡ negated (value (after_code p (code_of m)) eval d) → IsGoneThrough p (worth p eval d) passed r → legal_above p passed ≡ code_of m ∷ legal_above p (Some m) → q ≡ after_code p (code_of m)
    → IsFoundBelow q eval d beta found → beta ≡ child_beta r → beta ≤ℤ found.value → IsGoneThrough p (worth p eval d) (Some m) r
gone_unlisted p eval d passed r m q beta found is g e at b same h =
    let lower : found.value ≤ℤ value q eval d = b.lower in
    let v : value q eval d ≡ value (after_code p (code_of m)) eval d = ap (λ (x : Shogi). value x eval d) at in
    let last : _ = past_window (value_to_pass r) (value (after_code p (code_of m)) eval d) found.value b.most (omega (arith, ints)) (omega (arith, ints)) in
    gone_past p (worth p eval d) passed r m last.0 g e last.1 (omega (arith, ints, is, last.2))
