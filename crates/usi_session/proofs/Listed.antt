-- The moves that are listed at a depth, and the first of them.
use Rattle.std.proofs.Common.{◌≡◌, ◌≢◌, ◌<◌, ◌≤◌, ℕ, zero, suc, ◌+◌, ◌-◌, ◌==◌, ℤ, List, [], ◌∷◌, Bool, true, Option, Some, None, refl, sym, ap, ◌∙◌, arith, map, take, drop, length, find, inl, inr}
use Rattle.std.specs.Prelude.{slice_get}
use Rattle.std.specs.Option.{option_map}
use Rattle.std.specs.Ordering.{int_eq}
use Rattle.std.proofs.lemmas.Bool.{or_left, or_right, both_ways, eq-eqb, cond_both}
use Rattle.std.proofs.lemmas.Bool.Decides.{Decides-int_eq}
use Rattle.std.proofs.lemmas.List.{drop_more, length-map}
use Rattle.std.proofs.lemmas.List.Sums.{sum_by-cons}
use Rattle.std.proofs.lemmas.Option.{slice_get-map, slice_get_within, get_or_from_slice_get}
use Rattle.shogi_core.specs.declared.moves.Move.{Move}
use Rattle.shogi_core.specs.Codes.{code_of, move_of}
use Rattle.shogi_core.specs.Position.{Shogi}
use Rattle.shogi_moves.specs.After.{after, after_code}
use Rattle.shogi_moves.specs.Legal.{is_legal}
use Rattle.shogi_moves.specs.LegalMoves.{legal_codes, legal_above}
use Rattle.shogi_moves.specs.Rising.{is_in}
use Rattle.shogi_moves.proofs.LegalLaws.{listed_to_legal, legal_above_in}
use Rattle.shogi_eval.specs.declared.eval.Eval.{Eval}
use Rattle.minimax.specs.Minimax.{value, worth, best_code, pv, then_pv, pv_cost}
use Rattle.shogi_search.specs.Ranked.{ranked, ranked_codes, coded, with_worth, Ranking}
use Rattle.minimax.proofs.Best.{best_none}
use Rattle.minimax.proofs.Lines.{pv-above}
use Rattle.minimax.proofs.MinimaxLaws.{best-code, best_code-above}
use Rattle.shogi_search.proofs.RankedLaws.{best_ranked, in_ranked, first_in}
use Rattle.usi_session.specs.declared.go_request.GoRequest.{GoRequest}
use Rattle.usi_session.specs.Costs.{pvs_cost}
use Rattle.usi_session.specs.GoInfos.{listed_codes, pv_by}
use Rattle.usi_session.specs.GoTaskView.{listed_at}
use Rattle.usi_session.specs.Walked.{Walked, IsFirstMove, IsRanked, IsRankedTo, IsLine}

-- the rest of a list begins with the element at its place
pub drop_at : (xs : List ℕ) (n x : ℕ) → slice_get xs n ≡ Some x → drop n xs ≡ x ∷ drop (n + 1) xs
drop_at xs n x e = drop_more xs n x (slice_get_within xs n x e) ∙ ap (λ (y : ℕ). y ∷ drop (n + 1) xs) (get_or_from_slice_get xs n x x e)

-- the steps along the pvs of a listed move and those behind it
pub pvs_next : (p : Shogi) (eval : Eval) (d : ℕ) (xs : List ℕ) (n x : ℕ) → slice_get xs n ≡ Some x → pvs_cost p eval d (drop n xs) ≡ pv_cost (after_code p x) eval d + pvs_cost p eval d (drop (n + 1) xs)
pvs_next p eval d xs n x e = ap (pvs_cost p eval d) (drop_at xs n x e) ∙ sum_by-cons (λ code. pv_cost (after_code p code) eval d) x (drop (n + 1) xs)

in_front : (xs : List ℕ) (n i x : ℕ) → slice_get (take n xs) i ≡ Some x → is_in x xs ≡ true
in_front xs zero i x e = absurd (cc)
in_front [] (suc n) i x e = absurd (cc)
in_front (y ∷ xs) (suc n) zero x e = let q : y ≡ x = cc in or_left (x == y) (is_in x xs) (eq-eqb x y (sym q))
in_front (y ∷ xs) (suc n) (suc i) x e = or_right (x == y) (is_in x xs) (in_front xs n i x e)

-- a listed move is legal
pub listed_legal : (p : Shogi) (eval : Eval) (n d i : ℕ) (m : Move) → slice_get (listed_codes p eval n d) i ≡ Some (code_of m) → move_of (code_of m) ≡ Some m → is_legal p m ≡ true
listed_legal p eval n d i m e b = listed_to_legal p m b (sym (in_ranked (worth p eval (d - 1)) (code_of m) (legal_codes p)) ∙ in_front (ranked_codes p eval d) n i (code_of m) e)

take_first : (xs : List ℕ) (n x : ℕ) → 1 ≤ n → slice_get xs 0 ≡ Some x → slice_get (take n xs) 0 ≡ Some x
take_first xs zero x h e = absurd (omega arith)
take_first [] (suc n) x h e = absurd (cc)
take_first (y ∷ xs) (suc n) x h e = e

take_one : (xs : List ℕ) (x : ℕ) → slice_get xs 0 ≡ Some x → length (take 1 xs) ≡ 1
take_one [] x e = absurd (cc)
take_one (y ∷ xs) x e = refl

find_that : (t : ℕ → Bool) (b : ℕ) (xs : List ℕ) → find t xs ≡ Some b → t b ≡ true
find_that t b [] h = absurd (cc)
find_that t b (m ∷ xs) h =
    cond_both (t m) (Some m) (find t xs) (λ (o : Option ℕ). o ≡ Some b → t b ≡ true)
    (λ s e. (let q : m ≡ b = cc in sym (ap t q) ∙ s))
    (λ _ e. find_that t b xs e)
    h

-- the first move listed has the value and the pv of the position
pub record IsFirstLine (p : Shogi) (eval : Eval) (d : ℕ) : Type 0 where
  pub code : ℕ
  pub first_is : slice_get (ranked_codes p eval d) 0 ≡ Some code
  pub value_is : value p eval d ≡ worth p eval (d - 1) code
  pub pv_is : pv p eval d ≡ pv_by p eval d code

first_line_at : (p : Shogi) (eval : Eval) (d : ℕ) (o : Option ℕ) → 0 < d → legal_codes p ≢ [] → best_code p eval d ≡ o → IsFirstLine p eval d
first_line_at p eval d None h ne e = absurd (elim (best_none p eval d (best-code p eval d None e)) [ inl z ↦ omega arith | inr l ↦ ne l ])
first_line_at p eval d (Some c) h ne e = record {
  code = c;
  first_is = best_ranked p eval d h ∙ e;
  value_is = sym ((Decides-int_eq (worth p eval (d - 1) c) (value p eval d)).0 (find_that (λ m. int_eq (worth p eval (d - 1) m) (value p eval d)) c (legal_codes p) (sym (best_code-above p eval d h) ∙ e)));
  pv_is = pv-above p eval d h ∙ ap (then_pv (λ q. pv q eval (d - 1)) p) (best-code p eval d (Some c) e);
}

pub first_line : (p : Shogi) (eval : Eval) (d : ℕ) → 0 < d → legal_codes p ≢ [] → IsFirstLine p eval d
first_line p eval d h ne = first_line_at p eval d (best_code p eval d) h ne refl

-- the first line is listed
pub first_listed : (p : Shogi) (eval : Eval) (n d : ℕ) (l : IsFirstLine p eval d) → 1 ≤ n → slice_get (listed_codes p eval n d) 0 ≡ Some l.code
first_listed p eval n d l h = take_first (ranked_codes p eval d) n l.code h l.first_is

-- with one line, one move is listed
pub one_listed : (p : Shogi) (eval : Eval) (n d : ℕ) → n ≡ 1 → 0 < d → legal_codes p ≢ [] → length (listed_codes p eval n d) ≡ 1
one_listed p eval n d e h ne =
    ap (λ (k : ℕ). length (take k (ranked_codes p eval d))) e ∙ (let l : IsFirstLine p eval d = first_line p eval d h ne in take_one (ranked_codes p eval d) l.code l.first_is)

some_in : (xs : List ℕ) (c : ℕ) → is_in c xs ≡ true → xs ≢ []
some_in xs c i e = both_ways _ (sym i ∙ ap (is_in c) e) refl

-- if there is a first move, some move is legal
pub first_some : (p : Shogi) (m : Move) → IsFirstMove p m → legal_codes p ≢ []
first_some p m e n = let q : code_of m ∷ legal_above p (Some m) ≡ [] = sym e ∙ n in cc

-- if there is a root move, some move is legal
pub root_move_some : (go_request : GoRequest) (depths_done : ℕ) (m : Move) (r : Ranking) → IsRankedTo go_request depths_done m r → legal_codes go_request.position ≢ []
root_move_some go_request depths_done m r h =
    some_in (legal_codes go_request.position) (code_of m)
    (legal_above_in go_request.position h.passed (code_of m) (ap (is_in (code_of m)) h.next ∙ first_in (code_of m) (legal_above go_request.position (Some m))))

-- the ranked moves and worths are those of the listed moves
top_listed : (go_request : GoRequest) (depths_done : ℕ) (r : Ranking) → IsRanked go_request depths_done r → map coded r.pairs ≡ map (with_worth (worth go_request.position go_request.eval depths_done)) (listed_at go_request depths_done)
top_listed go_request depths_done r h =
    let n : depths_done + 1 - 1 ≡ depths_done = omega arith in
    h.top ∙ ap (λ (k : ℕ). map (with_worth (worth go_request.position go_request.eval depths_done)) (take k (ranked (worth go_request.position go_request.eval depths_done) (legal_codes go_request.position)))) h.most
    ∙ ap (λ (k : ℕ). map (with_worth (worth go_request.position go_request.eval depths_done)) (take go_request.multi_pv (ranked (worth go_request.position go_request.eval k) (legal_codes go_request.position)))) (sym n)

pub ranked_length : (go_request : GoRequest) (depths_done : ℕ) (r : Ranking) → IsRanked go_request depths_done r → length r.pairs ≡ length (listed_at go_request depths_done)
ranked_length go_request depths_done r h =
    sym (length-map r.pairs coded) ∙ ap length (top_listed go_request depths_done r h) ∙ length-map (listed_at go_request depths_done) (with_worth (worth go_request.position go_request.eval depths_done))

-- the ranked move and worth of a line
pub record IsPair (go_request : GoRequest) (depths_done lines_done : ℕ) (m : Move) (v : ℤ) : Type 0 where
  pub listed_as : slice_get (listed_at go_request depths_done) lines_done ≡ Some (code_of m)
  pub value_is : v ≡ worth go_request.position go_request.eval depths_done (code_of m)

pair_at : (f : ℕ → ℤ) (x : Move × ℤ) (o : Option ℕ) → Some (coded x) ≡ option_map (with_worth f) o → (o ≡ Some (code_of x.0)) × (x.1 ≡ f (code_of x.0))
pair_at f x None e = absurd (cc)
pair_at f x (Some c) e =
    let q : coded x ≡ with_worth f c = cc in
    let k : code_of x.0 ≡ c = ap (λ (y : ℕ × ℤ). y.0) q in
    let w : x.1 ≡ f c = ap (λ (y : ℕ × ℤ). y.1) q in
    (ap Some (sym k), w ∙ ap f (sym k))

pub ranked_pair : (go_request : GoRequest) (depths_done lines_done : ℕ) (r : Ranking) (x : Move × ℤ) → IsRanked go_request depths_done r → slice_get r.pairs lines_done ≡ Some x → IsPair go_request depths_done lines_done x.0 x.1
ranked_pair go_request depths_done lines_done r x h e =
    let at : Some (coded x) ≡ option_map (with_worth (worth go_request.position go_request.eval depths_done)) (slice_get (listed_at go_request depths_done) lines_done) =
    sym (ap (option_map coded) e) ∙ sym (slice_get-map coded r.pairs lines_done) ∙ ap (λ (l : List (ℕ × ℤ)). slice_get l lines_done) (top_listed go_request depths_done r h) ∙ slice_get-map (with_worth (worth go_request.position go_request.eval depths_done)) (listed_at go_request depths_done) lines_done in
    let both : (slice_get (listed_at go_request depths_done) lines_done ≡ Some (code_of x.0)) × (x.1 ≡ worth go_request.position go_request.eval depths_done (code_of x.0)) = pair_at (worth go_request.position go_request.eval depths_done) x (slice_get (listed_at go_request depths_done) lines_done) at in
    record { listed_as = both.0; value_is = both.1 }

-- the pv after a listed move
pub pv_by_move : (p next : Shogi) (eval : Eval) (depths_done : ℕ) (m : Move) → move_of (code_of m) ≡ Some m → next ≡ after p m → m ∷ pv next eval depths_done ≡ pv_by p eval (depths_done + 1) (code_of m)
pv_by_move p next eval depths_done m b a =
    let n : depths_done + 1 - 1 ≡ depths_done = omega arith in
    ap (λ (q : Shogi). m ∷ pv q eval depths_done) a
    ∙ ap (λ (k : ℕ). m ∷ pv (after p m) eval k) (sym n)
    ∙ ap (then_pv (λ q. pv q eval (depths_done + 1 - 1)) p) (sym b)

-- the walk of the first line has the position's value and pv
pub line_first : (go_request : GoRequest) (depths_done : ℕ) (w : Walked) → IsLine go_request depths_done 0 w → 1 ≤ go_request.multi_pv → legal_codes go_request.position ≢ []
    → (w.value ≡ value go_request.position go_request.eval (depths_done + 1)) × (w.pv ≡ pv go_request.position go_request.eval (depths_done + 1))
line_first go_request depths_done w l h ne =
    let f : IsFirstLine go_request.position go_request.eval (depths_done + 1) = first_line go_request.position go_request.eval (depths_done + 1) (omega arith) ne in
    let s : Some l.code ≡ Some f.code = sym l.listed_as ∙ first_listed go_request.position go_request.eval go_request.multi_pv (depths_done + 1) f h in
    let c : l.code ≡ f.code = cc in
    let n : depths_done + 1 - 1 ≡ depths_done = omega arith in (
      l.value_is ∙ ap (worth go_request.position go_request.eval depths_done) c ∙ sym (f.value_is ∙ ap (λ (k : ℕ). worth go_request.position go_request.eval k f.code) n),
      l.pv_is ∙ ap (pv_by go_request.position go_request.eval (depths_done + 1)) c ∙ sym f.pv_is,
    )

-- the current line is within the list
pub line_within : (go_request : GoRequest) (depths_done lines_done : ℕ) (w : Walked) → IsLine go_request depths_done lines_done w → lines_done < length (listed_at go_request depths_done)
line_within go_request depths_done lines_done w l = slice_get_within (listed_at go_request depths_done) lines_done l.code l.listed_as

take_below : (xs : List ℕ) (n : ℕ) → length (take n xs) ≤ n
take_below xs zero = omega arith
take_below [] (suc n) = omega arith
take_below (x ∷ xs) (suc n) = omega (arith, take_below xs n)

pub line_below : (go_request : GoRequest) (depths_done lines_done : ℕ) (w : Walked) → IsLine go_request depths_done lines_done w → lines_done < go_request.multi_pv
line_below go_request depths_done lines_done w l = omega (arith, line_within go_request depths_done lines_done w l, take_below (ranked_codes go_request.position go_request.eval (depths_done + 1)) go_request.multi_pv)

-- some move is listed
pub some_listed : (go_request : GoRequest) (depths_done : ℕ) → 1 ≤ go_request.multi_pv → legal_codes go_request.position ≢ [] → 0 < length (listed_at go_request depths_done)
some_listed go_request depths_done h ne =
    let f : IsFirstLine go_request.position go_request.eval (depths_done + 1) = first_line go_request.position go_request.eval (depths_done + 1) (omega arith) ne in
    slice_get_within (listed_at go_request depths_done) 0 f.code (first_listed go_request.position go_request.eval go_request.multi_pv (depths_done + 1) f h)
