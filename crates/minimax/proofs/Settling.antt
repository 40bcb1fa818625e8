-- The material after the move that ends a line, with or without an exchange.
use Rattle.std.proofs.Common.{◌≡◌, ℕ, zero, suc, ℤ, pos, ◌-ℤ◌, ◌≤ℤ◌, List, [], ◌∷◌, true, false, cond, not, Option, Some, None, refl, ap, arith, subst}
use Rattle.std.specs.Prelude.{nat_lt, ◌&&◌}
use Rattle.std.proofs.lemmas.Int.{ints, clamps}
use Rattle.std.proofs.lemmas.Bool.{or_left, or_right, eq-eqb, cond_both, both_ways}
use Rattle.shogi_core.specs.Codes.{move_of}
use Rattle.shogi_core.specs.Position.{Shogi}
use Rattle.shogi_core.specs.Validity.{IsValid}
use Rattle.shogi_moves.specs.After.{after_code}
use Rattle.shogi_moves.specs.LegalMoves.{legal_codes}
use Rattle.shogi_moves.specs.Rising.{is_in}
use Rattle.shogi_eval.specs.declared.points.TheConstants.{POINTS_MAX}
use Rattle.shogi_eval.specs.declared.eval.Eval.{Eval}
use Rattle.shogi_eval.specs.declared.eval.Eval.TheVariants.{Plain, Hand, Exchange}
use Rattle.shogi_eval.specs.Material.{material_of}
use Rattle.shogi_eval.specs.Exchange.{price, takes_on, is_quiet, cheaper, cheapest, least_valuable_attacker, stand_or_take, settled, most_settled, captures_max, best_settled, leaf_after, resolves_captures}
use Rattle.shogi_eval.proofs.Bounds.{material_bounds}
use Rattle.minimax.proofs.Valid.{after_valid}

cheaper_in : (p : Shogi) (c : ℕ) (all : List ℕ) (best : Option ℕ) (b : ℕ) → is_in c all ≡ true → ((x : ℕ) → best ≡ Some x → is_in x all ≡ true) → cheaper p best c ≡ Some b → is_in b all ≡ true
cheaper_in p c all None b i h e = let q : c ≡ b = cc in subst (λ (x : ℕ). is_in x all ≡ true) q i
cheaper_in p c all (Some x) b i h e =
    cond_both (nat_lt (price p (move_of c)) (price p (move_of x))) (Some c) (Some x) (λ (o : Option ℕ). o ≡ Some b → is_in b all ≡ true)
    (λ _ r. let q : c ≡ b = cc in subst (λ (y : ℕ). is_in y all ≡ true) q i)
    (λ _ r. h b r)
    e

cheapest_in : (p : Shogi) (s : ℕ) (all : List ℕ) (best : Option ℕ) (codes : List ℕ) (b : ℕ) → ((n : ℕ) → is_in n codes ≡ true → is_in n all ≡ true) → ((x : ℕ) → best ≡ Some x → is_in x all ≡ true) → cheapest p s best codes ≡ Some b → is_in b all ≡ true
cheapest_in p s all best [] b sub h e = h b e
cheapest_in p s all best (c ∷ cs) b sub h e =
    let i : is_in c all ≡ true = sub c (or_left _ _ (eq-eqb c c refl)) in
    cheapest_in p s all (cond (takes_on p s (move_of c)) (cheaper p best c) best) cs b (λ n j. sub n (or_right _ _ j))
    (λ x. cond_both (takes_on p s (move_of c)) (cheaper p best c) best (λ (o : Option ℕ). o ≡ Some x → is_in x all ≡ true) (λ _ r. cheaper_in p c all best x i h r) (λ _ r. h x r))
    e

-- the least valuable attacker's capture is legal
pub taker_in : (p : Shogi) (s code : ℕ) → least_valuable_attacker p s ≡ Some code → is_in code (legal_codes p) ≡ true
taker_in p s code e = cheapest_in p s (legal_codes p) None (legal_codes p) code (λ n i. i) (λ x q. absurd (cc)) e

settled-none : (p : Shogi) (e : Eval) (s : ℕ) → settled p e s 0 ≡ material_of p e
unfolding settled
settled-none p e s = refl

settled-next : (p : Shogi) (e : Eval) (s n : ℕ) → settled p e s (suc n) ≡ stand_or_take (material_of p e) (λ code. pos 0 -ℤ settled (after_code p code) e s n) (least_valuable_attacker p s)
unfolding settled
settled-next p e s n = refl

-- the value is within the bounds of material
pub record IsBounded (v : ℤ) : Type 0 where
  pub least : (pos 0 -ℤ pos POINTS_MAX) ≤ℤ v
  pub most : v ≤ℤ pos POINTS_MAX

bounded_stand : (has : ℤ) (f : ℕ → ℤ) (o : Option ℕ) → IsBounded has → ((code : ℕ) → o ≡ Some code → IsBounded (f code)) → IsBounded (stand_or_take has f o)
bounded_stand has f None b h = b
bounded_stand has f (Some code) b h = let c : IsBounded (f code) = h code refl in record { least = omega (arith, ints, clamps, b.least, c.least); most = omega (arith, ints, clamps, b.most, c.most) }

bounded_material : (p : Shogi) (e : Eval) → IsValid p → IsBounded (material_of p e)
bounded_material p e v = record { least = (material_bounds p e v).0; most = (material_bounds p e v).1 }

bounded_negated : (v : ℤ) → IsBounded v → IsBounded (pos 0 -ℤ v)
bounded_negated v b = record { least = omega (arith, ints, b.least, b.most); most = omega (arith, ints, b.least, b.most) }

pub settled_bounded : (n : ℕ) (p : Shogi) (e : Eval) (s : ℕ) → IsValid p → IsBounded (settled p e s n)
settled_bounded zero p e s v = rw settled-none (bounded_material p e v)
settled_bounded (suc n) p e s v =
    rw settled-next
    (bounded_stand (material_of p e) (λ code. pos 0 -ℤ settled (after_code p code) e s n) (least_valuable_attacker p s) (bounded_material p e v)
    (λ code is. bounded_negated _ (settled_bounded n (after_code p code) e s (after_valid p code v (taker_in p s code is)))))

pub best_bounded : (p : Shogi) (e : Eval) (n s : ℕ) → IsValid p → IsBounded (most_settled p e n s)
unfolding most_settled
best_bounded p e n zero v = settled_bounded n p e 0 v
best_bounded p e n (suc s) v =
    let here : IsBounded (settled p e (suc s) n) = settled_bounded n p e (suc s) v in
    let rest : IsBounded (most_settled p e n s) = best_bounded p e n s v in
    record { least = omega (arith, ints, clamps, here.least, rest.least); most = omega (arith, ints, clamps, here.most, rest.most) }

-- a side that may stand has at least its material
stand_least : (has : ℤ) (f : ℕ → ℤ) (o : Option ℕ) → has ≤ℤ stand_or_take has f o
stand_least has f None = omega (arith, ints)
stand_least has f (Some code) = omega (arith, ints, clamps)

pub settled_least : (p : Shogi) (e : Eval) (s n : ℕ) → material_of p e ≤ℤ settled p e s n
settled_least p e s zero = rw settled-none (omega (arith, ints))
settled_least p e s (suc n) = rw settled-next (stand_least (material_of p e) (λ code. pos 0 -ℤ settled (after_code p code) e s n) (least_valuable_attacker p s))

pub best_least : (p : Shogi) (e : Eval) (n s : ℕ) → material_of p e ≤ℤ most_settled p e n s
unfolding most_settled
best_least p e n zero = settled_least p e 0 n
best_least p e n (suc s) = let here : material_of p e ≤ℤ settled p e (suc s) n = settled_least p e (suc s) n in omega (arith, ints, clamps, here)

-- a move that ends a line leaves points within the bounds of material
pub left_bounded : (p : Shogi) (e : Eval) (code : ℕ) → IsValid (after_code p code) → IsBounded (leaf_after p e code)
left_bounded p Plain code v = bounded_material (after_code p code) Plain v
left_bounded p Hand code v = bounded_material (after_code p code) Hand v
left_bounded p Exchange code v =
    cond_both (is_quiet p (move_of code)) (material_of (after_code p code) Exchange) (best_settled (after_code p code) Exchange) IsBounded
    (λ _. bounded_material (after_code p code) Exchange v) (λ _. best_bounded (after_code p code) Exchange captures_max 80 v)

-- after a move the opponent has at least its material
pub left_least : (p : Shogi) (e : Eval) (code : ℕ) → material_of (after_code p code) e ≤ℤ leaf_after p e code
left_least p Plain code = omega (arith, ints)
left_least p Hand code = omega (arith, ints)
left_least p Exchange code =
    cond_both (is_quiet p (move_of code)) (material_of (after_code p code) Exchange) (best_settled (after_code p code) Exchange) (λ (v : ℤ). material_of (after_code p code) Exchange ≤ℤ v)
    (λ _. omega (arith, ints)) (λ _. best_least (after_code p code) Exchange captures_max 80)

-- after a quiet move the opponent has just its material
pub left_quiet : (p : Shogi) (e : Eval) (code : ℕ) → is_quiet p (move_of code) ≡ true → leaf_after p e code ≡ material_of (after_code p code) e
left_quiet p Plain code q = refl
left_quiet p Hand code q = refl
left_quiet p Exchange code q =
    cond_both (is_quiet p (move_of code)) (material_of (after_code p code) Exchange) (best_settled (after_code p code) Exchange) (λ (v : ℤ). v ≡ material_of (after_code p code) Exchange)
    (λ _. refl) (λ loud. absurd (cc))

-- without exchanges, the opponent always has just its material
pub left_plain : (p : Shogi) (e : Eval) (code : ℕ) → resolves_captures e ≡ false → leaf_after p e code ≡ material_of (after_code p code) e
left_plain p Plain code q = refl
left_plain p Hand code q = refl
left_plain p Exchange code q = absurd (cc)

pub left_loud : (p : Shogi) (e : Eval) (code : ℕ) → (resolves_captures e && not (is_quiet p (move_of code))) ≡ true → leaf_after p e code ≡ best_settled (after_code p code) e
left_loud p Plain code q = absurd (cc)
left_loud p Hand code q = absurd (cc)
left_loud p Exchange code q =
    cond_both (is_quiet p (move_of code)) (material_of (after_code p code) Exchange) (best_settled (after_code p code) Exchange) (λ (v : ℤ). v ≡ best_settled (after_code p code) Exchange)
    (λ still. absurd (both_ways (not (is_quiet p (move_of code))) (ap not still) q)) (λ _. refl)
