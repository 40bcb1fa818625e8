-- What a true and conclusive entry of a root says of the result.
use Rattle.std.proofs.Common.{◌≡◌, ◌≤◌, ℕ, ℤ, ◌≤ℤ◌, ◌<ℤ◌, Option, Some, None, sym, ◌∙◌, arith, subst}
use Rattle.std.proofs.lemmas.Int.{ints}
use Rattle.shogi_core.specs.declared.moves.Move.{Move}
use Rattle.shogi_core.specs.Position.{Shogi}
use Rattle.shogi_core.specs.Validity.{IsValid}
use Rattle.shogi_eval.specs.declared.eval.Eval.{Eval}
use Rattle.minimax.specs.declared.entry.Entry.{Entry}
use Rattle.minimax.specs.declared.entry.Entry.TheVariants.{Exact, AtLeast, AtMost}
use Rattle.minimax.specs.Minimax.{value, best, IsTrueEntry, negated}
use Rattle.shogi_search.specs.declared.found.Found.{Found}
use Rattle.minimax.specs.Entries.{IsConclusive}
use Rattle.shogi_search.specs.Progress.{IsFoundBelow}
use Rattle.minimax.proofs.MinimaxLaws.{value_within, Within}
use Rattle.minimax.specs.declared.bounds.TheConstants.{SEARCH_DEPTH_MAX, INFINITY}

pub same_window : (alpha alpha' beta beta' : ℤ) (e : Entry) → alpha ≡ alpha' → beta ≡ beta' → IsConclusive alpha beta e → IsConclusive alpha' beta' e
same_window alpha alpha' beta beta' e p q s = rw (← p, ← q) s

-- a conclusive entry under the lowest alpha is no upper bound
pub not_at_most : (p : Shogi) (eval : Eval) (d : ℕ) (e : Entry) (v beta : ℤ) → IsValid p → d ≤ SEARCH_DEPTH_MAX → IsTrueEntry p eval d e → IsConclusive (negated INFINITY) beta e → e ≡ AtMost v → ⊥
not_at_most p eval d e v beta ok h t s q =
    let k : value p eval d ≤ℤ v = subst (λ (x : Entry). IsTrueEntry p eval d x) q t in
    let l : v ≤ℤ negated INFINITY = subst (λ (x : Entry). IsConclusive (negated INFINITY) beta x) q s in
    let w : Within d (value p eval d) = value_within d p eval ok in
    omega (arith, ints)

-- a true exact entry gives the result
pub exact_found : (p : Shogi) (eval : Eval) (d : ℕ) (e : Entry) (v beta : ℤ) (m : Option Move) (f : Found) → IsValid p → d ≤ SEARCH_DEPTH_MAX → IsTrueEntry p eval d e → e ≡ Exact v m → f.value ≡ v → f.best ≡ m → IsFoundBelow p eval d beta f
exact_found p eval d e v beta m f ok h t q a b =
    let k : IsTrueEntry p eval d (Exact v m) = subst (λ (x : Entry). IsTrueEntry p eval d x) q t in
    let w : Within d (value p eval d) = value_within d p eval ok in
    let same : value p eval d ≡ v = k.0 in
    let first : best p eval d ≡ f.best = k.1 ∙ sym b in
    record { value_is = λ _. a ∙ sym same; best_is = λ _. sym first; lower = omega (arith, ints); best_is_true = λ n q. first ∙ q; least = omega (arith, ints); most = omega (arith, ints) }

-- a true lower bound that reaches beta gives the result
pub at_least_found : (p : Shogi) (eval : Eval) (d : ℕ) (e : Entry) (v beta : ℤ) (f : Found) → IsValid p → d ≤ SEARCH_DEPTH_MAX → negated INFINITY <ℤ beta → IsTrueEntry p eval d e → IsConclusive (negated INFINITY) beta e → e ≡ AtLeast v → f.value ≡ v → f.best ≡ None → IsFoundBelow p eval d beta f
at_least_found p eval d e v beta f ok h above t s q a b =
    let k : v ≤ℤ value p eval d = subst (λ (x : Entry). IsTrueEntry p eval d x) q t in
    let l : beta ≤ℤ v = subst (λ (x : Entry). IsConclusive (negated INFINITY) beta x) q s in
    let w : Within d (value p eval d) = value_within d p eval ok in
    record {
      value_is = λ lt. absurd (omega (arith, ints));
      best_is = λ lt. absurd (omega (arith, ints));
      lower = omega (arith, ints);
      best_is_true = λ n q. (let none : None ≡ Some n = sym b ∙ q in absurd (cc));
      least = omega (arith, ints);
      most = omega (arith, ints);
    }

-- a result under the full window has the value
pub whole_value : (p : Shogi) (eval : Eval) (d : ℕ) (beta : ℤ) (f : Found) → IsFoundBelow p eval d beta f → beta ≡ INFINITY → f.value ≡ value p eval d
whole_value p eval d beta f h e = h.value_is (let m : f.value <ℤ INFINITY = h.most in omega (arith, ints))

pub whole_best : (p : Shogi) (eval : Eval) (d : ℕ) (beta : ℤ) (f : Found) → IsFoundBelow p eval d beta f → beta ≡ INFINITY → f.best ≡ best p eval d
whole_best p eval d beta f h e = h.best_is (let m : f.value <ℤ INFINITY = h.most in omega (arith, ints))

pub same_truth : (p p' : Shogi) (eval eval' : Eval) (d d' : ℕ) (e : Entry) → p ≡ p' → eval ≡ eval' → d ≡ d' → IsTrueEntry p eval d e → IsTrueEntry p' eval' d' e
same_truth p p' eval eval' d d' e a k b t = rw (← a, ← k, ← b) t

-- a result is carried over to an equal question
pub same_found : (p p' : Shogi) (eval eval' : Eval) (d d' : ℕ) (beta beta' : ℤ) (f : Found) → p ≡ p' → eval ≡ eval' → d ≡ d' → beta ≡ beta' → IsFoundBelow p eval d beta f → IsFoundBelow p' eval' d' beta' f
same_found p p' eval eval' d d' beta beta' f a e h b k = rw (← a, ← e, ← h, ← b) k
