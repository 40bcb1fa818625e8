-- The test of keys decides equality.
use Rattle.std.proofs.Common.{◌≡◌, ◌∙◌, ◌==◌, ap, ap₂, refl}
use Rattle.std.specs.Cmp.{IsEquivalence, IsPartialEquivalence, decided, partial_equiv_from_equiv}
use Rattle.std.specs.Bool.{Decides}
use Rattle.std.proofs.lemmas.Bool.Decides.{Decides-eqb}
use Rattle.shogi_core.specs.Position.{Shogi}
use Rattle.shogi_core.proofs.SameLaws.{both_decide, position_same}
use Rattle.shogi_eval.specs.declared.eval.Eval.{Eval}
use Rattle.shogi_eval.specs.declared.eval.Eval.TheVariants.{Plain, Hand, Exchange}
use Rattle.shared_table.specs.Keys.{Key, eval_number, is_same_key, key_of}

-- evaluations are equal exactly if their numbers are
eval_same : (a b : Eval) → Decides (eval_number a == eval_number b) (a ≡ b)
eval_same Plain Plain = ((λ _. refl), (λ _. refl))
eval_same Plain Hand = ((λ e. cc), (λ e. cc))
eval_same Hand Plain = ((λ e. cc), (λ e. cc))
eval_same Hand Hand = ((λ _. refl), (λ _. refl))
eval_same Plain Exchange = ((λ e. cc), (λ e. cc))
eval_same Hand Exchange = ((λ e. cc), (λ e. cc))
eval_same Exchange Plain = ((λ e. cc), (λ e. cc))
eval_same Exchange Hand = ((λ e. cc), (λ e. cc))
eval_same Exchange Exchange = ((λ _. refl), (λ _. refl))

-- the test of keys decides equality
pub key_same : (a b : Key) → Decides (is_same_key a b) (a ≡ b)
unfolding is_same_key
key_same a b =
    both_decide _ _ (a.depth ≡ b.depth) ((a.eval ≡ b.eval) × (a.position ≡ b.position)) (a ≡ b)
    (Decides-eqb a.depth b.depth)
    (both_decide _ _ (a.eval ≡ b.eval) (a.position ≡ b.position)
    ((a.eval ≡ b.eval) × (a.position ≡ b.position))
    (eval_same a.eval b.eval) (position_same a.position b.position) (λ e p. (e, p)) (λ r. r))
    (λ d r. ap (λ (e : Eval). key_of a.position e a.depth) r.0
    ∙ ap₂ (λ (p : Shogi) d. key_of p b.eval d) r.1 d)
    (λ e. (
      ap (λ (x : Key). x.depth) e,
      (ap (λ (x : Key). x.eval) e, ap (λ (x : Key). x.position) e),
    ))

-- the test of keys is an equivalence
pub key_equivalence : IsEquivalence is_same_key
key_equivalence = decided is_same_key key_same

pub key_partial_equivalence : IsPartialEquivalence is_same_key
key_partial_equivalence = partial_equiv_from_equiv key_equivalence
