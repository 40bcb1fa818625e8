-- Knowledge of a position when the search leaves it.
use Rattle.std.proofs.Common.{◌≡◌, ◌<◌, ◌-◌, ℕ, ℤ, ◌≤ℤ◌, List, [], ◌∷◌, Option, Some, None, refl, ap, ◌∙◌, find}
use Rattle.std.specs.Ordering.{int_eq}
use Rattle.shogi_core.specs.declared.moves.Move.{Move}
use Rattle.shogi_core.specs.Codes.{code_of, move_of}
use Rattle.shogi_core.specs.Position.{Shogi}
use Rattle.shogi_moves.specs.LegalMoves.{legal_codes}
use Rattle.shogi_moves.specs.Rising.{IsRising}
use Rattle.shogi_eval.specs.declared.eval.Eval.{Eval}
use Rattle.minimax.specs.Minimax.{value, best, best_code, worth, lost_value, greatest_or}
use Rattle.minimax.specs.Window.{IsCovered, code_at}
use Rattle.minimax.proofs.Cover.{ended_exact, ended_first, ended_low, at_end}
use Rattle.minimax.proofs.MinimaxLaws.{value-above, best_code-above, best-code}

-- the value and the best move are these
pub record IsFound (p : Shogi) (eval : Eval) (d : ℕ) (v : ℤ) (m : Option Move) : Type 0 where
  pub value_is : value p eval d ≡ v
  pub best_is : best p eval d ≡ m

left_exact : (p : Shogi) (eval : Eval) (d : ℕ) (alpha best_value : ℤ) (b : ℕ) → 0 < d → IsRising (legal_codes p) → IsCovered (worth p eval (d - 1)) (legal_codes p) [] alpha best_value (Some b) → (value p eval d ≡ best_value) × (best_code p eval d ≡ Some b)
left_exact p eval d alpha best_value b h r c =
    let v : value p eval d ≡ best_value = value-above p eval d h ∙ ended_exact (lost_value d) (worth p eval (d - 1)) (legal_codes p) alpha best_value b r c in
    (v, best_code-above p eval d h ∙ ap (λ (w : ℤ). find (λ m. int_eq (worth p eval (d - 1) m) w) (legal_codes p)) v ∙ ended_first (worth p eval (d - 1)) (legal_codes p) alpha best_value b r c)

-- the result of a node with a best move
pub found_best : (p : Shogi) (eval : Eval) (d : ℕ) (alpha best_value : ℤ) (todo : List ℕ) (m : Move) (best_so_far : Option Move) → 0 < d → IsRising (legal_codes p) → move_of (code_of m) ≡ Some m → todo ≡ [] → best_so_far ≡ Some m → IsCovered (worth p eval (d - 1)) (legal_codes p) todo alpha best_value (code_at best_so_far) → IsFound p eval d best_value (Some m)
found_best p eval d alpha best_value todo m best_so_far h r back e q c =
    let l : (value p eval d ≡ best_value) × (best_code p eval d ≡ Some (code_of m)) = left_exact p eval d alpha best_value (code_of m) h r (at_end _ _ _ _ _ _ _ e (ap code_at q) c) in
    record { value_is = l.0; best_is = best-code p eval d (Some (code_of m)) l.1 ∙ back }

-- the result of a node without a legal move
pub left_lost : (p : Shogi) (eval : Eval) (d : ℕ) → 0 < d → legal_codes p ≡ [] → IsFound p eval d (lost_value d) None
left_lost p eval d h e =
    record {
      value_is = value-above p eval d h ∙ ap (greatest_or (lost_value d) (worth p eval (d - 1))) e;
      best_is = best-code p eval d None (best_code-above p eval d h ∙ ap (find (λ m. int_eq (worth p eval (d - 1) m) (value p eval d))) e);
    }

low_of : (otherwise : ℤ) (f : ℕ → ℤ) (ms : List ℕ) (alpha best_value : ℤ) → (ms ≡ [] → ⊥) → IsCovered f ms [] alpha best_value None → greatest_or otherwise f ms ≤ℤ best_value
low_of otherwise f [] alpha best_value ne c = absurd (ne refl)
low_of otherwise f (m ∷ ms) alpha best_value ne c = ended_low otherwise f m ms alpha best_value c

-- the bound of a node without a best move
pub left_low : (p : Shogi) (eval : Eval) (d : ℕ) (alpha best_value : ℤ) → 0 < d → (legal_codes p ≡ [] → ⊥) → IsCovered (worth p eval (d - 1)) (legal_codes p) [] alpha best_value None → value p eval d ≤ℤ best_value
left_low p eval d alpha best_value h ne c = rw (value-above p eval d h) (low_of (lost_value d) (worth p eval (d - 1)) (legal_codes p) alpha best_value ne c)

-- the bound of a node with legal moves but no best move
pub found_low : (p : Shogi) (eval : Eval) (d : ℕ) (alpha best_value : ℤ) (todo : List ℕ) (best_so_far : Option Move) → 0 < d → todo ≡ [] → best_so_far ≡ None → (legal_codes p ≡ [] → ⊥) → IsCovered (worth p eval (d - 1)) (legal_codes p) todo alpha best_value (code_at best_so_far) → (value p eval d ≤ℤ best_value) × (best_value ≡ alpha)
found_low p eval d alpha best_value todo best_so_far h e q ne c =
    let n : IsCovered (worth p eval (d - 1)) (legal_codes p) [] alpha best_value None = at_end _ _ _ _ _ _ _ e (ap code_at q) c in
    (left_low p eval d alpha best_value h ne n, n.reached)

no_moves : (ms : List ℕ) → ((ms ≡ [] → ⊥) → ⊥) → ms ≡ []
no_moves [] nn = refl
no_moves (m ∷ ms) nn = absurd (nn (λ z. cc))

-- the result of a node that a test finds without a legal move
pub found_lost : (p : Shogi) (eval : Eval) (d : ℕ) → 0 < d → ((legal_codes p ≡ [] → ⊥) → ⊥) → IsFound p eval d (lost_value d) None
found_lost p eval d h nn = left_lost p eval d h (no_moves (legal_codes p) nn)
