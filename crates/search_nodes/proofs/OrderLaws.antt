-- At the start a node has all its moves to visit, each once.
use Rattle.std.proofs.Common.{◌≡◌, ◌≤◌, ℕ, ℤ, List, ◌++◌, Bool, true, false, not, None, filter, refl, arith, inl, inr}
use Rattle.std.proofs.lemmas.List.Sums.{sum_by-append}
use Rattle.std.proofs.lemmas.Bool.{cases_Bool, and_from, not_from_true, not_from_false}
use Rattle.shogi_core.specs.Position.{Shogi}
use Rattle.shogi_moves.specs.After.{after_code}
use Rattle.shogi_moves.specs.Captures.{is_capture, matches_kind}
use Rattle.shogi_moves.specs.LegalMoves.{legal_codes}
use Rattle.shogi_moves.specs.Rising.{is_in}
use Rattle.search_nodes.specs.declared.priority_moves.PriorityMoves.{PriorityMoves}
use Rattle.search_nodes.specs.declared.move_picker.MovePicker.{MovePicker}
use Rattle.search_nodes.specs.declared.move_picker.MovePicker.TheVariants.{First}
use Rattle.minimax.specs.Minimax.{tree_size, sum_of_tree_sizes}
use Rattle.minimax.specs.Window.{IsCovered}
use Rattle.search_nodes.specs.Order.{codes_of, matches_other, todo}
use Rattle.search_nodes.proofs.MatchingOthers.{AreApart, priority_move_parts, is_in-append_left, is_in-append_right, is_in-append_cases, is_in-filter, is_in-filter_from, is_in-filter_kept}

-- no move is both a capture and not
kinds_apart : (p : Shogi) → AreApart (matches_kind p true) (matches_kind p false)
kinds_apart p n a b =
    let x : is_capture p n ≡ true = a in
    let y : not (is_capture p n) ≡ true = b in
    let z : not (is_capture p n) ≡ false = not_from_true _ x in
    cc

-- a legal move that is no priority move is a capture or one of the other moves
in_parts : (p : Shogi) (priority_moves : List ℕ) (n : ℕ) → is_in n (legal_codes p) ≡ true → is_in n priority_moves ≡ false → is_in n (filter (matches_other p priority_moves true) (legal_codes p) ++ filter (matches_other p priority_moves false) (legal_codes p)) ≡ true
in_parts p priority_moves n i o =
    let ne : not (is_in n priority_moves) ≡ true = not_from_false _ o in
    elim (cases_Bool (is_capture p n)) [
      | inl c ↦ is_in-append_left n _ _ (is_in-filter (matches_other p priority_moves true) n (legal_codes p) (and_from _ _ c ne) i)
      | inr c ↦ is_in-append_right n _ _ (is_in-filter (matches_other p priority_moves false) n (legal_codes p) (and_from _ _ (not_from_false _ c) ne) i)
    ]

of_parts : (p : Shogi) (priority_moves : List ℕ) (n : ℕ) → is_in n (filter (matches_other p priority_moves true) (legal_codes p) ++ filter (matches_other p priority_moves false) (legal_codes p)) ≡ true → is_in n (legal_codes p) ≡ true
of_parts p priority_moves n h =
    is_in-append_cases n (filter (matches_other p priority_moves true) (legal_codes p)) (filter (matches_other p priority_moves false) (legal_codes p)) (is_in n (legal_codes p) ≡ true)
    (λ i. is_in-filter_from (matches_other p priority_moves true) n (legal_codes p) i)
    (λ i. is_in-filter_from (matches_other p priority_moves false) n (legal_codes p) i)
    h

pub record IsWhole (p : Shogi) (d : ℕ) (picker : MovePicker) : Type 0 where
  pub among : (n : ℕ) → is_in n (todo p picker) ≡ true → is_in n (legal_codes p) ≡ true
  pub each : (n : ℕ) → is_in n (legal_codes p) ≡ true → is_in n (todo p picker) ≡ true
  pub counted : sum_of_tree_sizes p d (todo p picker) ≤ sum_of_tree_sizes p d (legal_codes p)

pub whole : (p : Shogi) (d : ℕ) (f : PriorityMoves) → IsWhole p d (First f 0)
whole p d f =
    let priority_moves : List ℕ = codes_of f in
    let legal : ℕ → Bool = λ (n : ℕ). is_in n (legal_codes p) in
    let A : List ℕ = filter (matches_other p priority_moves true) (legal_codes p) in
    let B : List ℕ = filter (matches_other p priority_moves false) (legal_codes p) in
    record {
      among = λ n h. is_in-append_cases n (filter legal priority_moves) (A ++ B) (is_in n (legal_codes p) ≡ true) (λ i. is_in-filter_kept legal n priority_moves i) (λ i. of_parts p priority_moves n i) h;
      each = λ n h. elim (cases_Bool (is_in n priority_moves)) [
        | inl first ↦ is_in-append_left n _ _ (is_in-filter legal n priority_moves h first)
        | inr other ↦ is_in-append_right n (filter legal priority_moves) (A ++ B) (in_parts p priority_moves n h other)
      ];
      counted =
          let g : ℕ → ℕ = λ (m : ℕ). tree_size (after_code p m) d in
          omega (arith, priority_move_parts g (matches_kind p true) (matches_kind p false) (kinds_apart p) priority_moves f.distinct (legal_codes p), sum_by-append g (filter legal priority_moves) (A ++ B), sum_by-append g A B);
    }

-- at the start of the visits no move is searched
pub whole_covered : (p : Shogi) (d : ℕ) (picker : MovePicker) (f : ℕ → ℤ) (alpha : ℤ) → IsWhole p d picker → IsCovered f (legal_codes p) (todo p picker) alpha alpha None
whole_covered p d picker f alpha w = record {
  among = w.among;
  below = λ n i o. (let t : is_in n (todo p picker) ≡ true = w.each n i in absurd (cc));
  reached = refl;
}
