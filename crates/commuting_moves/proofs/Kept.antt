-- Refuted moves that are kept by their codes.
use Rattle.std.proofs.Common.{◌≡◌, ◌≢◌, ◌<◌, ◌+◌, ℕ, ℤ, ◌≤ℤ◌, List, length, set, get_or, true, Some, sym, subst, refl, arith, Bool, false, nat_lt}
use Rattle.std.proofs.lemmas.Bool.Decides.{nat_tests}
use Rattle.std.proofs.lemmas.Int.{ints}
use Rattle.std.proofs.lemmas.List.{get_or-set_same, get_or-set_other}
use Rattle.shogi_core.specs.declared.moves.Move.{Move}
use Rattle.shogi_core.specs.Codes.{code_of, move_of}
use Rattle.shogi_core.specs.Position.{Shogi}
use Rattle.shogi_moves.specs.After.{after, after_code}
use Rattle.shogi_moves.specs.LegalMoves.{legal_codes}
use Rattle.shogi_moves.specs.Rising.{is_in}
use Rattle.shogi_moves.proofs.LegalLaws.{after_code_of, legal_to_listed, listed_to_legal}
use Rattle.shogi_eval.specs.declared.eval.Eval.{Eval}
use Rattle.minimax.specs.Minimax.{value}
use Rattle.commuting_moves.specs.Refuted.{IsRefuted, IsRefutedByCode}

-- a refuted move, by its code and that of the reply
pub by_code : (p : Shogi) (e : Eval) (d : ℕ) (x r : Move) (bound : ℤ) → move_of (code_of x) ≡ Some x → move_of (code_of r) ≡ Some r → IsRefuted p e d x r bound → IsRefutedByCode p e d (code_of x) (code_of r) bound
by_code p e d x r bound back_x back_r h =
    let at : after_code p (code_of x) ≡ after p x = after_code_of p x back_x in
    let then : after_code (after p x) (code_of r) ≡ after (after p x) r = after_code_of (after p x) r back_r in (
      legal_to_listed p x back_x h.legal,
      subst (λ (q : Shogi). is_in (code_of r) (legal_codes q) ≡ true) (sym at) (legal_to_listed (after p x) r back_r h.reply),
      subst (λ (q : Shogi). value (after_code q (code_of r)) e d ≤ℤ bound) (sym at) (subst (λ (q : Shogi). value q e d ≤ℤ bound) (sym then) h.low),
    )

-- and back
pub of_code : (p : Shogi) (e : Eval) (d : ℕ) (x r : Move) (bound : ℤ) → move_of (code_of x) ≡ Some x → move_of (code_of r) ≡ Some r → IsRefutedByCode p e d (code_of x) (code_of r) bound → IsRefuted p e d x r bound
of_code p e d x r bound back_x back_r h =
    let at : after_code p (code_of x) ≡ after p x = after_code_of p x back_x in
    let then : after_code (after p x) (code_of r) ≡ after (after p x) r = after_code_of (after p x) r back_r in
    record {
      legal = listed_to_legal p x back_x h.0;
      reply = listed_to_legal (after p x) r back_r (subst (λ (q : Shogi). is_in (code_of r) (legal_codes q) ≡ true) at h.1);
      low = subst (λ (q : Shogi). value q e d ≤ℤ bound) then (subst (λ (q : Shogi). value (after_code q (code_of r)) e d ≤ℤ bound) at h.2);
    }

-- under a greater bound too
pub loosened : (p : Shogi) (e : Eval) (d x r : ℕ) (bound most : ℤ) → bound ≤ℤ most → IsRefutedByCode p e d x r bound → IsRefutedByCode p e d x r most
loosened p e d x r bound most less h = let low : value (after_code (after_code p x) r) e d ≤ℤ bound = h.2 in (h.0, h.1, omega (ints, arith, low, less))

-- one more is kept behind the others
pub one_more : (p : Shogi) (e : Eval) (d : ℕ) (moves replies : List ℕ) (len x r : ℕ) (old bound most : ℤ) → len < length moves → len < length replies → old ≤ℤ most → bound ≤ℤ most
    → ((n : ℕ) → n < len → IsRefutedByCode p e d (get_or moves n 0) (get_or replies n 0) old) → IsRefutedByCode p e d x r bound
    → (n : ℕ) → n < len + 1 → IsRefutedByCode p e d (get_or (set moves len x) n 0) (get_or (set replies len r) n 0) most
one_more p e d moves replies len x r old bound most room room_too up less kept one n below = at (nat_lt n len) refl
  where
    at : (b : Bool) → nat_lt n len ≡ b → IsRefutedByCode p e d (get_or (set moves len x) n 0) (get_or (set replies len r) n 0) most
    at true before =
        let lower : n < len = grind (arith, nat_tests, before) in
        let other : n ≢ len = λ same. absurd (omega (arith, lower, same)) in
        rw (get_or-set_other moves len n x 0 other, get_or-set_other replies len n r 0 other) (loosened p e d _ _ old most up (kept n lower))
    at false behind =
        let same : n ≡ len = grind (arith, nat_tests, behind, below) in
        rw same (rw (get_or-set_same moves len x 0 room, get_or-set_same replies len r 0 room_too) (loosened p e d x r bound most less one))
