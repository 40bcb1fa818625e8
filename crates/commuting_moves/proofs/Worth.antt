-- A move that is refuted is worth no more after two others that let it and its reply be.
use Rattle.std.proofs.Common.{◌≡◌, ℕ, ℤ, pos, ◌-◌, ◌<◌, ◌-ℤ◌, ◌≤ℤ◌, zero, suc, true, Some, sym, ap, subst, ◌∙◌, arith}
use Rattle.std.proofs.lemmas.Int.{ints}
use Rattle.shogi_core.specs.declared.moves.Move.{Move}
use Rattle.shogi_core.specs.Codes.{code_of, move_of}
use Rattle.shogi_core.specs.Position.{Shogi}
use Rattle.shogi_core.specs.Validity.{IsValid}
use Rattle.shogi_moves.specs.After.{after, after_code}
use Rattle.shogi_moves.specs.Legal.{is_legal}
use Rattle.shogi_moves.specs.LegalMoves.{legal_codes}
use Rattle.shogi_moves.specs.Rising.{is_in}
use Rattle.shogi_moves.proofs.LegalLaws.{after_code_of, legal_to_listed, listed_to_legal}
use Rattle.shogi_eval.specs.declared.eval.Eval.{Eval}
use Rattle.minimax.specs.Minimax.{lost_value, negated, value, worth}
use Rattle.minimax.proofs.Greatest.{greatest_or-above}
use Rattle.minimax.proofs.MinimaxLaws.{value-suc}
use Rattle.analogous_moves.specs.Analogies.{IsOnSquares}
use Rattle.analogous_moves.proofs.Squares.{move_back}
use Rattle.commuting_moves.specs.Apart.{AreApart}
use Rattle.commuting_moves.specs.Refuted.{IsLegalPair, IsLostAfter, IsRefuted}
use Rattle.commuting_moves.proofs.Orders.{in_either_order}
use Rattle.commuting_moves.proofs.StillLegal.{held_of, legal_pseudo, still_legal}

-- a position is worth no less than each of its legal moves
pub no_less : (q : Shogi) (e : Eval) (d : ℕ) (m : Move) → IsOnSquares m → is_legal q m ≡ true → worth q e d (code_of m) ≤ℤ value q e (suc d)
no_less q e d m on l = subst (λ (w : ℤ). worth q e d (code_of m) ≤ℤ w) (sym (value-suc q e d)) (greatest_or-above (lost_value (suc d)) (worth q e d) (legal_codes q) (code_of m) (legal_to_listed q m (move_back m on) l))

-- what a move leaves is worth to the other side what the move is not
worth_of_move : (q : Shogi) (e : Eval) (d : ℕ) (m : Move) → move_of (code_of m) ≡ Some m → worth q e (suc d) (code_of m) ≡ negated (value (after q m) e (suc d))
worth_of_move q e d m back = ap (λ (n : Shogi). negated (value n e (suc d))) (after_code_of q m back)

-- the three moves, by their codes
pub codes_in_either_order : (p : Shogi) (m r x : Move) → IsValid p → IsOnSquares m → IsOnSquares r → IsOnSquares x → AreApart m r x → is_legal p m ≡ true → is_legal p x ≡ true
    → after_code (after_code (after_code p (code_of x)) (code_of r)) (code_of m) ≡ after_code (after_code (after_code p (code_of m)) (code_of r)) (code_of x)
codes_in_either_order p m r x v on_m on_r on_x apart lm lx =
    three x r m on_x on_r on_m ∙ in_either_order p m r x v.hands_fit (held_of p m (legal_pseudo p m lm)) (held_of p x (legal_pseudo p x lx)) apart ∙ sym (three m r x on_m on_r on_x)
  where
    three : (a b c : Move) → IsOnSquares a → IsOnSquares b → IsOnSquares c → after_code (after_code (after_code p (code_of a)) (code_of b)) (code_of c) ≡ after (after (after p a) b) c
    three a b c on_a on_b on_c =
        ap (λ (q : Shogi). after_code (after_code q (code_of b)) (code_of c)) (after_code_of p a (move_back a on_a))
        ∙ ap (λ (q : Shogi). after_code q (code_of c)) (after_code_of (after p a) b (move_back b on_b))
        ∙ after_code_of (after (after p a) b) c (move_back c on_c)

-- after the move and the reply the other move is worth what the move is after that and the reply
worth_same : (p : Shogi) (e : Eval) (d : ℕ) (m r x : Move) → IsOnSquares m → IsOnSquares x → after (after (after p x) r) m ≡ after (after (after p m) r) x → worth (after (after p m) r) e (suc d) (code_of x) ≡ worth (after (after p x) r) e (suc d) (code_of m)
worth_same p e d m r x on_m on_x same =
    worth_of_move (after (after p m) r) e d x (move_back x on_x)
    ∙ ap (λ (n : Shogi). negated (value n e (suc d))) (sym same)
    ∙ sym (worth_of_move (after (after p x) r) e d m (move_back m on_m))

-- the position is worth no more than the bound that the reply leaves
lost_two : (m r x : Move) (bound alpha : ℤ) → IsOnSquares m → IsOnSquares r → IsOnSquares x → AreApart m r x → bound ≤ℤ alpha → (p : Shogi) (e : Eval) (d : ℕ) → IsValid p → IsLegalPair p m r x → IsRefuted p e (suc (suc d)) x r bound → worth (after (after p m) r) e (suc d) (code_of x) ≤ℤ alpha
lost_two m r x bound alpha on_m on_r on_x apart enough p e d v legal refuted =
    let l : is_legal (after (after p x) r) m ≡ true = still_legal p m r x v on_m on_r on_x apart legal.first legal.reply legal.last refuted.legal refuted.reply in
    let same : worth (after (after p m) r) e (suc d) (code_of x) ≡ worth (after (after p x) r) e (suc d) (code_of m) = worth_same p e d m r x on_m on_x (in_either_order p m r x v.hands_fit (held_of p m (legal_pseudo p m legal.first)) (held_of p x (legal_pseudo p x refuted.legal)) apart) in
    let least : worth (after (after p x) r) e (suc d) (code_of m) ≤ℤ value (after (after p x) r) e (suc (suc d)) = no_less (after (after p x) r) e (suc d) m on_m l in
    let low : value (after (after p x) r) e (suc (suc d)) ≤ℤ bound = refuted.low in
    omega (arith, ints)

pub lost_after : (m r x : Move) (bound alpha : ℤ) → IsOnSquares m → IsOnSquares r → IsOnSquares x → AreApart m r x → bound ≤ℤ alpha → IsLostAfter m r x bound alpha
lost_after m r x bound alpha on_m on_r on_x apart enough p e zero deep v legal refuted = absurd (omega arith)
lost_after m r x bound alpha on_m on_r on_x apart enough p e (suc zero) deep v legal refuted = absurd (omega arith)
lost_after m r x bound alpha on_m on_r on_x apart enough p e (suc (suc d)) deep v legal refuted =
    let one : suc d ≡ suc (suc d) - 1 = omega arith in
    subst (λ (n : ℕ). worth (after (after p m) r) e n (code_of x) ≤ℤ alpha) one (lost_two m r x bound alpha on_m on_r on_x apart enough p e d v legal refuted)

-- ---- the origin of such a move

-- a reply that is worth so much to the other side, at the child of a node of two plies more, refutes the move there
pub refuted_by : (p : Shogi) (e : Eval) (depth : ℕ) (x r : Move) (v : ℤ) → move_of (code_of r) ≡ Some r → 0 < depth → is_legal p x ≡ true → is_in (code_of r) (legal_codes (after p x)) ≡ true → v ≤ℤ worth (after p x) e depth (code_of r) → IsRefuted p e depth x r (negated v)
refuted_by p e zero x r v back deep lx listed high = absurd (omega arith)
refuted_by p e (suc d) x r v back deep lx listed high = record {
  legal = lx;
  reply = listed_to_legal (after p x) r back listed;
  low = let same : worth (after p x) e (suc d) (code_of r) ≡ (pos 0 -ℤ value (after (after p x) r) e (suc d)) = worth_of_move (after p x) e d r back in omega (arith, ints);
}
