-- The legal move of least code that scores more than the node's material.
use Rattle.std.proofs.Common.{◌≡◌, ◌<◌, ◌+◌, ◌*◌, ◌/◌, ◌%◌, ℕ, ℤ, ◌≤ℤ◌, ◌<ℤ◌, Bool, true, false, bit_and, bit_or, sym, ap, ◌∙◌, subst, arith, inl, inr}
use Rattle.std.specs.Prelude.{◌==◌}
use Rattle.std.proofs.lemmas.Int.{ints}
use Rattle.std.proofs.lemmas.Bool.{both_ways, cases_lt, or_parts, true_from_ne_false}
use Rattle.shogi_core.specs.declared.moves.TheConstants.{SQUARE_CODES}
use Rattle.shogi_core.specs.declared.moves.Move.TheVariants.{Board, Drop}
use Rattle.shogi_core.specs.Bits.{has_bit}
use Rattle.shogi_core.specs.Cell.{is_piece_of}
use Rattle.shogi_core.specs.Codes.{code_of}
use Rattle.shogi_core.specs.Movement.{piece_at}
use Rattle.shogi_core.specs.Pieces.{opponent_of}
use Rattle.shogi_core.specs.Position.{Shogi}
use Rattle.shogi_core.specs.Validity.{IsValid}
use Rattle.shogi_core.proofs.BitLaws.{has_bit-or}
use Rattle.shogi_core.proofs.CodesBack.{code_of-board, move_of-drop}
use Rattle.shogi_moves.specs.Legal.{is_legal_code}
use Rattle.shogi_core.specs.Zones.{may_promote}
use Rattle.shogi_moves.proofs.LegalLaws.{in_legal, legal_in, no_piece}
use Rattle.shogi_eval.specs.declared.eval.Eval.{Eval}
use Rattle.shogi_eval.specs.Evaluated.{Evaluated}
use Rattle.shogi_eval.specs.Material.{material_of}
use Rattle.shogi_moves.specs.Destinations.{is_own}
use Rattle.last_ply.specs.LastPly.{is_legal_board_move, score_at, IsFirstFrom, IsReach, NoneScoresFrom, Scores, OnOwn, NoneScores, IsFirstToScore}
use Rattle.last_ply.proofs.Scores.{by_moves, legal_end, legal_parts, score_drop, score_quiet}
use Rattle.last_ply.proofs.Squares.{out_within}

-- a legal move that neither captures nor may promote at its end scores the node's material
pub quiet_end : (p : Shogi) (e : Eval) (from targets foe zone n : ℕ) (promote : Bool) → IsValid p → from < 81 → n < 81 → IsReach p from targets
    → ((n : ℕ) → n < 81 → has_bit foe n ≡ is_piece_of (opponent_of p.side) (piece_at p.cells n)) → ((n : ℕ) → n < 81 → has_bit zone n ≡ may_promote (piece_at p.cells from) from n)
    → has_bit (bit_and targets (bit_or foe zone)) n ≡ false → is_legal_board_move p from n promote ≡ true → score_at p e (code_of (Board from n promote)) ≡ material_of p e
quiet_end p e from targets foe zone n promote v hf h rb fb zb out l = go promote l
  where
    off : (promote : Bool) → is_legal_board_move p from n promote ≡ true → (has_bit foe n ≡ false) × (has_bit zone n ≡ false)
    off promote l = or_parts _ _ (sym (has_bit-or foe zone n) ∙ out_within targets (bit_or foe zone) n (legal_end p from targets n promote hf h rb l) out)

    go : (promote : Bool) → is_legal_board_move p from n promote ≡ true → score_at p e (code_of (Board from n promote)) ≡ material_of p e
    go true l = absurd (both_ways (has_bit zone n) (off true l).1 (zb n h ∙ (legal_parts p from n true hf h l).2))
    go false l = score_quiet p e from n v hf h l (sym (fb n h) ∙ (off false l).0)

-- the first move of the first piece with such a move is the first of all
pub first_of_all : (node : Evaluated) (v : ℤ) (from code : ℕ) → from < 81 → IsFirstFrom node v from code
    → ((n : ℕ) → n < from → is_own node.position n ≡ true → NoneScoresFrom node v n) → IsFirstToScore node v code
first_of_all node v from code hf f before = record {
  listed = in_legal node.position 0 code (omega arith) f.listed;
  met = f.scores;
  least = λ n i lt q. (
      let legal : is_legal_code node.position n ≡ true = legal_in node.position 0 n i in
      let high : code < from * SQUARE_CODES + SQUARE_CODES = f.high in
      let same : code_of (Board (n / 2 / 81) (n / 2 % 81) (n % 2 == 1)) ≡ n = code_of-board n in
      let there : is_legal_board_move node.position (n / 2 / 81) (n / 2 % 81) (n % 2 == 1) ≡ true = ap (is_legal_code node.position) same ∙ legal in
      let scores : Scores node v (code_of (Board (n / 2 / 81) (n / 2 % 81) (n % 2 == 1))) = subst (Scores node v) (sym same) q in
      let f81 : n / 2 / 81 < 81 = omega arith in
      elim (cases_lt (n / 2 / 81) from) [
        | inl earlier ↦ (
            let own : is_own node.position (n / 2 / 81) ≡ true = true_from_ne_false (is_own node.position (n / 2 / 81)) (λ out. both_ways (is_legal_code node.position n) (no_piece node.position (n / 2 / 81) n f81 out (omega arith) (omega arith)) legal) in
            before (n / 2 / 81) earlier own (n / 2 % 81) (n % 2 == 1) (omega arith) there scores)
        | inr later ↦ (
            let here : n / 2 / 81 ≡ from = omega arith in
            f.least (n / 2 % 81) (n % 2 == 1) (omega arith)
            (subst (λ (x : ℕ). is_legal_board_move node.position x (n / 2 % 81) (n % 2 == 1) ≡ true) here there)
            (subst (λ (x : ℕ). code_of (Board x (n / 2 % 81) (n % 2 == 1)) < code) here (subst (λ (x : ℕ). x < code) (sym same) lt))
            (subst (λ (x : ℕ). Scores node v (code_of (Board x (n / 2 % 81) (n % 2 == 1)))) here scores))
      ]);
}

-- if no piece's move has a score above the material, no move has, as drops gain nothing
pub none_of_all : (node : Evaluated) (v : ℤ) → IsValid node.position → material_of node.position node.eval <ℤ v
    → OnOwn node.position (NoneScoresFrom node v) → NoneScores node v
none_of_all node v ok more each = by_moves node.position (λ code. Scores node v code → ⊥)
    (λ from hf own n promote h l. each from hf own n promote h l)
    (λ kind n h l s. let most : score_at node.position node.eval (code_of (Drop kind n)) ≤ℤ material_of node.position node.eval = score_drop node.position node.eval kind n (code_of (Drop kind n)) ok h (move_of-drop kind n h) l in omega (arith, ints, most, s, more))
