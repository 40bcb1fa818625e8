-- A move is worth no more than the position after it and a reply.
use Rattle.std.proofs.Common.{◌≡◌, ◌≢◌, ℕ, ℤ, pos, ◌+◌, ◌-◌, ◌/◌, ◌%◌, ◌<◌, ◌-ℤ◌, ◌+ℤ◌, ◌≤ℤ◌, true, false, suc, refl, List, [], ◌∷◌, Some, sym, ap, subst, ◌∙◌, inl, inr, arith}
use Rattle.std.specs.Prelude.{◌==◌, ◌⊎◌, Bool, is_none}
use Rattle.std.proofs.lemmas.Bool.{cases_lt}
use Rattle.std.proofs.lemmas.Int.{by_lt_z, ints}
use Rattle.shogi_core.specs.declared.moves.Move.{Move}
use Rattle.shogi_core.specs.declared.moves.Move.TheVariants.{Board, Drop}
use Rattle.shogi_core.specs.declared.moves.TheConstants.{FIRST_DROP, MOVE_CODE_COUNT}
use Rattle.shogi_core.specs.Codes.{code_of, kind_at, move_of}
use Rattle.shogi_core.specs.Position.{Shogi}
use Rattle.shogi_core.specs.Validity.{IsValid}
use Rattle.shogi_moves.specs.After.{after, after_code}
use Rattle.shogi_moves.specs.Legal.{is_legal}
use Rattle.shogi_moves.specs.LegalMoves.{legal_codes}
use Rattle.shogi_moves.specs.Rising.{is_in}
use Rattle.shogi_core.specs.Movement.{piece_at}
use Rattle.shogi_moves.proofs.LegalLaws.{after_code_at, after_code_of, is_legal_code_of, legal_code_below, legal_in, legal_to_listed}
use Rattle.shogi_replies.proofs.ReplyLaws.{reply_by}
use Rattle.shogi_eval.specs.declared.eval.Eval.{Eval}
use Rattle.shogi_eval.specs.declared.points.TheConstants.{POINTS_MAX}
use Rattle.shogi_eval.specs.Exchange.{is_quiet, leaf_after, resolves_captures}
use Rattle.shogi_eval.specs.Material.{material_of, promotion_gain, taken_gain}
use Rattle.shogi_eval.proofs.Bounds.{material_bounds}
use Rattle.shogi_eval.proofs.Gains.{gain_of}
use Rattle.minimax.specs.Minimax.{ended, greatest_or, if_no_move_else, lost_value, value, worth}
use Rattle.minimax.proofs.Greatest.{greatest_least}
use Rattle.minimax.proofs.MinimaxLaws.{cut, ended_some, value-suc}
use Rattle.minimax.proofs.Settling.{left_least, left_plain, left_quiet}
use Rattle.minimax.proofs.Valid.{board_of, drop_of}
use Rattle.analogous_moves.specs.Analogies.{IsOnSquares, ReplySuffices, MoveIsWorthAtMost}
use Rattle.analogous_moves.proofs.Materials.{material_after, move_valid}
use Rattle.analogous_moves.proofs.Squares.{move_back}

-- a move is worth no more than the position after a legal reply to it
worth_by_reply : (p : Shogi) (e : Eval) (d : ℕ) (m r : Move) (t : ℤ) → IsOnSquares m → IsOnSquares r → is_legal (after p m) r ≡ true → value (after (after p m) r) e (suc d) ≤ℤ t → worth p e (suc (suc d)) (code_of m) ≤ℤ t
worth_by_reply p e d m r t on there l low =
    let reply : worth (after p m) e (suc d) (code_of r) ≡ pos 0 -ℤ value (after (after p m) r) e (suc d) = ap (λ (q : Shogi). pos 0 -ℤ value q e (suc d)) (after_code_of (after p m) r (move_back r there)) in
    let enough : (pos 0 -ℤ t) ≤ℤ worth (after p m) e (suc d) (code_of r) = omega (arith, ints) in
    let one : suc d ≡ suc (suc d) - 1 = omega arith in
    let high : (pos 0 -ℤ t) ≤ℤ value (after p m) e (suc (suc d)) = cut (after p m) e (suc (suc d)) (code_of r) (pos 0 -ℤ t) (omega arith) (legal_to_listed (after p m) r (move_back r there) l) (subst (λ (n : ℕ). (pos 0 -ℤ t) ≤ℤ worth (after p m) e n (code_of r)) one enough) in
    let here : worth p e (suc (suc d)) (code_of m) ≡ pos 0 -ℤ value (after p m) e (suc (suc d)) = ap (λ (q : Shogi). pos 0 -ℤ value q e (suc (suc d))) (after_code_of p m (move_back m on)) in
    omega (arith, ints)

-- ---- a bound for each legal move

at_most : (otherwise : ℤ) (f : ℕ → ℤ) (codes : List ℕ) (t : ℤ) → otherwise ≤ℤ t → ((n : ℕ) → is_in n codes ≡ true → f n ≤ℤ t) → greatest_or otherwise f codes ≤ℤ t
at_most otherwise f [] t low each = low
at_most otherwise f (code ∷ codes) t low each = greatest_least f code codes t each

-- the value is at most a bound of what each legal move is worth
value_at_most : (q : Shogi) (e : Eval) (d : ℕ) (t : ℤ) → lost_value (suc d) ≤ℤ t → ((code : ℕ) (c : Move) → is_in code (legal_codes q) ≡ true → after_code q code ≡ after q c → IsOnSquares c → is_legal q c ≡ true → worth q e d code ≤ℤ t) → value q e (suc d) ≤ℤ t
value_at_most q e d t low each = subst (λ (w : ℤ). w ≤ℤ t) (sym (value-suc q e d)) (at_most (lost_value (suc d)) (worth q e d) (legal_codes q) t low (λ code listed.
    let below : code < MOVE_CODE_COUNT = legal_code_below q code (legal_in q 0 code listed) in
    elim (cases_lt code FIRST_DROP) [
      | inl board ↦ of_move code (Board (code / 2 / 81) (code / 2 % 81) (code % 2 == 1)) listed (board_of code board) (omega arith, omega arith)
      | inr drop ↦ of_move code (Drop (kind_at ((code - FIRST_DROP) / 81)) ((code - FIRST_DROP) % 81)) listed (drop_of code drop below) (omega arith)
    ]))
  where
    of_move : (code : ℕ) (c : Move) → is_in code (legal_codes q) ≡ true → move_of code ≡ Some c → IsOnSquares c → worth q e d code ≤ℤ t
    of_move code c listed at on = each code c listed (after_code_at q code c at) on (sym (is_legal_code_of q code c at) ∙ legal_in q 0 code listed)

-- ---- one ply is worth at most what its moves gain, if none mates

-- a board move without promotion is legal, and ends on an empty square if it has to be quiet
abbrev pub HasBoardMove : Bool → Shogi → Type 0
HasBoardMove quiet_only q = ((from to : ℕ) → from < 81 → to < 81 → is_legal q (Board from to false) ≡ true → (quiet_only ≡ true → is_none (piece_at q.cells to) ≡ true) → ⊥) → ⊥

-- each legal move gains at most the margin, and the other side then has such a board move
pub record IsBoundedAndAnswered (quiet_only : Bool) (q : Shogi) (e : Eval) (t : ℤ) : Type 0 where
  pub least : material_of q e ≤ℤ t
  pub gains : (c : Move) → IsOnSquares c → is_legal q c ≡ true → (material_of q e +ℤ gain_of q e c) ≤ℤ t
  pub answered : (c : Move) → IsOnSquares c → is_legal q c ≡ true → HasBoardMove quiet_only (after q c)

value_of_bounded : (quiet_only : Bool) (q : Shogi) (e : Eval) (t : ℤ) → IsValid q → lost_value 1 ≤ℤ t → IsBoundedAndAnswered quiet_only q e t → value q e 1 ≤ℤ t
value_of_bounded quiet_only q e t v low bounded = value_at_most q e 0 t low (λ code c listed there on l.
    let some : legal_codes (after_code q code) ≢ [] = λ none. bounded.answered c on l (λ from to hf ht reply bare. reply_by (after q c) from to hf ht reply (ap legal_codes (sym there) ∙ none)) in
    let leaf : ended q e code ≡ leaf_after q e code = ended_some q e code some in
    let least : material_of (after_code q code) e ≤ℤ leaf_after q e code = left_least q e code in
    let same : material_of (after_code q code) e ≡ material_of (after q c) e = ap (λ (s : Shogi). material_of s e) there in
    let made : material_of (after q c) e ≡ pos 0 -ℤ (material_of q e +ℤ gain_of q e c) = material_after q e c v on l in
    let few : (material_of q e +ℤ gain_of q e c) ≤ℤ t = bounded.gains c on l in
    omega (arith, ints))

-- ---- two plies are worth no more either, if the last move is quiet or captures are not settled: it loses its side nothing

-- no exchange is settled after the move
left_raw : (quiet_only : Bool) (s : Shogi) (e : Eval) (from to : ℕ) → (resolves_captures e ≡ false) ⊎ (quiet_only ≡ true) → from < 81 → to < 81 → (quiet_only ≡ true → is_none (piece_at s.cells to) ≡ true) → leaf_after s e (code_of (Board from to false)) ≡ material_of (after_code s (code_of (Board from to false))) e
left_raw quiet_only s e from to (inl raw) hf ht bare = left_plain s e (code_of (Board from to false)) raw
left_raw quiet_only s e from to (inr only) hf ht bare = left_quiet s e (code_of (Board from to false)) (ap (is_quiet s) (move_back (Board from to false) (hf, ht)) ∙ bare only)

ended_at_most : (s : Shogi) (e : Eval) (code : ℕ) (codes : List ℕ) (t : ℤ) → legal_codes (after_code s code) ≡ codes → lost_value 0 ≤ℤ t → leaf_after s e code ≤ℤ t → ended s e code ≤ℤ t
ended_at_most s e code [] t at low leaf = subst (λ (w : ℤ). w ≤ℤ t) (sym (ap (if_no_move_else (lost_value 0) (leaf_after s e code)) at)) low
ended_at_most s e code (next ∷ more) t at low leaf = subst (λ (w : ℤ). w ≤ℤ t) (sym (ap (if_no_move_else (lost_value 0) (leaf_after s e code)) at)) leaf

-- the board move is worth at least the material of its side
board_worth : (quiet_only : Bool) (s : Shogi) (e : Eval) (from to : ℕ) → IsValid s → (resolves_captures e ≡ false) ⊎ (quiet_only ≡ true) → from < 81 → to < 81 → is_legal s (Board from to false) ≡ true → (quiet_only ≡ true → is_none (piece_at s.cells to) ≡ true) → material_of s e ≤ℤ worth s e 0 (code_of (Board from to false))
board_worth quiet_only s e from to v raw hf ht l bare =
    let there : after_code s (code_of (Board from to false)) ≡ after s (Board from to false) = after_code_of s (Board from to false) (move_back (Board from to false) (hf, ht)) in
    let same : material_of (after_code s (code_of (Board from to false))) e ≡ material_of (after s (Board from to false)) e = ap (λ (q : Shogi). material_of q e) there in
    let made : material_of (after s (Board from to false)) e ≡ pos 0 -ℤ (material_of s e +ℤ pos (taken_gain e (piece_at s.cells to) + promotion_gain false (piece_at s.cells from))) = material_after s e (Board from to false) v (hf, ht) l in
    let leaf : leaf_after s e (code_of (Board from to false)) ≡ material_of (after_code s (code_of (Board from to false))) e = left_raw quiet_only s e from to raw hf ht bare in
    let most : material_of s e ≤ℤ pos POINTS_MAX = (material_bounds s e v).1 in
    let little : ended s e (code_of (Board from to false)) ≤ℤ (pos 0 -ℤ material_of s e) = ended_at_most s e (code_of (Board from to false)) (legal_codes (after_code s (code_of (Board from to false)))) (pos 0 -ℤ material_of s e) refl (omega (arith, ints)) (omega (arith, ints)) in
    omega (arith, ints)

-- a side with such a move is worth at least its material
value_least : (quiet_only : Bool) (s : Shogi) (e : Eval) → IsValid s → (resolves_captures e ≡ false) ⊎ (quiet_only ≡ true) → HasBoardMove quiet_only s → material_of s e ≤ℤ value s e 1
value_least quiet_only s e v raw has = by_lt_z (value s e 1) (material_of s e)
    (λ less. absurd (has (λ from to hf ht l bare. (
    let enough : material_of s e ≤ℤ value s e 1 = cut s e 1 (code_of (Board from to false)) (material_of s e) (omega arith) (legal_to_listed s (Board from to false) (move_back (Board from to false) (hf, ht)) l) (board_worth quiet_only s e from to v raw hf ht l bare) in
    omega (arith, ints)))))
    (λ enough. enough)

two_plies_of_bounded : (quiet_only : Bool) (q : Shogi) (e : Eval) (t : ℤ) → IsValid q → (resolves_captures e ≡ false) ⊎ (quiet_only ≡ true) → IsBoundedAndAnswered quiet_only q e t → value q e 2 ≤ℤ t
two_plies_of_bounded quiet_only q e t v raw bounded =
    let bound : (pos 0 -ℤ pos POINTS_MAX) ≤ℤ material_of q e = (material_bounds q e v).0 in
    let some : material_of q e ≤ℤ t = bounded.least in
    value_at_most q e 1 t (omega (arith, ints)) (λ code c listed there on l. (
    let least : material_of (after q c) e ≤ℤ value (after q c) e 1 = value_least quiet_only (after q c) e (move_valid q c v on l) raw (bounded.answered c on l) in
    let same : value (after_code q code) e 1 ≡ value (after q c) e 1 = ap (λ (s : Shogi). value s e 1) there in
    let made : material_of (after q c) e ≡ pos 0 -ℤ (material_of q e +ℤ gain_of q e c) = material_after q e c v on l in
    let few : (material_of q e +ℤ gain_of q e c) ≤ℤ t = bounded.gains c on l in
    omega (arith, ints)))

-- ---- the bound after a move and a reply

-- the position is worth at most `t` with two plies less than `depth`
abbrev pub AreAtMost : Shogi → Eval → ℕ → ℤ → Type 0
AreAtMost q e depth t = value q e (depth - 2) ≤ℤ t

pub bounded_at_most : (quiet_only : Bool) (q : Shogi) (e : Eval) (depth : ℕ) (t : ℤ) → ReplySuffices quiet_only e depth → IsValid q → lost_value 1 ≤ℤ t → IsBoundedAndAnswered quiet_only q e t → AreAtMost q e depth t
bounded_at_most quiet_only q e depth t (inl three) v low bounded = subst (λ (n : ℕ). value q e (n - 2) ≤ℤ t) (sym three) (value_of_bounded quiet_only q e t v low bounded)
bounded_at_most quiet_only q e depth t (inr four) v low bounded = subst (λ (n : ℕ). value q e (n - 2) ≤ℤ t) (sym four.0) (two_plies_of_bounded quiet_only q e t v four.1 bounded)

pub reply_at_most : (quiet_only : Bool) (p : Shogi) (e : Eval) (depth : ℕ) (m r : Move) (t : ℤ) → ReplySuffices quiet_only e depth → IsOnSquares m → IsOnSquares r → is_legal (after p m) r ≡ true → AreAtMost (after (after p m) r) e depth t → MoveIsWorthAtMost p e depth t m
reply_at_most quiet_only p e depth m r t (inl three) on there l low = subst (λ (n : ℕ). worth p e (n - 1) (code_of m) ≤ℤ t) (sym three) (worth_by_reply p e 0 m r t on there l (subst (λ (n : ℕ). value (after (after p m) r) e (n - 2) ≤ℤ t) three low))
reply_at_most quiet_only p e depth m r t (inr four) on there l low = subst (λ (n : ℕ). worth p e (n - 1) (code_of m) ≤ℤ t) (sym four.0) (worth_by_reply p e 1 m r t on there l (subst (λ (n : ℕ). value (after (after p m) r) e (n - 2) ≤ℤ t) four.0 low))
