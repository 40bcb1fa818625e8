-- Reading a move text finds the move, of all moves, with this text.
use Rattle.std.proofs.Common.{◌≡◌, ℕ, ◌+◌, ◌-◌, ◌/◌, ◌%◌, ◌≤◌, ◌<◌, Bool, true, false, refl, sym, ◌∙◌, ap, subst, arith, List, Option, Some, None, inl, inr}
use Rattle.std.specs.Prelude.{◌==◌, nat_lt, zero, suc}
use Rattle.std.specs.List.{find, range_with_len}
use Rattle.std.specs.Option.{option_and_then}
use Rattle.std.proofs.lemmas.Slice.Eq.{bytes_eq-Decides}
use Rattle.std.proofs.lemmas.Bool.{cond-true, cond-false, lt-ltb, le-ltb, cases_lt, cases_Bool, false_from_ne_true}
use Rattle.shogi_core.specs.declared.moves.TheConstants.{FIRST_DROP, MOVE_CODE_COUNT}
use Rattle.shogi_core.specs.declared.moves.Move.{Move}
use Rattle.shogi_core.specs.declared.moves.Move.TheVariants.{Board, Drop}
use Rattle.shogi_core.specs.Pieces.{kind_number}
use Rattle.shogi_core.specs.Codes.{code_of, move_of, kind_at, codes_from}
use Rattle.shogi_core.proofs.CodesBack.{move_of-board, move_of-drop, code_of-board, code_of-drop}
use Rattle.shogi_core.proofs.Faults.{number_below}
use Rattle.shogi_sfen.specs.MoveTexts.{text_of, is_text_of, is_text_of_code, move_of_text}
use Rattle.shogi_sfen.specs.Reading.{move_read}
use Rattle.shogi_sfen.proofs.Texts.{move_read-board, move_read-drop, move_read-some, IsMoveText, IsOnBoard}

-- `find` gives the only passing number of a range
find-one : (p : ℕ → Bool) (n a c : ℕ) → a ≤ c → c < a + n → p c ≡ true → ((k : ℕ) → k < a + n → p k ≡ true → k ≡ c) → find p (range_with_len a n) ≡ Some c
find-one p zero a c low high here only = absurd (omega arith)
find-one p (suc n) a c low high here only = elim (cases_Bool (p a)) [
  | inl yes_here ↦ cond-true (p a) _ _ yes_here ∙ ap Some (only a (omega arith) yes_here)
  | inr not_here ↦
      let ne : a ≡ c → ⊥ = λ e. let t : p a ≡ true = subst (λ k. p k ≡ true) (sym e) here in let f : true ≡ false = sym t ∙ not_here in cc in
      let lt : a < c = omega (arith, ne) in
      cond-false (p a) _ _ not_here ∙ find-one p n (a + 1) c (omega arith) (omega arith) here (λ k below passes. only k (omega arith) passes)
]

find-none : (p : ℕ → Bool) (n a : ℕ) → ((k : ℕ) → k < a + n → p k ≡ false) → find p (range_with_len a n) ≡ None
find-none p zero a h = refl
find-none p (suc n) a h = cond-false (p a) _ _ (h a (omega arith)) ∙ find-none p n (a + 1) (λ k below. h k (omega arith))

-- a code below 13,689 is that of a move
record HasMove (code : ℕ) : Type 0 where
  move : Move
  move_is : move_of code ≡ Some move
  back : code_of move ≡ code
  read_back : move_read (text_of move) ≡ Some move

has_move : (code : ℕ) → code < MOVE_CODE_COUNT → HasMove code
has_move code h = elim (cases_lt code FIRST_DROP) [
  | inl below ↦ record {
    move = Board (code / 2 / 81) (code / 2 % 81) (code % 2 == 1);
    move_is = cond-true (nat_lt code FIRST_DROP) _ _ (lt-ltb code FIRST_DROP below);
    back = code_of-board code;
    read_back = move_read-board (code / 2 / 81) (code / 2 % 81) (code % 2 == 1) (omega arith) (omega arith);
  }
  | inr above ↦ record {
    move = Drop (kind_at ((code - FIRST_DROP) / 81)) ((code - FIRST_DROP) % 81);
    move_is = cond-false (nat_lt code FIRST_DROP) _ _ (le-ltb code FIRST_DROP above) ∙ cond-true (nat_lt code MOVE_CODE_COUNT) _ _ (lt-ltb code MOVE_CODE_COUNT h);
    back = code_of-drop code above h;
    read_back = move_read-drop (kind_at ((code - FIRST_DROP) / 81)) ((code - FIRST_DROP) % 81) (omega arith);
  }
]

-- a code with this text has the move that is read
record Found (text : List ℕ) (code : ℕ) : Type 0 where
  move : Move
  read_is : move_read text ≡ Some move
  code_is : code ≡ code_of move

found : (text : List ℕ) (code : ℕ) → code < MOVE_CODE_COUNT → is_text_of_code text code ≡ true → Found text code
found text code h e =
    let m = has_move code h in
    let is : is_text_of text (Some m.move) ≡ true = ap (is_text_of text) (sym m.move_is) ∙ e in
    let same : text_of m.move ≡ text = (bytes_eq-Decides (text_of m.move) text).0 is in
    record { move = m.move; read_is = ap move_read (sym same) ∙ m.read_back; code_is = sym m.back }

-- a move on the board has one of all codes
record IsCoded (m : Move) : Type 0 where
  below : code_of m < MOVE_CODE_COUNT
  back : move_of (code_of m) ≡ Some m

coded : (m : Move) → IsOnBoard m → IsCoded m
unfolding IsOnBoard
coded (Board from to true) h = let a : from < 81 = h.0 in let b : to < 81 = h.1 in record { below = omega arith; back = move_of-board from to true h.0 h.1 }
coded (Board from to false) h = let a : from < 81 = h.0 in let b : to < 81 = h.1 in record { below = omega arith; back = move_of-board from to false h.0 h.1 }
coded (Drop kind to) h = let n : kind_number kind < 7 = number_below kind in record { below = omega arith; back = move_of-drop kind to h }

search_some : (text : List ℕ) (m : Move) → move_read text ≡ Some m → move_of_text text ≡ Some m
unfolding move_of_text codes_from
search_some text m e =
    let t : IsMoveText text m = move_read-some text m e in
    let c : IsCoded m = coded m t.on_board in
    let here : is_text_of_code text (code_of m) ≡ true = ap (is_text_of text) c.back ∙ (bytes_eq-Decides (text_of m) text).1 t.spelled in
    let only : (k : ℕ) → k < 0 + MOVE_CODE_COUNT → is_text_of_code text k ≡ true → k ≡ code_of m = λ k below passes.
    let f : Found text k = found text k (omega arith) passes in
    let same : f.move ≡ m = let p : Some f.move ≡ Some m = sym f.read_is ∙ e in cc in
    f.code_is ∙ ap code_of same in
    ap (option_and_then move_of) (find-one (is_text_of_code text) MOVE_CODE_COUNT 0 (code_of m) (omega arith) (omega (arith, c.below)) here only) ∙ c.back

search_none : (text : List ℕ) → move_read text ≡ None → move_of_text text ≡ None
unfolding move_of_text codes_from
search_none text e =
    ap (option_and_then move_of) (find-none (is_text_of_code text) MOVE_CODE_COUNT 0 (λ k below. false_from_ne_true (is_text_of_code text k) (λ passes.
    let f : Found text k = found text k (omega arith) passes in
    let p : None ≡ Some f.move = sym e ∙ f.read_is in cc)))

search : (text : List ℕ) (o : Option Move) → move_read text ≡ o → move_read text ≡ move_of_text text
search text (Some m) e = e ∙ sym (search_some text m e)
search text None e = e ∙ sym (search_none text e)

-- `move_read` gives the move with this text
pub move_read-is : (text : List ℕ) → move_read text ≡ move_of_text text
move_read-is text = search text (move_read text) refl

-- the text of a move with a code finds that move
pub move_of_text-coded : (m : Move) (code : ℕ) → code < MOVE_CODE_COUNT → move_of code ≡ Some m → move_of_text (text_of m) ≡ Some m
move_of_text-coded m code below e =
    let h : HasMove code = has_move code below in
    let same : h.move ≡ m = let p : Some h.move ≡ Some m = sym h.move_is ∙ e in cc in
    sym (move_read-is (text_of m)) ∙ (ap (λ x. move_read (text_of x)) (sym same) ∙ (h.read_back ∙ ap Some same))
