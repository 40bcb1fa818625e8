-- Positions word by word.
use Rattle.std.proofs.Common.{◌≡◌, ℕ, ◌-◌, ◌≤◌, refl, sym, ◌∙◌, ap, arith, List, length, Option, Some, None, Bor}
use Rattle.std.specs.Prelude.{suc, IfOk, IfSome, MatchOption, Result, Ok, Err, slice_get}
use Rattle.std.specs.List.{position_or_len}
use Rattle.std.specs.Option.{option_map, option_and_then, option_copied}
use Rattle.std.proofs.lemmas.List.{length-drop}
use Rattle.shogi_core.specs.declared.piece.Color.{Color}
use Rattle.shogi_core.specs.declared.validity.PositionFault.{PositionFault}
use Rattle.shogi_core.specs.Movement.{Cells}
use Rattle.shogi_core.specs.Position.{Shogi, HandCounts}
use Rattle.shogi_core.specs.Validity.{fault_of}
use Rattle.shogi_sfen.specs.Words.{is_blank, words, from_word, after_word, GivesWord}
use Rattle.shogi_sfen.specs.BoardTexts.{board_of}
use Rattle.shogi_sfen.specs.HandTexts.{hands_of}
use Rattle.shogi_sfen.specs.CappedHands.{capped}
use Rattle.shogi_sfen.specs.Sfen.{side_of, judged, position_of_parts, position_at, past_number, end_of}
use Rattle.shogi_sfen.specs.declared.position.SfenFault.{SfenFault}
use Rattle.shogi_sfen.specs.declared.position.SfenFault.TheVariants.{BadBoard, BadSide, BadHand, Invalid}
use Rattle.shogi_sfen.proofs.TooManyHeld.{parts, judged-capped, hands_of-len}

-- the first word and the words after it
pub gives_first : (text rest : List ℕ) (o : Option (Bor (List ℕ))) → GivesWord text o rest → slice_get (words text) 0 ≡ option_copied o
gives_first text rest None g = ap (λ (ws : List (List ℕ)). slice_get ws 0) g.0
gives_first text rest (Some word) g = ap (λ (ws : List (List ℕ)). slice_get ws 0) g.0

pub gives_more : (text rest : List ℕ) (o : Option (Bor (List ℕ))) (k : ℕ) → GivesWord text o rest → slice_get (words text) (suc k) ≡ slice_get (words rest) k
gives_more text rest None k g =
    ap (λ (ws : List (List ℕ)). slice_get ws (suc k)) g.0 ∙ sym (ap (λ (t : List ℕ). slice_get (words t) k) g.1 ∙ ap (λ (ws : List (List ℕ)). slice_get ws k) g.0)
gives_more text rest (Some word) k g = ap (λ (ws : List (List ℕ)). slice_get ws (suc k)) g.0

-- three calls of `next` for a word
pub record Three (text r1 r2 r3 : List ℕ) (o1 o2 o3 : Option (Bor (List ℕ))) : Type 0 where
  pub one : GivesWord text o1 r1
  pub two : GivesWord r1 o2 r2
  pub three : GivesWord r2 o3 r3

module _ (text r1 r2 r3 : List ℕ) (o1 o2 o3 : Option (Bor (List ℕ))) where
  pub position_at-one : GivesWord text o1 r1 → (let none : Option Cells = None in none) ≡ option_and_then board_of (option_copied o1) → Err BadBoard ≡ position_at text
  unfolding position_at
  position_at-one g e =
      sym (ap (λ (o : Option (List ℕ)). position_of_parts (option_and_then board_of o) (option_and_then side_of (slice_get (words text) 1)) (option_and_then hands_of (slice_get (words text) 2)) (end_of text)) (gives_first text r1 o1 g)
      ∙ ap (λ (o : Option Cells). position_of_parts o (option_and_then side_of (slice_get (words text) 1)) (option_and_then hands_of (slice_get (words text) 2)) (end_of text)) (sym e))

  -- each call gives the word of its number
  second : GivesWord text o1 r1 → GivesWord r1 o2 r2 → slice_get (words text) 1 ≡ option_copied o2
  second g h = gives_more text r1 o1 0 g ∙ gives_first r1 r2 o2 h

  third : GivesWord text o1 r1 → GivesWord r1 o2 r2 → GivesWord r2 o3 r3 → slice_get (words text) 2 ≡ option_copied o3
  third g h i = gives_more text r1 o1 1 g ∙ (gives_more r1 r2 o2 0 h ∙ gives_first r2 r3 o3 i)

  pub position_at-two : (cells : Cells) → GivesWord text o1 r1 → GivesWord r1 o2 r2 → Some cells ≡ option_and_then board_of (option_copied o1) → (let none : Option Color = None in none) ≡ option_and_then side_of (option_copied o2) → Err BadSide ≡ position_at text
  unfolding position_at
  position_at-two cells g h e f =
      sym (ap (λ (o : Option Cells). position_of_parts o (option_and_then side_of (slice_get (words text) 1)) (option_and_then hands_of (slice_get (words text) 2)) (end_of text)) (ap (option_and_then board_of) (gives_first text r1 o1 g) ∙ sym e)
      ∙ ap (λ (o : Option Color). position_of_parts (Some cells) o (option_and_then hands_of (slice_get (words text) 2)) (end_of text)) (ap (option_and_then side_of) (second g h) ∙ sym f))

  -- the position of the three words
  pub position_at-three : (cells : Cells) (side : Color) → Three text r1 r2 r3 o1 o2 o3 → Some cells ≡ option_and_then board_of (option_copied o1) → Some side ≡ option_and_then side_of (option_copied o2)
      → position_at text ≡ position_of_parts (Some cells) (Some side) (option_and_then hands_of (option_copied o3)) (end_of text)
  unfolding position_at
  position_at-three cells side t e f =
      ap (λ (o : Option Cells). position_of_parts o (option_and_then side_of (slice_get (words text) 1)) (option_and_then hands_of (slice_get (words text) 2)) (end_of text)) (ap (option_and_then board_of) (gives_first text r1 o1 t.one) ∙ sym e)
      ∙ (ap (λ (o : Option Color). position_of_parts (Some cells) o (option_and_then hands_of (slice_get (words text) 2)) (end_of text)) (ap (option_and_then side_of) (second t.one t.two) ∙ sym f)
      ∙ ap (λ (o : Option (List ℕ)). position_of_parts (Some cells) (Some side) (option_and_then hands_of o) (end_of text)) (third t.one t.two t.three))

-- the position with saturated counts in hand
pub by_hands : (cells : Cells) (side : Color) (end : ℕ) (o : Option HandCounts) (hands : HandCounts) → IfSome o (λ out. length out ≡ 14) → Some hands ≡ option_map capped o
    → position_of_parts (Some cells) (Some side) o end ≡ judged (fault_of (parts cells hands side)) (parts cells hands side) end
by_hands cells side end None hands len e = cc
by_hands cells side end (Some exact) hands len e =
    let same : hands ≡ capped exact = cc in
    sym (ap (λ (hs : HandCounts). judged (fault_of (parts cells hs side)) (parts cells hs side) end) same ∙ judged-capped cells exact side end len)

pub no_hands_word : (cells : Cells) (side : Color) (end : ℕ) (o : Option HandCounts) → (let none : Option HandCounts = None in none) ≡ option_map capped o → Err BadHand ≡ position_of_parts (Some cells) (Some side) o end
no_hands_word cells side end None e = refl
no_hands_word cells side end (Some hands) e = cc

pub word_len : (o : Option (List ℕ)) → IfSome (option_and_then hands_of o) (λ out. length out ≡ 14)
word_len None = tt
word_len (Some word) = hands_of-len word

-- the result of `Position::new`
pub new_err : (o : Option PositionFault) (p : Shogi) (fault : PositionFault) (end : ℕ) → MatchOption o ((let r : Result Shogi PositionFault = Err fault in r) ≡ Ok p) (λ f. (let r : Result Shogi PositionFault = Err fault in r) ≡ Err f) → Err (Invalid fault) ≡ judged o p end
new_err None p fault end h = cc
new_err (Some f) p fault end h = let same : fault ≡ f = cc in ap (λ (x : PositionFault). Err (Invalid x)) same

pub new_ok : (o : Option PositionFault) (p made : Shogi) (end : ℕ) → MatchOption o ((let r : Result Shogi PositionFault = Ok made in r) ≡ Ok p) (λ f. (let r : Result Shogi PositionFault = Ok made in r) ≡ Err f) → Ok (made, end) ≡ judged o p end
new_ok None p made end h = let same : made ≡ p = cc in ap (λ (x : Shogi). Ok (x, end)) same
new_ok (Some f) p made end h = cc

-- the rest after a word is no longer than the text
pub after_word-len : (text : List ℕ) → length (after_word text) ≤ length text
unfolding after_word
after_word-len text =
    let one : length (from_word text) ≤ length text = omega (arith, length-drop {A = ℕ}) in
    let two : length (after_word text) ≤ length (from_word text) = omega (arith, length-drop (position_or_len is_blank (from_word text)) (from_word text)) in
    omega arith

pub gives_len : (text rest : List ℕ) (o : Option (Bor (List ℕ))) → GivesWord text o rest → length rest ≤ length text
gives_len text rest None g = let e : length rest ≡ length text = ap length g.1 in omega arith
gives_len text rest (Some word) g = let e : length rest ≡ length (after_word text) = ap length g.1 in let l : length (after_word text) ≤ length text = after_word-len text in omega arith

-- a word read was there
pub gives_after : {A : Type 0} (text rest : List ℕ) (o : Option (Bor (List ℕ))) (f : List ℕ → Option A) (a : A) → GivesWord text o rest → Some a ≡ option_and_then f (option_copied o) → rest ≡ after_word text
gives_after text rest None f a g e = cc
gives_after text rest (Some word) f a g e = g.1

pub gives_after_hands : (text rest : List ℕ) (o : Option (Bor (List ℕ))) (hands : HandCounts) → GivesWord text o rest → Some hands ≡ option_map capped (option_and_then hands_of (option_copied o)) → rest ≡ after_word text
gives_after_hands text rest None hands g e = cc
gives_after_hands text rest (Some word) hands g e = g.1

-- three words and a number, then the end
pub ends_at : (text r1 r2 r3 after : List ℕ) → r1 ≡ after_word text → r2 ≡ after_word r1 → r3 ≡ after_word r2 → after ≡ past_number r3 → length text - length after ≡ end_of text
ends_at text r1 r2 r3 after a b c d =
    ap (λ (t : List ℕ). length text - length t) (d ∙ ap past_number (c ∙ (ap after_word b ∙ ap (λ (t : List ℕ). after_word (after_word t)) a)))

judged_end : (fault : Option PositionFault) (p q : Shogi) (e end : ℕ) → judged fault p e ≡ Ok (q, end) → e ≡ end
judged_end None p q e end h = let same : (p, e) ≡ (q, end) = cc in ap (λ (x : Shogi × ℕ). x.1) same
judged_end (Some fault) p q e end h = absurd (cc)

parts_end : (cells : Option Cells) (side : Option Color) (hands : Option HandCounts) (e : ℕ) (q : Shogi) (end : ℕ) → position_of_parts cells side hands e ≡ Ok (q, end) → e ≡ end
parts_end None side hands e q end h = absurd (cc)
parts_end (Some cells) None hands e q end h = absurd (cc)
parts_end (Some cells) (Some side) None e q end h = absurd (cc)
parts_end (Some cells) (Some side) (Some hands) e q end h = judged_end (fault_of (record { cells = cells; hands = hands; side = side })) _ q e end h

-- a position ends within its text
pub end_within : (text : List ℕ) (r : Result (Shogi × ℕ) SfenFault) → r ≡ position_at text → IfOk r (λ got. got.1 ≤ length text)
unfolding position_at
end_within text (Ok got) answer = let same : end_of text ≡ got.1 = parts_end _ _ _ _ got.0 got.1 (sym answer) in omega arith
end_within text (Err fault) answer = tt
