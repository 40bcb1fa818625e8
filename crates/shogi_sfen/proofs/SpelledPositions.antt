-- A position is read if and only if it is spelled.
use Rattle.std.proofs.Common.{◌≡◌, ℕ, Bool, true, false, cond, refl, sym, ◌∙◌, ap, subst, List, length, Option, Some, None}
use Rattle.std.specs.Prelude.{◌↔◌, IfOk, Result, Ok, Err, slice_get, codes}
use Rattle.std.specs.Option.{IsSomeAnd, option_and_then}
use Rattle.std.specs.Str.{bytes_eq}
use Rattle.std.proofs.lemmas.Slice.Eq.{bytes_eq-Decides}
use Rattle.shogi_core.specs.declared.piece.Color.{Color}
use Rattle.shogi_core.specs.declared.piece.Color.TheVariants.{Black, White}
use Rattle.shogi_core.specs.declared.validity.PositionFault.{PositionFault}
use Rattle.shogi_core.specs.Movement.{Cells}
use Rattle.shogi_core.specs.Position.{Shogi, HandCounts}
use Rattle.shogi_core.specs.Validity.{fault_of, IsValid}
use Rattle.shogi_sfen.specs.declared.position.SfenFault.{SfenFault}
use Rattle.shogi_sfen.specs.declared.position.SfenFault.TheVariants.{BadBoard, BadSide, BadHand, Invalid}
use Rattle.shogi_sfen.specs.Words.{words}
use Rattle.shogi_sfen.specs.BoardTexts.{board_of}
use Rattle.shogi_sfen.specs.HandTexts.{hands_of}
use Rattle.shogi_sfen.specs.Sfen.{side_of, judged, position_of_parts, position_at, end_of}
use Rattle.shogi_sfen.specs.Written.{side_text}
use Rattle.shogi_sfen.specs.Spelling.{SpellsBoard, SpellsHands, Spells, SpellsValid, SpellsInvalid, HasBoard, HasSide, HasHands, LacksBoard, LacksSide, LacksHands}
use Rattle.shogi_sfen.proofs.TooManyHeld.{parts}
use Rattle.shogi_sfen.proofs.SpelledBoards.{SpellsBoard-read, board_of-spelled}
use Rattle.shogi_sfen.proofs.SpelledHands.{SpellsHands-read, hands_of-spelled}

-- a side is read if and only if it is spelled
by_letter : (b w : Bool) (text : List ℕ) (side : Color) → bytes_eq text (codes "b") ≡ b → bytes_eq text (codes "w") ≡ w → cond b (Some Black) (cond w (Some White) None) ≡ Some side → text ≡ side_text side
by_letter true w text side t u e = let same : Black ≡ side = cc in (bytes_eq-Decides text (codes "b")).0 t ∙ ap side_text same
by_letter false true text side t u e = let same : White ≡ side = cc in (bytes_eq-Decides text (codes "w")).0 u ∙ ap side_text same
by_letter false false text side t u e = cc

side-read : (text : List ℕ) (side : Color) → side_of text ≡ Some side → text ≡ side_text side
side-read text side e = by_letter (bytes_eq text (codes "b")) (bytes_eq text (codes "w")) text side refl refl e

side_there : (side : Color) → side_of (side_text side) ≡ Some side
side_there Black = refl
side_there White = refl

-- an optional word is read if and only if it is spelled
board_word : (o : Option (List ℕ)) (cells : Cells) → option_and_then board_of o ≡ Some cells → IsSomeAnd o (λ text. SpellsBoard text cells)
board_word None cells e = cc
board_word (Some text) cells e = SpellsBoard-read text cells e

board_word-read : (o : Option (List ℕ)) (cells : Cells) → IsSomeAnd o (λ text. SpellsBoard text cells) → option_and_then board_of o ≡ Some cells
board_word-read None cells h = absurd h
board_word-read (Some text) cells h = board_of-spelled text cells h

side_word : (o : Option (List ℕ)) (side : Color) → option_and_then side_of o ≡ Some side → IsSomeAnd o (λ text. text ≡ side_text side)
side_word None side e = cc
side_word (Some text) side e = side-read text side e

side_word-read : (o : Option (List ℕ)) (side : Color) → IsSomeAnd o (λ text. text ≡ side_text side) → option_and_then side_of o ≡ Some side
side_word-read None side h = absurd h
side_word-read (Some text) side h = ap side_of h ∙ side_there side

hands_word : (o : Option (List ℕ)) (hands : HandCounts) → option_and_then hands_of o ≡ Some hands → IsSomeAnd o (λ text. SpellsHands text hands)
hands_word None hands e = cc
hands_word (Some text) hands e = SpellsHands-read text hands e

hands_word-read : (o : Option (List ℕ)) (hands : HandCounts) → IsSomeAnd o (λ text. SpellsHands text hands) → option_and_then hands_of o ≡ Some hands
hands_word-read None hands h = absurd h
hands_word-read (Some text) hands h = hands_of-spelled text hands h

-- a word that spells some thing
some_with : {A : Type 0} (o : Option (List ℕ)) (P : List ℕ → A → Type 0) (a : A) → IsSomeAnd o (λ text. P text a) → IsSomeAnd o (λ text. (x : A) × P text x)
some_with None P a h = h
some_with (Some text) P a h = (a, h)

none_with : {A : Type 0} (o : Option (List ℕ)) (P : List ℕ → A → Type 0) (f : List ℕ → Option A) → ((a : A) → IsSomeAnd o (λ text. P text a) → option_and_then f o ≡ Some a) → option_and_then f o ≡ None
    → IsSomeAnd o (λ text. (x : A) × P text x) → ⊥
none_with None P f read e h = h
none_with (Some text) P f read e h = let found : f text ≡ Some h.0 = read h.0 h.1 in cc

board_fits : (o : Option (List ℕ)) (cells : Cells) → IsSomeAnd o (λ text. SpellsBoard text cells) → length cells ≡ 81
board_fits None cells h = absurd h
board_fits (Some text) cells h = h.cells_fit

hands_fit : (o : Option (List ℕ)) (hands : HandCounts) → IsSomeAnd o (λ text. SpellsHands text hands) → length hands ≡ 14
hands_fit None hands h = absurd h
hands_fit (Some text) hands h = h.places

-- the fault of a position is never one of its text
not_of_text : (o : Option PositionFault) (p : Shogi) (end : ℕ) (fault : SfenFault) → ((f : PositionFault) → Invalid f ≡ fault → ⊥) → judged o p end ≡ Err fault → ⊥
not_of_text None p end fault h e = cc
not_of_text (Some f) p end fault h e = h f (cc)

judged-ok : (o : Option PositionFault) (p q : Shogi) (end index : ℕ) → judged o p end ≡ Ok (q, index) → (o ≡ None) × (p ≡ q)
judged-ok None p q end index e = let same : (p, end) ≡ (q, index) = cc in (refl, ap (λ (x : Shogi × ℕ). x.0) same)
judged-ok (Some f) p q end index e = cc

judged-err : (o : Option PositionFault) (p : Shogi) (end : ℕ) (fault : PositionFault) → judged o p end ≡ Err (Invalid fault) → o ≡ Some fault
judged-err None p end fault e = cc
judged-err (Some f) p end fault e = cc

-- what the first three words are read as
abbrev board_read : List ℕ → Option Cells
board_read text = option_and_then board_of (slice_get (words text) 0)

abbrev side_read : List ℕ → Option Color
side_read text = option_and_then side_of (slice_get (words text) 1)

abbrev hands_read : List ℕ → Option HandCounts
hands_read text = option_and_then hands_of (slice_get (words text) 2)

module _ (text : List ℕ) where
  spells : (cells : Cells) (side : Color) (hands : HandCounts) → board_read text ≡ Some cells → side_read text ≡ Some side → hands_read text ≡ Some hands
      → Spells text (parts cells hands side)
  spells cells side hands eb es eh = record { board = board_word (slice_get (words text) 0) cells eb; side = side_word (slice_get (words text) 1) side es; hands = hands_word (slice_get (words text) 2) hands eh }

  valid : (p : Shogi) → Spells text p → fault_of p ≡ None → IsValid p
  valid p s e = record { cells_fit = board_fits (slice_get (words text) 0) p.cells s.board; hands_fit = hands_fit (slice_get (words text) 2) p.hands s.hands; no_fault = e }

  module _ (end : ℕ) where
    found : (b : Option Cells) (s : Option Color) (h : Option HandCounts) (p : Shogi) (index : ℕ) → board_read text ≡ b → side_read text ≡ s → hands_read text ≡ h
        → position_of_parts b s h end ≡ Ok (p, index) → Spells text p × IsValid p
    found None s h p index eb es eh e = cc
    found (Some cells) None h p index eb es eh e = cc
    found (Some cells) (Some side) None p index eb es eh e = cc
    found (Some cells) (Some side) (Some hands) p index eb es eh e =
        let q : Shogi = parts cells hands side in
        let j = judged-ok (fault_of q) q p end index e in
        let t : Spells text q = spells cells side hands eb es eh in
        subst (λ (x : Shogi). Spells text x × IsValid x) j.1 (t, valid q t j.0)

    faulty : (b : Option Cells) (s : Option Color) (h : Option HandCounts) (fault : PositionFault) → board_read text ≡ b → side_read text ≡ s → hands_read text ≡ h
        → position_of_parts b s h end ≡ Err (Invalid fault) → (p : Shogi) × Spells text p × (fault_of p ≡ Some fault)
    faulty None s h fault eb es eh e = cc
    faulty (Some cells) None h fault eb es eh e = cc
    faulty (Some cells) (Some side) None fault eb es eh e = cc
    faulty (Some cells) (Some side) (Some hands) fault eb es eh e =
        let q : Shogi = parts cells hands side in
        (q, spells cells side hands eb es eh, judged-err (fault_of q) q end fault e)

    no_board : (b : Option Cells) (s : Option Color) (h : Option HandCounts) → board_read text ≡ b → position_of_parts b s h end ≡ Err BadBoard → HasBoard text → ⊥
    no_board None s h eb e = none_with (slice_get (words text) 0) SpellsBoard board_of (board_word-read (slice_get (words text) 0)) eb
    no_board (Some cells) None h eb e = cc
    no_board (Some cells) (Some side) None eb e = cc
    no_board (Some cells) (Some side) (Some hands) eb e = absurd (not_of_text (fault_of (parts cells hands side)) (parts cells hands side) end BadBoard (λ f g. cc) e)

    no_board-answer : (b : Option Cells) (s : Option Color) (h : Option HandCounts) → board_read text ≡ b → (HasBoard text → ⊥) → position_of_parts b s h end ≡ Err BadBoard
    no_board-answer None s h eb n = refl
    no_board-answer (Some cells) s h eb n = absurd (n (some_with (slice_get (words text) 0) SpellsBoard cells (board_word (slice_get (words text) 0) cells eb)))

    no_side : (b : Option Cells) (s : Option Color) (h : Option HandCounts) → board_read text ≡ b → side_read text ≡ s → position_of_parts b s h end ≡ Err BadSide
        → HasBoard text × (HasSide text → ⊥)
    no_side None s h eb es e = cc
    no_side (Some cells) None h eb es e = (
      some_with (slice_get (words text) 0) SpellsBoard cells (board_word (slice_get (words text) 0) cells eb),
      none_with (slice_get (words text) 1) (λ text side. text ≡ side_text side) side_of (side_word-read (slice_get (words text) 1)) es,
    )
    no_side (Some cells) (Some side) None eb es e = cc
    no_side (Some cells) (Some side) (Some hands) eb es e = absurd (not_of_text (fault_of (parts cells hands side)) (parts cells hands side) end BadSide (λ f g. cc) e)

    no_side-answer : (b : Option Cells) (s : Option Color) (h : Option HandCounts) → board_read text ≡ b → side_read text ≡ s → HasBoard text → (HasSide text → ⊥)
        → position_of_parts b s h end ≡ Err BadSide
    no_side-answer None s h eb es has n = absurd (none_with (slice_get (words text) 0) SpellsBoard board_of (board_word-read (slice_get (words text) 0)) eb has)
    no_side-answer (Some cells) None h eb es has n = refl
    no_side-answer (Some cells) (Some side) h eb es has n = absurd (n (some_with (slice_get (words text) 1) (λ text side. text ≡ side_text side) side (side_word (slice_get (words text) 1) side es)))

    no_hands : (b : Option Cells) (s : Option Color) (h : Option HandCounts) → board_read text ≡ b → side_read text ≡ s → hands_read text ≡ h
        → position_of_parts b s h end ≡ Err BadHand → HasBoard text × HasSide text × (HasHands text → ⊥)
    no_hands None s h eb es eh e = cc
    no_hands (Some cells) None h eb es eh e = cc
    no_hands (Some cells) (Some side) None eb es eh e = (
      some_with (slice_get (words text) 0) SpellsBoard cells (board_word (slice_get (words text) 0) cells eb),
      some_with (slice_get (words text) 1) (λ text side. text ≡ side_text side) side (side_word (slice_get (words text) 1) side es),
      none_with (slice_get (words text) 2) SpellsHands hands_of (hands_word-read (slice_get (words text) 2)) eh,
    )
    no_hands (Some cells) (Some side) (Some hands) eb es eh e = absurd (not_of_text (fault_of (parts cells hands side)) (parts cells hands side) end BadHand (λ f g. cc) e)

    no_hands-answer : (b : Option Cells) (s : Option Color) (h : Option HandCounts) → board_read text ≡ b → side_read text ≡ s → hands_read text ≡ h
        → HasBoard text → HasSide text → (HasHands text → ⊥) → position_of_parts b s h end ≡ Err BadHand
    no_hands-answer None s h eb es eh has side n = absurd (none_with (slice_get (words text) 0) SpellsBoard board_of (board_word-read (slice_get (words text) 0)) eb has)
    no_hands-answer (Some cells) None h eb es eh has side n = absurd (none_with (slice_get (words text) 1) (λ text side. text ≡ side_text side) side_of (side_word-read (slice_get (words text) 1)) es side)
    no_hands-answer (Some cells) (Some color) None eb es eh has side n = refl
    no_hands-answer (Some cells) (Some color) (Some hands) eb es eh has side n = absurd (n (some_with (slice_get (words text) 2) SpellsHands hands (hands_word (slice_get (words text) 2) hands eh)))

module _ (text : List ℕ) (r : Result (Shogi × ℕ) SfenFault) (answer : r ≡ position_at text) where
  said : r ≡ position_of_parts (board_read text) (side_read text) (hands_read text) (end_of text)
  unfolding position_at
  said = answer

  pub spelled-read : (p : Shogi) → Spells text p → r ≡ judged (fault_of p) p (end_of text)
  spelled-read p t =
      said ∙ (ap (λ (o : Option Cells). position_of_parts o (side_read text) (hands_read text) (end_of text)) (board_word-read (slice_get (words text) 0) p.cells t.board)
      ∙ (ap (λ (o : Option Color). position_of_parts (Some p.cells) o (hands_read text) (end_of text)) (side_word-read (slice_get (words text) 1) p.side t.side)
      ∙ ap (λ (o : Option HandCounts). position_of_parts (Some p.cells) (Some p.side) o (end_of text)) (hands_word-read (slice_get (words text) 2) p.hands t.hands)))

  pub valid-read : (p : Shogi) → SpellsValid text p → r ≡ Ok (p, end_of text)
  valid-read p t = spelled-read p t.0 ∙ ap (λ (o : Option PositionFault). judged o p (end_of text)) t.1.no_fault

  pub answer-bad_board : (r ≡ Err BadBoard) ↔ LacksBoard text
  answer-bad_board = (λ e. no_board text (end_of text) (board_read text) (side_read text) (hands_read text) refl (sym said ∙ e), λ n. said ∙ no_board-answer text (end_of text) (board_read text) (side_read text) (hands_read text) refl n)

  pub answer-bad_side : (r ≡ Err BadSide) ↔ LacksSide text
  answer-bad_side = (λ e. no_side text (end_of text) (board_read text) (side_read text) (hands_read text) refl refl (sym said ∙ e), λ n. said ∙ no_side-answer text (end_of text) (board_read text) (side_read text) (hands_read text) refl refl n.0 n.1)

  pub answer-bad_hand : (r ≡ Err BadHand) ↔ LacksHands text
  answer-bad_hand = (λ e. no_hands text (end_of text) (board_read text) (side_read text) (hands_read text) refl refl refl (sym said ∙ e), λ n. said ∙ no_hands-answer text (end_of text) (board_read text) (side_read text) (hands_read text) refl refl refl n.0 n.1 n.2)

  pub answer-invalid : (fault : PositionFault) → (r ≡ Err (Invalid fault)) ↔ SpellsInvalid text fault
  answer-invalid fault = (
    λ e. faulty text (end_of text) (board_read text) (side_read text) (hands_read text) fault refl refl refl (sym said ∙ e),
    λ f. spelled-read f.0 f.1 ∙ ap (λ (o : Option PositionFault). judged o f.0 (end_of text)) f.2,
  )

-- a position that is read is spelled and valid
pub read-spelled : (text : List ℕ) (r : Result (Shogi × ℕ) SfenFault) → r ≡ position_at text → IfOk r (λ got. SpellsValid text got.0)
read-spelled text (Ok got) answer = found text (end_of text) (board_read text) (side_read text) (hands_read text) got.0 got.1 refl refl refl (sym (said text (Ok got) answer))
read-spelled text (Err fault) answer = tt
