-- A rank is read if and only if it is spelled.
use Rattle.std.proofs.Common.{◌≡◌, ℕ, ◌+◌, ◌-◌, ◌<◌, Bool, true, false, cond, refl, sym, ◌∙◌, ap, subst, arith, List, [], ◌∷◌, ◌++◌, length, Option, Some, None, inl, inr}
use Rattle.std.specs.Prelude.{◌==◌, ◌&&◌, not, nat_lt, codes}
use Rattle.std.specs.List.{flat_map, list_all, All, AllByRecursion}
use Rattle.std.specs.Option.{option_map}
use Rattle.std.proofs.lemmas.Option.{cond_some}
use Rattle.std.proofs.lemmas.Bool.{cond-true, cond-false, eqb-true, eq-eqb, ltb-true, and_parts, and_from, not-true, cases_Bool}
use Rattle.shogi_core.specs.declared.piece.Piece.{Piece}
use Rattle.shogi_core.specs.Movement.{Cells}
use Rattle.shogi_sfen.specs.declared.board_text.RankItem.{RankItem}
use Rattle.shogi_sfen.specs.declared.board_text.RankItem.TheVariants.{Empty, Occupied}
use Rattle.shogi_sfen.specs.Letters.{is_promoted, piece_letter, piece_text, is_named, piece_named}
use Rattle.shogi_sfen.specs.Items.{RunFits, item_cells, item_text}
use Rattle.shogi_sfen.specs.BoardTexts.{item_named, onto_items, is_first_plus, items_from, squares_in, only_nine, rank_of, is_slash}
use Rattle.shogi_sfen.specs.Spelling.{SpellsRank}
use Rattle.shogi_sfen.proofs.LetterLaws.{piece_named-passes}
use Rattle.shogi_sfen.proofs.RanksBack.{item_back}
use Rattle.shogi_sfen.proofs.WrittenBack.{is_plain, plain_digit, plain_both, plain_piece, no_slash}

-- the bytes after a plus or none
behind : Bool → List ℕ → List ℕ
behind true bytes = 43 ∷ bytes
behind false bytes = bytes

named_text : (plus : Bool) (letter : ℕ) (piece : Piece) → is_named plus letter piece ≡ true → piece_text piece ≡ behind plus (letter ∷ [])
unfolding behind
named_text true letter piece e =
    let both = and_parts (is_promoted piece.role) (piece_letter piece == letter) e in
    ap (λ (b : Bool). cond b (codes "+") [] ++ piece_letter piece ∷ []) both.0 ∙ ap (λ (n : ℕ). 43 ∷ n ∷ []) (eqb-true (piece_letter piece) letter both.1)
named_text false letter piece e =
    let both = and_parts (not (is_promoted piece.role)) (piece_letter piece == letter) e in
    ap (λ (b : Bool). cond b (codes "+") [] ++ piece_letter piece ∷ []) (not-true (is_promoted piece.role) both.0) ∙ ap (λ (n : ℕ). n ∷ []) (eqb-true (piece_letter piece) letter both.1)

-- an item that was read from a byte
IsItemOf : Bool → ℕ → RankItem → Type 0
IsItemOf plus byte item = RunFits item × (item_text item ≡ behind plus (byte ∷ []))

by_piece : (plus : Bool) (byte : ℕ) (o : Option Piece) (item : RankItem) → piece_named plus byte ≡ o → option_map (λ piece. Occupied piece) o ≡ Some item → IsItemOf plus byte item
unfolding IsItemOf
by_piece plus byte None item e f = cc
by_piece plus byte (Some piece) item e f = let same : Occupied piece ≡ item = cc in subst (λ (i : RankItem). RunFits i × (item_text i ≡ behind plus (byte ∷ []))) same (tt, named_text plus byte piece (piece_named-passes plus byte piece e))

item_read : (plus : Bool) (byte : ℕ) (item : RankItem) → item_named plus byte ≡ Some item → IsItemOf plus byte item
unfolding IsItemOf behind
item_read true byte item e = by_piece true byte (piece_named true byte) item refl e
item_read false byte item e = elim (cases_Bool (nat_lt 48 byte && nat_lt byte 58)) [
  | inl run ↦
      let both = and_parts (nat_lt 48 byte) (nat_lt byte 58) run in
      let low : 48 < byte = ltb-true 48 byte both.0 in
      let high : byte < 58 = ltb-true byte 58 both.1 in
      let same : Empty (byte - 48) ≡ item = (let s : Some (Empty (byte - 48)) ≡ Some item = sym (cond-true (nat_lt 48 byte && nat_lt byte 58) _ _ run) ∙ e in cc) in
      subst (λ (i : RankItem). RunFits i × (item_text i ≡ byte ∷ [])) same ((omega arith, omega arith), ap (λ (n : ℕ). n ∷ []) (omega arith))
  | inr other ↦ by_piece false byte (piece_named false byte) item refl (sym (cond-false (nat_lt 48 byte && nat_lt byte 58) _ _ other) ∙ e)
]

-- items that were read have this text
AreItemsOf : List ℕ → List RankItem → Type 0
AreItemsOf text items = AllByRecursion RunFits items × (flat_map item_text items ≡ text)

one_more : (text bytes : List ℕ) (o : Option RankItem) (more : Option (List RankItem)) (items : List RankItem) → ((item : RankItem) → o ≡ Some item → RunFits item × (item_text item ≡ text))
    → ((others : List RankItem) → more ≡ Some others → AreItemsOf bytes others) → onto_items o more ≡ Some items → AreItemsOf (text ++ bytes) items
unfolding AreItemsOf
one_more text bytes None more items first later e = cc
one_more text bytes (Some item) None items first later e = cc
one_more text bytes (Some item) (Some others) items first later e =
    let same : item ∷ others ≡ items = cc in
    let f = first item refl in
    let l = later others refl in
    subst (λ (is : List RankItem). AllByRecursion RunFits is × (flat_map item_text is ≡ text ++ bytes)) same ((f.0, l.0), ap (λ (t : List ℕ). t ++ flat_map item_text others) f.1 ∙ ap (λ (t : List ℕ). text ++ t) l.1)

items_read : (bytes : List ℕ) (plus : Bool) (items : List RankItem) → items_from plus bytes ≡ Some items → AreItemsOf (behind plus bytes) items
unfolding AreItemsOf behind IsItemOf
items_read [] true items e = cc
items_read [] false items e = let same : [] ≡ items = cc in subst (λ (is : List RankItem). AllByRecursion RunFits is × (flat_map item_text is ≡ [])) same (tt, refl)
items_read (byte ∷ bytes) true items e = one_more (43 ∷ byte ∷ []) bytes (item_named true byte) (items_from false bytes) items (λ item f. item_read true byte item f) (λ others f. items_read bytes false others f) e
items_read (byte ∷ bytes) false items e = elim (cases_Bool (byte == 43)) [
  | inl plus ↦ subst (λ (b : ℕ). AllByRecursion RunFits items × (flat_map item_text items ≡ b ∷ bytes)) (sym (eqb-true byte 43 plus)) (items_read bytes true items (sym (cond-true (is_first_plus false byte) _ _ plus) ∙ e))
  | inr other ↦
      one_more (byte ∷ []) bytes (item_named false byte) (items_from false bytes) items (λ item f. item_read false byte item f) (λ others f. items_read bytes false others f) (sym (cond-false (is_first_plus false byte) _ _ other) ∙ e)
]

rank_read : (text : List ℕ) (cells : Cells) (o : Option (List RankItem)) → items_from false text ≡ o → only_nine (squares_in o) ≡ Some cells → SpellsRank text cells
unfolding AreItemsOf behind
rank_read text cells None e f = cc
rank_read text cells (Some items) e f =
    let both = cond_some (length (flat_map item_cells items) == 9) (flat_map item_cells items) cells f in
    let answer = items_read text false items e in
    record { items = items; each = answer.0; cells_said = both.1; nine = ap length (sym both.1) ∙ eqb-true (length (flat_map item_cells items)) 9 both.0; spelled = answer.1 }

-- a rank that is read is spelled
pub SpellsRank-read : (text : List ℕ) (cells : Cells) → rank_of text ≡ Some cells → SpellsRank text cells
unfolding rank_of
SpellsRank-read text cells e = rank_read text cells (items_from false text) refl e

items_back : (items : List RankItem) → AllByRecursion RunFits items → items_from false (flat_map item_text items) ≡ Some items
items_back [] each = refl
items_back (item ∷ items) each = item_back item (flat_map item_text items) each.0 ∙ ap (onto_items (Some item)) (items_back items each.1)

-- a rank that is spelled is read
pub rank_of-spelled : (text : List ℕ) (cells : Cells) → SpellsRank text cells → rank_of text ≡ Some cells
unfolding rank_of
rank_of-spelled text cells s =
    ap (λ (t : List ℕ). only_nine (squares_in (items_from false t))) (sym s.spelled)
    ∙ (ap (λ o. only_nine (squares_in o)) (items_back s.items s.each) ∙ (ap (λ (c : Cells). only_nine (Some c)) s.cells_said ∙ cond-true (length cells == 9) (Some cells) None (eq-eqb (length cells) 9 s.nine)))

plain_items : (items : List RankItem) → list_all is_plain (flat_map item_text items) ≡ true
plain_items [] = refl
plain_items (Empty n ∷ items) = and_from (is_plain (n + 48)) (list_all is_plain (flat_map item_text items)) (plain_digit n) (plain_items items)
plain_items (Occupied piece ∷ items) = plain_both (piece_text piece) (flat_map item_text items) (plain_piece piece.color piece.role) (plain_items items)

-- a rank's text has no slash
pub no_slash_in : (text : List ℕ) (cells : Cells) → SpellsRank text cells → All (λ x. is_slash x ≡ false) text
no_slash_in text cells s = no_slash text (subst (λ (t : List ℕ). list_all is_plain t ≡ true) s.spelled (plain_items s.items))
