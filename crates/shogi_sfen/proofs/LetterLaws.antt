-- The piece that a letter names has this letter.
use Rattle.std.proofs.Common.{◌≡◌, ℕ, Bool, true, refl, sym, ◌∙◌, subst, List, [], ◌∷◌, Option, Some, None, inl, inr}
use Rattle.std.specs.Prelude.{◌==◌}
use Rattle.std.specs.List.{find}
use Rattle.std.proofs.lemmas.Bool.{cond-true, cond-false, eqb-true, and_parts, cases_Bool}
use Rattle.shogi_core.specs.declared.piece.Color.{Color}
use Rattle.shogi_core.specs.declared.piece.Kind.{Kind}
use Rattle.shogi_core.specs.declared.piece.Kind.TheVariants as kinds
use Rattle.shogi_core.specs.declared.piece.Role.{Role}
use Rattle.shogi_core.specs.declared.piece.Piece.{Piece}
use Rattle.shogi_core.specs.Pieces.{all_kinds}
use Rattle.shogi_sfen.specs.Letters.{letter_of, is_letter_of, kind_named, piece_letter, is_named, all_roles, color_of_letter, role_named, piece_of_side, piece_named}

-- what `find` finds passes the test
found_passes : {A : Type 0} (test : A → Bool) (xs : List A) (found : A) → find test xs ≡ Some found → test found ≡ true
found_passes test [] found e = cc
found_passes {A} test (x ∷ xs) found e = elim (cases_Bool (test x)) [
  | inl here ↦ let same : x ≡ found = (let s : Some x ≡ Some found = sym (cond-true (test x) _ _ here) ∙ e in cc) in subst (λ (y : A). test y ≡ true) same here
  | inr later ↦ found_passes test xs found (sym (cond-false (test x) _ _ later) ∙ e)
]

pub kind_named-passes : (letter : ℕ) (kind : Kind) → kind_named letter ≡ Some kind → letter ≡ letter_of kind
unfolding kind_named
kind_named-passes letter kind e = sym (eqb-true (letter_of kind) letter (found_passes (is_letter_of letter) all_kinds kind e))

pub kind_named-letter : (kind : Kind) → kind_named (letter_of kind) ≡ Some kind
unfolding kind_named
kind_named-letter kinds.Pawn = refl
kind_named-letter _ = refl

of_side : (plus : Bool) (letter : ℕ) (color : Color) (o : Option Role) (piece : Piece) → role_named plus letter color ≡ o → piece_of_side color o ≡ Some piece → is_named plus letter piece ≡ true
of_side plus letter color None piece e f = cc
of_side plus letter color (Some role) piece e f =
    let made : Piece = record { color = color; role = role } in
    let same : made ≡ piece = cc in
    subst (λ (p : Piece). is_named plus letter p ≡ true) same (found_passes (λ r. is_named plus letter (record { color = color; role = r })) all_roles role e)

pub piece_named-passes : (plus : Bool) (letter : ℕ) (piece : Piece) → piece_named plus letter ≡ Some piece → is_named plus letter piece ≡ true
unfolding piece_named
piece_named-passes plus letter piece e = of_side plus letter (color_of_letter letter) (role_named plus letter (color_of_letter letter)) piece refl e

pub piece_named-letter : (plus : Bool) (letter : ℕ) (piece : Piece) → piece_named plus letter ≡ Some piece → piece_letter piece ≡ letter
piece_named-letter plus letter piece e = eqb-true (piece_letter piece) letter ((and_parts _ (piece_letter piece == letter) (piece_named-passes plus letter piece e)).1)
