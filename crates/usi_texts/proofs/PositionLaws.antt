-- One more move of a `position` line.
use Rattle.std.proofs.Common.{◌≡◌, ℕ, ◌+◌, ◌≤◌, List, [], ◌∷◌, length, Some, None, Ok, Err, refl, arith}
use Rattle.std.specs.List.{slice_split}
use Rattle.std.proofs.lemmas.List.Splits.{length-slice_split}
use Rattle.std.proofs.lemmas.List.Sums.{length-filter, count_by-le-length}
use Rattle.shogi_core.specs.Position.{Shogi}
use Rattle.shogi_sfen.specs.Words.{words, has_bytes, is_blank}
use Rattle.shogi_sfen.specs.MoveTexts.{move_of_text}
use Rattle.usi_texts.specs.declared.position_command.Refusal.TheVariants.{IllegalMove}
use Rattle.usi_texts.specs.PositionCommand.{after_legal, after_moves}

-- no word is left
pub after_moves-none : (number : ℕ) (p : Shogi) (ws : List (List ℕ)) → ws ≡ [] → after_moves number p ws ≡ Ok p
unfolding after_moves
after_moves-none number p ws e = rw e refl

-- the next word is a legal move
pub after_moves-next : (number : ℕ) (p next : Shogi) (word : List ℕ) (ws rest : List (List ℕ)) → ws ≡ word ∷ rest → after_legal p (move_of_text word) ≡ Some next → after_moves number p ws ≡ after_moves (number + 1) next rest
unfolding after_moves
after_moves-next number p next word ws rest e f = rw (e, f) refl

-- the next word is no legal move
pub after_moves-illegal : (number : ℕ) (p : Shogi) (word : List ℕ) (ws rest : List (List ℕ)) → ws ≡ word ∷ rest → after_legal p (move_of_text word) ≡ None → after_moves number p ws ≡ Err (IllegalMove number)
unfolding after_moves
after_moves-illegal number p word ws rest e f = rw (e, f) refl

-- a text has at most one word more than bytes
pub length-words : (text : List ℕ) → length (words text) ≤ length text + 1
unfolding words
length-words text =
    let parts : List (List ℕ) = slice_split is_blank text in
    omega (arith, length-filter has_bytes parts, count_by-le-length has_bytes parts, length-slice_split is_blank text, count_by-le-length is_blank text)
