-- One line at a time.
use Rattle.std.proofs.Common.{◌≡◌, ℕ, ◌+◌, Bool, true, false, refl, ◌∙◌, ap, arith, List, [], ◌∷◌, length, take}
use Rattle.std.specs.Prelude.{zero, suc}
use Rattle.std.specs.List.{position_or_len}
use Rattle.std.proofs.Math.Seq.{take-nil}
use Rattle.std.proofs.lemmas.List.{take_all}
use Rattle.shogi_sfen.proofs.WordLaws.{position_or_len-yes, position_or_len-no}
use Rattle.usi_lines.specs.Lines.{is_line_feed}
use Rattle.usi_lines.specs.OneLine.{one_line, IsOneLine}

-- an LF ends the line
pub one_line-feed : (x : ℕ) (xs : List ℕ) → is_line_feed x ≡ true → one_line (x ∷ xs) ≡ x ∷ []
one_line-feed x xs e = ap (λ (k : ℕ). take (k + 1) (x ∷ xs)) (position_or_len-yes is_line_feed x xs e)

-- a byte other than LF precedes the line of the bytes after it
pub one_line-other : (x : ℕ) (xs : List ℕ) → is_line_feed x ≡ false → one_line (x ∷ xs) ≡ x ∷ one_line xs
one_line-other x xs e =
    let n : position_or_len is_line_feed (x ∷ xs) ≡ suc (position_or_len is_line_feed xs) = position_or_len-no is_line_feed x xs e in
    let m : position_or_len is_line_feed (x ∷ xs) + 1 ≡ suc (position_or_len is_line_feed xs + 1) = omega arith in
    ap (λ (k : ℕ). take k (x ∷ xs)) m

-- a prefix of a line has no LF but at its end
one_line-cons : (x : ℕ) (xs : List ℕ) (n : ℕ) → IsOneLine (take n (one_line xs)) → (t : Bool) → is_line_feed x ≡ t → IsOneLine (take (suc n) (one_line (x ∷ xs)))
one_line-cons x xs n ih true e = rw (one_line-feed x xs e, take-nil n) (one_line-feed x [] e)
one_line-cons x xs n ih false e = rw (one_line-other x xs e) (one_line-other x (take n (one_line xs)) e ∙ ap (λ ys. x ∷ ys) ih)

pub one_line_front : (xs : List ℕ) (n : ℕ) → IsOneLine (take n (one_line xs))
one_line_front xs zero = refl
one_line_front [] (suc n) = refl
one_line_front (x ∷ xs) (suc n) = one_line-cons x xs n (one_line_front xs n) (is_line_feed x) refl

-- a line has no LF except at its end
pub one_line_once : (xs : List ℕ) → IsOneLine (one_line xs)
one_line_once xs = let whole : take (length (one_line xs)) (one_line xs) ≡ one_line xs = take_all (length (one_line xs)) (one_line xs) (omega arith) in rw whole at (one_line_front xs (length (one_line xs)))
