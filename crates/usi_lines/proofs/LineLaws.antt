-- The lines of a stream, one after another.
use Rattle.std.proofs.Common.{◌≡◌, ℕ, ◌+◌, ◌≤◌, ◌<◌, Bool, true, false, not, refl, sym, ◌∙◌, ap, subst, arith, List, [], ◌∷◌, ◌++◌, length, take, drop}
use Rattle.std.specs.Prelude.{suc}
use Rattle.std.specs.List.{slice_split, onto_first, position_or_len, before_first}
use Rattle.std.specs.Str.Lines.{strip_carriage_return}
use Rattle.std.proofs.lemmas.List.Splits.{slice_split-cons_yes, slice_split-cons_no}
use Rattle.std.proofs.lemmas.List.Folds.{prefix_len-append, length-prefix_len}
use Rattle.std.proofs.lemmas.Bool.{cond-true, cond-false, lt-ltb, le-ltb, cond_both}
use Rattle.shogi_sfen.proofs.WordLaws.{position_or_len-yes, position_or_len-no, position_or_len-le}
use Rattle.usi_lines.specs.Lines.{Text, TooLong, is_line_feed, is_too_long, lines_of_parts, lines}
use Rattle.usi_lines.specs.declared.line.TheConstants.{LINE_MAX}

-- a list of parts has a first one
record Parts (xs : List ℕ) : Type 0 where
  more : List (List ℕ)
  parts : slice_split is_line_feed xs ≡ before_first is_line_feed xs ∷ more

parts-cons : (x : ℕ) (xs : List ℕ) → Parts xs → (t : Bool) → is_line_feed x ≡ t → Parts (x ∷ xs)
parts-cons x xs ih true e = record {
  more = slice_split is_line_feed xs;
  parts = slice_split-cons_yes is_line_feed x xs e ∙ ap (λ (k : ℕ). take k (x ∷ xs) ∷ slice_split is_line_feed xs) (sym (position_or_len-yes is_line_feed x xs e));
}
parts-cons x xs ih false e = record {
  more = ih.more;
  parts = slice_split-cons_no is_line_feed x xs e ∙ (ap (onto_first x) ih.parts ∙ ap (λ (k : ℕ). take k (x ∷ xs) ∷ ih.more) (sym (position_or_len-no is_line_feed x xs e)));
}

parts_of : (xs : List ℕ) → Parts xs
parts_of [] = record { more = []; parts = refl }
parts_of (x ∷ xs) = parts-cons x xs (parts_of xs) (is_line_feed x) refl

-- an LF in the list ends the first part, whatever follows
ended-cons : (x : ℕ) (xs ys : List ℕ) → (position_or_len is_line_feed xs < length xs → slice_split is_line_feed (xs ++ ys) ≡ before_first is_line_feed xs ∷ slice_split is_line_feed (drop (suc (position_or_len is_line_feed xs)) xs ++ ys))
    → (t : Bool) → is_line_feed x ≡ t → position_or_len is_line_feed (x ∷ xs) < length (x ∷ xs)
    → slice_split is_line_feed (x ∷ (xs ++ ys)) ≡ before_first is_line_feed (x ∷ xs) ∷ slice_split is_line_feed (drop (suc (position_or_len is_line_feed (x ∷ xs))) (x ∷ xs) ++ ys)
ended-cons x xs ys ih true e h =
    slice_split-cons_yes is_line_feed x (xs ++ ys) e
    ∙ ap (λ (k : ℕ). take k (x ∷ xs) ∷ slice_split is_line_feed (drop (suc k) (x ∷ xs) ++ ys)) (sym (position_or_len-yes is_line_feed x xs e))
ended-cons x xs ys ih false e h =
    let n : position_or_len is_line_feed (x ∷ xs) ≡ suc (position_or_len is_line_feed xs) = position_or_len-no is_line_feed x xs e in
    let below : position_or_len is_line_feed xs < length xs = omega arith in
    slice_split-cons_no is_line_feed x (xs ++ ys) e
    ∙ (ap (onto_first x) (ih below)
    ∙ ap (λ (k : ℕ). take k (x ∷ xs) ∷ slice_split is_line_feed (drop (suc k) (x ∷ xs) ++ ys)) (sym n))

ended : (xs ys : List ℕ) → position_or_len is_line_feed xs < length xs → slice_split is_line_feed (xs ++ ys) ≡ before_first is_line_feed xs ∷ slice_split is_line_feed (drop (suc (position_or_len is_line_feed xs)) xs ++ ys)
ended [] ys h = absurd (omega arith)
ended (x ∷ xs) ys h = ended-cons x xs ys (ended xs ys) (is_line_feed x) refl h

-- without an LF there is one part
open-cons : (x : ℕ) (xs : List ℕ) → (position_or_len is_line_feed xs ≡ length xs → slice_split is_line_feed xs ≡ xs ∷ []) → (t : Bool) → is_line_feed x ≡ t → position_or_len is_line_feed (x ∷ xs) ≡ length (x ∷ xs) → slice_split is_line_feed (x ∷ xs) ≡ (x ∷ xs) ∷ []
open-cons x xs ih true e h = let n : position_or_len is_line_feed (x ∷ xs) ≡ 0 = position_or_len-yes is_line_feed x xs e in absurd (omega arith)
open-cons x xs ih false e h =
    let n : position_or_len is_line_feed (x ∷ xs) ≡ suc (position_or_len is_line_feed xs) = position_or_len-no is_line_feed x xs e in
    slice_split-cons_no is_line_feed x xs e ∙ ap (onto_first x) (ih (omega arith))

open_part : (xs : List ℕ) → position_or_len is_line_feed xs ≡ length xs → slice_split is_line_feed xs ≡ xs ∷ []
open_part [] h = refl
open_part (x ∷ xs) h = open-cons x xs (open_part xs) (is_line_feed x) refl h

-- a first part that is too long ends the lines
long_part : (part : List ℕ) (more : List (List ℕ)) → LINE_MAX < length part → lines_of_parts (part ∷ more) ≡ TooLong ∷ []
long_part part [] h = cond-true (is_too_long part) _ _ (lt-ltb LINE_MAX (length part) h)
long_part part (next ∷ more) h = cond-true (is_too_long part) _ _ (lt-ltb LINE_MAX (length part) h)

whole_part : (part next : List ℕ) (more : List (List ℕ)) → length part ≤ LINE_MAX → lines_of_parts (part ∷ next ∷ more) ≡ Text (strip_carriage_return part) ∷ lines_of_parts (next ∷ more)
whole_part part next more h = cond-false (is_too_long part) _ _ (le-ltb LINE_MAX (length part) h)

pub lines-long : (xs : List ℕ) → LINE_MAX < position_or_len is_line_feed xs → lines xs ≡ TooLong ∷ []
unfolding lines
lines-long xs h =
    let p : Parts xs = parts_of xs in
    let n : length (before_first is_line_feed xs) ≡ position_or_len is_line_feed xs = length-prefix_len (λ b. not (is_line_feed b)) xs in
    ap lines_of_parts p.parts ∙ long_part (before_first is_line_feed xs) p.more (omega arith)

pub lines-open : (xs : List ℕ) → position_or_len is_line_feed xs ≡ length xs → length xs ≤ LINE_MAX → lines xs ≡ []
unfolding lines
lines-open xs e h = ap lines_of_parts (open_part xs e) ∙ cond-false (is_too_long xs) _ _ (le-ltb LINE_MAX (length xs) h)

pub lines-text : (xs ys : List ℕ) → position_or_len is_line_feed xs < length xs → position_or_len is_line_feed xs ≤ LINE_MAX
    → lines (xs ++ ys) ≡ Text (strip_carriage_return (before_first is_line_feed xs)) ∷ lines (drop (suc (position_or_len is_line_feed xs)) xs ++ ys)
unfolding lines
lines-text xs ys below fits =
    let after = drop (suc (position_or_len is_line_feed xs)) xs ++ ys in
    let p : Parts after = parts_of after in
    let n : length (before_first is_line_feed xs) ≡ position_or_len is_line_feed xs = length-prefix_len (λ b. not (is_line_feed b)) xs in
    ap lines_of_parts (ended xs ys below)
    ∙ (ap (λ (q : List (List ℕ)). lines_of_parts (before_first is_line_feed xs ∷ q)) p.parts
    ∙ (whole_part (before_first is_line_feed xs) (before_first is_line_feed after) p.more (omega arith)
    ∙ ap (λ (q : List (List ℕ)). Text (strip_carriage_return (before_first is_line_feed xs)) ∷ lines_of_parts q) (sym p.parts)))

-- the bytes before the first LF only grow as bytes follow
pub longer : (xs ys : List ℕ) → position_or_len is_line_feed xs ≤ position_or_len is_line_feed (xs ++ ys)
longer xs ys =
    let within : position_or_len is_line_feed xs ≤ length xs = position_or_len-le is_line_feed xs in
    subst (λ (n : ℕ). position_or_len is_line_feed xs ≤ n) (sym (prefix_len-append (λ b. not (is_line_feed b)) xs ys))
    (cond_both _ (length xs + position_or_len is_line_feed ys) (position_or_len is_line_feed xs) (λ (n : ℕ). position_or_len is_line_feed xs ≤ n) (λ e. omega arith) (λ e. omega arith))
