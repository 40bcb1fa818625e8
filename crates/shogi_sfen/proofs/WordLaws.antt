-- Words of a text, one after another.
use Rattle.std.proofs.Common.{◌≡◌, ℕ, ◌+◌, ◌≤◌, ◌<◌, Bool, true, false, cond, not, refl, sym, ◌∙◌, ap, subst, arith, List, [], ◌∷◌, length, take, drop, Some, None, inl, inr}
use Rattle.std.specs.Prelude.{suc, filter, unwrap_or, nat_lt, position}
use Rattle.std.specs.List.{slice_split, onto_first, position_or_len, before_first}
use Rattle.std.proofs.lemmas.List.Splits.{slice_split-cons_yes, slice_split-cons_no}
use Rattle.std.proofs.lemmas.List.Sums.{prefix_len-le-length}
use Rattle.std.proofs.lemmas.Bool.{cases_lt, lt-ltb, le-ltb, not_from_false, not_from_true}
use Rattle.shogi_sfen.specs.Words.{is_blank, is_word_byte, has_bytes, words, from_word, after_word}

-- a search that finds nothing gives the length
unwrapped : (n len : ℕ) → n ≤ len → unwrap_or (cond (nat_lt n len) (Some n) None) len ≡ n
unwrapped n len h = elim (cases_lt n len) [
  | inl below ↦ ap (λ (b : Bool). unwrap_or (cond b (Some n) None) len) (lt-ltb n len below)
  | inr above ↦ ap (λ (b : Bool). unwrap_or (cond b (Some n) None) len) (le-ltb n len above) ∙ omega arith
]

pub first_or_len : (p : ℕ → Bool) (xs : List ℕ) → unwrap_or (position p xs) (length xs) ≡ position_or_len p xs
first_or_len p xs = unwrapped (position_or_len p xs) (length xs) (prefix_len-le-length (λ x. not (p x)) xs)

pub position_or_len-le : (p : ℕ → Bool) (xs : List ℕ) → position_or_len p xs ≤ length xs
position_or_len-le p xs = prefix_len-le-length (λ x. not (p x)) xs

pub position_or_len-yes : (p : ℕ → Bool) (x : ℕ) (xs : List ℕ) → p x ≡ true → position_or_len p (x ∷ xs) ≡ 0
position_or_len-yes p x xs e = ap (λ (b : Bool). cond (not b) (1 + position_or_len p xs) 0) e

pub position_or_len-no : (p : ℕ → Bool) (x : ℕ) (xs : List ℕ) → p x ≡ false → position_or_len p (x ∷ xs) ≡ suc (position_or_len p xs)
position_or_len-no p x xs e = ap (λ (b : Bool). cond (not b) (1 + position_or_len p xs) 0) e ∙ omega arith

-- a leading blank adds no word
pub words-blank : (b : ℕ) (bs : List ℕ) → is_blank b ≡ true → words (b ∷ bs) ≡ words bs
unfolding words
words-blank b bs e = ap (filter has_bytes) (slice_split-cons_yes is_blank b bs e)

words-from_word-cons : (b : ℕ) (bs : List ℕ) → words bs ≡ words (from_word bs) → (t : Bool) → is_blank b ≡ t → words (b ∷ bs) ≡ words (from_word (b ∷ bs))
words-from_word-cons b bs ih true e = words-blank b bs e ∙ (ih ∙ ap (λ k. words (drop k (b ∷ bs))) (sym (position_or_len-no is_word_byte b bs (not_from_true (is_blank b) e))))
words-from_word-cons b bs ih false e = ap (λ k. words (drop k (b ∷ bs))) (sym (position_or_len-yes is_word_byte b bs (not_from_false (is_blank b) e)))

-- leading blanks add no word
pub words-from_word : (text : List ℕ) → words text ≡ words (from_word text)
words-from_word [] = refl
words-from_word (b ∷ bs) = words-from_word-cons b bs (words-from_word bs) (is_blank b) refl

-- the first part and the words after it
record Cuts (xs : List ℕ) : Type 0 where
  more : List (List ℕ)
  parts : slice_split is_blank xs ≡ before_first is_blank xs ∷ more
  follow : filter has_bytes more ≡ words (drop (position_or_len is_blank xs) xs)

cuts-cons : (x : ℕ) (xs : List ℕ) → Cuts xs → (t : Bool) → is_blank x ≡ t → Cuts (x ∷ xs)
unfolding words
cuts-cons x xs ih true e = record {
  more = slice_split is_blank xs;
  parts = slice_split-cons_yes is_blank x xs e ∙ ap (λ k. take k (x ∷ xs) ∷ slice_split is_blank xs) (sym (position_or_len-yes is_blank x xs e));
  follow = sym (words-blank x xs e) ∙ ap (λ k. words (drop k (x ∷ xs))) (sym (position_or_len-yes is_blank x xs e));
}
cuts-cons x xs ih false e = record {
  more = ih.more;
  parts = slice_split-cons_no is_blank x xs e ∙ (ap (onto_first x) ih.parts ∙ ap (λ k. take k (x ∷ xs) ∷ ih.more) (sym (position_or_len-no is_blank x xs e)));
  follow = ih.follow ∙ ap (λ k. words (drop k (x ∷ xs))) (sym (position_or_len-no is_blank x xs e));
}

cuts : (xs : List ℕ) → Cuts xs
unfolding words
cuts [] = record { more = []; parts = refl; follow = refl }
cuts (x ∷ xs) = cuts-cons x xs (cuts xs) (is_blank x) refl

-- a text that begins with a word byte begins with its first word
words-inner : (c : ℕ) (cs : List ℕ) → is_blank c ≡ false → words (c ∷ cs) ≡ before_first is_blank (c ∷ cs) ∷ words (drop (position_or_len is_blank (c ∷ cs)) (c ∷ cs))
unfolding words
words-inner c cs e =
    let cut : Cuts (c ∷ cs) = cuts (c ∷ cs) in
    let n : position_or_len is_blank (c ∷ cs) ≡ suc (position_or_len is_blank cs) = position_or_len-no is_blank c cs e in
    ap (filter has_bytes) cut.parts
    ∙ (ap (λ (k : ℕ). filter has_bytes (take k (c ∷ cs) ∷ cut.more)) n
    ∙ (ap (λ (k : ℕ). take k (c ∷ cs) ∷ filter has_bytes cut.more) (sym n)
    ∙ ap (λ (ws : List (List ℕ)). before_first is_blank (c ∷ cs) ∷ ws) cut.follow))

-- a text from its first word on begins with a byte of it, if there is a word
record Begins (from : List ℕ) : Type 0 where
  head : ℕ
  tail : List ℕ
  same : from ≡ head ∷ tail
  inner : is_blank head ≡ false

begins-cons : (b : ℕ) (bs : List ℕ) → (0 < length (from_word bs) → Begins (from_word bs)) → (t : Bool) → is_blank b ≡ t → 0 < length (from_word (b ∷ bs)) → Begins (from_word (b ∷ bs))
begins-cons b bs ih true e h =
    let n : position_or_len is_word_byte (b ∷ bs) ≡ suc (position_or_len is_word_byte bs) = position_or_len-no is_word_byte b bs (not_from_true (is_blank b) e) in
    subst (λ (k : ℕ). Begins (drop k (b ∷ bs))) (sym n) (ih (subst (λ (k : ℕ). 0 < length (drop k (b ∷ bs))) n h))
begins-cons b bs ih false e h =
    let n : position_or_len is_word_byte (b ∷ bs) ≡ 0 = position_or_len-yes is_word_byte b bs (not_from_false (is_blank b) e) in
    record { head = b; tail = bs; same = ap (λ (k : ℕ). drop k (b ∷ bs)) n; inner = e }

begins : (text : List ℕ) → 0 < length (from_word text) → Begins (from_word text)
begins [] h = absurd (omega arith)
begins (b ∷ bs) h = begins-cons b bs (begins bs) (is_blank b) refl h

empty : (xs : List ℕ) → length xs ≡ 0 → xs ≡ []
empty [] e = refl
empty (x ∷ xs) e = absurd (omega arith)

-- a text of blanks has no word
pub words-none : (text : List ℕ) → length (drop (position_or_len is_word_byte text) text) ≡ 0 → words text ≡ []
unfolding words
words-none text e = words-from_word text ∙ ap words (empty (from_word text) e)

words-at : (from : List ℕ) → Begins from → words from ≡ before_first is_blank from ∷ words (drop (position_or_len is_blank from) from)
words-at from b =
    subst (λ (xs : List ℕ). words xs ≡ before_first is_blank xs ∷ words (drop (position_or_len is_blank xs) xs)) (sym b.same) (words-inner b.head b.tail b.inner)

-- the first word and the words after it
pub words-some : (text : List ℕ) → 0 < length (drop (position_or_len is_word_byte text) text) → words text ≡ before_first is_blank (from_word text) ∷ words (after_word text)
unfolding after_word
words-some text h = words-from_word text ∙ words-at (from_word text) (begins text h)

-- a word and the rest after it
pub record IsNextWord (text word rest : List ℕ) : Type 0 where
  pub first : words text ≡ word ∷ words rest
  pub after : rest ≡ after_word text
  pub fewer : length (words rest) < length (words text)

shorter : (xs ys : List (List ℕ)) (x : List ℕ) → xs ≡ x ∷ ys → length ys < length xs
shorter xs ys x e = let n : length xs ≡ length (x ∷ ys) = ap length e in omega arith

pub next_word : (text from word rest : List ℕ) (n k : ℕ) → n ≡ position_or_len is_word_byte text → from ≡ drop n text → 0 < length from
    → k ≡ position_or_len is_blank from → word ≡ take k from → rest ≡ drop k from → IsNextWord text word rest
unfolding after_word
next_word text from word rest n k en ef h ek ew er =
    let same : from ≡ from_word text = ef ∙ ap (λ (i : ℕ). drop i text) en in
    let here : 0 < length (from_word text) = subst (λ (xs : List ℕ). 0 < length xs) same h in
    let w : before_first is_blank (from_word text) ≡ word = ap (before_first is_blank) (sym same) ∙ (ap (λ (i : ℕ). take i from) (sym ek) ∙ sym ew) in
    let r : after_word text ≡ rest = ap (λ (xs : List ℕ). drop (position_or_len is_blank xs) xs) (sym same) ∙ (ap (λ (i : ℕ). drop i from) (sym ek) ∙ sym er) in
    let all : words text ≡ word ∷ words rest = words-some text here ∙ (ap (λ (v : List ℕ). v ∷ words (after_word text)) w ∙ ap (λ (v : List ℕ). word ∷ words v) r) in
    record { first = all; after = sym r; fewer = shorter (words text) (words rest) word all }

-- no word is left if none begins
pub no_word : (text from : List ℕ) (n : ℕ) → n ≡ position_or_len is_word_byte text → from ≡ drop n text → length from ≡ 0 → words text ≡ []
no_word text from n en ef h = words-none text (ap length (sym (ef ∙ ap (λ (i : ℕ). drop i text) en)) ∙ h)
