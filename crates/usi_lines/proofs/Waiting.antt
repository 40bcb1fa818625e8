-- The lines ahead of a buffer, by the place of its first LF.
use Rattle.std.proofs.Common.{◌≡◌, ℕ, ◌+◌, ◌-◌, ◌≤◌, ◌<◌, Bool, true, false, not, refl, sym, ◌∙◌, ap, arith, List, [], ◌∷◌, ◌++◌, length, take, drop, get_or, inl, inr, ◌⊎◌, append-nil, Option, Some, None}
use Rattle.std.specs.Prelude.{suc, unwrap_or}
use Rattle.std.specs.List.{position_or_len}
use Rattle.std.specs.Str.Lines.{strip_carriage_return}
use Rattle.std.proofs.lemmas.List.{drop-drop, drop-append-le, length-drop, length-append}
use Rattle.std.proofs.lemmas.List.Sums.{position_or_len_is}
use Rattle.std.proofs.lemmas.List.Folds.{prefix_len-append}
use Rattle.std.proofs.lemmas.Bool.{cond-true, cond-false, eq-eqb, ne_eqb, cases_lt, false_from_ne_true}
use Rattle.memchr.specs.Find.{IsFirstByte, is_byte}
use Rattle.shogi_sfen.proofs.WordLaws.{position_or_len-le}
use Rattle.usi_lines.specs.Lines.{Line, Text, TooLong, Buffer, is_line_feed, lines, ahead, IsSearched}
use Rattle.usi_lines.proofs.LineLaws.{lines-long, lines-open, lines-text, longer}
use Rattle.usi_lines.specs.declared.line.TheConstants.{LINE_MAX, LINE_FEED}

-- the first LF, or the end of the bytes
pub first_feed : (xs : List ℕ) (r : Option ℕ) → IsFirstByte (is_byte LINE_FEED) xs r → unwrap_or r (length xs) ≡ position_or_len is_line_feed xs
first_feed xs None h = sym (position_or_len_is is_line_feed xs (length xs) 0 (omega arith) (λ k below. false_from_ne_true (is_line_feed (get_or xs k 0)) (λ e. h k (omega arith) below e)) (λ lt. absurd (omega arith)))
first_feed xs (Some i) h =
    let within : i < length xs = h.0.high in
    sym (position_or_len_is is_line_feed xs i 0 (omega arith) (λ k below. false_from_ne_true (is_line_feed (get_or xs k 0)) (λ e. h.0.before k (omega arith) below e)) (λ lt. h.1))

module _ (bytes : List ℕ) (start end : ℕ) (s : IsSearched bytes start end) where
  -- the length of the unread bytes, and of those before their first LF
  unread_len : length (drop start bytes) ≡ length bytes - start
  unread_len = length-drop start bytes

  pub end_within : end ≤ length bytes
  end_within =
      let n : position_or_len is_line_feed (drop start bytes) ≤ length (drop start bytes) = position_or_len-le is_line_feed (drop start bytes) in
      let u : length (drop start bytes) ≡ length bytes - start = unread_len in
      let w : start ≤ length bytes = s.within in
      let e : end ≡ start + position_or_len is_line_feed (drop start bytes) = s.searched in
      omega arith

  before_is : position_or_len is_line_feed (drop start bytes) ≡ end - start
  before_is = let e : end ≡ start + position_or_len is_line_feed (drop start bytes) = s.searched in omega arith

  pub ahead_long : LINE_MAX < end - start → (x : List ℕ) → lines (drop start bytes ++ x) ≡ TooLong ∷ []
  ahead_long h x =
      let n : position_or_len is_line_feed (drop start bytes) ≡ end - start = before_is in
      let l : position_or_len is_line_feed (drop start bytes) ≤ position_or_len is_line_feed (drop start bytes ++ x) = longer (drop start bytes) x in
      lines-long (drop start bytes ++ x) (omega arith)

  pub ahead_text : end < length bytes → end - start ≤ LINE_MAX → (x : List ℕ)
      → lines (drop start bytes ++ x) ≡ Text (strip_carriage_return (take (end - start) (drop start bytes))) ∷ lines (drop (end + 1) bytes ++ x)
  ahead_text below fits x =
      let n : position_or_len is_line_feed (drop start bytes) ≡ end - start = before_is in
      let u : length (drop start bytes) ≡ length bytes - start = unread_len in
      let e : end ≡ start + position_or_len is_line_feed (drop start bytes) = s.searched in
      let rest : drop (suc (position_or_len is_line_feed (drop start bytes))) (drop start bytes) ≡ drop (end + 1) bytes =
      drop-drop (suc (position_or_len is_line_feed (drop start bytes))) start bytes ∙ ap (λ (k : ℕ). drop k bytes) (omega arith) in
      lines-text (drop start bytes) x (omega arith) (omega arith)
      ∙ (ap (λ (k : ℕ). Text (strip_carriage_return (take k (drop start bytes))) ∷ lines (drop (suc (position_or_len is_line_feed (drop start bytes))) (drop start bytes) ++ x)) n
      ∙ ap (λ (r : List ℕ). Text (strip_carriage_return (take (end - start) (drop start bytes))) ∷ lines (r ++ x)) rest)

  pub ahead_none : length bytes ≤ end → end - start ≤ LINE_MAX → lines (drop start bytes ++ []) ≡ []
  ahead_none over fits =
      let n : position_or_len is_line_feed (drop start bytes) ≡ end - start = before_is in
      let u : length (drop start bytes) ≡ length bytes - start = unread_len in
      let le : position_or_len is_line_feed (drop start bytes) ≤ length (drop start bytes) = position_or_len-le is_line_feed (drop start bytes) in
      let w : start ≤ length bytes = s.within in
      ap lines (append-nil (drop start bytes)) ∙ lines-open (drop start bytes) (omega arith) (omega arith)

  -- a chunk after bytes without an LF: only the chunk is searched
  pub searched_on : (chunk : List ℕ) → end ≡ length bytes → IsSearched (bytes ++ chunk) start (end + position_or_len is_line_feed chunk)
  searched_on chunk here =
      let u : length (drop start bytes) ≡ length bytes - start = unread_len in
      let w : start ≤ length bytes = s.within in
      let e : end ≡ start + position_or_len is_line_feed (drop start bytes) = s.searched in
      let all : position_or_len is_line_feed (drop start bytes) ≡ length (drop start bytes) = omega arith in
      let split : position_or_len is_line_feed (drop start bytes ++ chunk) ≡ length (drop start bytes) + position_or_len is_line_feed chunk =
      prefix_len-append (λ b. not (is_line_feed b)) (drop start bytes) chunk ∙ cond-true _ _ _ (eq-eqb (position_or_len is_line_feed (drop start bytes)) (length (drop start bytes)) all) in
      let len : length (bytes ++ chunk) ≡ length bytes + length chunk = length-append bytes chunk in
      let d : position_or_len is_line_feed (drop start (bytes ++ chunk)) ≡ position_or_len is_line_feed (drop start bytes ++ chunk) = ap (position_or_len is_line_feed) (drop-append-le start bytes chunk s.within) in
      record { within = omega arith; searched = omega arith }

  -- a chunk after bytes with an LF: its place stays
  pub searched_before : (chunk : List ℕ) → (end ≡ length bytes → ⊥) → IsSearched (bytes ++ chunk) start end
  searched_before chunk other =
      let u : length (drop start bytes) ≡ length bytes - start = unread_len in
      let w : start ≤ length bytes = s.within in
      let e : end ≡ start + position_or_len is_line_feed (drop start bytes) = s.searched in
      let not_all : position_or_len is_line_feed (drop start bytes) ≡ length (drop start bytes) → ⊥ = λ all. other (omega arith) in
      let split : position_or_len is_line_feed (drop start bytes ++ chunk) ≡ position_or_len is_line_feed (drop start bytes) =
      prefix_len-append (λ b. not (is_line_feed b)) (drop start bytes) chunk ∙ cond-false _ _ _ (ne_eqb (position_or_len is_line_feed (drop start bytes)) (length (drop start bytes)) not_all) in
      let len : length (bytes ++ chunk) ≡ length bytes + length chunk = length-append bytes chunk in
      let d : position_or_len is_line_feed (drop start (bytes ++ chunk)) ≡ position_or_len is_line_feed (drop start bytes ++ chunk) = ap (position_or_len is_line_feed) (drop-append-le start bytes chunk s.within) in
      record { within = omega arith; searched = omega arith }

  -- the buffer with these unread bytes
  abbrev pub open_buffer : Bool → Buffer
  open_buffer closed = record { unread = drop start bytes; closed = closed }

  cons_some : (l : List Line) (a : Line) (rest : List Line) → l ≡ a ∷ rest → l ≡ [] → ⊥
  cons_some l a rest e f = let h : a ∷ rest ≡ [] = sym e ∙ f in cc

  -- a line waits if an LF was found or too many bytes have come
  pub waits : (closed : Bool) → closed ≡ false → (end < length bytes) ⊎ (LINE_MAX < end - start) → ahead (open_buffer closed) [] ≡ [] → ⊥
  waits closed e which none = elim (cases_lt LINE_MAX (end - start)) [
    | inl over ↦ cons_some (ahead (open_buffer closed) []) TooLong [] (cond-false closed _ _ e ∙ ahead_long over []) none
    | inr fits ↦ elim which [
      | inl below ↦ cons_some (ahead (open_buffer closed) []) _ _ (cond-false closed _ _ e ∙ ahead_text below fits []) none
      | inr over ↦ absurd (omega arith)
    ]
  ]

  -- no line waits if no LF was found and the bytes are not too many
  pub waits_not : (closed : Bool) → length bytes ≤ end → end - start ≤ LINE_MAX → ahead (open_buffer closed) [] ≡ []
  waits_not true over fits = refl
  waits_not false over fits = ahead_none over fits

  first_of : (l : List Line) (a : Line) (rest : List Line) → l ≡ a ∷ rest → l ≡ a ∷ drop 1 l
  first_of l a rest e = e ∙ ap (λ (r : List Line). a ∷ drop 1 r) (sym e)

  pub first_long : (closed : Bool) → closed ≡ false → LINE_MAX < end - start → (x : List ℕ) → ahead (open_buffer closed) x ≡ TooLong ∷ drop 1 (ahead (open_buffer closed) x)
  first_long closed e over x = first_of (ahead (open_buffer closed) x) TooLong [] (cond-false closed _ _ e ∙ ahead_long over x)

  pub first_text : (closed : Bool) → closed ≡ false → end < length bytes → end - start ≤ LINE_MAX → (x : List ℕ)
      → ahead (open_buffer closed) x ≡ Text (strip_carriage_return (take (end - start) (drop start bytes))) ∷ drop 1 (ahead (open_buffer closed) x)
  first_text closed e below fits x = first_of (ahead (open_buffer closed) x) _ _ (cond-false closed _ _ e ∙ ahead_text below fits x)

  pub dropped_long : (closed : Bool) → LINE_MAX < end - start → (x : List ℕ) → [] ≡ drop 1 (ahead (open_buffer closed) x)
  dropped_long true over x = refl
  dropped_long false over x = ap (drop 1) (sym (ahead_long over x))

  pub dropped_text : (closed : Bool) (unread : List ℕ) → unread ≡ drop (end + 1) bytes → end < length bytes → end - start ≤ LINE_MAX → (x : List ℕ)
      → ahead (record { unread = unread; closed = closed }) x ≡ drop 1 (ahead (open_buffer closed) x)
  dropped_text true unread e below fits x = refl
  dropped_text false unread e below fits x = ap (λ (r : List ℕ). lines (r ++ x)) e ∙ ap (drop 1) (sym (ahead_text below fits x))

-- a line that is too long is no text
pub no_text : {text : List ℕ} {rest : List Line} → TooLong ∷ [] ≡ Text text ∷ rest → ⊥
no_text e = cc
