-- The lines of the input, answered one after another.
use Rattle.std.proofs.Common.{◌≡◌, ◌≢◌, ◌<◌, ◌+◌, ℕ, List, [], ◌∷◌, ◌++◌, Bool, Option, None, Some, Result, Ok, Err, refl, sym, subst, ap, ◌∙◌, append_assoc, append-nil, true, false, length, take, drop, arith}
use Rattle.std.specs.Prelude.{◌||◌}
use Rattle.std.specs.List.{list_any}
use Rattle.std.specs.Io.KnownBytes.{IsAtEnd}
use Rattle.usi_lines.specs.Lines.{Buffer, IsAheadAfter, IsFirstAhead, Line, ahead, lines}
use Rattle.usi_lines.specs.declared.line.TheConstants.{LINE_FEED}
use Rattle.usi_moves.specs.MateAnswers.{has_bad_line, input_answers, is_bad, line_answer, line_answers}
use Rattle.usi_moves.specs.declared.solutions.MateOptions.{MateOptions}
use Rattle.usi_stdio.specs.Calls.{ReadsInput, StdioReport}
use Rattle.usi_stdio.specs.Saying.{SaysFlushed, SaysPrefix}
use Rattle.usi_stdio.specs.declared.streams.StdioFault.{StdioFault}
use Rattle.usi_stdio.specs.declared.streams.StdioFault.TheVariants.{OutOfMemory}
use Rattle.usi_stdio.proofs.Talking.{says_nothing, says_then}
use Rattle.usi_app.specs.Mates.{IsInputAnswered, IsAnsweredInPart, IsChunkAnswered, IsChunkCutShort, IsExchange, IsLineAnswered, IsLineCutShort, IsPartAnswered, owed_answers, owes_bad}
use Rattle.usi_app.specs.declared.mates.Answered.{Answered}
use Rattle.usi_app.proofs.Exchanges.{exchange_failed, exchange_none, exchange_read, exchange_said, prefix_none, prefix_then}

-- ---- the first line ahead

first_answers : (options : MateOptions) (number : ℕ) (ls : List Line) (line : Line) → ls ≡ line ∷ drop 1 ls → line_answers options number ls ≡ line_answer options number line ++ line_answers options (number + 1) (drop 1 ls)
first_answers options number ls line e = ap (line_answers options number) e

first_bad : (ls : List Line) (line : Line) → ls ≡ line ∷ drop 1 ls → list_any is_bad ls ≡ (is_bad line || list_any is_bad (drop 1 ls))
first_bad ls line e = ap (list_any is_bad) e

or_assoc : (a b c : Bool) → (a || (b || c)) ≡ ((a || b) || c)
or_assoc true b c = refl
or_assoc false b c = refl

or_none : (a : Bool) → (a || false) ≡ a
or_none true = refl
or_none false = refl

pub fewer_ahead : (old new : Buffer) (line : Line) → IsFirstAhead old line → ((x : List ℕ) → ahead new x ≡ drop 1 (ahead old x)) → length (ahead new []) < length (ahead old [])
fewer_ahead old new line first rest =
    let one : length (ahead old []) ≡ length (line ∷ drop 1 (ahead old [])) = ap length (first []) in
    let fewer : length (ahead new []) ≡ length (drop 1 (ahead old [])) = ap length (rest []) in
    omega arith

pub some_ahead : (b : Buffer) (line : Line) → IsFirstAhead b line → ahead b [] ≢ []
some_ahead b line first none = let bad : line ∷ drop 1 (ahead b []) ≡ [] = sym (first []) ∙ none in cc

-- ---- a line

answer_is : (number lines : ℕ) (options : MateOptions) (line : Line) (bytes items fresh : List ℕ) → number ≡ lines + 1 → bytes ≡ items → fresh ≡ [] → items ≡ fresh ++ line_answer options number line → bytes ≡ line_answer options (lines + 1) line
answer_is number lines options line bytes items fresh next same empty is =
    same ∙ (is ∙ (ap (λ xs. xs ++ line_answer options number line) empty ∙ ap (λ (k : ℕ). line_answer options k line) next))

-- the answer of the line was written
pub line_done : (options : MateOptions) (line : Line) (before after : Answered) (number : ℕ) (bad : Bool) (bytes items fresh : List ℕ) (old new : StdioReport) → number ≡ before.lines + 1 → bytes ≡ items → fresh ≡ []
    → (items ≡ fresh ++ line_answer options number line) × (bad ≡ is_bad line) → SaysFlushed old new bytes → after.lines ≡ number → after.bad ≡ (before.bad || bad) → IsLineAnswered options line before after old new
line_done options line before after number bad bytes items fresh old new next same empty is said lines_are bad_is = record {
  said = subst (λ xs. SaysFlushed old new xs) (answer_is number before.lines options line bytes items fresh next same empty is.0) said;
  number = lines_are ∙ next;
  bad = bad_is ∙ ap (λ (b : Bool). before.bad || b) is.1;
}

-- a prefix of the answer was written
pub line_cut : (options : MateOptions) (line : Line) (before : Answered) (number : ℕ) (bad : Bool) (bytes items fresh : List ℕ) (old new : StdioReport) (fault : StdioFault) → number ≡ before.lines + 1 → bytes ≡ items → fresh ≡ []
    → (items ≡ fresh ++ line_answer options number line) × (bad ≡ is_bad line) → SaysPrefix old new bytes fault → IsLineCutShort options line before old new fault
line_cut options line before number bad bytes items fresh old new fault next same empty is cut =
    subst (λ xs. SaysPrefix old new xs fault) (answer_is number before.lines options line bytes items fresh next same empty is.0) cut

-- ---- a chunk

-- before the first line of the chunk
pub part_start : (options : MateOptions) (chunk : List ℕ) (answered : Answered) (old new : Buffer) (r : StdioReport) → IsAheadAfter chunk old new → IsPartAnswered options chunk answered old answered new r r
part_start options chunk answered old new r after = record {
  made = [];
  written = says_nothing r;
  owes = λ x. ap (line_answers options (answered.lines + 1)) (sym (after x));
  bad = λ x. ap (λ (ls : List Line). answered.bad || list_any is_bad ls) (sym (after x));
}

-- one more line was answered
pub part_more : (options : MateOptions) (chunk : List ℕ) (before mid after : Answered) (buffered was left : Buffer) (line : Line) (old now new : StdioReport) → IsPartAnswered options chunk before buffered mid was old now → IsFirstAhead was line → IsLineAnswered options line mid after now new
    → ((x : List ℕ) → ahead left x ≡ drop 1 (ahead was x)) → IsPartAnswered options chunk before buffered after left old new
part_more options chunk before mid after buffered was left line old now new p first one rest = record {
  made = p.made ++ line_answer options (mid.lines + 1) line;
  written = says_then old now new p.made (line_answer options (mid.lines + 1) line) true None p.written one.said;
  owes = λ x.
      p.owes x ∙ (ap (λ xs. p.made ++ xs)
      (first_answers options (mid.lines + 1) (ahead was x) line (first x)
      ∙ ap (λ xs. line_answer options (mid.lines + 1) line ++ xs)
      (ap (λ (ls : List Line). line_answers options ((mid.lines + 1) + 1) ls) (sym (rest x))
      ∙ ap (λ (k : ℕ). line_answers options (k + 1) (ahead left x)) (sym one.number)))
      ∙ sym (append_assoc p.made (line_answer options (mid.lines + 1) line) (owed_answers options after left x)));
  bad = λ x.
      p.bad x ∙ (ap (λ (b : Bool). mid.bad || b) (first_bad (ahead was x) line (first x))
      ∙ (or_assoc mid.bad (is_bad line) (list_any is_bad (drop 1 (ahead was x)))
      ∙ (ap (λ (b : Bool). b || list_any is_bad (drop 1 (ahead was x))) (sym one.bad)
      ∙ ap (λ (ls : List Line). after.bad || list_any is_bad ls) (sym (rest x)))));
}

-- the answer of the current line was cut short
pub part_cut : (options : MateOptions) (chunk : List ℕ) (before mid : Answered) (buffered was : Buffer) (line : Line) (old now new : StdioReport) (fault : StdioFault) → IsPartAnswered options chunk before buffered mid was old now → IsFirstAhead was line → IsLineCutShort options line mid now new fault
    → IsChunkCutShort options chunk before buffered old new fault
part_cut options chunk before mid buffered was line old now new fault p first cut = λ x.
    prefix_then old now new p.made (line_answer options (mid.lines + 1) line) (line_answers options ((mid.lines + 1) + 1) (drop 1 (ahead was x))) (owed_answers options before buffered (chunk ++ x)) fault p.written cut
    (p.owes x ∙ ap (λ xs. p.made ++ xs) (first_answers options (mid.lines + 1) (ahead was x) line (first x)))

-- memory ran out for the chunk
pub part_none : (options : MateOptions) (chunk : List ℕ) (before : Answered) (buffered : Buffer) (r : StdioReport) → IsChunkCutShort options chunk before buffered r r OutOfMemory
part_none options chunk before buffered r = λ x. prefix_none r (owed_answers options before buffered (chunk ++ x))

-- ---- the input

-- between two reads: the answers are the bytes written and the answers still owed
pub record IsBetween (options : MateOptions) (before now : StdioReport) (answered : Answered) (buffer : Buffer) : Type 0 where
  pub read : List ℕ
  pub made : List ℕ
  pub exchanged : IsExchange before now read made
  pub owes : (x : List ℕ) → made ++ owed_answers options answered buffer x ≡ line_answers options 1 (lines (read ++ x))
  pub bad : (x : List ℕ) → owes_bad answered buffer x ≡ list_any is_bad (lines (read ++ x))

pub between_start : (options : MateOptions) (r : StdioReport) (answered : Answered) (buffer : Buffer) → buffer ≡ record { unread = []; closed = false } → answered ≡ record { lines = 0; bad = false } → IsBetween options r r answered buffer
between_start options r answered buffer e f = rw (e, f) (record {
  read = [];
  made = [];
  exchanged = exchange_none r;
  owes = λ x. refl;
  bad = λ x. refl;
})

-- a chunk was read and answered
pub between_more : {E : Type 0} (options : MateOptions) (before mid now new : StdioReport) (answered after : Answered) (buffer left : Buffer) (buf chunk : List ℕ) (n : ℕ) → IsBetween options before mid answered buffer → ReadsInput {E = E} mid now (Ok n) buf → chunk ≡ take n buf
    → IsPartAnswered options chunk answered buffer after left now new → IsBetween options before new after left
between_more options before mid now new answered after buffer left buf chunk n b r same p = record {
  read = b.read ++ chunk;
  made = b.made ++ p.made;
  exchanged = exchange_said true None before now new (b.read ++ chunk) b.made p.made (exchange_read before mid now b.read b.made buf chunk n b.exchanged r same) p.written;
  owes = λ x.
      append_assoc b.made p.made (owed_answers options after left x)
      ∙ (ap (λ xs. b.made ++ xs) (sym (p.owes x)) ∙ (b.owes (chunk ++ x) ∙ ap (λ xs. line_answers options 1 (lines xs)) (sym (append_assoc b.read chunk x))));
  bad = λ x. sym (p.bad x) ∙ (b.bad (chunk ++ x) ∙ ap (λ xs. list_any is_bad (lines xs)) (sym (append_assoc b.read chunk x)));
}

-- a read failed, and no more was written
pub between_left : {E : Type 0} (options : MateOptions) (before mid new : StdioReport) (answered : Answered) (buffer : Buffer) (buf : List ℕ) (error : E) → IsBetween options before mid answered buffer → ReadsInput mid new (Err error) buf → IsAnsweredInPart options before new
between_left options before mid new answered buffer buf error b r = record {
  read = b.read;
  written = b.made;
  left = owed_answers options answered buffer (LINE_FEED ∷ []);
  exchanged = exchange_failed before mid new b.read b.made buf error b.exchanged r;
  split = sym (b.owes (LINE_FEED ∷ []));
}

pub between_many : (options : MateOptions) (before now : StdioReport) (answered : Answered) (buffer : Buffer) → IsBetween options before now answered buffer → IsAnsweredInPart options before now
between_many options before now answered buffer b = record {
  read = b.read;
  written = b.made;
  left = owed_answers options answered buffer (LINE_FEED ∷ []);
  exchanged = b.exchanged;
  split = sym (b.owes (LINE_FEED ∷ []));
}

-- a fault while a chunk was answered
pub between_cut : {E : Type 0} (options : MateOptions) (before mid now new : StdioReport) (answered : Answered) (buffer : Buffer) (buf chunk : List ℕ) (n : ℕ) (fault : StdioFault) → IsBetween options before mid answered buffer → ReadsInput {E = E} mid now (Ok n) buf → chunk ≡ take n buf
    → IsChunkCutShort options chunk answered buffer now new fault → IsAnsweredInPart options before new
between_cut options before mid now new answered buffer buf chunk n fault b r same cut =
    let prefix = cut (LINE_FEED ∷ []) in
    record {
      read = b.read ++ chunk;
      written = b.made ++ prefix.1.done;
      left = prefix.0;
      exchanged = exchange_said prefix.1.is_flushed _ before now new (b.read ++ chunk) b.made prefix.1.done (exchange_read before mid now b.read b.made buf chunk n b.exchanged r same) prefix.1.said;
      split = ap (λ xs. line_answers options 1 (lines xs)) (append_assoc b.read chunk (LINE_FEED ∷ []))
          ∙ (sym (b.owes (chunk ++ LINE_FEED ∷ [])) ∙ (ap (λ xs. b.made ++ xs) prefix.1.split ∙ sym (append_assoc b.made prefix.1.done prefix.0)));
    }

-- ---- the end of the input

-- the last read gave no byte
at_end : {E : Type 0} (options : MateOptions) (before mid now : StdioReport) (answered : Answered) (buffer : Buffer) (buf : List ℕ) (n : ℕ) → IsBetween options before mid answered buffer → ReadsInput {E = E} mid now (Ok n) buf → n ≡ 0 → IsBetween options before now answered buffer
at_end options before mid now answered buffer buf n b r none =
    let empty : [] ≡ take n buf = sym (ap (λ (k : ℕ). take k buf) none) in
    record {
      read = b.read;
      made = b.made;
      exchanged = subst (λ xs. IsExchange before now xs b.made) (append-nil b.read) (exchange_read before mid now b.read b.made buf [] n b.exchanged r empty);
      owes = b.owes;
      bad = b.bad;
    }

-- the last line was answered, and none is left
pub between_end : {E : Type 0} (options : MateOptions) (before mid now new : StdioReport) (answered after : Answered) (buffer left : Buffer) (buf : List ℕ) (n : ℕ) → IsBetween options before mid answered buffer → ReadsInput {E = E} mid now (Ok n) buf → n ≡ 0 → IsAtEnd now.unread
    → IsChunkAnswered options (LINE_FEED ∷ []) answered buffer after left now new → IsInputAnswered options before new after.bad
between_end options before mid now new answered after buffer left buf n b r none ended a =
    let e = at_end options before mid now answered buffer buf n b r none in
    let whole : input_answers options e.read ≡ e.made ++ a.part.made =
    sym (e.owes (LINE_FEED ∷ []))
    ∙ (ap (λ xs. e.made ++ xs) (a.part.owes [] ∙ (ap (λ (ls : List Line). a.part.made ++ line_answers options (after.lines + 1) ls) a.settled ∙ append-nil a.part.made))) in
    record {
      read = e.read;
      exchanged = subst (λ xs. IsExchange before new e.read xs) (sym whole) (exchange_said true None before now new e.read e.made a.part.made e.exchanged a.part.written);
      ended = rw a.part.written.unread ended;
      told = sym (or_none after.bad) ∙ (ap (λ (ls : List Line). after.bad || list_any is_bad ls) (sym a.settled) ∙ (sym (a.part.bad []) ∙ e.bad (LINE_FEED ∷ [])));
    }

-- a prefix of the last line's answer was written
pub between_cut_at_end : {E : Type 0} (options : MateOptions) (before mid now new : StdioReport) (answered : Answered) (buffer : Buffer) (buf : List ℕ) (n : ℕ) (fault : StdioFault) → IsBetween options before mid answered buffer → ReadsInput {E = E} mid now (Ok n) buf → n ≡ 0
    → IsChunkCutShort options (LINE_FEED ∷ []) answered buffer now new fault → IsAnsweredInPart options before new
between_cut_at_end options before mid now new answered buffer buf n fault b r none cut =
    let e = at_end options before mid now answered buffer buf n b r none in
    let prefix = cut [] in
    record {
      read = e.read;
      written = e.made ++ prefix.1.done;
      left = prefix.0;
      exchanged = exchange_said prefix.1.is_flushed _ before now new e.read e.made prefix.1.done e.exchanged prefix.1.said;
      split = sym (e.owes (LINE_FEED ∷ [])) ∙ (ap (λ xs. e.made ++ xs) prefix.1.split ∙ sym (append_assoc e.made prefix.1.done prefix.0));
    }
