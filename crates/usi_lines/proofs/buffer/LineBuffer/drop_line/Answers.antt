use Rattle.std.proofs.Common.{◌≡◌, ◌≤◌, ◌<◌, ◌-◌, ◌++◌, ◌∷◌, ◌∙◌, ℕ, List, Bool, false, ap, cond, subst, sym, arith, rules, inl, inr, length, take, drop, []}
use Rattle.std.specs.Str.Lines.{strip_carriage_return}
use Rattle.std.proofs.lemmas.Bool.{cases_lt, false_from_ne_true}
use Rattle.usi_lines.specs.Lines.{Line, Text, Buffer, ahead, lines}
use Rattle.usi_lines.proofs.Waiting.{waits_not, dropped_long, dropped_text, first_text, no_text}
use Rattle.usi_lines.proofs.buffer.LineBuffer.drop_line.Goals as goal
use Rattle.usi_lines.specs.declared.line.TheConstants.{LINE_MAX}

pub returns-then-self-gt-LINE_MAX-clause-rest : goal.returns-then-self-gt-LINE_MAX-clause-rest
returns-then-self-gt-LINE_MAX-clause-rest g c =
    let i = c.self.inside in
    let over : LINE_MAX < i.end - i.start = search rules in
    subst (λ (b : Buffer). (x : List ℕ) → let none : List Line = [] in none ≡ drop 1 (ahead b x)) c.self.view_is (dropped_long i.bytes.items i.start i.end c.self.invariant.0 i.closed over)

pub compact-self-inside-requires : goal.compact-self-inside-requires
compact-self-inside-requires g c =
    let i = c.self.inside in
    let fits : i.end - i.start ≤ LINE_MAX = search rules in
    elim (cases_lt i.end (length i.bytes.items)) [
      | inl below ↦ omega arith
      | inr over ↦ absurd (c.requires (subst (λ (b : Buffer). ahead b [] ≡ []) c.self.view_is (waits_not i.bytes.items i.start i.end c.self.invariant.0 i.closed over fits)))
    ]

pub returns-clause-rest : goal.returns-clause-rest
returns-clause-rest g c =
    let i = c.self.inside in
    let fits : i.end - i.start ≤ LINE_MAX = search rules in
    let below : i.end < length i.bytes.items = elim (cases_lt i.end (length i.bytes.items)) [
      | inl below ↦ below
      | inr over ↦ absurd (c.requires (subst (λ (b : Buffer). ahead b [] ≡ []) c.self.view_is (waits_not i.bytes.items i.start i.end c.self.invariant.0 i.closed over fits)))
    ] in
    subst (λ (b : Buffer). (x : List ℕ) → ahead (record { unread = drop c.compact-self-inside.result c.compact-self-inside.new.bytes.items; closed = i.closed }) x ≡ drop 1 (ahead b x)) c.self.view_is
    (dropped_text i.bytes.items i.start i.end c.self.invariant.0 i.closed (drop c.compact-self-inside.result c.compact-self-inside.new.bytes.items) c.compact-self-inside.ensures.kept below fits)

-- the first line is a text, since the buffer is open and its first LF lies within the bound
pub returns-clause-too_long : goal.returns-clause-too_long
returns-clause-too_long g c = λ long.
    let i = c.self.inside in
    let fits : i.end - i.start ≤ LINE_MAX = search rules in
    let below : i.end < length i.bytes.items = elim (cases_lt i.end (length i.bytes.items)) [
      | inl below ↦ below
      | inr over ↦ absurd (c.requires (subst (λ (b : Buffer). ahead b [] ≡ []) c.self.view_is (waits_not i.bytes.items i.start i.end c.self.invariant.0 i.closed over fits)))
    ] in
    let open_yet : i.closed ≡ false = false_from_ne_true i.closed (λ closed. c.requires (subst (λ (b : Buffer). ahead b [] ≡ []) c.self.view_is (ap (λ (k : Bool). cond k [] (lines (drop i.start i.bytes.items ++ []))) closed))) in
    let text : ahead c.args.self.now [] ≡ Text (strip_carriage_return (take (i.end - i.start) (drop i.start i.bytes.items))) ∷ drop 1 (ahead c.args.self.now []) =
    subst (λ (b : Buffer). ahead b [] ≡ Text (strip_carriage_return (take (i.end - i.start) (drop i.start i.bytes.items))) ∷ drop 1 (ahead b [])) c.self.view_is (first_text i.bytes.items i.start i.end c.self.invariant.0 i.closed open_yet below fits []) in
    absurd (no_text (sym long ∙ text))
