use Rattle.std.proofs.Common.{◌≡◌, ◌≢◌, ◌≤◌, ◌<◌, ◌-◌, ◌∷◌, ◌∙◌, ℕ, List, ap, subst, sym, rules, refl, inl, inr, length, take, drop, []}
use Rattle.std.specs.Str.Lines.{strip_carriage_return}
use Rattle.usi_lines.specs.Lines.{Text, TooLong, Buffer, ahead}
use Rattle.usi_lines.proofs.Waiting.{waits, waits_not, first_long, first_text, end_within}
use Rattle.usi_lines.proofs.buffer.LineBuffer.next_line.Goals as goal
use Rattle.usi_lines.specs.declared.line.TheConstants.{LINE_MAX}

pub slice_bounds-line-end : goal.slice_bounds-line-end
slice_bounds-line-end g c =
    let i = c.self.inside in
    let within : i.end ≤ length i.bytes.items = end_within i.bytes.items i.start i.end c.self.invariant.0 in
    search rules

pub returns-then-self-gt-LINE_MAX-clause-if_none : goal.returns-then-self-gt-LINE_MAX-clause-if_none
returns-then-self-gt-LINE_MAX-clause-if_none g c =
    let i = c.self.inside in
    let over : LINE_MAX < i.end - i.start = search rules in
    let some = subst (λ (b : Buffer). ahead b [] ≢ []) c.self.view_is (waits i.bytes.items i.start i.end c.self.invariant.0 i.closed c.if-self.false (inr over)) in
    (λ e. cc, λ e. absurd (some e))

pub returns-then-self-gt-LINE_MAX-clause-first : goal.returns-then-self-gt-LINE_MAX-clause-first
returns-then-self-gt-LINE_MAX-clause-first g c =
    let i = c.self.inside in
    let over : LINE_MAX < i.end - i.start = search rules in
    subst (λ (b : Buffer). (x : List ℕ) → ahead b x ≡ TooLong ∷ drop 1 (ahead b x)) c.self.view_is (first_long i.bytes.items i.start i.end c.self.invariant.0 i.closed c.if-self.false over)

pub returns-then-self-len-clause-if_none : goal.returns-then-self-len-clause-if_none
returns-then-self-len-clause-if_none g c =
    let i = c.self.inside in
    let over : length i.bytes.items ≤ i.end = search rules in
    let fits : i.end - i.start ≤ LINE_MAX = search rules in
    (λ e. subst (λ (b : Buffer). ahead b [] ≡ []) c.self.view_is (waits_not i.bytes.items i.start i.end c.self.invariant.0 i.closed over fits), λ e. refl)

pub returns-clause-if_none : goal.returns-clause-if_none
returns-clause-if_none g c =
    let i = c.self.inside in
    let within : i.end ≤ length i.bytes.items = end_within i.bytes.items i.start i.end c.self.invariant.0 in
    let below : i.end < length i.bytes.items = search rules in
    let some = subst (λ (b : Buffer). ahead b [] ≢ []) c.self.view_is (waits i.bytes.items i.start i.end c.self.invariant.0 i.closed c.if-self.false (inl below)) in
    (λ e. cc, λ e. absurd (some e))

pub returns-clause-first : goal.returns-clause-first
returns-clause-first g c =
    let i = c.self.inside in
    let within : i.end ≤ length i.bytes.items = end_within i.bytes.items i.start i.end c.self.invariant.0 in
    let below : i.end < length i.bytes.items = search rules in
    let fits : i.end - i.start ≤ LINE_MAX = search rules in
    let text : strip_carriage_return (take (i.end - i.start) (drop i.start i.bytes.items)) ≡ c.without_return.result.now =
    sym (c.without_return.ensures ∙ ap (λ (t : List ℕ). strip_carriage_return (take (i.end - i.start) (drop i.start t))) c.deref.ensures.value) in
    subst (λ (t : List ℕ). (x : List ℕ) → ahead c.args.self.now x ≡ Text t ∷ drop 1 (ahead c.args.self.now x)) text
    (subst (λ (b : Buffer). (x : List ℕ) → ahead b x ≡ Text (strip_carriage_return (take (i.end - i.start) (drop i.start i.bytes.items))) ∷ drop 1 (ahead b x)) c.self.view_is
    (first_text i.bytes.items i.start i.end c.self.invariant.0 i.closed c.if-self.false below fits))
