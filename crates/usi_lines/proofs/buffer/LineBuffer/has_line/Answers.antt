use Rattle.std.proofs.Common.{◌≡◌, ◌≢◌, ◌<◌, ◌≤◌, ◌-◌, subst, rules, false, inl, inr, length, []}
use Rattle.std.proofs.lemmas.Bool.{lt-ltb, ltb-true, cases_lt}
use Rattle.usi_lines.specs.Lines.{Buffer, ahead}
use Rattle.usi_lines.proofs.Waiting.{waits, waits_not}
use Rattle.usi_lines.proofs.buffer.LineBuffer.has_line.Goals as goal
use Rattle.usi_lines.specs.declared.line.TheConstants.{LINE_MAX}

pub returns-then-self-len : goal.returns-then-self-len
returns-then-self-len g c =
    let i = c.self.inside in
    let alive : i.closed ≡ false = search rules in
    let below : i.end < length i.bytes.items = search rules in
    (λ t. subst (λ (b : Buffer). ahead b [] ≢ []) c.self.view_is (waits i.bytes.items i.start i.end c.self.invariant.0 i.closed alive (inl below)), λ h. search rules)

pub returns-else-self-len : goal.returns-else-self-len
returns-else-self-len g c =
    let i = c.self.inside in
    let alive : i.closed ≡ false = search rules in
    let over : length i.bytes.items ≤ i.end = search rules in (
      λ t. subst (λ (b : Buffer). ahead b [] ≢ []) c.self.view_is (waits i.bytes.items i.start i.end c.self.invariant.0 i.closed alive (inr (ltb-true LINE_MAX (i.end - i.start) t))),
      λ h. elim (cases_lt LINE_MAX (i.end - i.start)) [
        | inl long ↦ lt-ltb LINE_MAX (i.end - i.start) long
        | inr fits ↦ absurd (h (subst (λ (b : Buffer). ahead b [] ≡ []) c.self.view_is (waits_not i.bytes.items i.start i.end c.self.invariant.0 i.closed over fits)))
      ],
    )
