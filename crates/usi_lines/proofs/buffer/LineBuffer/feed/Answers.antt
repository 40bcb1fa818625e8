use Rattle.std.proofs.Common.{◌≡◌, ◌≤◌, ◌+◌, ◌++◌, ℕ, List, subst, sym, rules, length}
use Rattle.std.specs.List.{position_or_len}
use Rattle.usi_lines.specs.Lines.{is_line_feed, IsSearched}
use Rattle.usi_lines.proofs.Waiting.{searched_on, searched_before}
use Rattle.usi_lines.proofs.buffer.LineBuffer.feed.Goals as goal

-- after a chunk that is not empty some bytes are unread
pub invariant_of-self-then-self-len : goal.invariant_of-self-then-self-len
invariant_of-self-then-self-len g c =
    let i = c.self.inside in
    let here : i.end ≡ length i.bytes.items = search rules in
    let items : c.extend_from_slice.new.self.items ≡ i.bytes.items ++ c.args.chunk.now = search rules in
    let len : c.line_len.result ≡ position_or_len is_line_feed c.args.chunk.now = c.line_len.ensures.value in
    let within : i.start ≤ length i.bytes.items = c.self.invariant.0.within in
    let on = searched_on i.bytes.items i.start i.end c.self.invariant.0 c.args.chunk.now here in (
      subst (λ (n : ℕ). IsSearched c.extend_from_slice.new.self.items i.start (i.end + n)) (sym len)
          (subst (λ (bytes : List ℕ). IsSearched bytes i.start (i.end + position_or_len is_line_feed c.args.chunk.now)) (sym items) on),
      λ all. search rules,
    )

pub invariant_of-self-else-self-len : goal.invariant_of-self-else-self-len
invariant_of-self-else-self-len g c =
    let i = c.self.inside in
    let other : i.end ≡ length i.bytes.items → ⊥ = λ e. search rules in
    let items : c.extend_from_slice.new.self.items ≡ i.bytes.items ++ c.args.chunk.now = search rules in
    let within : i.start ≤ length i.bytes.items = c.self.invariant.0.within in (
      subst (λ (bytes : List ℕ). IsSearched bytes i.start i.end) (sym items) (searched_before i.bytes.items i.start i.end c.self.invariant.0 c.args.chunk.now other),
      λ all. search rules,
    )
