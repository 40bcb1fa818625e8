use Rattle.std.proofs.Common.{◌≡◌, ◌+◌, ◌∙◌, ap, take, ℕ}
use Rattle.usi_lines.specs.OneLine.{one_line}
use Rattle.usi_lines.proofs.OneLines.{one_line_once}
use Rattle.usi_lines.proofs.line.cut_line.Goals as goal

-- the cut comes right after the first LF
pub returns-clause-one : goal.returns-clause-one
returns-clause-one c =
    let front : c.split_at-2.result.0.now ≡ one_line c.args.bytes.now = c.split_at-2.ensures.front ∙ ap (λ (k : ℕ). take (k + 1) c.args.bytes.now) c.line_len-end.ensures.value in
    rw front (one_line_once c.args.bytes.now)
