use Rattle.std.proofs.Common.{rules, ◌≤◌, length, arith}
use Rattle.usi_lines.proofs.Cutting.{first_text, first_long, first_none}
use Rattle.usi_lines.proofs.first.first_line.Goals as goal

pub returns-then-len-gt-LINE_MAX-clause-first : goal.returns-then-len-gt-LINE_MAX-clause-first
returns-then-len-gt-LINE_MAX-clause-first c = first_long c.args.bytes.now c.line_len-len.result c.line_len-len.ensures.value (search rules)

pub returns-then-len-bytes-clause-if_none : goal.returns-then-len-bytes-clause-if_none
returns-then-len-bytes-clause-if_none c = first_none c.args.bytes.now c.line_len-len.result c.line_len-len.ensures.value (search rules) (search rules)

pub returns-clause-first : goal.returns-clause-first
returns-clause-first c =
    let b : c.line_len-len.result ≤ length c.args.bytes.now = c.line_len-len.ensures.most in
    let t = first_text c.args.bytes.now c.line_len-len.result c.line_len-len.ensures.value (omega arith) (search rules) in
    search (rules, t)
