use Rattle.std.proofs.Common.{◌≡◌, ◌∙◌, length, rules}
use Rattle.std.specs.Prelude.{unwrap_or}
use Rattle.usi_lines.proofs.Waiting.{first_feed}
use Rattle.usi_lines.proofs.line.line_len.Goals as goal

pub returns-clause-value : goal.returns-clause-value
returns-clause-value c =
    let found : c.unwrap_or.result ≡ unwrap_or c.memchr.result (length c.args.bytes.now) = search rules in
    found ∙ first_feed c.args.bytes.now c.memchr.result c.memchr.ensures
