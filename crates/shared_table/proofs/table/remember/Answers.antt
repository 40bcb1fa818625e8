use Rattle.std.proofs.Common.{rules}
use Rattle.shared_table.proofs.RecentLaws.{put_noted}
use Rattle.shared_table.proofs.table.remember.Goals as goal

pub returns-else-is_err : goal.returns-else-is_err
returns-else-is_err g c = λ probes hits.
    put_noted c.args.key c.args.entry c.args.cache.now c.push.new.self c.args.refused.now probes hits c.push.result
    c.len.ensures.valid.2 c.len.ensures.valid.1 (search rules) c.push.ensures.entries
