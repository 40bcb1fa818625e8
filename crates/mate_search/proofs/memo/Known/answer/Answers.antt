use Rattle.std.proofs.Common.{◌≤◌, sym, arith}
use Rattle.mate_search.specs.declared.by_checks.TheConstants.{MOVES_MAX}
use Rattle.mate_search.proofs.BoundLaws.{known_mating, known_failing}
use Rattle.mate_search.proofs.memo.Known.answer.Goals as goal

pub returns-then-self-n : goal.returns-then-self-n
returns-then-self-n c = known_mating c.args.self.now.position c.args.self.now.mates c.args.self.now.fails c.args.n c.args.self.now.bounds (search arith) (search arith)

pub returns-then-n-self : goal.returns-then-n-self
returns-then-n-self c = known_failing c.args.self.now.position c.args.self.now.mates c.args.self.now.fails c.args.n c.args.self.now.bounds (search arith)
