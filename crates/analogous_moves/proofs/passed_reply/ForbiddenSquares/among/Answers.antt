use Rattle.std.proofs.Common.{◌∙◌}
use Rattle.analogous_moves.proofs.PassedReplyLaws.{off_non_promoting, off_promoting, targets_within}
use Rattle.analogous_moves.proofs.passed_reply.ForbiddenSquares.among.Goals as goal

pub returns-clause-within : goal.returns-clause-within
returns-clause-within c = λ n set. targets_within c.args.targets.bits c.bitor.result.bits n (rw c.bitand.ensures at set)

pub returns-clause-non_promoting : goal.returns-clause-non_promoting
returns-clause-non_promoting c = λ n on out. off_non_promoting c.args.targets.bits c.args.self.now.non_promoting.bits c.bitand-promoting.result.bits n on (rw (c.bitand.ensures, c.bitor.ensures) at out)

pub returns-clause-promoting : goal.returns-clause-promoting
returns-clause-promoting c = λ n h on out may. off_promoting c.args.targets.bits c.args.self.now.non_promoting.bits c.args.self.now.promoting.bits c.promoting_squares.result.bits c.bitand-promoting.result.bits n c.bitand-promoting.ensures on (rw (c.bitand.ensures, c.bitor.ensures) at out) (c.promoting_squares.ensures.squares n h ∙ may)
