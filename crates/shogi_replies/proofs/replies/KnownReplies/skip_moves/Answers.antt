use Rattle.std.proofs.Common.{arith}
use Rattle.shogi_replies.proofs.PassLaws.{passed_on}
use Rattle.shogi_replies.proofs.replies.KnownReplies.skip_moves.Goals as goal

pub returns-then-is_empty-2-clause-passed : goal.returns-then-is_empty-2-clause-passed
returns-then-is_empty-2-clause-passed c = passed_on _ _ _ _ (c.skip_destinations.ensures.passed.passed c.args.sweep.now.code (omega arith)) (c.skip_pieces.ensures.passed.passed c.args.sweep.now.code c.skip_destinations.ensures.passed.up)
