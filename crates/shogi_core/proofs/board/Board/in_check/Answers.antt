use Rattle.std.proofs.Common.{rules}
use Rattle.shogi_core.specs.Attack.{in_check, is_open_king}
use Rattle.shogi_core.proofs.Below.{some_below_found}
use Rattle.shogi_core.proofs.board.Board.in_check.Goals as goal

pub returns-then-is_open_king : goal.returns-then-is_open_king
unfolding in_check
returns-then-is_open_king c =
    some_below_found 81 (is_open_king c.args.self.now c.args.side) c.in-Some.king c.in-Some.ensures.some.range (search rules)
