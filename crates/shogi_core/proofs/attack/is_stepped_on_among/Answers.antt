use Rattle.shogi_core.specs.Attack.{is_step_among}
use Rattle.shogi_core.proofs.Below.{some_below_found}
use Rattle.shogi_core.proofs.attack.is_stepped_on_among.Goals as goal

pub returns-in-Some : goal.returns-in-Some
returns-in-Some c = some_below_found 81 (is_step_among c.args.board.now c.args.among.bits c.args.square) _ c.in-Some.ensures.range c.in-Some.ensures.steps
