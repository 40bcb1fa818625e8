use Rattle.shogi_core.specs.Attack.{slider_attacks_along}
use Rattle.shogi_core.proofs.Below.{some_below_found}
use Rattle.shogi_core.proofs.attack.slider_attacks.Goals as goal

pub returns-in-Some : goal.returns-in-Some
returns-in-Some c = some_below_found 8 (slider_attacks_along c.args.board.now c.args.by c.args.square) _ c.in-Some.ensures.range c.in-Some.ensures.shot
