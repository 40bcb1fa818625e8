use Rattle.std.proofs.Common.{◌∙◌, refl}
use Rattle.shogi_core.proofs.SliderAttacks.{steps_alike}
use Rattle.shogi_core.proofs.attack.is_stepped_on.Goals as goal

pub returns : goal.returns
returns c = c.is_stepped_on_among.ensures ∙ steps_alike c.args.board.now c.args.board.now c.args.by c.own.result.bits c.own.ensures.squares (λ n l e. refl) c.args.square
