use Rattle.shogi_core.proofs.SliderAttacks.{steps_first, steps_among}
use Rattle.shogi_core.proofs.attack.first_stepper.Goals as goal

pub squares-init : goal.squares-init
squares-init c = rw (c.iter-left.ensures, c.bitand.ensures) (record {
  covers = steps_first c.args.board.now c.args.square c.args.among.bits c.near_squares.result.bits c.near_squares.ensures.squares;
  among = λ n h e. steps_among c.near_squares.result.bits c.args.among.bits n e;
})
