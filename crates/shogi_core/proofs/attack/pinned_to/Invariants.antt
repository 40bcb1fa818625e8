use Rattle.std.proofs.Common.{◌≡◌, ◌-◌, false}
use Rattle.shogi_core.specs.Attack.{slider_attacks_along}
use Rattle.shogi_core.specs.Below.{some_below}
use Rattle.shogi_core.specs.Pieces.{opponent_of}
use Rattle.shogi_core.proofs.Pins.{PinsTo}
use Rattle.shogi_core.proofs.attack.pinned_to.Given as goal

abbrev pub invariant-directions : goal.invariant-directions
invariant-directions l = record {
  pins : PinsTo l.board l.fn.side l.square l.left l.pinned.bits;
  clear : some_below l.left (slider_attacks_along l.board (opponent_of l.fn.side) l.square) ≡ false;
}

abbrev pub decreases-directions : goal.decreases-directions
decreases-directions l = 8 - l.left
