use Rattle.shogi_core.proofs.MaskLaws.{has_bit-kings}
use Rattle.shogi_core.proofs.board.Board.kings.Goals as goal

pub returns : goal.returns
returns c =
    let own = c.own.ensures.squares in
    rw (← c.self.view_is, c.self.invariant.3) (record { squares = λ n h. has_bit-kings c.self.inside.cells c.args.color c.own.result.bits n h ((rw (← c.self.view_is) at own) n h) })
