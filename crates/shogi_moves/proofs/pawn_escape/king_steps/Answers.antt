use Rattle.std.proofs.Common.{◌≡◌, ◌-◌, ◌^◌, ◌∙◌, ap, bit_and}
use Rattle.shogi_core.specs.Pieces.{opponent_of}
use Rattle.shogi_moves.proofs.EscapeLaws.{found_steps}
use Rattle.shogi_moves.proofs.ExistenceLaws.{king_ways}
use Rattle.shogi_moves.proofs.pawn_escape.king_steps.Goals as goal

pub returns : goal.returns
returns c =
    let side : c.opponent-side.result ≡ opponent_of c.args.p.now.side = c.opponent-side.ensures ∙ ap opponent_of c.side.ensures in
    rw c.without.ensures (found_steps c.args.p.now c.in-Some.king (bit_and c.targets.result.bits (2 ^ 128 - 1 - c.own.result.bits))
    (rw side at c.in-Some.ensures.lone)
    (king_ways (record { cells = c.args.p.now.cells; hands = c.args.p.now.hands; side = opponent_of c.args.p.now.side }) c.in-Some.king c.targets.result.bits c.own.result.bits c.own.result.fits (rw c.as_board-board.ensures at c.targets.ensures.squares) (rw (side, c.as_board-board.ensures) at c.own.ensures.squares)))
