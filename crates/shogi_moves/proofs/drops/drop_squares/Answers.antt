use Rattle.std.proofs.Common.{◌≡◌, false, true, rules}
use Rattle.shogi_moves.proofs.DestinationLaws.{squares_free, squares_tried}
use Rattle.shogi_moves.specs.CheckInfo.{is_check, squares_of}
use Rattle.shogi_moves.proofs.drops.drop_squares.Goals as goal

pub returns-then-not-is_check : goal.returns-then-not-is_check
returns-then-not-is_check c =
    let quiet : (is_check c.args.known.now.info) ≡ false = search rules in
    squares_free c.args.known.now.position.now (is_check c.args.known.now.info) (squares_of c.args.known.now.info) c.free-free.result.bits c.args.known.now.right c.reveal_invariant.ensures.cells_fit quiet (rw c.as_board.ensures at c.free-free.ensures.squares)

pub returns : goal.returns
returns c =
    let check : (is_check c.args.known.now.info) ≡ true = search rules in
    squares_tried c.args.known.now.position.now (is_check c.args.known.now.info) (squares_of c.args.known.now.info) c.free-free.result.bits c.tried_drops.result.bits c.args.known.now.right c.reveal_invariant.ensures.cells_fit check (rw c.as_board.ensures at c.free-free.ensures.squares) (rw (c.bitand.ensures, c.squares.ensures) at c.tried_drops.ensures.squares)
