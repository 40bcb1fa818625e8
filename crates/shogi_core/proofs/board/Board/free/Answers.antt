use Rattle.std.proofs.Common.{rules}
use Rattle.std.specs.Prelude.{is_none}
use Rattle.shogi_core.specs.Movement.{piece_at}
use Rattle.shogi_core.proofs.LineBits.{free_bit}
use Rattle.shogi_core.proofs.board.Board.free.Goals as goal

pub returns : goal.returns
returns c = record { squares = λ n h. free_bit c.occupied.result.bits n (is_none (piece_at c.args.self.now n)) (search rules) h (c.occupied.ensures n h) }
