use Rattle.std.proofs.Common.{sym}
use Rattle.std.proofs.lemmas.Bool.{and_parts}
use Rattle.shogi_core.specs.Attack.{is_attacked}
use Rattle.shogi_core.specs.Pieces.{opponent_of}
use Rattle.shogi_core.specs.Cell.{is_king}
use Rattle.shogi_core.specs.Movement.{piece_at}
use Rattle.shogi_core.proofs.Answers.{check_stays_off}
use Rattle.shogi_core.proofs.board.Board.evasion_squares.Goals as goal

pub returns-then-is_open_king : goal.returns-then-is_open_king
returns-then-is_open_king c =
    let parts = and_parts (is_king c.args.side (piece_at c.args.self.now c.in-Some.king)) (is_attacked c.args.self.now (opponent_of c.args.side) c.in-Some.king) (sym c.if-is_open_king.ensures) in
    record {
      stays = λ _. check_stays_off c.evasion_squares_on.result.bits c.args.self.now c.args.side c.in-Some.king c.in-Some.ensures.some.range parts.0
          ((rw c.opponent.ensures at c.evasion_squares_on.ensures.stays) parts.1);
    }
