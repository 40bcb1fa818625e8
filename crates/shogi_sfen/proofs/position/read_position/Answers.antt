use Rattle.shogi_sfen.proofs.PositionLaws.{end_within}
use Rattle.shogi_sfen.proofs.SpelledPositions.{read-spelled, valid-read, answer-bad_board, answer-bad_side, answer-bad_hand, answer-invalid}
use Rattle.shogi_sfen.proofs.position.read_position.Goals as goal

pub returns : goal.returns
returns c =
    let text = c.args.text.now in
    let answer = c.position_at.ensures in
    record {
      value = answer;
      within = end_within text c.position_at.result answer;
      spelled = read-spelled text c.position_at.result answer;
      read = valid-read text c.position_at.result answer;
      bad_board = answer-bad_board text c.position_at.result answer;
      bad_side = answer-bad_side text c.position_at.result answer;
      bad_hand = answer-bad_hand text c.position_at.result answer;
      invalid = answer-invalid text c.position_at.result answer;
    }
