use Rattle.std.proofs.Common.{◌∙◌}
use Rattle.shogi_sfen.proofs.TextsFound.{move_read-is}
use Rattle.shogi_sfen.proofs.move_text.read_move.Goals as goal

pub returns : goal.returns
returns c = c.read_either.ensures ∙ move_read-is c.args.bytes.now
