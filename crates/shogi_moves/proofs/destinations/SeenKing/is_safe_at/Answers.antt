use Rattle.std.proofs.Common.{arith, ◌∙◌}
use Rattle.shogi_core.proofs.Kings.{only_king}
use Rattle.shogi_moves.proofs.KingLaws.{king_steps}
use Rattle.shogi_moves.proofs.destinations.SeenKing.is_safe_at.Goals as goal

pub returns : goal.returns
returns c = king_steps c.args.self.now.position.now c.args.self.now.from c.args.to _ c.reveal_invariant.ensures.cells_fit (omega arith) (omega arith) c.args.self.now.king (only_king c.args.self.now.position.now c.args.self.now.position.now.side c.args.self.now.from c.reveal_invariant.ensures (omega arith) c.args.self.now.king) ((rw (c.opponent.ensures, c.side.ensures) at c.is_attacked.ensures) ∙ c.args.self.now.shows c.args.to (omega arith))
