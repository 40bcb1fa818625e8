use Rattle.std.proofs.Common.{◌∙◌, ap}
use Rattle.shogi_core.specs.Bits.{has_bit}
use Rattle.shogi_core.specs.Pieces.{opponent_of}
use Rattle.shogi_moves.specs.Origins.{put_from}
use Rattle.shogi_moves.proofs.DestinationLaws.{none_there}
use Rattle.shogi_replies.proofs.CheckLaws.{not_checking, unseen_squares}
use Rattle.shogi_replies.proofs.ReplyLaws.{harmless_far}
use Rattle.shogi_replies.proofs.replies.KnownReplies.checking_squares.Goals as goal

pub returns-then-is_empty : goal.returns-then-is_empty
returns-then-is_empty c = rw c.none.ensures (λ n h set out. harmless_far c.args.self.now.position.now.cells (opponent_of c.args.self.now.position.now.side) c.args.self.now.info.king_view.bits (put_from c.args.self.now.position.now c.args.origin.now) n c.args.self.now.right.sees h
    (unseen_squares c.args.destinations.bits c.args.self.now.info.king_view.bits n set (ap (λ m. has_bit m n) (rw c.bitand-seen.ensures at (none_there _ _ c.is_empty.ensures c.if-is_empty.true)) ∙ out)))

pub returns : goal.returns
returns c = rw (c.bitand.ensures, c.bitand-seen.ensures) (λ n h set out. not_checking c.args.self.now.position.now.cells (opponent_of c.args.self.now.position.now.side) (put_from c.args.self.now.position.now c.args.origin.now) c.args.destinations.bits c.args.self.now.info.king_view.bits c.check_squares.result.bits n c.args.self.now.right.sees
    (rw (c.opponent.ensures, c.side.ensures, c.put.ensures) at c.check_squares.ensures) h set out)
