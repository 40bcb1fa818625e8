use Rattle.std.proofs.Common.{◌≡◌, ◌∙◌, ap}
use Rattle.shogi_core.specs.declared.bits.TheConstants.{ALL_SQUARES}
use Rattle.shogi_core.specs.Pieces.{opponent_of}
use Rattle.shogi_replies.proofs.ReplyLaws.{discovers_anywhere, discovers_by_lines}
use Rattle.shogi_core.proofs.ZoneLaws.{all_squares}
use Rattle.shogi_replies.proofs.replies.KnownReplies.discovering_squares.Goals as goal

pub returns-then-may_discover_check : goal.returns-then-may_discover_check
returns-then-may_discover_check c = rw c.all.ensures (discovers_anywhere c.args.self.now.position.now.cells (opponent_of c.args.self.now.position.now.side) c.args.self.now.info.king_view.bits c.args.from ALL_SQUARES all_squares)

pub returns-then-has : goal.returns-then-has
returns-then-has c =
    let side : c.opponent-side.result ≡ opponent_of c.args.self.now.position.now.side = c.opponent-side.ensures ∙ ap opponent_of c.side.ensures in
    discovers_by_lines c.args.self.now.position.now.cells (opponent_of c.args.self.now.position.now.side) c.args.self.now.info.king_view.bits c.args.from c.king_line_mask.result.bits
    (rw side at c.may_discover_check.ensures c.if-may_discover_check.false) (rw side at c.king_line_mask.ensures)
