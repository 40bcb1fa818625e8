use Rattle.std.proofs.Common.{◌≡◌, ◌∙◌, ap, sym}
use Rattle.shogi_core.specs.Pieces.{opponent_of}
use Rattle.shogi_replies.proofs.ReplyLaws.{ways_free, ways_spare}
use Rattle.shogi_replies.proofs.replies.ReplyInfo.of.Goals as goal

pub returns-then-holds_free : goal.returns-then-holds_free
returns-then-holds_free c =
    let side : c.opponent-opponent.result ≡ opponent_of c.args.p.now.side = c.opponent-opponent.ensures ∙ ap opponent_of c.side.ensures in
    record {
      sees = rw side at c.king_view_squares-king_view.ensures;
      spares = ways_free c.args.p.now (opponent_of c.args.p.now.side) c.free-free_movers.result.bits (rw side at (sym c.holds_free.ensures ∙ c.if-holds_free.true)) (rw c.as_board.ensures at c.free-free_movers.ensures.squares);
    }

pub returns-else-holds_free : goal.returns-else-holds_free
returns-else-holds_free c =
    let side : c.opponent-opponent.result ≡ opponent_of c.args.p.now.side = c.opponent-opponent.ensures ∙ ap opponent_of c.side.ensures in
    record {
      sees = rw side at c.king_view_squares-king_view.ensures;
      spares = ways_spare c.args.p.now (opponent_of c.args.p.now.side) c.free_moving_pieces-free_movers.result.bits (rw side at c.free_moving_pieces-free_movers.ensures);
    }
