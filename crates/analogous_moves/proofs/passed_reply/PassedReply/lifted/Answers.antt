use Rattle.std.proofs.Common.{◌≡◌, None, ap, set, subst, sym, ◌∙◌}
use Rattle.shogi_core.specs.Movement.{Cells}
use Rattle.shogi_core.specs.Pieces.{opponent_of}
use Rattle.analogous_moves.specs.Analogies.{AreCapturesAbove, KingHasReplies}
use Rattle.analogous_moves.specs.PassedReplies.{with_cells}
use Rattle.analogous_moves.proofs.PassedReplyLaws.{both_lifted, captures_above_lifted, king_off}
use Rattle.analogous_moves.proofs.passed_reply.PassedReply.lifted.Goals as goal

pub invariant_of-result : goal.invariant_of-result
invariant_of-result c =
    let same : set c.args.self.now.board c.args.from None ≡ c.put.result = sym c.put.ensures in
    record {
      is_kingless = c.put-2.ensures ∙ (both_lifted c.args.self.now.kingless c.args.self.now.board c.args.self.now.king c.args.from c.args.self.now.is_kingless (king_off c.args.self.now.board (opponent_of c.args.self.now.node.position.side) c.args.self.now.king c.args.from c.requires.king_replies.crown) ∙ ap (λ (cells : Cells). set cells c.args.self.now.king None) same);
      has_replies = subst (λ (cells : Cells). KingHasReplies c.args.self.now.quiet_only (with_cells c.args.self.now.node.position cells) c.args.self.now.king c.args.self.now.squares.bits) same c.requires.king_replies;
      are_captures_above = subst (λ (cells : Cells). AreCapturesAbove cells c.args.self.now.node.position.side c.args.self.now.node.eval c.args.self.now.gains c.args.self.now.captures.bits) same (captures_above_lifted c.args.self.now.board c.args.self.now.node.position.side c.args.self.now.node.eval c.args.self.now.gains c.args.self.now.captures.bits c.args.from c.args.self.now.are_captures_above);
    }
