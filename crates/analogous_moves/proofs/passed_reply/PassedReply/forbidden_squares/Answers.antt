use Rattle.std.proofs.Common.{ℕ, ap, ◌∙◌}
use Rattle.shogi_core.specs.Bits.{has_bit}
use Rattle.analogous_moves.specs.PassedReplies.{place_in}
use Rattle.analogous_moves.proofs.PassedReplyLaws.{allows_off, promotes_nowhere}
use Rattle.analogous_moves.proofs.Sets.{has_bit-all}
use Rattle.analogous_moves.proofs.passed_reply.PassedReply.forbidden_squares.Goals.{then-promotes, else-promotes}
use Rattle.analogous_moves.proofs.passed_reply.PassedReply.forbidden_squares.Goals as goal

pub returns : goal.returns
returns c = allows_off c.args.self.now.quiet_only (place_in c.args.self.now) c.args.self.now.node.eval c.args.self.now.gains c.args.self.now.king c.args.self.now.kingless c.args.piece c.args.squares.bits c.args.self.now.captures.bits c.covering_squares.result.bits c.if-promotes.promoting c.bitor.result c.args.self.now.is_kingless c.args.self.now.are_captures_above c.covering_squares.ensures c.bitor.ensures (elim c.if-promotes.branch [
  | then-promotes w ↦ rw w.promoting-is w.forbidden_promotions-promoting.ensures
  | else-promotes w ↦ rw w.promoting-is (promotes_nowhere c.args.self.now.quiet_only (place_in c.args.self.now) c.args.self.now.node.eval c.args.self.now.gains c.args.self.now.king c.args.piece c.args.squares.bits w.all-promoting.result.bits (λ n h. ap (λ (m : ℕ). has_bit m n) w.all-promoting.ensures ∙ has_bit-all n h))
])
