use Rattle.std.proofs.Common.{ℕ, ap, arith, refl, ◌∙◌}
use Rattle.shogi_core.specs.Bits.{has_bit}
use Rattle.analogous_moves.specs.PassedReplies.{place_in}
use Rattle.analogous_moves.proofs.PassedReplyLaws.{promotes_nowhere, promotes_off}
use Rattle.analogous_moves.proofs.Sets.{has_bit-all}
use Rattle.analogous_moves.proofs.passed_reply.PassedReply.forbidden_promotions.Goals as goal

pub returns-then-more-self : goal.returns-then-more-self
returns-then-more-self c = promotes_nowhere c.args.self.now.quiet_only (place_in c.args.self.now) c.args.self.now.node.eval c.args.self.now.gains c.args.self.now.king c.args.piece c.args.squares.bits c.all.result.bits (λ n h. ap (λ (m : ℕ). has_bit m n) c.all.ensures ∙ has_bit-all n h)

pub returns : goal.returns
returns c = rw c.bitor.ensures (promotes_off c.args.self.now.quiet_only (place_in c.args.self.now) c.args.self.now.node.eval c.args.self.now.gains c.args.self.now.king c.args.self.now.kingless c.args.piece (record { color = c.args.piece.color; role = c.promoted.result }) c.promotion_gain-more.result c.captures_above-captures.result.bits c.covering_squares.result.bits c.args.squares.bits
    c.args.self.now.is_kingless (rw c.promoted.ensures refl) c.promotion_gain-more.ensures.value (omega (arith, c.if-more-self.false)) (rw (c.side.ensures, c.eval.ensures) at c.captures_above-captures.ensures) c.covering_squares.ensures)
