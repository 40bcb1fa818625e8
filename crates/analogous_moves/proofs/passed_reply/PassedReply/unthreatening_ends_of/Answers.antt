use Rattle.std.proofs.Common.{◌≡◌, ℕ, ap, subst, sym, ◌∙◌, Option, Some}
use Rattle.std.proofs.lemmas.Bool.{both_ways, eqb-true}
use Rattle.shogi_core.specs.declared.piece.Piece.{Piece}
use Rattle.shogi_core.specs.Bits.{has_bit}
use Rattle.shogi_core.specs.Movement.{piece_at}
use Rattle.shogi_core.proofs.BitLaws.{has_bit-none}
use Rattle.analogous_moves.specs.Analogies.{IsUnthreatening, lifted}
use Rattle.analogous_moves.specs.PassedReplies.{place_in}
use Rattle.analogous_moves.proofs.PassedReplyLaws.{unthreatening_alike, merged_among, merged_unthreatening, none_in}
use Rattle.analogous_moves.proofs.passed_reply.PassedReply.unthreatening_ends_of.Goals as goal

pub returns-else-is_empty-clause-among : goal.returns-else-is_empty-clause-among
returns-else-is_empty-clause-among c = λ n set. merged_among c.args.ends.bits c.args.targets.bits c.unthreatening_squares-unthreatening.result.bits n (rw c.bitand-met.ensures at c.unthreatening_squares-unthreatening.ensures.among) (rw (c.bitor.ensures, c.without.ensures) at set)

pub returns-else-is_empty-clause-unthreatening : goal.returns-else-is_empty-clause-unthreatening
returns-else-is_empty-clause-unthreatening c = λ to h set on.
    let is : piece_at c.args.self.now.board c.args.from ≡ Some c.in-Some.piece = sym c.at.ensures ∙ c.in-Some.is in
    subst (λ (cell : Option Piece). IsUnthreatening c.args.self.now.quiet_only (lifted (place_in c.args.self.now) c.args.from) c.args.self.now.node.eval c.args.self.now.gains c.args.self.now.king c.args.self.now.squares.bits cell to) (sym is)
    (unthreatening_alike c.args.self.now c.lifted.result c.args.from (Some c.in-Some.piece) to c.lifted.ensures.board c.lifted.ensures.unchanged
    (c.unthreatening_squares-unthreatening.ensures.unthreatening to h (merged_unthreatening c.args.ends.bits c.args.targets.bits c.unthreatening_squares-unthreatening.result.bits to c.args.targets.fits h (rw (c.bitor.ensures, c.without.ensures) at set) on)))

pub returns-in-None-clause-among : goal.returns-in-None-clause-among
returns-in-None-clause-among c = λ n set. absurd (both_ways (has_bit c.none.result.bits n) (ap (λ (m : ℕ). has_bit m n) c.none.ensures ∙ has_bit-none n) set)

pub returns-in-None-clause-unthreatening : goal.returns-in-None-clause-unthreatening
returns-in-None-clause-unthreatening c = λ n h set on. absurd (both_ways (has_bit c.none.result.bits n) (ap (λ (m : ℕ). has_bit m n) c.none.ensures ∙ has_bit-none n) set)

pub returns-then-is_empty-clause-among : goal.returns-then-is_empty-clause-among
returns-then-is_empty-clause-among c = λ n set. set

pub returns-then-is_empty-clause-unthreatening : goal.returns-then-is_empty-clause-unthreatening
returns-then-is_empty-clause-unthreatening c = λ to h set on. absurd (both_ways (has_bit c.args.ends.bits to) (none_in c.args.targets.bits c.args.ends.bits to (sym c.bitand-met.ensures ∙ eqb-true _ _ (sym c.is_empty.ensures ∙ c.if-is_empty.true)) on) set)
