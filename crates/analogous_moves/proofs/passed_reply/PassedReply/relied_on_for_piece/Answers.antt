use Rattle.std.proofs.Common.{◌∙◌, sym, inl, inr}
use Rattle.std.proofs.lemmas.Bool.{cases_Bool}
use Rattle.shogi_core.specs.Bits.{has_bit}
use Rattle.analogous_moves.specs.PassedReplies.{place_in}
use Rattle.analogous_moves.proofs.PassedReplyLaws.{piece_no_threat, slider_lets, stepper_lets}
use Rattle.analogous_moves.proofs.Sets.{out_parts}
use Rattle.analogous_moves.proofs.passed_reply.PassedReply.relied_on_for_piece.Goals as goal

pub returns-then-is_sliding-clause-no_threat : goal.returns-then-is_sliding-clause-no_threat
returns-then-is_sliding-clause-no_threat c =
    piece_no_threat c.args.self.now.quiet_only (place_in c.args.self.now) c.args.self.now.node.eval c.args.self.now.gains c.args.self.now.king c.args.self.now.kingless c.in_ok-piece.piece c.args.from c.targets_of-targets.result.bits c.own.result.bits c.line_mask.result.bits c.without-squares.result.bits c.args.self.now.squares.bits c.among-forbidden.result.bits c.forbidden_squares-sets.result
    c.args.self.now.is_kingless (sym c.at.ensures ∙ c.in_ok-piece.was) c.targets_of-targets.ensures.squares
    c.line_mask.ensures.squares c.line_mask.result.fits c.without-squares.ensures c.forbidden_squares-sets.ensures (record { non_promoting = c.among-forbidden.ensures.non_promoting; promoting = c.among-forbidden.ensures.promoting })
    c.without.result.bits c.in_ok-kept_empty.kept_empty.bits (rw c.side.ensures at c.own.ensures.squares) c.own.result.fits c.without.ensures c.in_ok-kept_empty.ensures

pub blockers-pieces-requires-clause-squares : goal.blockers-pieces-requires-clause-squares
blockers-pieces-requires-clause-squares c = λ n h set.
    let out = out_parts c.args.self.now.squares.bits c.line_mask.result.bits n c.line_mask.result.fits h (rw c.without-squares.ensures at set) in
    (out.0, sym (c.line_mask.ensures.squares n h) ∙ out.1)

pub returns-then-is_sliding-clause-relied : goal.returns-then-is_sliding-clause-relied
returns-then-is_sliding-clause-relied c = λ a h out own. elim (cases_Bool (has_bit c.targets_of-targets.result.bits a)) [
  | inl led ↦ c.blockers-pieces.ensures a h led out own
  | inr far ↦ slider_lets c.args.self.now.quiet_only (place_in c.args.self.now) c.args.self.now.node.eval c.args.self.now.gains c.args.self.now.king c.args.self.now.kingless c.in_ok-piece.piece c.args.from c.targets_of-targets.result.bits c.own.result.bits c.line_mask.result.bits c.without-squares.result.bits c.args.self.now.squares.bits c.among-forbidden.result.bits c.forbidden_squares-sets.result
      c.args.self.now.is_kingless (sym c.at.ensures ∙ c.in_ok-piece.was) c.targets_of-targets.ensures.squares
      c.line_mask.ensures.squares c.line_mask.result.fits c.without-squares.ensures c.forbidden_squares-sets.ensures (record { non_promoting = c.among-forbidden.ensures.non_promoting; promoting = c.among-forbidden.ensures.promoting })
      c.reveal_invariant.ensures a h far
]

pub returns-else-is_sliding-clause-no_threat : goal.returns-else-is_sliding-clause-no_threat
returns-else-is_sliding-clause-no_threat c =
    piece_no_threat c.args.self.now.quiet_only (place_in c.args.self.now) c.args.self.now.node.eval c.args.self.now.gains c.args.self.now.king c.args.self.now.kingless c.in_ok-piece.piece c.args.from c.targets_of-targets.result.bits c.own.result.bits c.line_mask.result.bits c.without-squares.result.bits c.args.self.now.squares.bits c.among-forbidden.result.bits c.forbidden_squares-sets.result
    c.args.self.now.is_kingless (sym c.at.ensures ∙ c.in_ok-piece.was) c.targets_of-targets.ensures.squares
    c.line_mask.ensures.squares c.line_mask.result.fits c.without-squares.ensures c.forbidden_squares-sets.ensures (record { non_promoting = c.among-forbidden.ensures.non_promoting; promoting = c.among-forbidden.ensures.promoting })
    c.without.result.bits c.in_ok-kept_empty.kept_empty.bits (rw c.side.ensures at c.own.ensures.squares) c.own.result.fits c.without.ensures c.in_ok-kept_empty.ensures

pub returns-else-is_sliding-clause-relied : goal.returns-else-is_sliding-clause-relied
returns-else-is_sliding-clause-relied c = λ a h out own.
    stepper_lets c.args.self.now.quiet_only (place_in c.args.self.now) c.args.self.now.node.eval c.args.self.now.gains c.args.self.now.king c.args.self.now.kingless c.in_ok-piece.piece c.args.from c.targets_of-targets.result.bits c.own.result.bits c.line_mask.result.bits c.without-squares.result.bits c.args.self.now.squares.bits c.among-forbidden.result.bits c.forbidden_squares-sets.result
    c.args.self.now.is_kingless (sym c.at.ensures ∙ c.in_ok-piece.was) c.targets_of-targets.ensures.squares
    c.line_mask.ensures.squares c.line_mask.result.fits c.without-squares.ensures c.forbidden_squares-sets.ensures (record { non_promoting = c.among-forbidden.ensures.non_promoting; promoting = c.among-forbidden.ensures.promoting })
    c.reveal_invariant.ensures (sym c.is_sliding.ensures ∙ c.if-is_sliding.false) a h out
