use Rattle.std.proofs.Common.{◌∙◌, sym}
use Rattle.std.proofs.lemmas.Bool.{eqb-true}
use Rattle.analogous_moves.specs.PassedReplies.{place_in}
use Rattle.analogous_moves.proofs.PassedReplyLaws.{unthreatening_there}
use Rattle.analogous_moves.proofs.passed_reply.PassedReply.is_unthreatening.Goals as goal

pub returns : goal.returns
returns c = λ yes.
    unthreatening_there c.args.self.now.quiet_only (place_in c.args.self.now) c.args.self.now.node.eval c.args.self.now.gains c.args.self.now.king c.args.self.now.kingless c.args.piece c.args.to c.targets_of-reach.result.bits c.args.self.now.squares.bits c.with.result.bits c.own.result.bits c.without-targets.result.bits c.among.result.bits c.args.forbidden.now
    c.args.self.now.is_kingless c.args.self.now.has_replies.king_fits c.targets_of-reach.ensures.squares
    (sym c.has.ensures ∙ c.if-has.false) c.with.ensures (sym c.bitand.ensures ∙ eqb-true _ _ (sym c.is_empty.ensures ∙ c.if-not-is_empty.false))
    (rw c.side.ensures at c.own.ensures.squares) c.own.result.fits c.without-targets.ensures c.requires.allowed
    (record { non_promoting = c.among.ensures.non_promoting; promoting = c.among.ensures.promoting }) (eqb-true _ _ (sym c.is_empty-2.ensures ∙ yes))
