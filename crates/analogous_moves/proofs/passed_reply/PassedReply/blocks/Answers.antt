use Rattle.std.proofs.Common.{sym, ◌∙◌}
use Rattle.std.proofs.lemmas.Bool.{eqb-true}
use Rattle.analogous_moves.specs.PassedReplies.{AllowsIn, place_in}
use Rattle.analogous_moves.proofs.PassedReplyLaws.{blocker_lets, king_apart}
use Rattle.analogous_moves.proofs.Sets.{not_false}
use Rattle.analogous_moves.proofs.passed_reply.PassedReply.blocks.Goals.{then-more, else-more}
use Rattle.analogous_moves.proofs.passed_reply.PassedReply.blocks.Goals as goal

pub returns : goal.returns
returns c = λ out mine.
    let allows : AllowsIn c.args.self.now c.args.piece c.args.squares.bits c.if-more.sets = elim c.if-more.branch [
      | then-more w ↦ rw w.sets-is w.forbidden_squares-sets.ensures
      | else-more w ↦ rw w.sets-is c.requires.allowed
    ] in
    blocker_lets c.args.self.now.quiet_only (place_in c.args.self.now) c.args.self.now.node.eval c.args.self.now.gains c.args.self.now.king c.args.self.now.kingless c.args.piece c.args.from c.args.a c.args.targets.bits c.targets_of-opened.result.bits c.own.result.bits c.bitor.result.bits c.except-others.result.bits c.without-ends.result.bits c.args.squares.bits c.args.self.now.squares.bits c.among.result.bits c.if-more.sets
    c.args.self.now.is_kingless c.requires.stands c.requires.targets (rw c.put.ensures at c.targets_of-opened.ensures.squares) (rw c.side.ensures at c.own.ensures.squares) c.bitor.ensures c.except-others.ensures c.except-others.result.fits c.without-ends.ensures
    c.requires.squares allows (record { non_promoting = c.among.ensures.non_promoting; promoting = c.among.ensures.promoting }) (eqb-true _ _ (sym c.is_empty-2.ensures ∙ not_false _ out))
    (king_apart (place_in c.args.self.now) c.args.self.now.king c.args.a c.args.self.now.has_replies.crown mine)
