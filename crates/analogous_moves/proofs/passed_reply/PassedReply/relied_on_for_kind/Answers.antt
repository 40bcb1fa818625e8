use Rattle.std.proofs.Common.{◌∙◌, sym}
use Rattle.std.proofs.lemmas.Bool.{eqb-true}
use Rattle.analogous_moves.specs.PassedReplies.{place_in}
use Rattle.analogous_moves.proofs.PassedReplyLaws.{drops_no_threat, drop_gets_no_threat}
use Rattle.analogous_moves.proofs.passed_reply.PassedReply.relied_on_for_kind.Goals as goal

pub returns-clause-no_threat : goal.returns-clause-no_threat
returns-clause-no_threat c = λ some.
    drops_no_threat c.args.self.now.quiet_only (place_in c.args.self.now) c.args.self.now.king c.args.self.now.kingless c.args.kind c.in_ok-piece.piece c.covering_squares.result.bits c.free.result.bits c.dead_squares.result.bits c.without-covered.result.bits c.bitand.result.bits c.args.self.now.squares.bits
    c.args.self.now.is_kingless (sym (rw c.side-side.ensures at c.dropped.ensures) ∙ c.in_ok-piece.was) c.covering_squares.ensures c.free.ensures.squares
    c.dead_squares.ensures.squares c.dead_squares.result.fits c.without-covered.ensures c.bitand.ensures
    (eqb-true _ _ (sym c.is_empty.ensures ∙ c.if-not-is_empty.false))

pub returns-clause-relied : goal.returns-clause-relied
returns-clause-relied c = λ some a h out.
    drop_gets_no_threat c.args.self.now.quiet_only (place_in c.args.self.now) c.args.self.now.king c.args.self.now.kingless c.args.kind c.in_ok-piece.piece c.covering_squares.result.bits c.dead_squares.result.bits c.without-covered.result.bits c.args.self.now.squares.bits
    c.args.self.now.is_kingless (sym (rw c.side-side.ensures at c.dropped.ensures) ∙ c.in_ok-piece.was) c.covering_squares.ensures
    c.dead_squares.ensures.squares c.dead_squares.result.fits c.without-covered.ensures a h out
