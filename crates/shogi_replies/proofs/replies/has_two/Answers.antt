use Rattle.std.proofs.lemmas.Bool.{both_ways, eq-eqb, not-true}
use Rattle.shogi_replies.proofs.ReplyLaws.{others_of_two}
use Rattle.shogi_replies.proofs.replies.has_two.Goals as goal

pub returns : goal.returns
returns c = λ e. others_of_two c.args.squares.bits c.lowest.result c.without_lowest.result c.args.squares.fits c.lowest.ensures.range c.lowest.ensures.set c.without_lowest.ensures.bits (λ none. both_ways _ (not-true _ e) (eq-eqb _ 0 none)) c.without_lowest.ensures.less
