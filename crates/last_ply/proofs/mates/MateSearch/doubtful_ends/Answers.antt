use Rattle.std.proofs.Common.{◌∙◌, ap, bit_and, sym, true, false}
use Rattle.std.proofs.lemmas.Bool.{both_ways, eqb-true}
use Rattle.shogi_core.specs.Bits.{has_bit}
use Rattle.shogi_core.proofs.BitLaws.{has_bit-none}
use Rattle.last_ply.proofs.MateLaws.{doubtful_within, none_doubtful, unseen_from}
use Rattle.last_ply.proofs.Scores.{enters, enters_some, legal_end, legal_promotion}
use Rattle.last_ply.proofs.mates.MateSearch.doubtful_ends.Goals as goal

pub returns-then-is_empty-clause-non_promoting : goal.returns-then-is_empty-clause-non_promoting
returns-then-is_empty-clause-non_promoting c =
    doubtful_within c.args.self.now.frontier.node.now.position c.args.from false c.targets-ends.result.bits c.doubtful_among-non_promoting.result.bits c.reveal_invariant.ensures (enters c.args.self.now.frontier.node.now.position c.args.from c.targets-ends.result.bits c.targets-ends.ensures)
    (λ n h legal. legal_end c.args.self.now.frontier.node.now.position c.args.from c.targets-ends.result.bits n false c.reveal_invariant.ensures h c.targets-ends.ensures legal)
    c.doubtful_among-non_promoting.ensures.within c.doubtful_among-non_promoting.ensures.answered

pub returns-then-is_empty-clause-promoting : goal.returns-then-is_empty-clause-promoting
returns-then-is_empty-clause-promoting c =
    let zone = rw (c.at-cell.ensures, c.as_position-p.ensures) at c.promoting_squares.ensures.squares in
    doubtful_within c.args.self.now.frontier.node.now.position c.args.from true (bit_and c.targets-ends.result.bits c.promoting_squares.result.bits) c.none-then-is_empty.result.bits c.reveal_invariant.ensures (enters_some c.args.self.now.frontier.node.now.position c.args.from c.targets-ends.result.bits c.promoting_squares.result.bits c.targets-ends.ensures)
    (λ n h legal. legal_promotion c.args.self.now.frontier.node.now.position c.args.from c.targets-ends.result.bits c.promoting_squares.result.bits n c.reveal_invariant.ensures h c.targets-ends.ensures (zone n h) legal)
    (λ n e. absurd (both_ways (has_bit c.none-then-is_empty.result.bits n) (ap (λ m. has_bit m n) c.none-then-is_empty.ensures ∙ has_bit-none n) e)) (λ n h e out. absurd (both_ways (has_bit (bit_and c.targets-ends.result.bits c.promoting_squares.result.bits) n) (ap (λ m. has_bit m n) (sym c.bitand-promotions.ensures ∙ eqb-true _ 0 (sym c.is_empty.ensures ∙ c.if-is_empty.true)) ∙ has_bit-none n) e))

pub returns-clause-non_promoting : goal.returns-clause-non_promoting
returns-clause-non_promoting c =
    doubtful_within c.args.self.now.frontier.node.now.position c.args.from false c.targets-ends.result.bits c.doubtful_among-non_promoting.result.bits c.reveal_invariant.ensures (enters c.args.self.now.frontier.node.now.position c.args.from c.targets-ends.result.bits c.targets-ends.ensures)
    (λ n h legal. legal_end c.args.self.now.frontier.node.now.position c.args.from c.targets-ends.result.bits n false c.reveal_invariant.ensures h c.targets-ends.ensures legal)
    c.doubtful_among-non_promoting.ensures.within c.doubtful_among-non_promoting.ensures.answered

pub returns-clause-promoting : goal.returns-clause-promoting
returns-clause-promoting c =
    let zone = rw (c.at-cell.ensures, c.as_position-p.ensures) at c.promoting_squares.ensures.squares in
    doubtful_within c.args.self.now.frontier.node.now.position c.args.from true c.bitand-promotions.result.bits c.doubtful_among-promoting.result.bits c.reveal_invariant.ensures (rw c.bitand-promotions.ensures (enters_some c.args.self.now.frontier.node.now.position c.args.from c.targets-ends.result.bits c.promoting_squares.result.bits c.targets-ends.ensures))
    (λ n h legal. rw c.bitand-promotions.ensures (legal_promotion c.args.self.now.frontier.node.now.position c.args.from c.targets-ends.result.bits c.promoting_squares.result.bits n c.reveal_invariant.ensures h c.targets-ends.ensures (zone n h) legal))
    c.doubtful_among-promoting.ensures.within c.doubtful_among-promoting.ensures.answered

pub returns-in_default-clause-non_promoting : goal.returns-in_default-clause-non_promoting
returns-in_default-clause-non_promoting c =
    doubtful_within c.args.self.now.frontier.node.now.position c.args.from false c.targets-ends.result.bits c.targets-ends.result.bits c.reveal_invariant.ensures (enters c.args.self.now.frontier.node.now.position c.args.from c.targets-ends.result.bits c.targets-ends.ensures)
    (λ n h legal. legal_end c.args.self.now.frontier.node.now.position c.args.from c.targets-ends.result.bits n false c.reveal_invariant.ensures h c.targets-ends.ensures legal)
    (λ n e. e) (λ n h e out. absurd (both_ways (has_bit c.targets-ends.result.bits n) out e))

pub returns-in_default-clause-promoting : goal.returns-in_default-clause-promoting
returns-in_default-clause-promoting c =
    let zone = rw (c.at-cell.ensures, c.as_position-p.ensures) at c.promoting_squares.ensures.squares in
    doubtful_within c.args.self.now.frontier.node.now.position c.args.from true c.bitand-promotions.result.bits c.bitand-promotions.result.bits c.reveal_invariant.ensures (rw c.bitand-promotions.ensures (enters_some c.args.self.now.frontier.node.now.position c.args.from c.targets-ends.result.bits c.promoting_squares.result.bits c.targets-ends.ensures))
    (λ n h legal. rw c.bitand-promotions.ensures (legal_promotion c.args.self.now.frontier.node.now.position c.args.from c.targets-ends.result.bits c.promoting_squares.result.bits n c.reveal_invariant.ensures h c.targets-ends.ensures (zone n h) legal))
    (λ n e. e) (λ n h e out. absurd (both_ways (has_bit c.bitand-promotions.result.bits n) out e))

pub returns-then-is_unseen-clause-non_promoting : goal.returns-then-is_unseen-clause-non_promoting
returns-then-is_unseen-clause-non_promoting c =
    rw c.none.ensures (none_doubtful c.args.self.now.frontier.node.now.position c.args.from false (unseen_from c.args.self.now.frontier.node.now.position c.args.from c.targets-ends.result.bits c.args.self.now.replies.info.king_view.bits c.args.self.now.replies.info.free_movers.bits c.args.self.now.frontier.valid (rw c.args.self.now.same at c.args.self.now.replies.right) c.reveal_invariant.ensures
    (c.is_unseen.ensures.others c.if-is_unseen.true) (c.is_unseen.ensures.unseen c.if-is_unseen.true).start (c.is_unseen.ensures.unseen c.if-is_unseen.true).ends c.targets-ends.ensures))

pub returns-then-is_unseen-clause-promoting : goal.returns-then-is_unseen-clause-promoting
returns-then-is_unseen-clause-promoting c =
    rw c.none-then-is_unseen.ensures (none_doubtful c.args.self.now.frontier.node.now.position c.args.from true (unseen_from c.args.self.now.frontier.node.now.position c.args.from c.targets-ends.result.bits c.args.self.now.replies.info.king_view.bits c.args.self.now.replies.info.free_movers.bits c.args.self.now.frontier.valid (rw c.args.self.now.same at c.args.self.now.replies.right) c.reveal_invariant.ensures
    (c.is_unseen.ensures.others c.if-is_unseen.true) (c.is_unseen.ensures.unseen c.if-is_unseen.true).start (c.is_unseen.ensures.unseen c.if-is_unseen.true).ends c.targets-ends.ensures))
