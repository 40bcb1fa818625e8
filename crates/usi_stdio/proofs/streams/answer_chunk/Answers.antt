use Rattle.std.proofs.Common.{arith, refl, rules, ◌∙◌}
use Rattle.std.proofs.lemmas.Grind.{common_steps}
use Rattle.usi_stdio.proofs.Lining.{lines_done, lines_start, lines_more, lines_over, lines_prefix}
use Rattle.usi_stdio.proofs.Working.{passed_on}
use Rattle.usi_session.proofs.TellsLaws.{none_called, none_ended_for}
use Rattle.usi_stdio.proofs.Remembering.{told_done, told_line, told_over}
use Rattle.usi_stdio.proofs.streams.answer_chunk.Goals as goal

pub lines-init : goal.lines-init
lines-init g c = record {
  answered = lines_start c.args.session.now c.args.chunk.now _ c.requires.wants c.requires.empty c.requires.most;
  told = none_ended_for _ _ _ _ _ (none_called _ _) (λ x. refl);
  capacity = refl;
}

-- a fault cut a line's answer short
pub returns-in_err-answer_line-clause-err : goal.returns-in_err-answer_line-clause-err
returns-in_err-answer_line-clause-err g c =
    passed_on c.from_residual.result _ _ c.from_residual.ensures.1 (lines_prefix _ c.lines.session _ _ _ c.cut_line.result.1.now _ _ _ _ c.lines.invariant.answered c.cut_line.ensures.whole c.in_err-answer_line.ensures.err)

-- one more line is answered
pub lines-preserved : goal.lines-preserved
lines-preserved g c = record {
  answered = lines_more _ c.lines.session _ _ _ _ _ _ _ _ c.lines.invariant.answered c.cut_line.ensures.whole c.in_ok-answer_line.ensures.answered;
  told = told_line g.M.Memo.called _ _ _ c.args.session.now c.lines.session c.answer_line.new.session c.args.chunk.now c.lines.rest.now c.cut_line.result.0.now c.cut_line.result.1.now c.lines.invariant.told c.cut_line.ensures.whole c.in_ok-answer_line.ensures.told;
  capacity = c.answer_line.ensures.capacity ∙ c.lines.invariant.capacity;
}

-- the session is over
pub returns-else-not-is_over-clause-answered : goal.returns-else-not-is_over-clause-answered
returns-else-not-is_over-clause-answered g c = lines_over _ c.lines.session _ _ _ _ c.lines.invariant.answered (search rules)

-- no line is left
pub returns-after-lines-clause-answered : goal.returns-after-lines-clause-answered
returns-after-lines-clause-answered g c = lines_done _ c.lines.session _ _ _ _ c.lines.invariant.answered (first_of (search rules, grind (arith, common_steps)))

pub returns-else-not-is_over-clause-told : goal.returns-else-not-is_over-clause-told
returns-else-not-is_over-clause-told g c = told_over g.M.Memo.called _ _ c.args.session.now c.lines.session c.args.chunk.now c.lines.rest.now c.lines.invariant.told (search rules)

pub returns-after-lines-clause-told : goal.returns-after-lines-clause-told
returns-after-lines-clause-told g c = told_done g.M.Memo.called _ _ c.args.session.now c.lines.session c.args.chunk.now c.lines.rest.now c.lines.invariant.told (first_of (search rules, grind (arith, common_steps)))
