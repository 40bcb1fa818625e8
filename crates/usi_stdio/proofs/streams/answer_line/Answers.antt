use Rattle.std.proofs.lemmas.Result.{IfErr-weaker}
use Rattle.usi_stdio.proofs.Lining.{line_answers}
use Rattle.usi_stdio.proofs.Working.{on_ok_both, prefix_of_fed}
use Rattle.usi_stdio.proofs.Remembering.{on_ok, told_fed}
use Rattle.usi_stdio.proofs.streams.answer_line.Goals as goal

-- a prefix of the replies due to the line is one for any further bytes
pub returns-clause-err : goal.returns-clause-err
returns-clause-err g c =
    IfErr-weaker c.work_off.result _ _ (λ fault. prefix_of_fed _ _ c.args.session.now c.feed.new.self c.args.line.now fault c.in_ok-feed.ensures.due) c.work_off.ensures.err

-- the replies due to the line were written
pub returns-clause-answered : goal.returns-clause-answered
returns-clause-answered g c =
    on_ok_both c.work_off.result (line_answers c.args.session.now c.feed.new.self c.work_off.new.session c.args.line.now _ _ c.in_ok-feed.ensures.due c.in_ok-feed.ensures.after) c.work_off.ensures.ok c.work_off.ensures.settled

pub returns-clause-told : goal.returns-clause-told
returns-clause-told g c =
    on_ok c.work_off.result (told_fed g.M.Memo.called _ _ c.args.session.now c.feed.new.self c.work_off.new.session c.args.line.now c.in_ok-feed.ensures.roots) c.work_off.ensures.told
