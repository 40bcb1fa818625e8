use Rattle.std.proofs.lemmas.Result.{IfErr-weaker}
use Rattle.usi_stdio.proofs.Working.{passed_on, prefix_none, prefix_of_due}
use Rattle.usi_stdio.proofs.Remembering.{on_ok, told_written}
use Rattle.usi_stdio.proofs.streams.work_slice.Goals as goal

-- memory was refused
pub returns-in_err-work-clause-err : goal.returns-in_err-work-clause-err
returns-in_err-work-clause-err g c = passed_on c.from_residual.result _ _ c.from_residual.ensures.1 (λ x. prefix_none _ _)

-- the queued bytes are a prefix of the replies due
pub returns-clause-err : goal.returns-clause-err
returns-clause-err g c =
    IfErr-weaker c.write_queued.result _ _ (λ fault. prefix_of_due _ _ c.args.session.now c.work.new.self fault c.work.ensures.due) c.write_queued.ensures.err

-- the memo was told the searches that ended
pub returns-clause-told : goal.returns-clause-told
returns-clause-told g c =
    on_ok c.write_queued.result (λ w. told_written g.M.Memo.called _ _ c.args.session.now c.work.new.self c.write_queued.new.session _ _ c.work.ensures.told w) c.write_queued.ensures.ok
