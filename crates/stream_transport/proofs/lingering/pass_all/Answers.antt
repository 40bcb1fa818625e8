use Rattle.std.proofs.Common.{rules, drop, length}
use Rattle.stream_transport.proofs.Leaving.{all_taken, passed_none, passed_more, passed_all, same_more, same_none, shut_same}
use Rattle.stream_transport.proofs.lingering.pass_all.Goals as goal

pub loop-lingering-init : goal.loop-lingering-init
loop-lingering-init g c = record { passed = passed_none _ _ _ (search rules); same = same_none g.S.ByteStream.is_shut _ _ (search rules) }

pub loop-lingering-preserved : goal.loop-lingering-preserved
loop-lingering-preserved g c = record {
  passed = passed_more _ _ _ _ _ _ (search rules) c.loop-lingering.invariant.passed c.pass.ensures.looks;
  same = same_more g.S.ByteStream.is_shut _ _ _ _ _ (search rules) c.loop-lingering.invariant.same c.pass.ensures.shut;
}

pub returns-clause-leave : goal.returns-clause-leave
returns-clause-leave g c = rw (all_taken c.args.streams.now.len c.loop-lingering.lingering-items (drop (length c.loop-lingering.lingering-items) c.args.streams.now.items) (search rules)) (passed_all _ _ _ _ c.loop-lingering.invariant.passed (search rules))

pub returns-clause-shut : goal.returns-clause-shut
returns-clause-shut g c = rw (all_taken c.args.streams.now.len c.loop-lingering.lingering-items (drop (length c.loop-lingering.lingering-items) c.args.streams.now.items) (search rules)) (shut_same g.S.ByteStream.is_shut _ _ c.loop-lingering.invariant.same c.loop-lingering.invariant.passed.same)
