use Rattle.std.proofs.Common.{rules}
use Rattle.host_core.proofs.Rounds.{round_start, round_settled, round_all}
use Rattle.host_core.proofs.host.Host.round.Goals as goal

pub loop-id-init : goal.loop-id-init
loop-id-init g c = record { so_far = round_start c.args.self.now c.args.budget; few = search rules }

pub loop-id-preserved : goal.loop-id-preserved
loop-id-preserved g c =
    record {
      so_far = c.round_at-round.ensures.continues c.args.self.now (round_settled c.args.self.now c.args.budget c.loop-id.from c.in-Some.id.slot _ c.loop-id.self c.loop-id.invariant.so_far c.in-Some.ensures.next.1);
      few = search rules;
    }

pub returns-clause-round : goal.returns-clause-round
returns-clause-round g c = (round_all c.args.self.now c.args.budget c.loop-id.from _ c.loop-id.self c.loop-id.invariant.so_far (search rules)).0

pub returns-clause-counted : goal.returns-clause-counted
returns-clause-counted g c = (round_all c.args.self.now c.args.budget c.loop-id.from _ c.loop-id.self c.loop-id.invariant.so_far (search rules)).1
