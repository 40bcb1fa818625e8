use Rattle.std.proofs.Common.{◌≡◌, [], List, arith, subst}
use Rattle.stream_transport.specs.Lingering.{Leave, StayAtMost}
use Rattle.stream_transport.specs.System.{AreShut}
use Rattle.stream_transport.specs.declared.lingering.LingeringStream.{LingeringStream}
use Rattle.stream_transport.specs.declared.lingering.TheConstants.{LOOKS_MAX}
use Rattle.stream_transport.proofs.Leaving.{stay_longer, leave_filtered, gone_filtered, shut_left}
use Rattle.stream_transport.proofs.lingering.Lingering.pass.Goals as goal

pub invariant_of-self : goal.invariant_of-self
invariant_of-self g c = record {
  few = omega (arith, c.self.invariant.few, c.pass_all.ensures.length, c.retain_lingering.ensures.fewer);
  stay = leave_filtered _ _ _ _ c.pass_all.ensures.leave c.retain_lingering.ensures.left LOOKS_MAX (stay_longer _ _ _ (omega arith) c.self.invariant.stay);
  room = omega (arith, c.self.invariant.room, c.pass_all.ensures.capacity, c.retain_lingering.ensures.capacity);
}

pub returns-clause-leaves : goal.returns-clause-leaves
returns-clause-leaves g c = subst (λ (streams : List (LingeringStream g.row.S.Denot)). Leave c.args.looks streams c.retain_lingering.new.streams.items) c.self.view_is (leave_filtered _ _ _ _ c.pass_all.ensures.leave c.retain_lingering.ensures.left)

pub returns-clause-gone : goal.returns-clause-gone
returns-clause-gone g c = subst (λ (streams : List (LingeringStream g.row.S.Denot)). StayAtMost c.args.looks streams → c.retain_lingering.new.streams.items ≡ []) c.self.view_is (gone_filtered _ _ _ _ c.pass_all.ensures.leave c.retain_lingering.ensures.left)

pub returns-clause-few : goal.returns-clause-few
returns-clause-few g c = omega (arith, c.self.invariant.few, c.pass_all.ensures.length, c.retain_lingering.ensures.fewer)

pub returns-clause-within : goal.returns-clause-within
returns-clause-within g c = leave_filtered _ _ _ _ c.pass_all.ensures.leave c.retain_lingering.ensures.left LOOKS_MAX (stay_longer _ _ _ (omega arith) c.self.invariant.stay)

pub returns-clause-shut : goal.returns-clause-shut
returns-clause-shut g c = subst (λ (streams : List (LingeringStream g.row.S.Denot)). AreShut g.S.ByteStream.is_shut streams → AreShut g.S.ByteStream.is_shut c.retain_lingering.new.streams.items) c.self.view_is (λ shut. shut_left g.S.ByteStream.is_shut _ _ c.retain_lingering.ensures.left (c.pass_all.ensures.shut shut))
