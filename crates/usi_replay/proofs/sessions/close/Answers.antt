use Rattle.std.proofs.Common.{refl}
use Rattle.host_core.specs.Events.{Close}
use Rattle.host_core.specs.Seen.{done_of}
use Rattle.usi_replay.proofs.Running.{runs_none, runs_step}
use Rattle.usi_replay.proofs.sessions.close.Goals as goal

pub returns-in-Some-clause-run : goal.returns-in-Some-clause-run
returns-in-Some-clause-run g c = λ slice.
    runs_step slice c.args.host.now c.close-closed.new.self (Close c.in-Some.id) (done_of c.close-closed.result) c.close-closed.ensures.below c.close-closed.ensures.closed tt

pub returns-in_default-clause-run : goal.returns-in_default-clause-run
returns-in_default-clause-run g c = λ slice. runs_none slice _ _ refl
