use Rattle.host_core.specs.Events.{Open, Opened}
use Rattle.host_core.specs.Seen.{as_outcome}
use Rattle.usi_replay.proofs.Running.{runs_step}
use Rattle.usi_replay.proofs.sessions.open.Goals as goal

pub returns-in-Ok-clause-run : goal.returns-in-Ok-clause-run
returns-in-Ok-clause-run g c = λ slice.
    runs_step slice c.args.host.now c.open.new.self Open (as_outcome Opened c.open.result) c.open.ensures.below c.open.ensures.opened tt

pub returns-in-Err-Full-clause-run : goal.returns-in-Err-Full-clause-run
returns-in-Err-Full-clause-run g c = λ slice.
    runs_step slice c.args.host.now c.open.new.self Open (as_outcome Opened c.open.result) c.open.ensures.below c.open.ensures.opened tt
