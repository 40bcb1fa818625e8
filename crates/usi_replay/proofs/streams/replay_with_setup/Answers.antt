use Rattle.usi_replay.proofs.Reading.{recites_fault, replays_asked}
use Rattle.usi_replay.proofs.streams.replay_with_setup.Goals as goal

pub returns-in-Ok-replay_on-clause-host : goal.returns-in-Ok-replay_on-clause-host
returns-in-Ok-replay_on-clause-host g c =
    replays_asked c.args.setup c.args.slots c.args.entries c.args.slice c.in-Ok.host c.in-Ok-replay_on._host _ _ c.in-Ok.ensures.new c.in-Ok-replay_on.ensures.ok

pub returns-in-Err-clause-calls : goal.returns-in-Err-clause-calls
returns-in-Err-clause-calls g c =
    recites_fault c.args.setup c.args.slots c.args.entries c.in-Ok.host _ _ c.in-Err.fault c.in-Ok.ensures.new c.in-Err.ensures.calls
