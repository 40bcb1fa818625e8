use Rattle.usi_replay.proofs.streams.replay.Goals as goal

pub returns-clause-host : goal.returns-clause-host
returns-clause-host g c = rw c.new.ensures at c.replay_with_setup.ensures.host
