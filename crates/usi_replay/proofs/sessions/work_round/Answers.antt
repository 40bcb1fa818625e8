use Rattle.std.proofs.Common.{rules}
use Rattle.usi_replay.proofs.Rounds.{round_keeps, round_falls}
use Rattle.usi_replay.proofs.Running.{runs_round}
use Rattle.usi_replay.proofs.sessions.work_round.Goals as goal

pub returns-clause-due : goal.returns-clause-due
returns-clause-due g c = round_keeps c.args.host.now c.round.new.self c.args.slice _ _ _ c.round.ensures.round

pub returns-clause-fewer : goal.returns-clause-fewer
returns-clause-fewer g c = λ id p. round_falls c.args.host.now c.round.new.self c.args.slice _ _ id c.requires (search rules) p c.round.ensures.round

pub returns-then-round-ne0-clause-run : goal.returns-then-round-ne0-clause-run
returns-then-round-ne0-clause-run g c = runs_round c.args.slice c.args.host.now c.round.new.self _ _ _ c.round.ensures.round

pub returns-clause-run : goal.returns-clause-run
returns-clause-run g c = runs_round c.args.slice c.args.host.now c.round.new.self _ _ _ c.round.ensures.round
