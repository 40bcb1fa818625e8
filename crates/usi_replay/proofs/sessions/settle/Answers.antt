use Rattle.std.proofs.Common.{refl}
use Rattle.usi_replay.proofs.Rounds.{keeps_start, keeps_chain}
use Rattle.usi_replay.proofs.Running.{runs_none, runs_then}
use Rattle.usi_replay.proofs.sessions.settle.Goals as goal

pub rounds-init : goal.rounds-init
rounds-init g c = record { due = keeps_start c.args.host.now c.args.host.now refl; run = runs_none c.args.slice c.args.host.now c.args.host.now refl }

pub rounds-preserved : goal.rounds-preserved
rounds-preserved g c = record {
  due = keeps_chain c.args.host.now c.rounds.host c.work_round.new.host c.rounds.invariant.due c.in_ok-work_round.ensures.due;
  run = runs_then c.args.slice c.args.host.now c.rounds.host c.work_round.new.host c.rounds.invariant.run c.work_round.ensures.run;
}
