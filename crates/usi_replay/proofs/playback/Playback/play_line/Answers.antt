use Rattle.std.proofs.Common.{refl}
use Rattle.usi_replay.proofs.Running.{runs_none}
use Rattle.usi_replay.proofs.playback.Playback.play_line.Goals as goal

pub returns-in-Empty-clause-run : goal.returns-in-Empty-clause-run
returns-in-Empty-clause-run g c = runs_none c.args.self.now.slice c.args.self.now.host c.args.self.now.host refl

pub returns-in-Bad-clause-run : goal.returns-in-Bad-clause-run
returns-in-Bad-clause-run g c = runs_none c.args.self.now.slice c.args.self.now.host c.args.self.now.host refl
