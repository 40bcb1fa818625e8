use Rattle.std.proofs.Common.{refl}
use Rattle.session_slots.specs.Slots.{find}
use Rattle.host_core.specs.Events.{Feed}
use Rattle.host_core.specs.Seen.{done_of}
use Rattle.host_core.specs.Sessions.{Feeds}
use Rattle.usi_replay.proofs.Rounds.{on_keeps}
use Rattle.usi_replay.proofs.Running.{runs_none, runs_step}
use Rattle.usi_replay.proofs.sessions.feed.Goals as goal

pub returns-clause-others : goal.returns-clause-others
returns-clause-others g c = on_keeps (Feeds c.args.chunk.now) c.args.host.now c.feed.new.self c.args.id _ (find c.args.host.now.slots c.args.id) refl c.feed.ensures.fed.0

pub returns-then-is_over-clause-run : goal.returns-then-is_over-clause-run
returns-then-is_over-clause-run g c = λ slice. runs_none slice _ _ refl

pub returns-clause-run : goal.returns-clause-run
returns-clause-run g c = λ slice.
    runs_step slice c.args.host.now c.feed.new.self (Feed c.args.id c.args.chunk.now) (done_of c.feed.result) c.feed.ensures.below c.feed.ensures.fed tt
