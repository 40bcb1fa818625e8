use Rattle.std.proofs.Common.{rules, ◌≡◌, ◌∙◌, ◌<◌, length, get_or, true}
use Rattle.usi_replay.specs.Playback.{no_transcript}
use Rattle.usi_replay.proofs.Names.{freed_played}
use Rattle.usi_replay.proofs.Running.{runs_then}
use Rattle.usi_replay.proofs.playback.Playback.close.Goals as goal

pub returns-clause-closed : goal.returns-clause-closed
returns-clause-closed g c =
    let lt : c.args.place < length c.collect.new.self.transcripts.items = search rules in
    let used : (get_or c.collect.new.self.transcripts.items c.args.place no_transcript).in_use ≡ true = c.in_ok-collect.ensures.used ∙ c.requires.used in
    rw c.close-2.ensures (freed_played c.args.self.now.host c.collect.new.self.host c.close.new.host c.args.self.now.transcripts.items c.collect.new.self.transcripts.items c.args.place c.index.result.now c.index_mut.result.now c.in_ok-collect.ensures.kept c.in_ok-collect.ensures.all lt used c.index.ensures c.index_mut.ensures.value (rw c.open_id.ensures at c.close.ensures.closed))

pub returns-clause-run : goal.returns-clause-run
returns-clause-run g c = runs_then c.args.self.now.slice c.args.self.now.host c.collect.new.self.host c.close.new.host c.in_ok-collect.ensures.run (c.close.ensures.run c.args.self.now.slice)
