use Rattle.std.proofs.Common.{rules, ◌≡◌, ◌<◌, ◌∙◌, length, get_or, Some, None, true}
use Rattle.usi_replay.specs.Playback.{open_id, no_transcript}
use Rattle.usi_replay.proofs.Transcripts.{played_fed, fed_live, fed_refused}
use Rattle.usi_replay.proofs.Running.{runs_then}
use Rattle.usi_replay.proofs.playback.Playback.feed.Goals as goal

pub returns-in_default-clause-fed : goal.returns-in_default-clause-fed
returns-in_default-clause-fed g c =
    let l : open_id c.index.result.now ≡ None = search rules in
    let lt : c.args.place < length c.collect.new.self.transcripts.items = search rules in
    let used : (get_or c.collect.new.self.transcripts.items c.args.place no_transcript).in_use ≡ true = c.in_ok-collect.ensures.used ∙ c.requires.used in
    played_fed _ c.collect.new.self.host _ _ c.collect.new.self.transcripts.items _ c.args.place c.args.chunk.now c.in_ok-collect.ensures.kept
    (fed_refused c.collect.new.self.host c.collect.new.self.transcripts.items c.args.place c.index.result.now c.args.chunk.now lt c.index.ensures used l)

pub returns-clause-fed : goal.returns-clause-fed
returns-clause-fed g c =
    let l : open_id c.index.result.now ≡ Some c.in-Some.id = search rules in
    let lt : c.args.place < length c.collect.new.self.transcripts.items = search rules in
    played_fed _ c.collect.new.self.host _ _ c.collect.new.self.transcripts.items _ c.args.place c.args.chunk.now c.in_ok-collect.ensures.kept
    (fed_live c.collect.new.self.host c.feed.new.host c.in-Some.id c.collect.new.self.transcripts.items c.args.place c.index.result.now c.args.chunk.now lt c.index.ensures l c.in_ok-feed.ensures.others c.in_ok-feed.ensures.fed)

pub returns-clause-run : goal.returns-clause-run
returns-clause-run g c = runs_then c.args.self.now.slice c.args.self.now.host c.collect.new.self.host c.feed.new.host c.in_ok-collect.ensures.run (c.in_ok-feed.ensures.run c.args.self.now.slice)
