use Rattle.std.proofs.Common.{rules, ◌≡◌, ◌∙◌, sym, [], refl}
use Rattle.std.proofs.lemmas.List.{take-append-drop}
use Rattle.usi_replay.proofs.Transcripts.{fed_start, fed_next, fed_whole, rounds_played, empty_list}
use Rattle.usi_replay.proofs.Running.{runs_none, runs_then}
use Rattle.usi_replay.proofs.playback.Playback.send.Goals as goal

pub chunks-init : goal.chunks-init
chunks-init g c = record { fed = fed_start c.args.self.now.host c.args.self.now.transcripts.items c.args.place c.args.text.now; used = c.requires.used; len = search rules; slice = search rules; run = runs_none c.args.self.now.slice c.args.self.now.host c.args.self.now.host refl }

pub chunks-preserved : goal.chunks-preserved
chunks-preserved g c = record {
  fed = fed_next c.args.self.now.host c.chunks.self.host c.feed.new.self.host c.args.self.now.transcripts.items c.chunks.self.transcripts.items c.feed.new.self.transcripts.items c.args.place c.args.text.now c.chunks.rest.now c.split_at.result.0.now c.split_at.result.1.now c.requires.within c.chunks.invariant.fed c.in_ok-feed.ensures.fed (rw (c.split_at.ensures.front, c.split_at.ensures.back) (sym (take-append-drop c.min.result c.chunks.rest.now)));
  used = search rules;
  len = search rules;
  slice = search rules;
  run = runs_then c.args.self.now.slice c.args.self.now.host c.chunks.self.host c.feed.new.self.host c.chunks.invariant.run (rw c.chunks.invariant.slice at c.in_ok-feed.ensures.run);
}

pub returns-clause-fed : goal.returns-clause-fed
returns-clause-fed g c =
    let none : c.chunks.rest.now ≡ [] = empty_list c.chunks.rest.now c.is_empty.result c.is_empty.ensures (search rules) in
    fed_whole c.args.self.now.host c.chunks.self.host c.feed-2.new.self.host c.work_round.new.host c.args.self.now.transcripts.items c.chunks.self.transcripts.items c.feed-2.new.self.transcripts.items c.feed-2.new.self.transcripts.items c.args.place c.args.text.now c.chunks.rest.now c.requires.within c.chunks.invariant.fed none c.in_ok-feed-2.ensures.fed
    (rounds_played c.feed-2.new.self.host c.work_round.new.host c.feed-2.new.self.transcripts.items c.in_ok-work_round.ensures.due)

pub returns-clause-run : goal.returns-clause-run
returns-clause-run g c =
    let fed = runs_then c.args.self.now.slice c.args.self.now.host c.chunks.self.host c.feed-2.new.self.host c.chunks.invariant.run (rw c.chunks.invariant.slice at c.in_ok-feed-2.ensures.run) in
    runs_then c.args.self.now.slice c.args.self.now.host c.feed-2.new.self.host c.work_round.new.host fed (rw (c.in_ok-feed-2.ensures.slice ∙ c.chunks.invariant.slice) at c.work_round.ensures.run)
