use Rattle.std.proofs.Common.{rules, ◌≡◌, ◌∙◌, ap, get_or, Some, refl}
use Rattle.std.proofs.lemmas.List.{get_or-set_same}
use Rattle.usi_replay.specs.Playback.{Transcript, open_id, no_transcript, no_opening, HasAllReplies}
use Rattle.usi_replay.proofs.Transcripts.{taken_at, taken_played, taken_all, transcripts_get}
use Rattle.usi_replay.proofs.Running.{runs_none, runs_then}
use Rattle.usi_replay.proofs.playback.Playback.collect.Goals as goal

pub returns-clause-kept : goal.returns-clause-kept
returns-clause-kept g c =
    let l : open_id c.index.result.now ≡ Some c.in-Some.id = search rules in
    taken_played c.args.self.now.host c.settle.new.host c.take_output.new.host c.in-Some.id c.args.self.now.transcripts.items c.args.place c.take_output.new.transcript c.requires.within
    (taken_at c.args.self.now.host c.settle.new.host c.take_output.new.host c.in-Some.id c.args.self.now.transcripts.items c.args.place c.index.result.now c.index_mut.result.now c.take_output.new.transcript c.requires.within c.index.ensures c.index_mut.ensures.value l c.in_ok-settle.ensures.due c.in_ok-settle.ensures.settled c.in_ok-take_output.ensures.others c.in_ok-take_output.ensures.collected c.in_ok-take_output.ensures.rest)

pub returns-clause-all : goal.returns-clause-all
returns-clause-all g c = λ setup slots os p some.
    let l : open_id c.index.result.now ≡ Some c.in-Some.id = search rules in
    let t = taken_at c.args.self.now.host c.settle.new.host c.take_output.new.host c.in-Some.id c.args.self.now.transcripts.items c.args.place c.index.result.now c.index_mut.result.now c.take_output.new.transcript c.requires.within c.index.ensures c.index_mut.ensures.value l c.in_ok-settle.ensures.due c.in_ok-settle.ensures.settled c.in_ok-take_output.ensures.others c.in_ok-take_output.ensures.collected c.in_ok-take_output.ensures.rest in
    let all : HasAllReplies setup (get_or os c.args.place no_opening) c.take_output.new.transcript = taken_all c.args.self.now.host c.settle.new.host c.take_output.new.host c.in-Some.id (get_or os c.args.place no_opening) (get_or c.args.self.now.transcripts.items c.args.place no_transcript) c.take_output.new.transcript t (transcripts_get setup c.args.self.now.host 0 os c.args.self.now.transcripts.items c.args.place p.transcripts c.requires.within) in
    ap (λ (k : Transcript). k.made) (get_or-set_same c.args.self.now.transcripts.items c.args.place c.take_output.new.transcript no_transcript c.requires.within) ∙ all

pub returns-clause-used : goal.returns-clause-used
returns-clause-used g c =
    let l : open_id c.index.result.now ≡ Some c.in-Some.id = search rules in
    let t = taken_at c.args.self.now.host c.settle.new.host c.take_output.new.host c.in-Some.id c.args.self.now.transcripts.items c.args.place c.index.result.now c.index_mut.result.now c.take_output.new.transcript c.requires.within c.index.ensures c.index_mut.ensures.value l c.in_ok-settle.ensures.due c.in_ok-settle.ensures.settled c.in_ok-take_output.ensures.others c.in_ok-take_output.ensures.collected c.in_ok-take_output.ensures.rest in
    ap (λ (k : Transcript). k.in_use) (get_or-set_same c.args.self.now.transcripts.items c.args.place c.take_output.new.transcript no_transcript c.requires.within) ∙ ap (λ (k : Transcript). k.in_use) t.rest

pub returns-in_default-clause-run : goal.returns-in_default-clause-run
returns-in_default-clause-run g c = runs_none c.args.self.now.slice c.args.self.now.host c.args.self.now.host refl

pub returns-clause-run : goal.returns-clause-run
returns-clause-run g c = runs_then c.args.self.now.slice c.args.self.now.host c.settle.new.host c.take_output.new.host c.in_ok-settle.ensures.run (c.in_ok-take_output.ensures.run c.args.self.now.slice)
