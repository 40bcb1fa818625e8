use Rattle.std.proofs.Common.{rules, ◌≡◌, ◌<◌, ◌≤◌, length, [], refl}
use Rattle.usi_replay.proofs.Transcripts.{item_is}
use Rattle.usi_replay.proofs.Ends.{writes_start, writes_next, writes_end, writes_kept}
use Rattle.usi_replay.proofs.Running.{runs_none, runs_then}
use Rattle.usi_replay.proofs.playback.Playback.finish.Goals as goal

pub loop-i-init : goal.loop-i-init
loop-i-init g c = record { writes = (let e : c.new-out.result.items ≡ [] = search rules in rw e (writes_start c.args.self.now.host c.args.self.now.transcripts.items)); len = search rules; slice = search rules; run = runs_none c.args.self.now.slice c.args.self.now.host c.args.self.now.host refl }

pub loop-i-preserved : goal.loop-i-preserved
loop-i-preserved g c =
    let lt : c.loop-i.i < length c.collect.new.self.transcripts.items = search rules in
    record {
      writes = writes_next c.args.self.now.host c.loop-i.self.host c.collect.new.self.host c.args.self.now.transcripts.items c.loop-i.self.transcripts.items c.collect.new.self.transcripts.items c.loop-i.i c.loop-i.out.items c.add_section.new.out.items c.index.result.now c.loop-i.invariant.writes c.in_ok-collect.ensures.kept c.in_ok-collect.ensures.all lt (item_is c.collect.new.self.transcripts.items c.loop-i.i c.index.result.now lt c.index.ensures) c.in_ok-add_section.ensures;
      len = search rules;
      slice = search rules;
      run = runs_then c.args.self.now.slice c.args.self.now.host c.loop-i.self.host c.collect.new.self.host c.loop-i.invariant.run (rw c.loop-i.invariant.slice at c.in_ok-collect.ensures.run);
    }

pub returns-clause-whole : goal.returns-clause-whole
returns-clause-whole g c =
    let le : length c.loop-i.self.transcripts.items ≤ c.loop-i.i = search rules in
    writes_end c.args.self.now.host c.loop-i.self.host c.args.self.now.transcripts.items c.loop-i.self.transcripts.items c.loop-i.i c.loop-i.out.items c.loop-i.invariant.writes le

pub returns-clause-kept : goal.returns-clause-kept
returns-clause-kept g c = writes_kept c.args.self.now.host c.loop-i.self.host c.args.self.now.transcripts.items c.loop-i.self.transcripts.items c.loop-i.i c.loop-i.out.items c.loop-i.invariant.writes

pub returns-clause-run : goal.returns-clause-run
returns-clause-run g c = c.loop-i.invariant.run
