use Rattle.std.proofs.Common.{rules, refl, ◌≡◌, ◌+◌, ◌≤◌, ◌<◌, length, [], true, false, arith}
use Rattle.usi_lines.specs.Lines.{lines}
use Rattle.usi_lines.specs.Seen.{line_of}
use Rattle.usi_replay.proofs.Ends.{read_start, read_next, read_fails, read_whole}
use Rattle.usi_replay.proofs.Running.{runs_none, runs_then}
use Rattle.usi_replay.proofs.streams.output_of.Goals as goal

pub lines-init : goal.lines-init
lines-init g c = record {
  read = (let e : c.new.result.items ≡ [] = c.new.ensures.items in rw e (read_start c.args.script.now c.args.host c.requires.unused));
  few = omega arith;
  slice = refl;
  run = runs_none c.args.slice c.args.host c.args.host refl;
}

pub returns-then-not-good : goal.returns-then-not-good
returns-then-not-good g c =
    let bad : c.in-Ok.good ≡ false = search rules in
    read_fails c.args.host.slots.max c.lines.playback.host c.play_line.new.self.host c.lines.playback.transcripts.items c.play_line.new.self.transcripts.items c.args.script.now c.lines.number c.lines.rest.now c.in-Some.first.rest.now (line_of c.in-Some.first.line) c.lines.invariant.read c.in-Some.ensures.first (rw bad at c.in-Ok.ensures.done)

pub lines-preserved : goal.lines-preserved
lines-preserved g c =
    let good : c.in-Ok.good ≡ true = search rules in
    let few : c.lines.number + length c.lines.rest.now ≤ length c.args.script.now = c.lines.invariant.few in
    let shorter : length c.in-Some.first.rest.now < length c.lines.rest.now = c.in-Some.ensures.shorter in
    record {
      read = read_next c.args.host.slots.max c.lines.playback.host c.play_line.new.self.host c.lines.playback.transcripts.items c.play_line.new.self.transcripts.items c.args.script.now c.lines.number c.lines.rest.now c.in-Some.first.rest.now (line_of c.in-Some.first.line) c.lines.invariant.read c.in-Some.ensures.first (rw good at c.in-Ok.ensures.done);
      few = omega arith;
      slice = search rules;
      run = runs_then c.args.slice c.args.host c.lines.playback.host c.play_line.new.self.host c.lines.invariant.run (rw c.lines.invariant.slice at c.in-Ok.ensures.run);
    }

pub returns : goal.returns
returns g c =
    let none : lines c.lines.rest.now ≡ [] = search rules in
    let run = runs_then c.args.slice c.args.host c.lines.playback.host c.finish.new.self.host c.lines.invariant.run (rw c.lines.invariant.slice at c.in-Ok-finish.ensures.run) in
    read_whole c.args.slice c.args.host c.lines.playback.host c.finish.new.self.host c.lines.playback.transcripts.items c.finish.new.self.transcripts.items c.args.script.now c.lines.number c.lines.rest.now c.in-Ok-finish.out.items c.lines.invariant.read none c.in-Ok-finish.ensures.whole c.in-Ok-finish.ensures.kept run
