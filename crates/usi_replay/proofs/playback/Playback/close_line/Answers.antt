use Rattle.std.proofs.Common.{rules, ◌≤◌, length, get_or, set, refl}
use Rattle.std.specs.List.{position_or_len}
use Rattle.usi_replay.specs.Script.{closed_opening}
use Rattle.usi_replay.specs.Playback.{is_transcript_under, no_opening}
use Rattle.usi_replay.proofs.Names.{none_under, one_under, in_use_there}
use Rattle.usi_replay.proofs.Running.{runs_none}
use Rattle.usi_replay.proofs.playback.Playback.close_line.Goals as goal

pub returns-then-place-len-clause-done : goal.returns-then-place-len-clause-done
returns-then-place-len-clause-done g c = λ setup slots os p.
    let le : length c.args.self.now.transcripts.items ≤ position_or_len (is_transcript_under c.args.name) c.args.self.now.transcripts.items = search rules in
    (none_under setup c.args.self.now.host 0 c.args.name closed_opening os c.args.self.now.transcripts.items p.transcripts le).none

pub close-requires-clause-used : goal.close-requires-clause-used
close-requires-clause-used g c = in_use_there c.args.name c.args.self.now.transcripts.items c.place_of-place.result c.place_of-place.ensures.value (search rules)

pub returns-clause-done : goal.returns-clause-done
returns-clause-done g c = λ setup slots os p.
    (set os c.place_of-place.result (closed_opening (get_or os c.place_of-place.result no_opening)), (one_under setup c.args.self.now.host 0 c.args.name closed_opening os c.args.self.now.transcripts.items c.place_of-place.result p.transcripts c.place_of-place.ensures.value (search rules)).changed, c.in_ok-close.ensures.closed setup slots os p)

pub returns-then-place-len-clause-run : goal.returns-then-place-len-clause-run
returns-then-place-len-clause-run g c = runs_none c.args.self.now.slice c.args.self.now.host c.args.self.now.host refl
