use Rattle.std.proofs.Common.{rules, ◌≤◌, refl, length, ◌++◌, ◌∷◌, []}
use Rattle.std.specs.List.{position_or_len}
use Rattle.usi_replay.specs.Script.{closed_opening, new_opening}
use Rattle.usi_replay.specs.Playback.{is_transcript_under}
use Rattle.usi_replay.proofs.Names.{none_under, one_under}
use Rattle.usi_replay.proofs.Running.{runs_none}
use Rattle.usi_replay.proofs.playback.Playback.open_line.Goals as goal

pub returns-then-place_of-len-clause-done : goal.returns-then-place_of-len-clause-done
returns-then-place_of-len-clause-done g c = λ setup slots os p.
    rw (one_under setup c.args.self.now.host 0 c.args.name closed_opening os c.args.self.now.transcripts.items c.place_of.result p.transcripts c.place_of.ensures.value (search rules)).used refl

pub returns-clause-done : goal.returns-clause-done
returns-clause-done g c = λ setup slots os p.
    let le : length c.args.self.now.transcripts.items ≤ position_or_len (is_transcript_under c.args.name) c.args.self.now.transcripts.items = search rules in
    (os ++ new_opening slots c.args.name os ∷ [], rw (none_under setup c.args.self.now.host 0 c.args.name closed_opening os c.args.self.now.transcripts.items p.transcripts le).unused refl, c.in_ok-open.ensures.opened setup slots os p)

pub returns-then-place_of-len-clause-run : goal.returns-then-place_of-len-clause-run
returns-then-place_of-len-clause-run g c = runs_none c.args.self.now.slice c.args.self.now.host c.args.self.now.host refl
