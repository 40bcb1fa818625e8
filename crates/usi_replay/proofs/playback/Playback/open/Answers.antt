use Rattle.std.proofs.Common.{rules, ◌≡◌, ◌<◌, ◌≤◌, ◌+◌, ◌-◌, ◌^◌, ◌++◌, ◌∷◌, [], length, arith}
use Rattle.usi_replay.proofs.Transcripts.{rounds_played}
use Rattle.usi_replay.proofs.Names.{opened_played, new_transcript}
use Rattle.usi_replay.proofs.Running.{runs_then}
use Rattle.usi_replay.proofs.playback.Playback.open.Goals as goal

pub returns-clause-opened : goal.returns-clause-opened
returns-clause-opened g c = λ setup slots os p.
    let room : length c.args.self.now.transcripts.items < 2 ^ 64 - 1 = (
    let s : c.reserve.new.self.cap < 2 ^ 63 = c.reserve.new.self.small in
    let k : c.reserve.new.self.len + 1 ≤ c.reserve.new.self.cap = c.in_ok-reserve.ensures.ok in
    let len : c.reserve.new.self.len ≡ c.args.self.now.transcripts.len = c.reserve.ensures.len in
    omega (arith, c.args.self.now.transcripts.ok)
    ) in
    let items : c.push_reserved.new.self.items ≡ c.args.self.now.transcripts.items ++ new_transcript c.args.name c.in_ok-id.id ∷ [] = search rules in
    rw items (rounds_played c.open.new.host c.work_round.new.host _ c.in_ok-work_round.ensures.due setup slots _ (opened_played c.args.self.now.host c.open.new.host c.args.self.now.transcripts.items c.args.name c.in_ok-id.id c.in_ok-id.ensures.opened room setup slots os p))

pub returns-clause-run : goal.returns-clause-run
returns-clause-run g c = runs_then c.args.self.now.slice c.args.self.now.host c.open.new.host c.work_round.new.host (c.in_ok-id.ensures.run c.args.self.now.slice) c.work_round.ensures.run
