use Rattle.std.proofs.Common.{◌≡◌, ◌∙◌, ap, false, length, refl, sym}
use Rattle.std.specs.Prelude.{is_err}
use Rattle.host_core.specs.Events.{Take}
use Rattle.host_core.specs.Seen.{passed_from}
use Rattle.usi_replay.specs.Playback.{Transcript}
use Rattle.usi_replay.proofs.Rounds.{but_for_made, collects, collects_none, on_keeps}
use Rattle.usi_replay.proofs.Running.{runs_none, runs_step}
use Rattle.usi_replay.proofs.sessions.take_output.Goals as goal

-- the bytes were passed
pub returns-clause-others : goal.returns-clause-others
returns-clause-others g c = on_keeps _ c.args.host.now c.pass.new.self c.args.id _ _ refl c.pass.ensures.taken.0

pub returns-clause-collected : goal.returns-clause-collected
returns-clause-collected g c =
    let ok : is_err c.pass.result ≡ false = sym c.is_err.ensures.value ∙ c.if-is_err.false in
    collects c.pass.result c.args.host.now c.pass.new.self c.args.id _ c.in-Some.bytes _ c.args.transcript.now.made _ refl ok c.in-Some.ensures c.pass.ensures.taken.0 (ap (λ (t : Transcript). t.made) c.in_ok-append.ensures)

pub returns-clause-rest : goal.returns-clause-rest
returns-clause-rest g c = but_for_made c.args.transcript.now c.append.new.self _ c.in_ok-append.ensures

pub returns-in_default-clause-collected : goal.returns-in_default-clause-collected
returns-in_default-clause-collected g c = collects_none _ c.args.transcript.now.made c.in_default.ensures

pub returns-in_default-clause-run : goal.returns-in_default-clause-run
returns-in_default-clause-run g c = λ slice. runs_none slice _ _ refl

pub returns-clause-run : goal.returns-clause-run
returns-clause-run g c = λ slice.
    runs_step slice c.args.host.now c.pass.new.self (Take c.args.id (length c.in-Some.bytes.now)) (passed_from c.args.host.now c.args.id (length c.in-Some.bytes.now) c.pass.result) c.pass.ensures.below c.pass.ensures.taken tt
