use Rattle.usi_replay.proofs.Reading.{output_is, replays_on, leaves_write, leaves_read, leaves_answer, passed_on, recites_read, recites_none, recites_out, recites_part}
use Rattle.usi_replay.proofs.streams.replay_on.Goals as goal

-- the script was not read
pub returns-in_err-script-clause-err : goal.returns-in_err-script-clause-err
returns-in_err-script-clause-err g c =
    passed_on c.from_residual.result _ _ c.from_residual.ensures.1 (leaves_read c.args.host.setup c.args.host.slots.max (g.T.FrontEnd.report c.args.front_end.now) (g.T.FrontEnd.report c.read_all.new.front_end) c.in_err-script.field-0.0 c.in_err-script.ensures.calls c.in_err-script.ensures.kept)

pub returns-in_err-script-clause-calls : goal.returns-in_err-script-clause-calls
returns-in_err-script-clause-calls g c =
    recites_read c.args.host.setup c.args.host.slots.max _ _ c.from_residual.result _ c.from_residual.ensures.1 c.in_err-script.ensures.calls

-- the script has no output
pub returns-in_err-host-clause-err : goal.returns-in_err-host-clause-err
returns-in_err-host-clause-err g c =
    passed_on c.from_residual-in_err-host.result _ _ c.from_residual-in_err-host.ensures.1 (leaves_answer c.args.host.setup c.args.host.slots.max (g.T.FrontEnd.report c.args.front_end.now) (g.T.FrontEnd.report c.read_all.new.front_end) c.as_slice.result.now c.in_err-host.field-0.0 (rw c.as_slice.ensures.value c.in_ok-script.ensures.read) c.in_err-host.ensures c.in_ok-script.ensures.kept)

pub returns-in_err-host-clause-calls : goal.returns-in_err-host-clause-calls
returns-in_err-host-clause-calls g c =
    recites_none c.args.host.setup c.args.host.slots.max _ _ c.in_ok-script.script c.as_slice.result.now c.from_residual-in_err-host.result _ c.from_residual-in_err-host.ensures.1 c.in_ok-script.ensures.calls c.as_slice.ensures.value c.in_err-host.ensures

pub returns-in-Ok-clause-ok : goal.returns-in-Ok-clause-ok
returns-in-Ok-clause-ok g c =
    replays_on c.args.slice c.args.host c.in_ok-host.host (g.T.FrontEnd.report c.args.front_end.now) (g.T.FrontEnd.report c.read_all.new.front_end) (g.T.FrontEnd.report c.write_out.new.front_end) c.as_slice.result.now c.in_ok-host.out.items (rw c.as_slice.ensures.value c.in_ok-script.ensures.read) c.in_ok-script.ensures.kept c.in_ok-host.ensures (rw c.as_slice-2.ensures.value at c.in-Ok.ensures.ok)

pub returns-in-Ok-clause-calls : goal.returns-in-Ok-clause-calls
returns-in-Ok-clause-calls g c =
    recites_out c.args.host.setup c.args.host.slots.max _ (g.T.FrontEnd.report c.read_all.new.front_end) (g.T.FrontEnd.report c.write_out.new.front_end) c.in_ok-script.script c.as_slice.result.now c.in_ok-host.out.items _ c.in_ok-script.ensures.calls c.as_slice.ensures.value (output_is c.args.slice c.args.host _ _ _ c.in_ok-host.ensures) (rw c.as_slice-2.ensures.value at c.in-Ok.ensures.ok)

-- a write failed
pub returns-clause-err : goal.returns-clause-err
returns-clause-err g c =
    leaves_write c.args.host.setup c.args.host.slots.max (g.T.FrontEnd.report c.args.front_end.now) (g.T.FrontEnd.report c.read_all.new.front_end) (g.T.FrontEnd.report c.write_out.new.front_end) c.as_slice.result.now c.in_ok-host.out.items c.in-Err.field-0 (rw c.as_slice.ensures.value c.in_ok-script.ensures.read) c.in_ok-script.ensures.kept (output_is c.args.slice c.args.host _ _ _ c.in_ok-host.ensures) (rw c.as_slice-2.ensures.value at c.in-Err.ensures.err)

pub returns-clause-calls : goal.returns-clause-calls
returns-clause-calls g c =
    recites_part c.args.host.setup c.args.host.slots.max _ (g.T.FrontEnd.report c.read_all.new.front_end) (g.T.FrontEnd.report c.write_out.new.front_end) c.in_ok-script.script c.as_slice.result.now c.in_ok-host.out.items _ c.in_ok-script.ensures.calls c.as_slice.ensures.value (output_is c.args.slice c.args.host _ _ _ c.in_ok-host.ensures) (rw c.as_slice-2.ensures.value at c.in-Err.ensures.err) c.in-Err.ensures.fault
