use Rattle.std.proofs.Common.{rules, refl, sym, ◌∙◌}
use Rattle.usi_lines.specs.Seen.{line_of}
use Rattle.usi_stdio.proofs.Working.{passed_on}
use Rattle.usi_app.proofs.Answering.{line_cut, line_done}
use Rattle.usi_app.proofs.mates.answer_line.Goals as goal

pub returns-in_err-write_out-clause-err : goal.returns-in_err-write_out-clause-err
returns-in_err-write_out-clause-err g c =
    passed_on c.from_residual.result _ _ c.from_residual.ensures.1
    (line_cut c.args.options (line_of c.args.line) c.args.answered.now c.in-Some.number c.in-Ok.bad _ _ _ (g.T.FrontEnd.report c.args.front_end.now) (g.T.FrontEnd.report c.write_out.new.front_end) _ c.in-Some.ensures.1 c.as_slice.ensures.value c.new-out.ensures.items c.in-Ok.ensures c.in_err-write_out.ensures.err)

pub returns-clause-ok : goal.returns-clause-ok
returns-clause-ok g c =
    line_done c.args.options (line_of c.args.line) c.args.answered.now _ c.in-Some.number c.in-Ok.bad _ _ _ (g.T.FrontEnd.report c.args.front_end.now) (g.T.FrontEnd.report c.write_out.new.front_end) c.in-Some.ensures.1 c.as_slice.ensures.value c.new-out.ensures.items c.in-Ok.ensures c.in_ok-write_out.ensures.ok refl c.either-answered.ensures
