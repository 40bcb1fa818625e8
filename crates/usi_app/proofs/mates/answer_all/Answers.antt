use Rattle.std.proofs.Common.{rules, refl, ap, arith, take}
use Rattle.std.proofs.lemmas.Grind.{common_steps}
use Rattle.usi_stdio.proofs.Working.{on_err}
use Rattle.usi_app.proofs.Answering.{between_cut, between_cut_at_end, between_end, between_left, between_many, between_more, between_start}
use Rattle.usi_app.proofs.mates.answer_all.Goals as goal

pub chunks-init : goal.chunks-init
chunks-init g c = between_start c.args.options _ _ c.new-lines.result c.new-lines.ensures refl

pub returns-in_default-clause-err : goal.returns-in_default-clause-err
returns-in_default-clause-err g c = between_left c.args.options _ _ _ c.chunks.answered c.chunks.lines _ _ c.chunks.invariant c.in_default.ensures

pub returns-in_err-answer_chunk-clause-err : goal.returns-in_err-answer_chunk-clause-err
returns-in_err-answer_chunk-clause-err g c =
    on_err _ (between_cut_at_end c.args.options (g.T.FrontEnd.report c.args.front_end.now) (g.T.FrontEnd.report c.chunks.front_end) (g.T.FrontEnd.report c.read.new.self) (g.T.FrontEnd.report c.answer_chunk.new.front_end) c.chunks.answered c.chunks.lines c.read.new.buf c.in-Ok.n _ c.chunks.invariant c.in-Ok.ensures c.if-n-eq0.true c.in_err-answer_chunk.ensures.err)

pub returns-then-n-eq0-clause-ok : goal.returns-then-n-eq0-clause-ok
returns-then-n-eq0-clause-ok g c =
    between_end c.args.options (g.T.FrontEnd.report c.args.front_end.now) (g.T.FrontEnd.report c.chunks.front_end) (g.T.FrontEnd.report c.read.new.self) (g.T.FrontEnd.report c.answer_chunk.new.front_end) c.chunks.answered c.answer_chunk.new.answered c.chunks.lines c.answer_chunk.new.lines c.read.new.buf c.in-Ok.n c.chunks.invariant c.in-Ok.ensures c.if-n-eq0.true (c.in-Ok.ensures.consumed.1 c.if-n-eq0.true (first_of (search rules, omega arith, grind (arith, common_steps)))) c.in_ok-answer_chunk.ensures.ok

pub returns-in_err-answer_chunk-2-clause-err : goal.returns-in_err-answer_chunk-2-clause-err
returns-in_err-answer_chunk-2-clause-err g c =
    on_err _ (between_cut c.args.options (g.T.FrontEnd.report c.args.front_end.now) (g.T.FrontEnd.report c.chunks.front_end) (g.T.FrontEnd.report c.read.new.self) (g.T.FrontEnd.report c.answer_chunk-in-chunks.new.front_end) c.chunks.answered c.chunks.lines c.read.new.buf c.split_at.result.0.now c.in-Ok.n _ c.chunks.invariant c.in-Ok.ensures c.split_at.ensures.front c.in_err-answer_chunk-2.ensures.err)

pub chunks-preserved : goal.chunks-preserved
chunks-preserved g c = between_more c.args.options (g.T.FrontEnd.report c.args.front_end.now) (g.T.FrontEnd.report c.chunks.front_end) (g.T.FrontEnd.report c.read.new.self) (g.T.FrontEnd.report c.answer_chunk-in-chunks.new.front_end) c.chunks.answered c.answer_chunk-in-chunks.new.answered c.chunks.lines c.answer_chunk-in-chunks.new.lines c.read.new.buf c.split_at.result.0.now c.in-Ok.n c.chunks.invariant c.in-Ok.ensures c.split_at.ensures.front c.in_ok-answer_chunk-2.ensures.ok.part

pub returns-clause-err : goal.returns-clause-err
returns-clause-err g c = between_many c.args.options _ _ c.chunks.answered c.chunks.lines c.chunks.invariant
