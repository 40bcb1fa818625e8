use Rattle.std.proofs.Common.{rules, refl}
use Rattle.usi_lines.specs.Seen.{line_of}
use Rattle.usi_stdio.proofs.Working.{passed_on}
use Rattle.usi_app.proofs.Answering.{fewer_ahead, part_cut, part_more, part_start, some_ahead}
use Rattle.usi_app.proofs.mates.answer_chunk.Goals as goal

pub lines-init : goal.lines-init
lines-init g c = part_start c.args.options c.args.chunk.now c.args.answered.now c.args.lines.now _ _ (search rules)

pub drop_line-requires : goal.drop_line-requires
drop_line-requires g c = some_ahead c.lines.lines (line_of c.in-Some.line) c.in-Some.ensures.first

pub returns-in_err-answer_line-clause-err : goal.returns-in_err-answer_line-clause-err
returns-in_err-answer_line-clause-err g c =
    passed_on c.from_residual.result _ _ c.from_residual.ensures.1
    (part_cut c.args.options c.args.chunk.now c.args.answered.now c.lines.answered c.args.lines.now c.lines.lines (line_of c.in-Some.line) _ _ _ _ c.lines.invariant c.in-Some.ensures.first c.in_err-answer_line.ensures.err)

pub lines-smaller : goal.lines-smaller
lines-smaller g c = fewer_ahead c.lines.lines c.drop_line.new.self (line_of c.in-Some.line) c.in-Some.ensures.first c.drop_line.ensures.rest

pub lines-preserved : goal.lines-preserved
lines-preserved g c = part_more c.args.options c.args.chunk.now c.args.answered.now c.lines.answered c.answer_line.new.answered c.args.lines.now c.lines.lines c.drop_line.new.self (line_of c.in-Some.line) _ _ _ c.lines.invariant c.in-Some.ensures.first c.in_ok-answer_line.ensures.ok c.drop_line.ensures.rest

pub returns-clause-ok : goal.returns-clause-ok
returns-clause-ok g c = record { part = c.lines.invariant; settled = c.in_default.ensures.if_none.0 refl }
