use Rattle.std.proofs.Common.{refl, sym, ◌∙◌, ap, take, arith, rules}
use Rattle.std.proofs.lemmas.Grind.{common_steps}
use Rattle.usi_stdio.proofs.Between.{between_start, read_more, left_failed, talks_failed, left_many, talks_many, served_at_end, talks_at_end, between_more, served_over, talks_over, left_chunk, talks_chunk, talks_passed}
use Rattle.usi_stdio.proofs.Working.{on_err}
use Rattle.usi_session.proofs.Settled.{wanting-settled}
use Rattle.usi_stdio.proofs.Remembering.{told_all, told_at_end, told_chunk, told_start}
use Rattle.usi_stdio.proofs.streams.stdio_on.Goals as goal

pub chunks-init : goal.chunks-init
chunks-init g c = record {
  between = between_start c.args.setup _ c.with_setup-session.result c.with_setup-session.ensures.initial c.with_setup-session.ensures.due c.with_setup-session.ensures.after;
  told = told_start g.M.Memo.called c.args.setup _ c.args.memo.now c.with_setup-session.result c.with_setup-session.ensures.initial;
  capacity = refl;
}

-- a read failed
pub returns-in_default-clause-err : goal.returns-in_default-clause-err
returns-in_default-clause-err g c = left_failed _ _ _ c.chunks.session _ _ _ c.chunks.invariant.between c.in_default.ensures

pub returns-in_default-clause-calls : goal.returns-in_default-clause-calls
returns-in_default-clause-calls g c = talks_failed _ _ _ c.chunks.session _ _ _ c.chunks.invariant.between c.in_default.ensures

-- the input ended
pub returns-then-n-eq0-clause-ok : goal.returns-then-n-eq0-clause-ok
returns-then-n-eq0-clause-ok g c =
    served_at_end (g.T.FrontEnd.report c.args.front_end.now) (g.T.FrontEnd.report c.read.new.self) c.chunks.session c.chunks._reads _ (read_more (g.T.FrontEnd.report c.args.front_end.now) (g.T.FrontEnd.report c.chunks.front_end) (g.T.FrontEnd.report c.read.new.self) c.chunks.session c.chunks._reads c.in-Ok.n c.read.new.buf (take c.in-Ok.n c.read.new.buf) c.chunks.invariant.between c.in-Ok.ensures refl) (ap (λ k. take k c.read.new.buf) c.if-n-eq0.true) (c.in-Ok.ensures.consumed.1 c.if-n-eq0.true (first_of (search rules, omega arith, grind (arith, common_steps))))

pub returns-then-n-eq0-clause-calls : goal.returns-then-n-eq0-clause-calls
returns-then-n-eq0-clause-calls g c =
    talks_at_end (g.T.FrontEnd.report c.args.front_end.now) (g.T.FrontEnd.report c.read.new.self) c.chunks.session c.chunks._reads _ _ (read_more (g.T.FrontEnd.report c.args.front_end.now) (g.T.FrontEnd.report c.chunks.front_end) (g.T.FrontEnd.report c.read.new.self) c.chunks.session c.chunks._reads c.in-Ok.n c.read.new.buf (take c.in-Ok.n c.read.new.buf) c.chunks.invariant.between c.in-Ok.ensures refl) (ap (λ k. take k c.read.new.buf) c.if-n-eq0.true)

-- a prefix of the chunk's answers was written
pub returns-in_err-answer_chunk-clause-err : goal.returns-in_err-answer_chunk-clause-err
returns-in_err-answer_chunk-clause-err g c =
    on_err _ (left_chunk (g.T.FrontEnd.report c.args.front_end.now) (g.T.FrontEnd.report c.read.new.self) (g.T.FrontEnd.report c.answer_chunk.new.front_end) c.chunks.session c.chunks._reads c.split_at.result.0.now _ (read_more (g.T.FrontEnd.report c.args.front_end.now) (g.T.FrontEnd.report c.chunks.front_end) (g.T.FrontEnd.report c.read.new.self) c.chunks.session c.chunks._reads c.in-Ok.n c.read.new.buf c.split_at.result.0.now c.chunks.invariant.between c.in-Ok.ensures c.split_at.ensures.front) (first_of (search rules, omega arith, grind (arith, common_steps))) c.in_err-answer_chunk.ensures.err (first_of (search rules, omega arith, grind (arith, common_steps))))

pub returns-in_err-answer_chunk-clause-calls : goal.returns-in_err-answer_chunk-clause-calls
returns-in_err-answer_chunk-clause-calls g c =
    talks_passed _ _ c.from_residual.result _ c.from_residual.ensures.1 (talks_chunk (g.T.FrontEnd.report c.args.front_end.now) (g.T.FrontEnd.report c.read.new.self) (g.T.FrontEnd.report c.answer_chunk.new.front_end) c.chunks.session c.chunks._reads c.split_at.result.0.now _ (read_more (g.T.FrontEnd.report c.args.front_end.now) (g.T.FrontEnd.report c.chunks.front_end) (g.T.FrontEnd.report c.read.new.self) c.chunks.session c.chunks._reads c.in-Ok.n c.read.new.buf c.split_at.result.0.now c.chunks.invariant.between c.in-Ok.ensures c.split_at.ensures.front) (first_of (search rules, omega arith, grind (arith, common_steps))) c.in_err-answer_chunk.ensures.err)

-- the session is over
pub returns-then-is_over-clause-ok : goal.returns-then-is_over-clause-ok
returns-then-is_over-clause-ok g c =
    served_over (g.T.FrontEnd.report c.args.front_end.now) (g.T.FrontEnd.report c.read.new.self) (g.T.FrontEnd.report c.answer_chunk.new.front_end) c.chunks.session c.answer_chunk.new.session c.chunks._reads c.split_at.result.0.now (read_more (g.T.FrontEnd.report c.args.front_end.now) (g.T.FrontEnd.report c.chunks.front_end) (g.T.FrontEnd.report c.read.new.self) c.chunks.session c.chunks._reads c.in-Ok.n c.read.new.buf c.split_at.result.0.now c.chunks.invariant.between c.in-Ok.ensures c.split_at.ensures.front) (first_of (search rules, omega arith, grind (arith, common_steps))) c.in_ok-answer_chunk.ensures.answered (sym c.is_over.ensures ∙ c.if-is_over.true) (first_of (search rules, omega arith, grind (arith, common_steps)))

pub returns-then-is_over-clause-calls : goal.returns-then-is_over-clause-calls
returns-then-is_over-clause-calls g c =
    talks_over (g.T.FrontEnd.report c.args.front_end.now) (g.T.FrontEnd.report c.read.new.self) (g.T.FrontEnd.report c.answer_chunk.new.front_end) c.chunks.session c.answer_chunk.new.session c.chunks._reads c.split_at.result.0.now _ (read_more (g.T.FrontEnd.report c.args.front_end.now) (g.T.FrontEnd.report c.chunks.front_end) (g.T.FrontEnd.report c.read.new.self) c.chunks.session c.chunks._reads c.in-Ok.n c.read.new.buf c.split_at.result.0.now c.chunks.invariant.between c.in-Ok.ensures c.split_at.ensures.front) (first_of (search rules, omega arith, grind (arith, common_steps))) c.in_ok-answer_chunk.ensures.answered (sym c.is_over.ensures ∙ c.if-is_over.true)

-- one more chunk is answered
pub chunks-preserved : goal.chunks-preserved
chunks-preserved g c = record {
  between = between_more (g.T.FrontEnd.report c.args.front_end.now) (g.T.FrontEnd.report c.read.new.self) (g.T.FrontEnd.report c.answer_chunk.new.front_end) c.chunks.session c.answer_chunk.new.session c.chunks._reads c.split_at.result.0.now (read_more (g.T.FrontEnd.report c.args.front_end.now) (g.T.FrontEnd.report c.chunks.front_end) (g.T.FrontEnd.report c.read.new.self) c.chunks.session c.chunks._reads c.in-Ok.n c.read.new.buf c.split_at.result.0.now c.chunks.invariant.between c.in-Ok.ensures c.split_at.ensures.front) (first_of (search rules, omega arith, grind (arith, common_steps))) c.in_ok-answer_chunk.ensures.answered (sym c.is_over.ensures ∙ c.if-is_over.false);
  told = told_chunk g.M.Memo.called c.args.setup (g.T.FrontEnd.report c.args.front_end.now) (g.T.FrontEnd.report c.chunks.front_end) (g.T.FrontEnd.report c.read.new.self) (g.T.FrontEnd.report c.answer_chunk.new.front_end) _ _ _ c.chunks.session c.answer_chunk.new.session c.in-Ok.n c.read.new.buf c.split_at.result.0.now _ c.chunks.invariant.told c.in-Ok.ensures c.split_at.ensures.front c.in_ok-answer_chunk.ensures.answered.written c.in_ok-answer_chunk.ensures.told;
  capacity = c.answer_chunk.ensures.capacity ∙ c.chunks.invariant.capacity;
}

-- the greatest number of reads was made
pub returns-clause-err : goal.returns-clause-err
returns-clause-err g c = left_many _ _ c.chunks.session _ c.chunks.invariant.between

pub returns-clause-calls : goal.returns-clause-calls
returns-clause-calls g c = talks_many _ _ c.chunks.session _ c.chunks.invariant.between (search rules)

-- the memo was told each search for the bytes read
pub returns-then-n-eq0-clause-told : goal.returns-then-n-eq0-clause-told
returns-then-n-eq0-clause-told g c =
    told_at_end g.M.Memo.called c.args.setup (g.T.FrontEnd.report c.args.front_end.now) (g.T.FrontEnd.report c.chunks.front_end) (g.T.FrontEnd.report c.read.new.self) _ _ c.chunks.session c.in-Ok.n c.read.new.buf c.chunks.invariant.told c.in-Ok.ensures c.if-n-eq0.true (wanting-settled c.chunks.session c.chunks.invariant.between.wants)

pub returns-then-is_over-clause-told : goal.returns-then-is_over-clause-told
returns-then-is_over-clause-told g c =
    told_all g.M.Memo.called c.args.setup (g.T.FrontEnd.report c.args.front_end.now) (g.T.FrontEnd.report c.answer_chunk.new.front_end) _ _ c.answer_chunk.new.session
    (told_chunk g.M.Memo.called c.args.setup (g.T.FrontEnd.report c.args.front_end.now) (g.T.FrontEnd.report c.chunks.front_end) (g.T.FrontEnd.report c.read.new.self) (g.T.FrontEnd.report c.answer_chunk.new.front_end) _ _ _ c.chunks.session c.answer_chunk.new.session c.in-Ok.n c.read.new.buf c.split_at.result.0.now _ c.chunks.invariant.told c.in-Ok.ensures c.split_at.ensures.front c.in_ok-answer_chunk.ensures.answered.written c.in_ok-answer_chunk.ensures.told)
    c.in_ok-answer_chunk.ensures.answered.settled
