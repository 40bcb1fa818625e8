use Rattle.usi_app.proofs.Answering.{IsBetween}
use Rattle.usi_app.proofs.mates.answer_all.Given as goal

-- the bytes read are answered, except for those in the buffer
abbrev pub invariant-chunks : goal.invariant-chunks
invariant-chunks g l =
    IsBetween l.options (g.T.FrontEnd.report l.fn.front_end) (g.T.FrontEnd.report l.front_end) l.answered l.lines
