use Rattle.std.proofs.Common.{[], length}
use Rattle.usi_lines.specs.Lines.{ahead}
use Rattle.usi_app.specs.Mates.{IsPartAnswered}
use Rattle.usi_app.proofs.mates.answer_chunk.Given as goal

-- the lines so far were answered
abbrev pub invariant-lines : goal.invariant-lines
invariant-lines g l =
    IsPartAnswered l.options l.chunk l.fn.answered l.fn.lines l.answered l.lines
    (g.T.FrontEnd.report l.fn.front_end) (g.T.FrontEnd.report l.front_end)

abbrev pub decreases-lines : goal.decreases-lines
decreases-lines g l = length (ahead l.lines [])
