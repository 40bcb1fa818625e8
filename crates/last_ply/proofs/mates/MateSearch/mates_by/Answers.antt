use Rattle.std.proofs.Common.{◌∙◌, sym}
use Rattle.last_ply.proofs.MateLaws.{none_held}
use Rattle.last_ply.proofs.mates.MateSearch.mates_by.Goals as goal

pub returns-then-hand-eq0-clause-if_none : goal.returns-then-hand-eq0-clause-if_none
returns-then-hand-eq0-clause-if_none c = λ _. none_held c.args.self.now.frontier.node.now.position c.args.kind (rw (c.side.ensures, c.as_position-p.ensures) at (sym c.hand.ensures ∙ c.if-hand-eq0.true))
