use Rattle.std.proofs.Common.{◌∙◌, arith, sym}
use Rattle.search_nodes.proofs.threat.Threat.is_non_interfering.Goals as goal

pub returns : goal.returns
returns c = λ e. c.non_interfering_squares.ensures c.args.to c.args.put (omega arith) (sym c.has.ensures ∙ e) (λ s. c.slides.ensures ∙ s)
