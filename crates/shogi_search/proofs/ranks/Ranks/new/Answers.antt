use Rattle.std.proofs.Common.{◌∙◌, ap, map}
use Rattle.shogi_search.specs.Ranked.{coded}
use Rattle.shogi_search.proofs.RankedLaws.{top_empty}
use Rattle.shogi_search.proofs.ranks.Ranks.new.Goals as goal

pub returns-clause-top : goal.returns-clause-top
returns-clause-top c f = ap (map coded) c.new.ensures ∙ top_empty f c.args.lines
