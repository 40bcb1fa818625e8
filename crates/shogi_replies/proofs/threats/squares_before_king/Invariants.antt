use Rattle.shogi_replies.specs.Threats.{HasBeforeSnipers}
use Rattle.shogi_replies.proofs.threats.squares_before_king.Given as goal

abbrev pub invariant-snipers : goal.invariant-snipers
invariant-snipers l = HasBeforeSnipers l.p.cells l.fn.side l.king l.left l.squares.bits

abbrev pub decreases-snipers : goal.decreases-snipers
decreases-snipers l = l.left
