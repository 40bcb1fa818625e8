use Rattle.std.proofs.Common.{◌≡◌, false}
use Rattle.shogi_core.specs.Movement.{reaches}
use Rattle.last_ply.proofs.Squares.{one_victim_more}
use Rattle.last_ply.proofs.frontier.FrontierNode.squares_reaching_some.Goals as goal

pub squares-preserved : goal.squares-preserved
squares-preserved c = rw c.bitor-found.ensures (one_victim_more c.args.squares.bits c.squares.left c.next.new.self c.in-Some.square c.squares.found.bits c.squares_reaching.result.bits
    (λ t n. reaches c.args.self.now.node.now.position.cells n t ≡ false) c.in-Some.ensures.some.rest c.squares.invariant c.squares_reaching.ensures)
