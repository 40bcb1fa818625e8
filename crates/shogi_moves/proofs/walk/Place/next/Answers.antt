use Rattle.std.proofs.Common.{◌∙◌, ap, sym, arith}
use Rattle.shogi_moves.specs.LegalMoves.{legal_from}
use Rattle.shogi_moves.specs.Sweeps.{codes_at, drops_left}
use Rattle.shogi_moves.proofs.NextLaws.{takes_drop, above_drop}
use Rattle.shogi_moves.proofs.SweepLaws.{all_drops}
use Rattle.shogi_moves.proofs.walk.Place.next.Goals as goal

pub returns-in-Drops-clause-above : goal.returns-in-Drops-clause-above
returns-in-Drops-clause-above c = above_drop c.args.p.now c.next.new.self.code c.next.result (omega (arith, c.next.ensures.consistent.destinations.low)) c.next.ensures.code

pub returns-in_default-clause-next : goal.returns-in_default-clause-next
returns-in_default-clause-next c = takes_drop (codes_at c.args.p.now c.args.self.now) (drops_left c.args.p.now c.new-sweep.result) (drops_left c.args.p.now c.next-found.new.self) c.next-found.result
    (ap (codes_at c.args.p.now) c.in-Board.is ∙ ((rw (c.in_default.is, c.at-known.ensures) at c.least_board.ensures.next) ∙ (ap (legal_from c.args.p.now) (sym c.new-sweep.ensures.code) ∙ sym (all_drops c.args.p.now c.new-sweep.result.code (omega (arith, c.new-sweep.ensures.consistent.destinations.low))))))
    c.next-found.ensures.next c.next-found.ensures.end

pub returns-in_default-clause-above : goal.returns-in_default-clause-above
returns-in_default-clause-above c = above_drop c.args.p.now c.next-found.new.self.code c.next-found.result (omega (arith, c.next-found.ensures.consistent.destinations.low)) c.next-found.ensures.code
