use Rattle.std.proofs.Common.{◌≡◌, ◌∙◌, ◌∷◌, false}
use Rattle.shogi_core.specs.declared.moves.Move.TheVariants.{Drop}
use Rattle.shogi_core.specs.Codes.{code_of}
use Rattle.shogi_moves.specs.Sweeps.{drops_left, matching_from}
use Rattle.shogi_moves.proofs.SweepLaws.{drop_taken}
use Rattle.shogi_moves.proofs.sweep.DropSweep.next.Goals as goal

pub returns-clause-next : goal.returns-clause-next
returns-clause-next c =
    let rest : drops_left c.args.p.now c.fill.new.self ≡ code_of (Drop c.fill.new.self.kind c.of_index-to.result) ∷ matching_from c.args.p.now false c.code_above-self.result =
    rw (c.code_above-self.ensures.code, c.of_index-to.ensures) ((drop_taken c.args.p.now c.fill.new.self.kind c.fill.new.self.code c.fill.new.self.destinations.bits c.lowest-lowest.result c.fill.ensures.consistent.destinations c.lowest-lowest.ensures.range c.lowest-lowest.ensures.set c.lowest-lowest.ensures.least).next) in
    (c.fill.ensures.some c.if-not-fill.false).1 ∙ rest

pub returns-clause-legal : goal.returns-clause-legal
returns-clause-legal c = rw (c.of_index-to.ensures) ((drop_taken c.args.p.now c.fill.new.self.kind c.fill.new.self.code c.fill.new.self.destinations.bits c.lowest-lowest.result c.fill.ensures.consistent.destinations c.lowest-lowest.ensures.range c.lowest-lowest.ensures.set c.lowest-lowest.ensures.least).legal)
