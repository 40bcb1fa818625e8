use Rattle.std.proofs.Common.{rules, refl, arith, ◌+◌}
use Rattle.host_core.specs.Events.{Worked, Refused}
use Rattle.host_core.proofs.Rounds.{round_settled, is_settled, round_more}
use Rattle.host_core.proofs.host.Host.round_at.Goals as goal

pub returns-then-not-pending-clause-continues : goal.returns-then-not-pending-clause-continues
returns-then-not-pending-clause-continues g c = λ start r. round_settled start c.args.budget c.args.id.slot _ _ c.args.self.now r (is_settled c.args.self.now c.args.id c.requires.open (search rules))

pub returns-in-Ok-clause-continues : goal.returns-in-Ok-clause-continues
returns-in-Ok-clause-continues g c = λ start r.
    round_more start c.args.budget c.args.id _ c.args.self.now c.work-outcome.new.self (Worked c.in-Ok.made)
    (record { worked = c.args.round.worked + 1; refused = c.args.round.refused; steps = c.saturating_add.result; bestmoves = c.saturating_add-bestmoves.result })
    r (search rules) c.work-outcome.ensures.below (search rules) refl (omega arith) (search rules) (search rules)

pub returns-in-Err-clause-continues : goal.returns-in-Err-clause-continues
returns-in-Err-clause-continues g c = λ start r.
    round_more start c.args.budget c.args.id _ c.args.self.now c.work-outcome.new.self (Refused c.in-Err.field-0)
    (record { worked = c.args.round.worked; refused = c.args.round.refused + 1; steps = c.args.round.steps; bestmoves = c.saturating_add-bestmoves.result })
    r (search rules) c.work-outcome.ensures.below (search rules) (omega arith) refl refl (search rules)
