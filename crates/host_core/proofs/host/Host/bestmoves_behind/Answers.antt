use Rattle.std.proofs.Common.{rules, ◌≤◌, length, sym}
use Rattle.session_slots.specs.Slots.{find}
use Rattle.host_core.specs.ById.{queued_of}
use Rattle.host_core.proofs.BestmoveLaws.{bestmoves_end}
use Rattle.host_core.proofs.host.Host.bestmoves_behind.Goals as goal

pub returns-in-None : goal.returns-in-None
returns-in-None g c =
    let past : length (queued_of (find c.args.self.now.slots c.args.id)) ≤ c.args.first = search rules in
    sym (bestmoves_end _ c.args.first past)
