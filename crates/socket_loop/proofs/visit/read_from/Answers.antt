use Rattle.std.proofs.Common.{◌≡◌, ◌∙◌, [], ◌∷◌, true, inl, inr, rules, sym, Ok}
use Rattle.std.proofs.lemmas.Bool.{both_ways}
use Rattle.transport.proofs.Reported.{nothing_keeps, ended_keeps}
use Rattle.transport.specs.Asked.{Asks, Read}
use Rattle.transport.specs.Report.{IsWithin, Reads, Shuts}
use Rattle.transport.specs.declared.wire.Got.TheVariants.{Bytes, Nothing, Ended}
use Rattle.usi_session.specs.declared.limits.TheConstants.{CHUNK_MAX}
use Rattle.socket_loop.specs.declared.connection.Connection.{Connection}
use Rattle.socket_loop.specs.Parts.{IsInput}
use Rattle.socket_loop.specs.Calls.{Visits, is_to_read, reads_of}
use Rattle.socket_loop.specs.Scenes.{Scene, scene}
use Rattle.socket_loop.proofs.Parts.{carries_by_same, carries_by_wire}
use Rattle.socket_loop.proofs.Visits.{read_fault, carries_by_fault}
use Rattle.socket_loop.proofs.OneVisit.{at_most_then, emptied, no_read, read_bytes, read_ended, read_none, read_nothing, visited_ended, visited_same, visited_shut}
use Rattle.socket_loop.proofs.Calls.{visits_nothing, visits_closing}
use Rattle.socket_loop.proofs.Each.{visit_none}
use Rattle.socket_loop.proofs.visit.read_from.Goals as goal

pub returns-then-not-is_to_read-clause-reads : goal.returns-then-not-is_to_read-clause-reads
returns-then-not-is_to_read-clause-reads g c =
    let x : Connection = c.args.held.now in
    let before : Scene = scene g.W.Wire (x ∷ []) c.args.wire.now c.args.host.now in
    record {
      visited = visit_none reads_of IsInput before x (no_read c.args.host.now x (sym c.is_to_read.ensures.test ∙ c.if-not-is_to_read.true));
      carries = λ marks marked. carries_by_same IsInput marks before.bound (x.link ∷ []) before.report c.args.host.now;
    }

pub returns-in-Ok-Nothing-clause-reads : goal.returns-in-Ok-Nothing-clause-reads
returns-in-Ok-Nothing-clause-reads g c =
    let x : Connection = c.args.held.now in
    let before : Scene = scene g.W.Wire (x ∷ []) c.args.wire.now c.args.host.now in
    let after : Scene = scene g.W.Wire (x ∷ []) c.read.new.self c.args.host.now in
    let due : is_to_read c.args.host.now x ≡ true = sym c.is_to_read.ensures.test ∙ c.if-not-is_to_read.false in
    let asked : Asks before.asked (g.W.Wire.asked c.read.new.self) (Read x.link.number CHUNK_MAX ∷ []) = c.read.ensures.asked in
    let read : Reads before.report after.report x.link.number (Ok Nothing) (g.W.Wire.lent c.read.new.self) = rw c.in-Ok-Nothing.field-0-is at c.in-Ok-Nothing.ensures.read in
    record {
      visited = read_nothing x before after (g.W.Wire.lent c.read.new.self) due read asked (visited_same IsInput x before after (visits_nothing IsInput x.link.id c.args.host.now) c.read.ensures.bound c.read.ensures.cause.0);
      carries = λ marks marked. carries_by_wire IsInput marks before.bound (x.link ∷ []) before.report after.report c.args.host.now (nothing_keeps before.report after.report x.link.number (g.W.Wire.lent c.read.new.self) read);
    }

pub returns-in-Ok-Ended-clause-reads : goal.returns-in-Ok-Ended-clause-reads
returns-in-Ok-Ended-clause-reads g c =
    let x : Connection = c.args.held.now in
    let before : Scene = scene g.W.Wire (x ∷ []) c.args.wire.now c.args.host.now in
    let after : Scene = scene g.W.Wire ((record x { has_ended = true }) ∷ []) c.read.new.self c.args.host.now in
    let due : is_to_read c.args.host.now x ≡ true = sym c.is_to_read.ensures.test ∙ c.if-not-is_to_read.false in
    let asked : Asks before.asked (g.W.Wire.asked c.read.new.self) (Read x.link.number CHUNK_MAX ∷ []) = c.read.ensures.asked in
    let read : Reads before.report after.report x.link.number (Ok Ended) (g.W.Wire.lent c.read.new.self) = rw c.in-Ok-Ended.field-0-is at c.in-Ok-Ended.ensures.read in
    record {
      visited = read_ended x before after due asked (visited_ended IsInput x before after (visits_nothing IsInput x.link.id c.args.host.now) c.read.ensures.bound c.read.ensures.cause.0);
      carries = λ marks marked. carries_by_wire IsInput marks before.bound (x.link ∷ []) before.report after.report c.args.host.now (ended_keeps before.report after.report x.link.number (g.W.Wire.lent c.read.new.self) read);
    }

pub returns-in-Err-clause-reads : goal.returns-in-Err-clause-reads
returns-in-Err-clause-reads g c =
    let x : Connection = c.args.held.now in
    let before : Scene = scene g.W.Wire (x ∷ []) c.args.wire.now c.args.host.now in
    let after : Scene = scene g.W.Wire ((record x { is_shut = true }) ∷ []) c.shut_down.new.wire c.shut_down.new.host in
    let due : is_to_read c.args.host.now x ≡ true = sym c.is_to_read.ensures.test ∙ c.if-not-is_to_read.false in
    let asked : Asks before.asked (g.W.Wire.asked c.read.new.self) (Read x.link.number CHUNK_MAX ∷ []) = c.read.ensures.asked in
    let shuts : Shuts before.bound (g.W.Wire.report c.read.new.self) after.report x.link.number = rw c.read.ensures.bound at c.shut_down.ensures.shuts in
    let visits : Visits IsInput x.link.id c.args.host.now c.shut_down.new.host = visits_closing IsInput x.link.id c.args.host.now c.shut_down.new.host tt c.shut_down.ensures.closed in
    rw c.shut_down.ensures.held (record {
      visited = read_none x before after (g.W.Wire.asked c.read.new.self) due (c.is_to_read.ensures.«open» c.if-not-is_to_read.false) asked c.shut_down.ensures.asked
          (visited_shut IsInput x before after (g.W.Wire.report c.read.new.self) c.in-Err.ensures.read.shut shuts visits c.shut_down.ensures.if_none (c.shut_down.ensures.bound ∙ c.read.ensures.bound) (at_most_then before.failed (g.W.Wire.failed c.read.new.self) after.failed c.read.ensures.cause.0 c.shut_down.ensures.faults));
      carries = λ marks marked. carries_by_fault IsInput marks before.bound x.link before.report (g.W.Wire.report c.read.new.self) after.report c.args.host.now c.shut_down.new.host tt (read_fault before.report (g.W.Wire.report c.read.new.self) x.link.number c.in-Err.field-0 (g.W.Wire.lent c.read.new.self) c.in-Err.ensures.read) c.in-Err.ensures.read.failed shuts c.shut_down.ensures.closed;
    })

pub returns-in-Ok-Bytes-clause-reads : goal.returns-in-Ok-Bytes-clause-reads
returns-in-Ok-Bytes-clause-reads g c =
    let x : Connection = c.args.held.now in
    let before : Scene = scene g.W.Wire (x ∷ []) c.args.wire.now c.args.host.now in
    let mid : Scene = scene g.W.Wire (x ∷ []) c.read.new.self c.args.host.now in
    let after : Scene = scene g.W.Wire (c.feed_from.new.held ∷ []) c.feed_from.new.wire c.feed_from.new.host in
    let due : is_to_read c.args.host.now x ≡ true = sym c.is_to_read.ensures.test ∙ c.if-not-is_to_read.false in
    let asked : Asks before.asked (g.W.Wire.asked c.read.new.self) (Read x.link.number CHUNK_MAX ∷ []) = c.read.ensures.asked in
    let read : Reads before.report mid.report x.link.number (Ok Bytes) (g.W.Wire.lent c.read.new.self) = rw c.in-Ok-Bytes.field-0-is at c.in-Ok-Bytes.ensures.read in
    let within : IsWithin (Ok Bytes) CHUNK_MAX (g.W.Wire.lent c.read.new.self) = rw c.in-Ok-Bytes.field-0-is at c.in-Ok-Bytes.ensures.within in
    record {
      visited = read_bytes x c.feed_from.new.held before mid after (g.W.Wire.lent c.read.new.self) within.0 due (c.is_to_read.ensures.«open» c.if-not-is_to_read.false) c.read.ensures.bound c.read.ensures.cause.0 read asked c.feed_from.ensures.fed.visit.steps c.feed_from.ensures.fed;
      carries = λ marks marked. rw c.read.ensures.bound at (c.feed_from.ensures.fed.carries marks before.report (search rules) (search rules));
    }

pub returns-then-not-is_to_read-clause-ended : goal.returns-then-not-is_to_read-clause-ended
returns-then-not-is_to_read-clause-ended g c = λ e. inl e

pub returns-in-Ok-Nothing-clause-ended : goal.returns-in-Ok-Nothing-clause-ended
returns-in-Ok-Nothing-clause-ended g c = λ e. inl e

pub returns-in-Err-clause-ended : goal.returns-in-Err-clause-ended
returns-in-Err-clause-ended g c = λ e. inl (rw c.shut_down.ensures.held at e)

pub returns-in-Ok-Bytes-clause-ended : goal.returns-in-Ok-Bytes-clause-ended
returns-in-Ok-Bytes-clause-ended g c = λ e. inl (sym c.feed_from.ensures.ended ∙ e)

pub returns-in-Ok-Ended-clause-ended : goal.returns-in-Ok-Ended-clause-ended
returns-in-Ok-Ended-clause-ended g c =
    let x : Connection = c.args.held.now in
    let read : Reads (g.W.Wire.report c.args.wire.now) (g.W.Wire.report c.read.new.self) x.link.number (Ok Ended) (g.W.Wire.lent c.read.new.self) = rw c.in-Ok-Ended.field-0-is at c.in-Ok-Ended.ensures.read in
    λ e. inr (emptied ((g.W.Wire.report c.args.wire.now).unread x.link.number) ((g.W.Wire.report c.read.new.self).unread x.link.number) read.consumed read.ended)

pub returns-in-Ok-Bytes-clause-still : goal.returns-in-Ok-Bytes-clause-still
returns-in-Ok-Bytes-clause-still g c = λ e. absurd (both_ways (is_to_read c.args.host.now c.args.held.now) e (sym c.is_to_read.ensures.test ∙ c.if-not-is_to_read.false))

pub returns-in-Ok-Ended-clause-still : goal.returns-in-Ok-Ended-clause-still
returns-in-Ok-Ended-clause-still g c = λ e. absurd (both_ways (is_to_read c.args.host.now c.args.held.now) e (sym c.is_to_read.ensures.test ∙ c.if-not-is_to_read.false))

pub returns-in-Err-clause-still : goal.returns-in-Err-clause-still
returns-in-Err-clause-still g c = λ e. absurd (both_ways (is_to_read c.args.host.now c.args.held.now) e (sym c.is_to_read.ensures.test ∙ c.if-not-is_to_read.false))

pub feed_from-requires-clause-wants : goal.feed_from-requires-clause-wants
feed_from-requires-clause-wants g c = c.is_to_read.ensures.wants c.if-not-is_to_read.false
