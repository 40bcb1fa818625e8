-- The numbers of a wire over a listener (own choice).
use Rattle.std.specs.Prelude.{◌≡◌, ◌-◌, ◌^◌}
use Rattle.stream_transport.specs.declared.connection.TheConstants.{PLACES}
use Rattle.stream_transport.specs.declared.lingering.TheConstants.{DRAINING_PATIENCE, IDLE_LOOKS, IDLE_PATIENCE, LINGERING_MAX, LOOKS_MAX, READS}
use Rattle.stream_transport.specs.declared.sockets.TheConstants.{EVENTS, VISIT_PATIENCE}
use Rattle.stream_transport.specs.declared.tokens.TheConstants.{LISTENER, WATCHED}

-- lingering: most streams, looks of each, looks counted for a wait that found nothing, and reads of a stream at a
-- look
pub record AreLingering : Type 0 where
  pub most : LINGERING_MAX ≡ 256
  pub looks : LOOKS_MAX ≡ 4096
  pub idle : IDLE_LOOKS ≡ 64
  pub reads : READS ≡ 4

-- the longest waits in milliseconds: if all lingering streams are drained, if not, and if a client of the watched
-- listener may be unanswered
pub record ArePatiences : Type 0 where
  pub drained : IDLE_PATIENCE ≡ 50
  pub draining : DRAINING_PATIENCE ≡ 1
  pub visited : VISIT_PATIENCE ≡ 500

-- the limits of lingering and of waits, the places of connections, the events of a poll, and the tokens of listeners
pub record AreNumbers : Type 0 where
  pub lingering : AreLingering
  pub patiences : ArePatiences
  pub places : PLACES ≡ 1048576
  pub events : EVENTS ≡ 1282
  pub listener : LISTENER ≡ 2 ^ 64 - 1
  pub watched : WATCHED ≡ 2 ^ 64 - 2
