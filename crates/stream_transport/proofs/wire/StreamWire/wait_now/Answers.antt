use Rattle.std.proofs.Common.{◌≡◌, true, false, refl}
use Rattle.transport.proofs.Reported.{kept_same}
use Rattle.stream_transport.specs.Held.{given_under}
use Rattle.stream_transport.proofs.Asked.{made_no_more, made_not, made_once, more_goes, more_stays, unsure_goes, unsure_stays, waits_not, waits_once}
use Rattle.stream_transport.proofs.Outcomes.{cause_of_ok, not_below}
use Rattle.stream_transport.proofs.Reports.{alike_keeps}
use Rattle.stream_transport.proofs.Waking.{still_same}
use Rattle.stream_transport.proofs.wire.StreamWire.wait_now.Goals as goal

pub returns-then-not-idle-clause-unchanged : goal.returns-then-not-idle-clause-unchanged
returns-then-not-idle-clause-unchanged g c = λ n. kept_same _ n

pub returns-then-not-idle-clause-cause : goal.returns-then-not-idle-clause-cause
returns-then-not-idle-clause-cause g c = cause_of_ok _ c.args.self.now.failed c.args.self.now.failed (not_below c.args.self.now.failed)

pub returns-then-not-idle-clause-asks : goal.returns-then-not-idle-clause-asks
returns-then-not-idle-clause-asks g c = waits_not _ c.args.self.now.readiness.needs_timeout (g.L.Listener.asked c.args.self.now.listener) (made_not c.args.idle c.args.self.now.readiness.has_buffered c.if-not-idle.true)

pub returns-then-not-idle-clause-awake : goal.returns-then-not-idle-clause-awake
returns-then-not-idle-clause-awake g c = λ idle none. absurd (let t : c.args.idle ≡ true = idle in let f : c.args.idle ≡ false = c.if-not-idle.true in cc)

pub returns-then-not-idle-clause-still : goal.returns-then-not-idle-clause-still
returns-then-not-idle-clause-still g c = still_same c.args.self.now.places.items c.args.self.now.places.items (λ n. refl)

pub returns-then-not-idle-clause-more : goal.returns-then-not-idle-clause-more
returns-then-not-idle-clause-more g c = more_stays c.args.self.now.readiness.has_buffered c.args.idle c.if-not-idle.true

pub returns-then-self-clause-unchanged : goal.returns-then-self-clause-unchanged
returns-then-self-clause-unchanged g c = λ n. kept_same _ n

pub returns-then-self-clause-cause : goal.returns-then-self-clause-cause
returns-then-self-clause-cause g c = cause_of_ok _ c.args.self.now.failed c.args.self.now.failed (not_below c.args.self.now.failed)

pub returns-then-self-clause-asks : goal.returns-then-self-clause-asks
returns-then-self-clause-asks g c = waits_not _ c.args.self.now.readiness.needs_timeout (g.L.Listener.asked c.args.self.now.listener) (made_no_more c.args.idle c.args.self.now.readiness.has_buffered c.if-self.true)

pub returns-then-self-clause-awake : goal.returns-then-self-clause-awake
returns-then-self-clause-awake g c = λ idle none. absurd (let t : c.args.self.now.readiness.has_buffered ≡ true = c.if-self.true in let f : c.args.self.now.readiness.has_buffered ≡ false = none in cc)

pub returns-then-self-clause-still : goal.returns-then-self-clause-still
returns-then-self-clause-still g c = still_same c.args.self.now.places.items c.args.self.now.places.items (λ n. refl)

pub returns-then-self-clause-more : goal.returns-then-self-clause-more
returns-then-self-clause-more g c = more_goes c.args.self.now.readiness.has_buffered c.args.idle c.if-not-idle.false

pub returns-clause-unchanged : goal.returns-clause-unchanged
returns-clause-unchanged g c = alike_keeps g.L.Stream.ByteStream.unread g.L.Stream.ByteStream.written (given_under c.args.self.now.given.items) (g.L.Listener.told c.args.self.now.listener) (g.L.Listener.told c.wait-looked.new.self) c.args.self.now.places.items c.mark_all_ready.new.places.items c.mark_all_ready.ensures.alike c.wait-looked.ensures.unchanged

pub returns-clause-cause : goal.returns-clause-cause
returns-clause-cause g c = c.answer_as.ensures.cause

pub returns-clause-asks : goal.returns-clause-asks
returns-clause-asks g c = waits_once _ c.args.self.now.readiness.needs_timeout _ _ _ c.wait-looked.result c.answer_as.result (made_once c.args.idle c.args.self.now.readiness.has_buffered c.if-not-idle.false c.if-self.false) c.patience_for-patience.ensures c.wait-looked.ensures.asked c.answer_as.ensures.answers

pub returns-clause-awake : goal.returns-clause-awake
returns-clause-awake g c = λ idle none. c.mark_all_ready.ensures.awake

pub returns-clause-still : goal.returns-clause-still
returns-clause-still g c = c.mark_all_ready.ensures.still

-- the need for a timeout stays until a wait is made
pub returns-then-not-idle-clause-unsure : goal.returns-then-not-idle-clause-unsure
returns-then-not-idle-clause-unsure g c = unsure_stays c.args.self.now.readiness.needs_timeout _ (made_not c.args.idle c.args.self.now.readiness.has_buffered c.if-not-idle.true)

pub returns-then-self-clause-unsure : goal.returns-then-self-clause-unsure
returns-then-self-clause-unsure g c = unsure_stays c.args.self.now.readiness.needs_timeout _ (made_no_more c.args.idle c.args.self.now.readiness.has_buffered c.if-self.true)

pub returns-clause-unsure : goal.returns-clause-unsure
returns-clause-unsure g c = unsure_goes c.args.self.now.readiness.needs_timeout _ (made_once c.args.idle c.args.self.now.readiness.has_buffered c.if-not-idle.false c.if-self.false)
