use Rattle.std.proofs.Common.{◌≡◌, Err, refl, ap, ◌∙◌, rules}
use Rattle.transport.proofs.Reported.{kept_same, kept_then}
use Rattle.stream_transport.specs.Held.{given_under, reported}
use Rattle.stream_transport.proofs.Asked.{asked_look, asked_next, asked_nobody, asked_nothing}
use Rattle.stream_transport.proofs.Outcomes.{cause_of_ok, cause_then, more_noted, stays_open, sure_noted, unsure_noted}
use Rattle.stream_transport.proofs.Reports.{alike_keeps}
use Rattle.stream_transport.proofs.Waking.{accepted_alike, awake_named, same_alike, still_same, still_then}
use Rattle.stream_transport.proofs.wire.StreamWire.accept_now.Goals as goal

-- neither the look nor the new stream changes the report
pub returns-clause-unchanged : goal.returns-clause-unchanged
returns-clause-unchanged g c =
    let r = g.L.Stream.ByteStream.unread in
    let t = g.L.Stream.ByteStream.written in
    let told = g.L.Listener.told in
    let w = given_under c.args.self.now.given.items in
    λ n. kept_then (reported r t w (told c.args.self.now.listener) c.args.self.now.places.items) (reported r t w (told c.look-looked.new.self) c.mark_all_ready.new.places.items) (reported r t (given_under c.accept_next-accepted.new.self.given.items) (told c.accept_next-accepted.new.self.listener) c.accept_next-accepted.new.self.places.items) n (alike_keeps g.L.Stream.ByteStream.unread g.L.Stream.ByteStream.written (given_under c.args.self.now.given.items) (g.L.Listener.told c.args.self.now.listener) (g.L.Listener.told c.look-looked.new.self) c.args.self.now.places.items c.mark_all_ready.new.places.items c.mark_all_ready.ensures.alike c.look-looked.ensures.unchanged n) (c.accept_next-accepted.ensures.unchanged n)

-- a look, then an accept of the next client
pub returns-clause-asks : goal.returns-clause-asks
returns-clause-asks g c = asked_next c.args.self.now.readiness.may_accept _ _ c.args.self.now.next _ _ _ _ c.look-looked.result c.accept_next-accepted.result c.in_ok-answer_as.ensures.answers c.look-looked.ensures.asked c.accept_next-accepted.ensures.asks (rw c.note_accept.ensures (unsure_noted c.accept_next-accepted.result c.accept_next-accepted.new.self.readiness))

pub returns-clause-number : goal.returns-clause-number
returns-clause-number g c = c.accept_next-accepted.ensures.number

pub returns-clause-cause : goal.returns-clause-cause
returns-clause-cause g c = cause_then c.args.self.now.failed c.answer_as.new.failed c.accept_next-accepted.new.self.failed c.accept_next-accepted.result c.answer_as.ensures.cause.0 c.accept_next-accepted.ensures.cause

pub returns-clause-opens : goal.returns-clause-opens
returns-clause-opens g c = rw c.note_accept.ensures (stays_open c.accept_next-accepted.result c.args.self.now.readiness.may_accept c.accept_next-accepted.new.self.readiness (ap (λ x. x.may_accept) c.accept_next-accepted.ensures.readiness ∙ c.if-not-self.false))

pub returns-clause-more : goal.returns-clause-more
returns-clause-more g c = ap (λ x. x.has_buffered) c.note_accept.ensures ∙ (more_noted c.accept_next-accepted.result c.accept_next-accepted.new.self.readiness ∙ ap (λ x. x.has_buffered) c.accept_next-accepted.ensures.readiness)

pub returns-clause-sure : goal.returns-clause-sure
returns-clause-sure g c = rw (c.note_accept.ensures, c.accept_next-accepted.ensures.readiness) (sure_noted c.accept_next-accepted.result _)

pub returns-clause-awake : goal.returns-clause-awake
returns-clause-awake g c = λ left. awake_named (g.L.Listener.named c.look-looked.new.self) (g.L.Listener.named c.accept_next-accepted.new.self.listener) c.mark_all_ready.new.places.items c.accept_next-accepted.new.self.places.items c.accept_next-accepted.ensures.named c.accept_next-accepted.ensures.awake c.mark_all_ready.ensures.awake

pub returns-clause-still : goal.returns-clause-still
returns-clause-still g c = still_then c.args.self.now.places.items c.mark_all_ready.new.places.items c.accept_next-accepted.new.self.places.items c.mark_all_ready.ensures.still c.accept_next-accepted.ensures.awake

pub returns-clause-holds : goal.returns-clause-holds
returns-clause-holds g c = accepted_alike c.accept_next-accepted.result c.args.self.now.places.items c.mark_all_ready.new.places.items c.accept_next-accepted.new.self.places.items c.mark_all_ready.ensures.alike c.accept_next-accepted.ensures.holds

pub accept_next-accepted-requires : goal.accept_next-accepted-requires
accept_next-accepted-requires g c = record { left = c.if-self.false }

-- no client may wait
pub returns-then-not-self-clause-unchanged : goal.returns-then-not-self-clause-unchanged
returns-then-not-self-clause-unchanged g c = alike_keeps g.L.Stream.ByteStream.unread g.L.Stream.ByteStream.written (given_under c.args.self.now.given.items) (g.L.Listener.told c.args.self.now.listener) (g.L.Listener.told c.look-looked.new.self) c.args.self.now.places.items c.mark_all_ready.new.places.items c.mark_all_ready.ensures.alike c.look-looked.ensures.unchanged

pub returns-then-not-self-clause-cause : goal.returns-then-not-self-clause-cause
returns-then-not-self-clause-cause g c = cause_of_ok _ c.args.self.now.failed c.answer_as.new.failed c.answer_as.ensures.cause.0

pub returns-then-not-self-clause-asks : goal.returns-then-not-self-clause-asks
returns-then-not-self-clause-asks g c = asked_nobody c.args.self.now.readiness.may_accept c.mark_all_ready.new.may_accept _ _ _ _ _ _ c.look-looked.result c.in_ok-answer_as.ensures.answers c.look-looked.ensures.asked c.mark_all_ready.ensures.opens c.mark_all_ready.ensures.named c.if-not-self.true

pub returns-then-not-self-clause-awake : goal.returns-then-not-self-clause-awake
returns-then-not-self-clause-awake g c = λ left. c.mark_all_ready.ensures.awake

pub returns-then-not-self-clause-still : goal.returns-then-not-self-clause-still
returns-then-not-self-clause-still g c = c.mark_all_ready.ensures.still

-- the look failed
pub returns-in_err-answer_as-clause-unchanged : goal.returns-in_err-answer_as-clause-unchanged
returns-in_err-answer_as-clause-unchanged g c = alike_keeps g.L.Stream.ByteStream.unread g.L.Stream.ByteStream.written (given_under c.args.self.now.given.items) (g.L.Listener.told c.args.self.now.listener) (g.L.Listener.told c.look-looked.new.self) c.args.self.now.places.items c.mark_all_ready.new.places.items c.mark_all_ready.ensures.alike c.look-looked.ensures.unchanged

pub returns-in_err-answer_as-clause-asks : goal.returns-in_err-answer_as-clause-asks
returns-in_err-answer_as-clause-asks g c =
    let failed : c.from_residual.result ≡ Err c.in_err-answer_as.field-0.0 = search rules in
    rw failed (asked_look _ _ _ _ _ _ _ c.look-looked.result c.in_err-answer_as.field-0.0 c.in_err-answer_as.ensures.answers c.look-looked.ensures.asked)

pub returns-in_err-answer_as-clause-awake : goal.returns-in_err-answer_as-clause-awake
returns-in_err-answer_as-clause-awake g c = λ left. c.mark_all_ready.ensures.awake

pub returns-in_err-answer_as-clause-still : goal.returns-in_err-answer_as-clause-still
returns-in_err-answer_as-clause-still g c = c.mark_all_ready.ensures.still

pub returns-in_err-answer_as-clause-holds : goal.returns-in_err-answer_as-clause-holds
returns-in_err-answer_as-clause-holds g c =
    let failed : c.from_residual.result ≡ Err c.in_err-answer_as.field-0.0 = search rules in
    rw failed c.mark_all_ready.ensures.alike

-- no number is left
pub returns-then-self-clause-unchanged : goal.returns-then-self-clause-unchanged
returns-then-self-clause-unchanged g c = λ n. kept_same _ n

pub returns-then-self-clause-cause : goal.returns-then-self-clause-cause
returns-then-self-clause-cause g c = (c.fault.ensures.rises, λ e. c.fault.ensures.risen)

pub returns-then-self-clause-asks : goal.returns-then-self-clause-asks
returns-then-self-clause-asks g c = asked_nothing c.args.self.now.readiness.may_accept _ _ c.args.self.now.next _ _ _ c.fault.result refl c.if-self.true

pub returns-then-self-clause-still : goal.returns-then-self-clause-still
returns-then-self-clause-still g c = still_same c.args.self.now.places.items c.args.self.now.places.items (λ n. refl)

pub returns-then-self-clause-awake : goal.returns-then-self-clause-awake
returns-then-self-clause-awake g c = λ left. absurd (left c.if-self.true)

pub returns-then-self-clause-holds : goal.returns-then-self-clause-holds
returns-then-self-clause-holds g c = same_alike c.args.self.now.places.items c.args.self.now.places.items (λ n. refl)
