-- A connection whose bytes end its session is removed.
use Rattle.std.proofs.Common.{◌≡◌, ◌⊎◌, ℕ, zero, suc, ◌≤◌, Bool, true, false, List, [], ◌∷◌, Option, Some, None, Result, length, refl, ap, ◌∙◌, arith, inl, inr}
use Rattle.std.specs.Prelude.{◌||◌, ◌&&◌, ◌==◌, not}
use Rattle.session_slots.specs.Slots.{find}
use Rattle.usi_session.specs.Due.{SessionView, is_pending}
use Rattle.host_core.specs.ById.{queued_of, pending_of}
use Rattle.host_core.specs.Headline.{OverFrom}
use Rattle.host_core.specs.Steps.{HostState}
use Rattle.host_core.proofs.Overs.{over_settled}
use Rattle.transport.specs.declared.wire.WireFault.{WireFault}
use Rattle.socket_loop.specs.declared.connection.Link.{Link}
use Rattle.socket_loop.specs.declared.connection.Connection.{Connection}
use Rattle.socket_loop.specs.Links.{IsAmong, AreOnce, links_of}
use Rattle.socket_loop.specs.Parts.{is_finished_with}
use Rattle.socket_loop.specs.Scenes.{Scene}
use Rattle.socket_loop.specs.Serving.{AreTurns, IsTurnTo, IsWait}
use Rattle.socket_loop.specs.Life.{EndsByBytes}
use Rattle.socket_loop.proofs.Left.{NoneFinished}

once_turns : (slice n : ℕ) (a b : Scene) → AreTurns slice n a b → AreOnce (links_of a.held) → AreOnce (links_of b.held)
once_turns slice zero a b e o = rw e o
once_turns slice (suc n) a b p o = rw p.2.wait.held (p.2.turn.once (once_turns slice n a p.0 p.1 o))

finished_last : {answer : Result (Unit {0}) WireFault} (slice : ℕ) (b m c : Scene) (turn : IsTurnTo slice b m) → IsWait turn.moved answer m c → AreOnce (links_of b.held) → NoneFinished c.host c.held
finished_last slice b m c turn wait o = rw (wait.held, wait.host) (turn.finished o)

-- the connection of the link is not finished with
record Unfinished (host : HostState) (l : Link) : Type 0 where
  pub has_ended : Bool
  pub unfinished : is_finished_with has_ended (find host.slots l.id) ≡ false

unfinished_of : (host : HostState) (held : List Connection) (l : Link) → NoneFinished host held → IsAmong (links_of held) l → Unfinished host l
unfinished_of host [] l n m = absurd m
unfinished_of host (x ∷ xs) l n (inl e) = record { has_ended = x.has_ended; unfinished = rw e n.0 }
unfinished_of host (x ∷ xs) l n (inr m) = unfinished_of host xs l n.1 m

finished_true : (has_ended over pending : Bool) (empty : Bool) → over ≡ true → empty ≡ true → pending ≡ false → ((has_ended || over) && empty && not pending) ≡ true
finished_true true true false true e f g = refl
finished_true false true false true e f g = refl
finished_true has_ended false pending empty e f g = absurd (cc)
finished_true has_ended true true empty e f g = absurd (cc)
finished_true has_ended true false false e f g = absurd (cc)

-- a session that is over, with nothing pending or queued, is finished with
finished_by : (has_ended : Bool) (ends : List ℕ → Bool) (read : List ℕ) (now : Option SessionView) → OverFrom ends read now → ends read ≡ true → pending_of now ≡ false → queued_of now ≡ [] → is_finished_with has_ended now ≡ true
finished_by has_ended ends read None o e p q = refl
finished_by has_ended ends read (Some t) o e p q =
    finished_true has_ended t.state.is_over (is_pending t) (length t.queued == 0) (over_settled ends read (Some t) o p ∙ e) (ap (λ (xs : List ℕ). length xs == 0) q) p

left_or : (b : Scene) {P : Type 0} (l : Link) → NoneFinished b.host b.held → ((has_ended : Bool) → is_finished_with has_ended (find b.host.slots l.id) ≡ true) → IsAmong (links_of b.held) l ⊎ P → P
left_or b l none f (inl held) = (let u : Unfinished b.host l = unfinished_of b.host b.held l none held in absurd (cc (u.unfinished, f u.has_ended)))
left_or b l none f (inr p) = p

ends_of : (a b : Scene) → NoneFinished b.host b.held → EndsByBytes a b
ends_of a b none = λ duty l x over settled empty. left_or b l none (λ has_ended. finished_by has_ended duty.ends x.served.read (find b.host.slots l.id) x.over over settled empty) x.kept

pub ends_turns : (slice n : ℕ) (a b : Scene) → 1 ≤ n → AreOnce (links_of a.held) → AreTurns slice n a b → EndsByBytes a b
ends_turns slice zero a b one o p = absurd (omega (arith, one))
ends_turns slice (suc n) a b one o p = ends_of a b (finished_last slice p.0 p.2.middle b p.2.turn p.2.wait (once_turns slice n a p.0 p.1 o))

pub ends_stopped : {answer : Result (Unit {0}) WireFault} (slice n : ℕ) (a m l b : Scene) → AreOnce (links_of a.held) → AreTurns slice n a m → (turn : IsTurnTo slice m l) → IsWait turn.moved answer l b → EndsByBytes a b
ends_stopped slice n a m l b o p turn wait = ends_of a b (finished_last slice m l b turn wait (once_turns slice n a m p o))
