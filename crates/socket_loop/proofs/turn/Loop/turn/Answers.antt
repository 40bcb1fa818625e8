use Rattle.std.proofs.Common.{◌≡◌, ◌≤◌, ◌∙◌, ap, refl, []}
use Rattle.socket_loop.specs.Turns.{LoopState}
use Rattle.socket_loop.proofs.OneVisit.{at_most_then}
use Rattle.socket_loop.specs.Links.{links_of, AreOnce, IsRising}
use Rattle.socket_loop.proofs.Shutting.{shuts_all}
use Rattle.socket_loop.proofs.Turning.{turn_with, asks_turn, turn_fits, turns, carries_by_rises}
use Rattle.transport.proofs.Reported.{known_move, moves_then}
use Rattle.socket_loop.proofs.Quiet.{quiet_turn}
use Rattle.socket_loop.proofs.Runs.{next_rises}
use Rattle.socket_loop.proofs.Stirs.{moved_turn}
use Rattle.socket_loop.proofs.Rising.{rising_filter}
use Rattle.socket_loop.proofs.Left.{none_finished, once_filter}
use Rattle.socket_loop.proofs.turn.Loop.turn.Goals as goal

pub returns-clause-turn : goal.returns-clause-turn
returns-clause-turn g c = record {
  slice = c.remove_shut.ensures.slice ∙ (c.visit_all-closed.ensures.all.slice ∙ (c.visit_all-written.ensures.all.slice ∙ (c.visit_all-read.ensures.all.slice ∙ c.accept_all-arrivals.ensures.slice)));
  scenes = turns _ _ _ _ _
      (
      let same : links_of c.visit_all-closed.new.self.held ≡ links_of c.accept_all-arrivals.new.self.held = c.visit_all-closed.ensures.all.scenes.visited.links ∙ (c.visit_all-written.ensures.all.scenes.visited.links ∙ c.visit_all-read.ensures.all.scenes.visited.links) in
      let slice : c.self.inside.slice ≡ c.args.self.now.slice = ap (λ (l : LoopState). l.slice) c.self.view_is ∙ (c.visit_all-read.ensures.all.slice ∙ c.accept_all-arrivals.ensures.slice) in
      let bound_read = c.visit_all-read.ensures.all.scenes.visited.bound in
      let bound_written = c.visit_all-written.ensures.all.scenes.visited.bound ∙ bound_read in
      rw (c.visit_all-closed.ensures.all.scenes.visited.bound ∙ bound_written) (
      asks_turn c.args.self.now.slice _ _ _ _ c.accept_all-arrivals.new.self.held c.visit_all-read.new.self.held c.visit_all-written.new.self.held c.visit_all-closed.new.self.held c.accept_all-arrivals.new.host c.visit_all-read.new.host c.round-round.new.self c.visit_all-written.new.host _ _ (g.W.Wire.asked c.accept_all-arrivals.new.wire) (g.W.Wire.asked c.visit_all-read.new.wire) (g.W.Wire.asked c.visit_all-written.new.wire) c.round-round.result.refused
      (rw c.remove_shut.ensures.held (
      turn_with c.args.self.now.slice c.accept_all-arrivals.result c.visit_all-read.result.moved c.visit_all-written.result.moved c.visit_all-closed.result.moved _ c.args.self.now.held c.accept_all-arrivals.new.self.held c.visit_all-read.new.self.held c.visit_all-written.new.self.held c.visit_all-closed.new.self.held _ _ _ _ _ _ _ _ _ _ _ _ _ c.round-round.result.worked c.round-round.result.refused _ _ _ _ _ c.requires.fits
      c.accept_all-arrivals.ensures.scenes.accepts
      c.accept_all-arrivals.ensures.scenes.more.marks
      (c.visit_all-read.ensures.all.scenes.carries c.visit_all-written.new.self.held (λ e. absurd (cc)))
      c.visit_all-read.ensures.all.scenes.visited.marks
      (rw slice at c.round-round.ensures.round)
      (rw (bound_read, c.visit_all-read.ensures.all.scenes.visited.links) at (c.visit_all-written.ensures.all.scenes.carries c.visit_all-written.new.self.held (λ e. absurd (cc))))
      (rw bound_read at c.visit_all-written.ensures.all.scenes.visited.marks)
      (rw (bound_written, c.visit_all-written.ensures.all.scenes.visited.links, c.visit_all-read.ensures.all.scenes.visited.links) at (c.visit_all-closed.ensures.all.scenes.carries c.visit_all-written.new.self.held (λ e n m. m)))
      (rw bound_written at c.visit_all-closed.ensures.all.scenes.visited.marks)
      (c.visit_all-closed.ensures.all.scenes.ends refl).ended
      same
      (shuts_all c.args.self.now.held c.accept_all-arrivals.new.self.held c.visit_all-read.new.self.held c.visit_all-written.new.self.held c.visit_all-closed.new.self.held _ c.accept_all-arrivals.new.host c.visit_all-read.new.host c.round-round.new.self c.visit_all-written.new.host c.visit_all-closed.new.host _ _ _ _ _ c.accept_all-arrivals.ensures.scenes.more.marks (c.accept_all-arrivals.ensures.scenes.accepts.accepts.fits c.requires.fits) c.visit_all-read.ensures.all.scenes.visited.links (c.visit_all-written.ensures.all.scenes.visited.links ∙ c.visit_all-read.ensures.all.scenes.visited.links) c.visit_all-read.ensures.all.scenes.visited.asked c.round-round.ensures.round.run c.visit_all-written.ensures.all.scenes.visited.asked c.visit_all-closed.ensures.all.scenes.visited.asked)))
      c.accept_all-arrivals.ensures.scenes.accepts.asked
      c.accept_all-arrivals.ensures.scenes.accepts.accepts.host.chain
      c.accept_all-arrivals.ensures.scenes.more.grows
      c.accept_all-arrivals.ensures.scenes.more.rising
      c.visit_all-read.ensures.all.scenes.visited.asked
      c.visit_all-written.ensures.all.scenes.visited.asked
      c.visit_all-closed.ensures.all.scenes.visited.asked
      c.remove_shut.ensures.held
      (record {
        accepted = c.accept_all-arrivals.ensures.scenes.accepts.numbers.accepted;
        full = c.accept_all-arrivals.ensures.scenes.accepts.numbers.full;
        unopened = c.accept_all-arrivals.ensures.scenes.accepts.numbers.unopened;
        ended_reading = c.visit_all-read.ensures.shut;
        ended_writing = c.visit_all-written.ensures.shut;
        finished = c.visit_all-closed.ensures.shut;
        refused = refl;
      })
      (rw slice at c.round-round.ensures.counted))
      )
      (
      let same : links_of c.visit_all-closed.new.self.held ≡ links_of c.accept_all-arrivals.new.self.held = c.visit_all-closed.ensures.all.scenes.visited.links ∙ (c.visit_all-written.ensures.all.scenes.visited.links ∙ c.visit_all-read.ensures.all.scenes.visited.links) in
      let bound = c.visit_all-closed.ensures.all.scenes.visited.bound ∙ (c.visit_all-written.ensures.all.scenes.visited.bound ∙ c.visit_all-read.ensures.all.scenes.visited.bound) in
      rw bound (
      moved_turn c.accept_all-arrivals.result.moved c.visit_all-read.result.moved c.visit_all-written.result.moved c.visit_all-closed.result.moved c.is_pending-is_pending.result _ _ _ _ _ _ _ c.args.self.now.held c.accept_all-arrivals.new.self.held c.visit_all-read.new.self.held c.visit_all-written.new.self.held c.visit_all-closed.new.self.held _ c.visit_all-closed.new.host
      c.accept_all-arrivals.ensures.scenes.accepted c.accept_all-arrivals.ensures.scenes.quiet c.visit_all-read.ensures.all.scenes.visited.links c.visit_all-written.ensures.all.scenes.visited.links
      (c.visit_all-read.ensures.all.scenes.carries [] (λ e. absurd (cc))).carries.all (c.visit_all-written.ensures.all.scenes.carries [] (λ e. absurd (cc))).carries.all (c.visit_all-closed.ensures.all.scenes.carries c.visit_all-written.new.self.held (λ e n m. m)).carries.all
      c.visit_all-read.ensures.all.scenes.visited.made c.visit_all-written.ensures.all.scenes.visited.made c.visit_all-closed.ensures.all.scenes.visited.made
      c.visit_all-read.ensures.all.scenes.visited.stirs c.visit_all-written.ensures.all.scenes.visited.stirs c.visit_all-closed.ensures.all.scenes.visited.stirs
      same c.remove_shut.ensures.held c.is_pending-is_pending.ensures)
      )
      (
      rw c.remove_shut.ensures.held (
      quiet_turn c.accept_all-arrivals.result.moved c.visit_all-read.result.moved c.visit_all-written.result.moved c.visit_all-closed.result.moved _ _ _ _ _ _ c.args.self.now.held c.accept_all-arrivals.new.self.held c.visit_all-read.new.self.held c.visit_all-written.new.self.held c.visit_all-closed.new.self.held _
      c.accept_all-arrivals.ensures.scenes.quiet c.visit_all-read.ensures.all.scenes.visited.quiet c.visit_all-written.ensures.all.scenes.visited.quiet c.visit_all-closed.ensures.all.scenes.visited.quiet)
      );
}

pub returns-clause-known : goal.returns-clause-known
returns-clause-known g c =
    known_move _ _ (moves_then _ _ _ c.accept_all-arrivals.ensures.scenes.accepts.accepts.all (moves_then _ _ _ (c.visit_all-read.ensures.all.scenes.carries [] (λ e. absurd (cc))).carries.all (moves_then _ _ _ (c.visit_all-written.ensures.all.scenes.carries [] (λ e. absurd (cc))).carries.all (c.visit_all-closed.ensures.all.scenes.carries c.visit_all-written.new.self.held (λ e n m. m)).carries.all)))

pub returns-clause-faults : goal.returns-clause-faults
returns-clause-faults g c =
    let u : g.W.Wire.failed c.args.wire.now ≤ g.W.Wire.failed c.accept_all-arrivals.new.wire = c.accept_all-arrivals.ensures.scenes.more.faults in
    let v : g.W.Wire.failed c.accept_all-arrivals.new.wire ≤ g.W.Wire.failed c.visit_all-read.new.wire = c.visit_all-read.ensures.all.scenes.visited.faults in
    let w : g.W.Wire.failed c.visit_all-read.new.wire ≤ g.W.Wire.failed c.visit_all-written.new.wire = c.visit_all-written.ensures.all.scenes.visited.faults in
    let x : g.W.Wire.failed c.visit_all-written.new.wire ≤ g.W.Wire.failed c.visit_all-closed.new.wire = c.visit_all-closed.ensures.all.scenes.visited.faults in
    at_most_then _ _ _ u (at_most_then _ _ _ v (at_most_then _ _ _ w x))

pub returns-clause-fits : goal.returns-clause-fits
returns-clause-fits g c =
    let same : links_of c.visit_all-closed.new.self.held ≡ links_of c.accept_all-arrivals.new.self.held = c.visit_all-closed.ensures.all.scenes.visited.links ∙ (c.visit_all-written.ensures.all.scenes.visited.links ∙ c.visit_all-read.ensures.all.scenes.visited.links) in
    let bound = c.visit_all-closed.ensures.all.scenes.visited.bound ∙ (c.visit_all-written.ensures.all.scenes.visited.bound ∙ c.visit_all-read.ensures.all.scenes.visited.bound) in
    let u : c.accept_all-arrivals.new.host.slots.next ≤ c.visit_all-read.new.host.slots.next = carries_by_rises _ _ _ _ _ _ _ _ (c.visit_all-read.ensures.all.scenes.carries c.args.self.now.held (λ e. absurd (cc))) in
    let v : c.visit_all-read.new.host.slots.next ≤ c.round-round.new.self.slots.next = next_rises _ _ _ c.round-round.ensures.round.run in
    let w : c.round-round.new.self.slots.next ≤ c.visit_all-written.new.host.slots.next = carries_by_rises _ _ _ _ _ _ _ _ (c.visit_all-written.ensures.all.scenes.carries c.args.self.now.held (λ e. absurd (cc))) in
    let x : c.visit_all-written.new.host.slots.next ≤ c.visit_all-closed.new.host.slots.next = carries_by_rises _ _ _ _ _ _ _ _ (c.visit_all-closed.ensures.all.scenes.carries c.visit_all-written.new.self.held (λ e n m. m)) in
    rw (bound, c.remove_shut.ensures.held) (
    turn_fits c.args.self.now.held c.accept_all-arrivals.new.self.held c.visit_all-closed.new.self.held _ _ _ _ _ _ _ c.requires.fits
    c.accept_all-arrivals.ensures.scenes.accepts.accepts
    (at_most_then _ _ _ u (at_most_then _ _ _ v (at_most_then _ _ _ w x)))
    same)

pub returns-clause-rising : goal.returns-clause-rising
returns-clause-rising g c = λ r.
    let same : links_of c.visit_all-closed.new.self.held ≡ links_of c.accept_all-arrivals.new.self.held = c.visit_all-closed.ensures.all.scenes.visited.links ∙ (c.visit_all-written.ensures.all.scenes.visited.links ∙ c.visit_all-read.ensures.all.scenes.visited.links) in
    let met : IsRising (links_of c.accept_all-arrivals.new.self.held) = c.accept_all-arrivals.ensures.scenes.more.rising r in
    let last : IsRising (links_of c.visit_all-closed.new.self.held) = rw same met in
    rw c.remove_shut.ensures.held (rising_filter _ c.visit_all-closed.new.self.held last)

pub returns-clause-once : goal.returns-clause-once
returns-clause-once g c = λ o.
    let same : links_of c.visit_all-closed.new.self.held ≡ links_of c.accept_all-arrivals.new.self.held = c.visit_all-closed.ensures.all.scenes.visited.links ∙ (c.visit_all-written.ensures.all.scenes.visited.links ∙ c.visit_all-read.ensures.all.scenes.visited.links) in
    let met : AreOnce (links_of c.accept_all-arrivals.new.self.held) = c.accept_all-arrivals.ensures.scenes.accepts.accepts.once c.requires.fits o in
    let last : AreOnce (links_of c.visit_all-closed.new.self.held) = rw same met in
    rw c.remove_shut.ensures.held (once_filter _ c.visit_all-closed.new.self.held last)

pub returns-clause-finished : goal.returns-clause-finished
returns-clause-finished g c = λ o.
    let same : links_of c.visit_all-written.new.self.held ≡ links_of c.accept_all-arrivals.new.self.held = c.visit_all-written.ensures.all.scenes.visited.links ∙ c.visit_all-read.ensures.all.scenes.visited.links in
    let met : AreOnce (links_of c.accept_all-arrivals.new.self.held) = c.accept_all-arrivals.ensures.scenes.accepts.accepts.once c.requires.fits o in
    let written : AreOnce (links_of c.visit_all-written.new.self.held) = rw same met in
    rw c.remove_shut.ensures.held (none_finished c.visit_all-closed.new.host c.visit_all-closed.new.self.held ((c.visit_all-closed.ensures.all.scenes.ends refl).left written))
