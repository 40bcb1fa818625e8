use Rattle.std.proofs.Common.{rules, ◌≡◌, ◌≤◌, ◌<◌, ◌+◌, ◌∙◌, ℕ, List, Some, Ok, ap, arith, inl, inr, length, sym}
use Rattle.transport.specs.Report.{GivesNumber}
use Rattle.std.proofs.lemmas.List.{length-map}
use Rattle.socket_loop.specs.declared.connection.Connection.{Connection}
use Rattle.socket_loop.specs.Links.{links_of}
use Rattle.socket_loop.proofs.Accepting.{some_start, some_stop, some_full, some_more, number_rises, below_then, few_more, rose}
use Rattle.socket_loop.proofs.Few.{few_met}
use Rattle.socket_loop.proofs.Marks.{more_same, more_then}
use Rattle.transport.proofs.Reported.{kept_same}
use Rattle.socket_loop.proofs.Quiet.{quiet_stop}
use Rattle.socket_loop.proofs.turn.Loop.accept_all.Goals as goal

pub loop-init : goal.loop-init
loop-init g c = record { so_far = some_start _ _ _ _ _ _; more = more_same _ _; quiet = λ q. (kept_same _, search rules); accepted = λ e. absurd (cc); slice = search rules; count = search rules; few = omega arith }

-- no connection waits, or the wire fails
pub returns-in_default : goal.returns-in_default
returns-in_default g c = record {
  slice = c.loop.invariant.slice;
  scenes = record {
    accepts = some_stop c.loop.counter _ _ _ _ _ _ _ _ _ _ _ _ _ _ c.accept.result (search rules) c.loop.invariant.so_far (number_rises _ _ c.accept.result c.accept.ensures.number) c.accept.ensures.unchanged c.accept.ensures.asked (search rules);
    quiet = quiet_stop _ _ _ _ _ _ c.loop.invariant.quiet c.accept.ensures.unchanged;
    accepted = λ e. (
        let u : g.W.Wire.bound c.args.wire.now < g.W.Wire.bound c.loop.wire = c.loop.invariant.accepted e in
        let v : g.W.Wire.bound c.loop.wire ≤ g.W.Wire.bound c.accept.new.self = number_rises _ _ c.accept.result c.accept.ensures.number in
        below_then _ _ _ u v);
    more = more_then _ _ _ _ _ _ _ c.loop.invariant.more c.accept.ensures.cause.0 (more_same _ _);
  };
}

-- there is no room
pub returns-then-len-gt-SESSIONS_MAX : goal.returns-then-len-gt-SESSIONS_MAX
returns-then-len-gt-SESSIONS_MAX g c = record {
  slice = search rules;
  scenes = record {
    accepts = some_full c.loop.counter _ _ _ _ _ _ _ _ _ _ _ (inr (few_met _ _ _ _ 1024 _ _ _ _ c.requires.fits c.loop.invariant.so_far.accepts c.reveal_invariant.ensures.few (full c.loop.self.held (
        let same : c.self.inside.held.items ≡ c.loop.self.held = search rules in
        let most : 1024 < length c.self.inside.held.items = search rules in
        rw (sym same) most)))) c.loop.invariant.so_far;
    quiet = c.loop.invariant.quiet;
    accepted = c.loop.invariant.accepted;
    more = c.loop.invariant.more;
  };
}
  where
    full : (held : List Connection) → 1024 < length held → 1024 < length (links_of held)
    full held le = rw (length-map held (λ (c : Connection). c.link)) le

pub loop-preserved : goal.loop-preserved
loop-preserved g c =
    let gives : GivesNumber (g.W.Wire.bound c.loop.wire) (g.W.Wire.bound c.accept.new.self) (Ok (Some c.in-Ok-Some.number)) = rw c.in-Ok-Some.field-0-is at c.in-Ok-Some.ensures.number in
    record {
      so_far =
          let one = c.admit-admission.ensures.one.scenes in
          rw one.bound (some_more c.loop.counter _ _ one.outcome _ _ _ _ _ c.in-Ok-Some.number _ _ _ _ _ _ _ _ _ _ _ _ c.loop.invariant.so_far gives.0 gives.1 c.accept.ensures.unchanged (rw c.in-Ok-Some.field-0-is at c.in-Ok-Some.ensures.asked) one.admits one.asked one.full one.unopened);
      more = more_then _ _ _ _ _ _ _ c.loop.invariant.more c.accept.ensures.cause.0 c.admit-admission.ensures.one.scenes.more;
      quiet = λ q. absurd (cc);
      accepted = λ e. (
          rose _ _ c.in-Ok-Some.number _ _ c.loop.invariant.so_far.accepts.rises gives.0 gives.1 c.admit-admission.ensures.one.scenes.bound);
      slice = c.admit-admission.ensures.one.slice ∙ c.loop.invariant.slice;
      count = ap (λ (n : ℕ). n + 1) c.loop.invariant.count;
      few = few_more c.loop.arrivals.full c.loop.arrivals.unopened c.loop.counter c.admit-admission.result.full c.admit-admission.result.unopened c.loop.invariant.few c.admit-admission.ensures.most;
    }

pub returns : goal.returns
returns g c = record {
  slice = c.loop.invariant.slice;
  scenes = record {
    accepts = some_full c.loop.counter _ _ _ _ _ _ _ _ _ _ _ (inl (search rules)) c.loop.invariant.so_far;
    quiet = c.loop.invariant.quiet;
    accepted = c.loop.invariant.accepted;
    more = c.loop.invariant.more;
  };
}
