use Rattle.std.proofs.Common.{rules, ◌≡◌, arith, refl, [], ◌∷◌}
use Rattle.host_core.specs.declared.event.HostFault.TheVariants.{Full, OutOfMemory, UnknownSession, NotReady}
use Rattle.host_core.specs.declared.event.HostFault.{HostFault}
use Rattle.socket_loop.specs.Tallies.{full_of, unopened_of}
use Rattle.host_core.specs.Events.{Opened, Refused}
use Rattle.socket_loop.specs.declared.connection.Connection.{Connection}
use Rattle.socket_loop.specs.declared.connection.Link.{Link}
use Rattle.socket_loop.specs.Links.{links_of}
use Rattle.socket_loop.proofs.Accepting.{admits_away, admits_new, away_mute, insert_in}
use Rattle.socket_loop.proofs.Marks.{adds_insert, grows_insert, more_same, more_then}
use Rattle.socket_loop.proofs.Rising.{rising_insert}
use Rattle.transport.specs.Asked.{Write, Shut}
use Rattle.socket_loop.specs.Turns.{host_full}
use Rattle.socket_loop.proofs.Calls.{asks_held, refused_admitted}
use Rattle.socket_loop.proofs.turn.Loop.admit.Goals as goal
use Rattle.socket_loop.specs.Accepting.{new_connection, place_for}

-- an `Open` refused for want of memory
other_full : (fault : HostFault) → (fault ≡ Full → ⊥) → 0 ≡ full_of (Refused fault)
other_full Full not = absurd (not refl)
other_full OutOfMemory not = refl
other_full UnknownSession not = refl
other_full NotReady not = refl

other_unopened : (fault : HostFault) → (fault ≡ Full → ⊥) → 1 ≡ unopened_of (Refused fault)
other_unopened Full not = absurd (not refl)
other_unopened OutOfMemory not = refl
other_unopened UnknownSession not = refl
other_unopened NotReady not = refl

pub returns-in-Ok-clause-one : goal.returns-in-Ok-clause-one
returns-in-Ok-clause-one g c =
    let link : Link = record { number = c.args.number; id = c.in-Ok.id } in
    let new : Connection = new_connection link in
    let place = place_for c.in-Ok.id.slot c.args.self.now.held in
    record {
      slice = search rules;
      scenes = record {
        outcome = Opened c.in-Ok.id;
        admits = rw c.add_connection.ensures.held (admits_new c.args.self.now.held place new _ _ _ _ (record { below = c.open.ensures.below; stepped = rw c.in-Ok.is at c.open.ensures.opened }));
        asked = asks_held _ link _ _ (rw c.add_connection.ensures.held (insert_in c.args.self.now.held place new)) refl;
        full = refl;
        unopened = refl;
        more = record {
          grows = rw c.add_connection.ensures.held (grows_insert c.args.self.now.held place new refl refl);
          marks = rw c.add_connection.ensures.held (adds_insert c.args.self.now.held place new refl refl);
          rising = λ r. rw c.add_connection.ensures.held (rising_insert c.args.self.now.held new r);
          faults = omega arith;
        };
        bound = search rules;
      };
    }

pub returns-in-Err-Full-clause-one : goal.returns-in-Err-Full-clause-one
returns-in-Err-Full-clause-one g c = record {
  slice = search rules;
  scenes = record {
    outcome = Refused Full;
    admits = admits_away _ _ _ _ _ c.args.number _ Full c.reject.ensures.away (record { below = c.open.ensures.below; stepped = rw c.in-Err-Full.field-0-is at (rw c.in-Err-Full.is at c.open.ensures.opened) });
    asked = record { calls = Write c.args.number host_full ∷ Shut c.args.number ∷ []; admitted = refl; asked = c.reject.ensures.asked };
    full = refl;
    unopened = refl;
    more = more_then _ _ _ _ _ _ _ (more_same _ _) c.reject.ensures.faults (more_same _ _);
    bound = c.reject.ensures.bound;
  };
}

pub returns-in-Err-clause-one : goal.returns-in-Err-clause-one
returns-in-Err-clause-one g c = record {
  slice = search rules;
  scenes = record {
    outcome = Refused c.in-Err.field-0;
    admits = admits_away _ _ _ _ _ c.args.number _ _ (away_mute _ _ _ c.args.number _ c.shut.ensures.shut) (record { below = c.open.ensures.below; stepped = rw c.in-Err.is at c.open.ensures.opened });
    asked = record { calls = Shut c.args.number ∷ []; admitted = refused_admitted (links_of c.args.self.now.held) c.args.number c.in-Err.field-0 (search rules); asked = c.shut.ensures.asked };
    full = other_full c.in-Err.field-0 (search rules);
    unopened = other_unopened c.in-Err.field-0 (search rules);
    more = more_then _ _ _ _ _ _ _ (more_same _ _) c.shut.ensures.faults (more_same _ _);
    bound = c.shut.ensures.bound;
  };
}
