use Rattle.std.proofs.Common.{refl, [], ◌∷◌}
use Rattle.socket_loop.proofs.Accepting.{away}
use Rattle.transport.specs.Asked.{Write, Shut}
use Rattle.socket_loop.specs.Turns.{host_full}
use Rattle.transport.proofs.Asked.{asks_then}
use Rattle.socket_loop.proofs.turn.reject.Goals as goal

pub returns-clause-away : goal.returns-clause-away
returns-clause-away g c = away _ _ _ _ c.args.number c.write-written.result _ _ refl c.write-written.ensures.written (rw c.write-written.ensures.bound at c.shut.ensures.shut)

pub returns-clause-asked : goal.returns-clause-asked
returns-clause-asked g c = asks_then _ _ _ (Write c.args.number host_full ∷ []) (Shut c.args.number ∷ []) c.write-written.ensures.asked c.shut.ensures.asked
