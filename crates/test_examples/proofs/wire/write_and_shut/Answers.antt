use Rattle.std.proofs.Common.{[], ◌∷◌}
use Rattle.std.proofs.KnownBytes.{Appends-kept}
use Rattle.transport.specs.Asked.{Write, Shut}
use Rattle.transport.proofs.Asked.{asks_then}
use Rattle.transport.proofs.Reported.{stays_raised}
use Rattle.test_examples.proofs.wire.write_and_shut.Goals as goal

pub returns-clause-asked : goal.returns-clause-asked
returns-clause-asked g c = asks_then _ _ _ (Write c.args.number c.args.text.now ∷ []) (Shut c.args.number ∷ []) c.write-taken.ensures.asked c.shut.ensures.asked

pub returns-clause-written : goal.returns-clause-written
returns-clause-written g c = Appends-kept _ _ _ _ c.write-taken.ensures.written.appended c.shut.ensures.shut.written

pub returns-clause-shut : goal.returns-clause-shut
returns-clause-shut g c = λ below. stays_raised _ _ _ c.write-taken.ensures.written.shut ((rw c.write-taken.ensures.bound at c.shut.ensures.shut).shut below)
