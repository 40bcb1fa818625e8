use Rattle.test_wire.proofs.Returning.{of_shut}
use Rattle.test_wire.proofs.listener.MemoryListenerListener.shut.Goals as goal

-- the number was noted
pub returns-clause-shut : goal.returns-clause-shut
returns-clause-shut g c = of_shut c.args.self.now.returns.back.items c.args.self.now.past.shut.items c.args.self.now.past.failed.items c.args.number c.and-self.result.items c.and-self.ensures
