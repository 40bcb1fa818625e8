use Rattle.test_wire.proofs.Returning.{of_failed}
use Rattle.test_wire.proofs.listener.MemoryListenerListener.fail.Goals as goal

-- the number was noted
pub returns-clause-failed : goal.returns-clause-failed
returns-clause-failed g c = of_failed c.args.self.now.returns.back.items c.args.self.now.past.shut.items c.args.self.now.past.failed.items c.args.number c.and-self.result.items c.and-self.ensures
