use Rattle.test_wire.proofs.Returning.{new_one}
use Rattle.test_wire.proofs.returns.Returns.is_new.Goals as goal

pub returns-then-number-self : goal.returns-then-number-self
returns-then-number-self c = new_one c.args.self.now.next c.args.self.now.back.items c.args.number c.args.self.now.below c.if-number-self.true
