use Rattle.std.proofs.Common.{◌≡◌, []}
use Rattle.usi_session.specs.Due.{due}
use Rattle.usi_session.specs.WholeStream.{replies}
use Rattle.test_examples.proofs.session.answered.Given as goal

abbrev pub invariant-slices : goal.invariant-slices
invariant-slices g l = due l.session [] ≡ replies l.bytes
