use Rattle.std.proofs.Common.{refl}
use Rattle.usi_session.proofs.laws.numbers.Goals as goal

pub returns : goal.returns
returns c = record {
  depths = record { least = refl; usual = refl; greatest = refl; searched = refl };
  lines = record { least = refl; usual = refl; greatest = refl };
  bytes = record { line_end = refl; line = refl; chunk = refl; queue = refl };
  values = record { mate = refl; infinity = refl };
}
