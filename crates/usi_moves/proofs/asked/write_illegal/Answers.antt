use Rattle.std.proofs.Common.{rules, codes}
use Rattle.std.specs.Prelude.{decimal}
use Rattle.usi_moves.proofs.Appending.{after_three}
use Rattle.usi_moves.proofs.asked.write_illegal.Goals as goal

pub returns : goal.returns
returns g c =
    after_three c.args.out.now.items (codes "move ") (decimal c.args.number) (codes " is not legal")
    c.extend_from_slice.new.self.items c.extend_from_slice-2.new.self.items c.extend_from_slice-3.new.self.items
    (search rules) (search rules) c.in_ok-extend_from_slice-3.ensures.items
