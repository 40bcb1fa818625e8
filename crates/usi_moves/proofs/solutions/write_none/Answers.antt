use Rattle.std.specs.Prelude.{codes, decimal, ◌-◌, ◌*◌}
use Rattle.usi_moves.proofs.Appending.{after_three}
use Rattle.usi_moves.proofs.solutions.write_none.Goals as goal

pub returns : goal.returns
returns g c = after_three c.args.out.now.items (codes "no mate in ") (decimal (2 * c.args.most - 1)) (codes " plies by checks\n") c.extend_from_slice.new.self.items c.write_plies.new.out.items c.extend_from_slice-2.new.self.items c.in_ok-extend_from_slice.ensures.items c.in_ok-write_plies.ensures c.in_ok-extend_from_slice-2.ensures.items
