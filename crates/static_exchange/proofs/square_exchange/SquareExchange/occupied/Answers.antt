use Rattle.std.proofs.Common.{◌∙◌, ℕ, Bool, ap}
use Rattle.std.specs.Prelude.{◌||◌, ◌==◌}
use Rattle.shogi_core.specs.Bits.{has_bit}
use Rattle.shogi_core.proofs.BitLaws.{has_bit-or}
use Rattle.static_exchange.proofs.square_exchange.SquareExchange.occupied.Goals as goal

pub returns : goal.returns
returns c = λ n.
    c.with.ensures n
    ∙ ap (λ (b : Bool). b || n == c.args.self.now.square) (ap (λ (m : ℕ). has_bit m n) c.bitor.ensures ∙ has_bit-or c.args.self.now.mine.bits c.args.self.now.theirs.bits n)
