use Rattle.std.proofs.Common.{◌≡◌, ◌<◌, ℕ, subst, arith, Option}
use Rattle.shogi_core.specs.declared.piece.Piece.{Piece}
use Rattle.shogi_core.specs.Bits.{has_bit}
use Rattle.shogi_core.specs.Cell.{is_immobile}
use Rattle.shogi_core.specs.Zones.{may_promote}
use Rattle.shogi_replies.proofs.ThreatLaws.{found_plain, found_promoting}
use Rattle.shogi_replies.proofs.threats.attacks_of.Goals as goal

pub returns-clause-non_promoting : goal.returns-clause-non_promoting
returns-clause-non_promoting c = λ t h e.
    found_plain c.args.p.now c.args.from t c.args.reach.bits c.except-others.result.bits c.dead_squares.result.bits c.requires.from (omega arith) c.requires.reach
    c.except-others.ensures
    (subst (λ (cell : Option Piece). (n : ℕ) → n < 81 → has_bit c.dead_squares.result.bits n ≡ is_immobile n cell) c.at-cell.ensures c.dead_squares.ensures.squares)
    h (rw c.without.ensures at e)

pub returns-clause-promoting : goal.returns-clause-promoting
returns-clause-promoting c = λ t h e.
    found_promoting c.args.p.now c.args.from t c.args.reach.bits c.except-others.result.bits c.promoting_squares.result.bits c.requires.from c.requires.reach
    c.except-others.ensures
    (subst (λ (cell : Option Piece). (n : ℕ) → n < 81 → has_bit c.promoting_squares.result.bits n ≡ may_promote cell c.args.from n) c.at-cell.ensures c.promoting_squares.ensures.squares)
    h (rw c.bitand.ensures at e)
