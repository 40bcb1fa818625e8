use Rattle.std.proofs.Common.{rules, ◌≡◌, ◌∙◌, ap, false}
use Rattle.std.proofs.lemmas.Bool.{both_ways}
use Rattle.shogi_core.specs.Attack.{is_attacked}
use Rattle.shogi_core.specs.Bits.{has_bit}
use Rattle.shogi_core.proofs.BitLaws.{has_bit-none}
use Rattle.shogi_moves.proofs.EscapeLaws.{one_square}
use Rattle.shogi_moves.proofs.pawn_escape.first_unattacked.Goals as goal

pub returns-in-Some-clause-squares : goal.returns-in-Some-clause-squares
returns-in-Some-clause-squares c = λ n e. ap (has_bit c.args.squares.bits) (one_square c.with.result.bits c.in-Some.square n (rw c.none-in-Some.ensures at c.with.ensures) e) ∙ c.in-Some.ensures.among

pub returns-in-Some-clause-safe : goal.returns-in-Some-clause-safe
returns-in-Some-clause-safe c = λ n h e. (
    let safe : is_attacked c.args.board.now c.args.by c.in-Some.square ≡ false = search rules in
    ap (is_attacked c.args.board.now c.args.by) (one_square c.with.result.bits c.in-Some.square n (rw c.none-in-Some.ensures at c.with.ensures) e) ∙ safe)

pub returns-in-None-clause-squares : goal.returns-in-None-clause-squares
returns-in-None-clause-squares c = rw c.none.ensures (λ n e. absurd (both_ways (has_bit 0 n) (has_bit-none n) e))

pub returns-in-None-clause-safe : goal.returns-in-None-clause-safe
returns-in-None-clause-safe c = rw c.none.ensures (λ n h e. absurd (both_ways (has_bit 0 n) (has_bit-none n) e))
