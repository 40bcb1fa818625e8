use Rattle.std.proofs.Common.{◌<◌, ◌+◌, ◌*◌, ◌%◌, ◌^◌, arith, refl, bit_or}
use Rattle.std.proofs.lemmas.Nat.{or_lt}
use Rattle.shogi_moves.proofs.MoverLaws.{five_bits, moved_up}
use Rattle.shogi_moves.proofs.movers.five_places.Goals as goal

pub returns-clause-fits : goal.returns-clause-fits
returns-clause-fits c =
    let mask = c.args.squares.bits in
    let two : bit_or mask (mask * 2 ^ 1 % 2 ^ 128) < 2 ^ 82 = or_lt 82 mask _ (omega (arith, c.args.squares.fits)) (omega (arith, c.args.squares.fits)) in
    let twice = bit_or mask (mask * 2 ^ 1 % 2 ^ 128) in
    or_lt 85 _ (mask * 2 ^ 4 % 2 ^ 128) (or_lt 85 twice (twice * 2 ^ 2 % 2 ^ 128) (omega (arith, two)) (omega (arith, two))) (omega (arith, c.args.squares.fits))

pub returns-clause-bits : goal.returns-clause-bits
returns-clause-bits c = λ n k few set.
    let mask = c.args.squares.bits in
    let two : bit_or mask (mask * 2 ^ 1 % 2 ^ 128) < 2 ^ 100 = or_lt 100 mask _ (omega (arith, c.args.squares.fits)) (omega (arith, c.args.squares.fits)) in
    five_bits mask (mask * 2 ^ 1 % 2 ^ 128) (bit_or mask (mask * 2 ^ 1 % 2 ^ 128) * 2 ^ 2 % 2 ^ 128) (mask * 2 ^ 4 % 2 ^ 128) n k few
    (λ i on. moved_up mask 1 (i + 1) i (omega (arith, c.args.squares.fits)) (omega arith) refl on)
    (λ i on. moved_up _ 2 (i + 2) i two (omega arith) refl on)
    (λ i on. moved_up mask 4 (i + 4) i (omega (arith, c.args.squares.fits)) (omega arith) refl on) set
