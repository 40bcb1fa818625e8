use Rattle.std.proofs.Common.{◌≡◌, ◌∙◌, ◌*◌, ◌+◌, ◌-◌, min, get_or, rules}
use Rattle.shogi_sfen.proofs.Digits.{one_more}
use Rattle.shogi_sfen.proofs.number.read_number.Goals as goal

pub loop-byte-preserved : goal.loop-byte-preserved
loop-byte-preserved c =
    let here = get_or c.args.word.now c.loop-byte.byte-index 0 in
    let next = one_more c.args.word.now c.args.most c.loop-byte.number c.loop-byte.byte-index here (search rules) (search rules) (search rules) c.loop-byte.invariant.value c.loop-byte.invariant.digits in
    let value : c.min-number.result ≡ min c.args.most (c.loop-byte.number * 10 + (here - 48)) = search rules in
    record { value = value ∙ next.value; digits = next.digits }
