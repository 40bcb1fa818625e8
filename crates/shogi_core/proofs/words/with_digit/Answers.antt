use Rattle.std.proofs.Common.{arith}
use Rattle.shogi_core.proofs.WordLaws.{out_whole, put_fits, put_whole}
use Rattle.shogi_core.proofs.words.with_digit.Goals as goal

pub overflow_sub-result : goal.overflow_sub-result
overflow_sub-result c = rw (out_whole c.args.word c.args.place c.args.out c.requires.word c.requires.there) c.requires.there

pub overflow_add-result : goal.overflow_add-result
overflow_add-result c =
    rw (out_whole c.args.word c.args.place c.args.out c.requires.word c.requires.there, put_whole c.args.place c.args.put c.requires.place c.requires.digit)
    (omega (arith, c.requires.word, put_fits c.args.place c.args.put c.requires.place c.requires.digit))

pub returns : goal.returns
returns c =
    rw (out_whole c.args.word c.args.place c.args.out c.requires.word c.requires.there, put_whole c.args.place c.args.put c.requires.place c.requires.digit)
    (omega (arith, c.requires.there))
