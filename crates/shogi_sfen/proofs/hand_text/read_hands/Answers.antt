use Rattle.std.proofs.Common.{◌≡◌, ◌<◌, ◌∙◌, length, rules, false}
use Rattle.std.specs.Prelude.{codes}
use Rattle.std.specs.Str.{bytes_eq}
use Rattle.shogi_sfen.proofs.HandLaws.{hands_of-items}
use Rattle.shogi_sfen.proofs.hand_text.read_hands.Goals as goal

pub returns : goal.returns
returns c =
    let other : bytes_eq c.args.word.now (codes "-") ≡ false = search rules in
    let some : 0 < length c.args.word.now = search rules in
    c.read_items.ensures ∙ hands_of-items c.args.word.now other some
