use Rattle.std.proofs.Common.{◌≡◌, length, rules}
use Rattle.shogi_sfen.proofs.WriteLaws.{hands-none, hands-some}
use Rattle.shogi_sfen.proofs.position_text.push_hands.Goals as goal

pub returns-then-len-start : goal.returns-then-len-start
returns-then-len-start c =
    let same : length c.push_side_held-2.new.text.items ≡ length c.args.text.now.items = search rules in
    hands-none c.args.text.now.items c.push_side_held.new.text.items c.push_side_held-2.new.text.items c.push.new.self.items c.args.hands c.push_side_held.ensures.value c.push_side_held-2.ensures.value same c.push.ensures.items

pub returns-else-len-start : goal.returns-else-len-start
returns-else-len-start c =
    let other : length c.push_side_held-2.new.text.items ≡ length c.args.text.now.items → ⊥ = λ e. search rules in
    hands-some c.args.text.now.items c.push_side_held.new.text.items c.push_side_held-2.new.text.items c.args.hands c.push_side_held.ensures.value c.push_side_held-2.ensures.value other
