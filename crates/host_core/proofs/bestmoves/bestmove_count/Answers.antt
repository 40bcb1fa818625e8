use Rattle.std.proofs.Common.{rules, arith, ◌≡◌, ◌-◌, ◌≤◌, ℕ, drop, length, take}
use Rattle.std.proofs.lemmas.List.{length-drop, take_all}
use Rattle.host_core.proofs.BestmoveLaws.{bestmoves_at, bestmoves_end}
use Rattle.host_core.proofs.bestmoves.bestmove_count.Goals as goal

pub loop-at-preserved : goal.loop-at-preserved
loop-at-preserved c =
    let whole : take (length c.args.bytes.now - c.loop-at.at) (drop c.loop-at.at c.args.bytes.now) ≡ drop c.loop-at.at c.args.bytes.now =
    take_all _ _ (omega (arith, length-drop {A = ℕ} c.loop-at.at c.args.bytes.now)) in
    let one = rw whole at c.bestmove_at_front-count.ensures.count in
    let more = bestmoves_at c.args.bytes.now c.loop-at.at c.loop-at-test.true in
    record {
      rest = omega (arith, one, more, c.loop-at.invariant.rest);
      few = omega (arith, c.loop-at.invariant.few, c.bestmove_at_front-count.ensures.most);
    }

pub returns : goal.returns
returns c =
    let past : length c.args.bytes.now ≤ c.loop-at.at = search rules in
    let none = bestmoves_end c.args.bytes.now c.loop-at.at past in
    let rest = c.loop-at.invariant.rest in
    omega (arith, none, rest)
