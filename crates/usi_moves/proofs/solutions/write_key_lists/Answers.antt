use Rattle.std.proofs.Common.{◌+◌, ◌-◌, ◌<◌, ◌≤◌, arith}
use Rattle.shogi_core.specs.Codes.{code_of}
use Rattle.mate_search.specs.Mates.{keys}
use Rattle.usi_moves.specs.Solutions.{key_lists}
use Rattle.usi_moves.proofs.SolutionLaws.{count_left, count_over, last_count, last_text, lists_end, lists_go_on, lists_lost, lists_none, text_left, text_over}
use Rattle.usi_moves.proofs.solutions.write_key_lists.Goals as goal

pub returns-in_default : goal.returns-in_default
returns-in_default g c =
    let is = lists_lost c.moves.now c.moves.left (omega arith) c.in_default.ensures.key in (
      last_text c.moves.out.items c.write_node.new.out.items _ (keys c.moves.now (c.moves.left - 1)) (key_lists c.moves.now c.moves.left) is c.in_ok-several.ensures.node.0 c.moves.invariant.text,
      last_count c.moves.several c.in_ok-several.field-0 _ (keys c.moves.now (c.moves.left - 1)) (key_lists c.moves.now c.moves.left) is c.in_ok-several.ensures.node.1 c.moves.invariant.count,
    )

pub returns-in_default-longest_defence : goal.returns-in_default-longest_defence
returns-in_default-longest_defence g c =
    let is = lists_end c.moves.now c.advance.new.p c.moves.left (code_of c.in-Some.key) (omega arith) c.in-Some.ensures.key c.advance.ensures.by_code c.in_default-longest_defence.ensures.defence in (
      last_text c.moves.out.items c.write_node.new.out.items _ (keys c.moves.now (c.moves.left - 1)) (key_lists c.moves.now c.moves.left) is c.in_ok-several.ensures.node.0 c.moves.invariant.text,
      last_count c.moves.several c.in_ok-several.field-0 _ (keys c.moves.now (c.moves.left - 1)) (key_lists c.moves.now c.moves.left) is c.in_ok-several.ensures.node.1 c.moves.invariant.count,
    )

pub moves-preserved : goal.moves-preserved
moves-preserved g c =
    let is = lists_go_on c.moves.now c.advance.new.p c.advance-in-moves.new.p c.moves.left (code_of c.in-Some.key) (code_of c.in-Some-longest_defence.reply) (omega arith) c.in-Some.ensures.key c.advance.ensures.by_code c.in-Some-longest_defence.ensures.defence c.advance-in-moves.ensures.by_code in
    let few : c.moves.several + c.moves.left ≤ c.args.n = c.moves.invariant.few in
    let one : c.in_ok-several.field-0 ≤ 1 = c.in_ok-several.ensures.most in
    let some : 0 < c.moves.left = omega arith in
    record {
      text = text_left c.moves.out.items c.write_node.new.out.items _ (keys c.moves.now (c.moves.left - 1)) (key_lists c.moves.now c.moves.left) (key_lists c.advance-in-moves.new.p (c.moves.left - 1)) is c.in_ok-several.ensures.node.0 c.moves.invariant.text;
      count = count_left c.moves.several c.in_ok-several.field-0 _ (keys c.moves.now (c.moves.left - 1)) (key_lists c.moves.now c.moves.left) (key_lists c.advance-in-moves.new.p (c.moves.left - 1)) is c.in_ok-several.ensures.node.1 c.moves.invariant.count;
      few = omega arith;
    }

pub returns : goal.returns
returns g c =
    let none = lists_none c.moves.now c.moves.left (omega arith) in (
      text_over c.moves.out.items _ (key_lists c.moves.now c.moves.left) none c.moves.invariant.text,
      count_over c.moves.several _ (key_lists c.moves.now c.moves.left) none c.moves.invariant.count,
    )
