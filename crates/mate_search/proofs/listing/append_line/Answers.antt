use Rattle.std.proofs.Common.{◌++◌, ◌-◌, ◌≤◌, ap, sym, ◌∙◌, map, arith}
use Rattle.shogi_core.specs.Codes.{code_of}
use Rattle.mate_search.specs.Mates.{line}
use Rattle.mate_search.proofs.LineLaws.{line_none, line_lost, line_ends, line_goes_on, one_appended, two_appended, none_appended}
use Rattle.mate_search.proofs.listing.append_line.Goals as goal

pub first_key-requires : goal.first_key-requires
first_key-requires g c = let few : c.moves.left ≤ c.args.n = c.moves.invariant.few in omega arith

pub longest_defence-requires : goal.longest_defence-requires
longest_defence-requires g c = let few : c.moves.left ≤ c.args.n = c.moves.invariant.few in omega arith

pub returns-in_default : goal.returns-in_default
returns-in_default g c = none_appended (map code_of c.moves.out.items) _ _ (line_lost c.moves.now c.moves.left (omega arith) c.in_default.ensures.key) c.moves.invariant.whole

pub returns-in_default-longest_defence : goal.returns-in_default-longest_defence
returns-in_default-longest_defence g c = one_appended c.moves.out.items c.push.new.self.items c.in-Some.key _ c.in_ok-push.ensures.items
    (ap (λ xs. map code_of c.moves.out.items ++ xs) (sym (line_ends c.moves.now c.advance.new.p c.moves.left (code_of c.in-Some.key) (omega arith) c.in-Some.ensures.key c.advance.ensures.by_code c.in_default-longest_defence.ensures.defence)) ∙ c.moves.invariant.whole)

pub moves-preserved : goal.moves-preserved
moves-preserved g c =
    let few : c.moves.left ≤ c.args.n = c.moves.invariant.few in
    record {
      whole = two_appended c.moves.out.items c.push.new.self.items c.push-in-moves.new.self.items c.in-Some.key c.in-Some-longest_defence.reply (line c.advance-in-moves.new.p (c.moves.left - 1)) _ c.in_ok-push.ensures.items c.in_ok-push-2.ensures.items
          (ap (λ xs. map code_of c.moves.out.items ++ xs) (sym (line_goes_on c.moves.now c.advance.new.p c.advance-in-moves.new.p c.moves.left (code_of c.in-Some.key) (code_of c.in-Some-longest_defence.reply) (omega arith) c.in-Some.ensures.key c.advance.ensures.by_code c.in-Some-longest_defence.ensures.defence c.advance-in-moves.ensures.by_code)) ∙ c.moves.invariant.whole);
      few = omega arith;
    }

pub returns : goal.returns
returns g c = none_appended (map code_of c.moves.out.items) _ _ (line_none c.moves.now c.moves.left (omega arith)) c.moves.invariant.whole
