use Rattle.std.proofs.Common.{rules, arith}
use Rattle.mate_search.proofs.MainLine.{main_line}
use Rattle.mate_search.proofs.ShortestLaws.{before_next, found_next, none_before, over, rest_next, shortest_next, start}
use Rattle.mate_search.proofs.solution.shortest.Goals as goal

pub numbers-init : goal.numbers-init
numbers-init g c = record { rest = start c.args.p.now c.args.most; before = none_before c.args.p.now }

pub returns-then-found-clause-found : goal.returns-then-found-clause-found
returns-then-found-clause-found g c = found_next c.args.p.now c.numbers.n c.args.most _ c.mates_telling-found.result (omega arith) c.mates_telling-found.ensures (search rules) c.numbers.invariant.rest c.if-found.true

pub returns-then-found-clause-main : goal.returns-then-found-clause-main
returns-then-found-clause-main g c = main_line c.args.p.now _ (shortest_next c.args.p.now c.numbers.n c.args.most _ c.mates_telling-found.result (omega arith) c.mates_telling-found.ensures c.numbers.invariant.before c.if-found.true)

pub numbers-preserved : goal.numbers-preserved
numbers-preserved g c = record {
  rest = rest_next c.args.p.now c.numbers.n c.args.most _ c.mates_telling-found.result (omega arith) c.mates_telling-found.ensures (search rules) c.numbers.invariant.rest c.if-found.false;
  before = before_next c.args.p.now c.numbers.n c.args.most _ c.mates_telling-found.result (omega arith) c.mates_telling-found.ensures c.numbers.invariant.before c.if-found.false;
}

pub returns-clause-found : goal.returns-clause-found
returns-clause-found g c = over c.args.p.now c.numbers.n c.args.most (search rules) c.numbers.invariant.rest
