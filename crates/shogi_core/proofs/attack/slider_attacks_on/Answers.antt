use Rattle.std.proofs.Common.{rules}
use Rattle.std.proofs.lemmas.Bool.{and_from}
use Rattle.shogi_core.specs.Attack.{slider_attacks_from, slider_attacks_along}
use Rattle.shogi_core.specs.Rays.{direction_at}
use Rattle.shogi_core.proofs.Below.{some_below_found}
use Rattle.shogi_core.proofs.SeenLaws.{covers_none}
use Rattle.shogi_core.proofs.SliderAttacks.{shots_first, shots_open}
use Rattle.shogi_core.proofs.attack.slider_attacks_on.Goals as goal

pub squares-init : goal.squares-init
squares-init c = rw (c.iter-left.ensures, c.bitand.ensures) (record {
  covers = shots_first c.args.board.now c.args.by c.args.square c.reveal_invariant-2.ensures c.args.snipers.bits c.requires.snipers c.args.direction c.slide_squares.result.bits c.reveal_invariant.ensures c.slide_squares.ensures.squares;
  clear = λ n h e. shots_open c.args.board.now c.args.by c.args.square c.reveal_invariant-2.ensures c.args.snipers.bits c.requires.snipers c.args.direction c.slide_squares.result.bits n c.slide_squares.ensures.squares h e;
})

pub returns-then-slides_back : goal.returns-then-slides_back
unfolding slider_attacks_along
returns-then-slides_back c =
    let line = c.squares.invariant.clear c.in-Some.from c.in-Some.ensures.some.range c.in-Some.ensures.some.set in
    some_below_found 81 (slider_attacks_from c.args.board.now c.args.by c.args.square (direction_at c.args.direction)) c.in-Some.from c.in-Some.ensures.some.range
    (and_from _ _ (and_from _ _ line.0 (search rules)) line.1)

pub returns : goal.returns
unfolding slider_attacks_along
returns c = covers_none c.squares.left (slider_attacks_from c.args.board.now c.args.by c.args.square (direction_at c.args.direction)) (search rules) (search rules)
