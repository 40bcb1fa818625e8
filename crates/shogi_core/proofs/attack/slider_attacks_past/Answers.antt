use Rattle.std.proofs.Common.{rules, sym, ap, ◌∙◌, ◌≡◌, true}
use Rattle.shogi_core.specs.Attack.{cell_slides_back}
use Rattle.shogi_core.specs.Bits.{has_bit}
use Rattle.shogi_core.specs.Movement.{piece_at}
use Rattle.shogi_core.specs.Rays.{direction_at}
use Rattle.shogi_core.proofs.SliderAttacks.{none_shoots, first_shoots, first_harmless}
use Rattle.shogi_core.proofs.attack.slider_attacks_past.Goals as goal

pub returns-in_default : goal.returns-in_default
returns-in_default c = λ color seen shows. none_shoots seen color c.args.square c.reveal_invariant-2.ensures c.args.snipers.bits shows.snipers_on c.args.direction (c.in_default.ensures.first seen shows.pieces)

pub returns-then-not-has : goal.returns-then-not-has
returns-then-not-has c = λ color seen shows. first_harmless seen color c.args.square c.reveal_invariant-2.ensures c.args.snipers.bits shows.snipers_on
    c.args.direction c.in-Some.first c.reveal_invariant.ensures c.in-Some.ensures.range (c.in-Some.ensures.first seen shows.pieces).reached (c.in-Some.ensures.first seen shows.pieces).piece (sym c.if-not-has.ensures)

pub returns : goal.returns
returns c = λ color seen shows.
    let set : has_bit c.args.snipers.bits c.in-Some.first ≡ true = search rules in
    let against : c.slides_back.result ≡ cell_slides_back (direction_at c.args.direction) (piece_at c.args.board.now c.in-Some.first) = search rules in
    (against ∙ ap (cell_slides_back (direction_at c.args.direction)) (sym (shows.same c.in-Some.first c.in-Some.ensures.range set)))
    ∙ first_shoots seen color c.args.square c.reveal_invariant-2.ensures c.args.snipers.bits shows.snipers_on
    c.args.direction c.in-Some.first c.reveal_invariant.ensures c.in-Some.ensures.range (c.in-Some.ensures.first seen shows.pieces).reached (c.in-Some.ensures.first seen shows.pieces).piece set
