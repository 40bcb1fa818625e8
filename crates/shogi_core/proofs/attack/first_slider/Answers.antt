use Rattle.std.proofs.Common.{rules, sym, ap, ◌∙◌, ◌≡◌, true, false}
use Rattle.shogi_core.specs.Attack.{cell_slides_back}
use Rattle.shogi_core.specs.Bits.{has_bit}
use Rattle.shogi_core.specs.Movement.{piece_at}
use Rattle.shogi_core.specs.Rays.{direction_at}
use Rattle.shogi_core.proofs.SliderAttacks.{first_from, first_harmless, first_shoots, no_sniper_ahead, none_from, none_shoots}
use Rattle.shogi_core.proofs.attack.first_slider.Goals as goal

pub returns-then-not-has_sniper-clause-slider : goal.returns-then-not-has_sniper-clause-slider
returns-then-not-has_sniper-clause-slider c = λ color seen shows.
    none_from seen color c.args.square c.reveal_invariant-2.ensures c.args.direction
    (sym (no_sniper_ahead seen color c.args.square c.reveal_invariant-2.ensures c.args.snipers.bits shows.snipers_on c.args.direction c.reveal_invariant.ensures (c.has_sniper.ensures.0 (search rules))))

pub returns-in_default-clause-slider : goal.returns-in_default-clause-slider
returns-in_default-clause-slider c = λ color seen shows.
    none_from seen color c.args.square c.reveal_invariant-2.ensures c.args.direction
    (none_shoots seen color c.args.square c.reveal_invariant-2.ensures c.args.snipers.bits shows.snipers_on c.args.direction (c.in_default.ensures.first seen shows.pieces))

pub returns-then-not-has-clause-slider : goal.returns-then-not-has-clause-slider
returns-then-not-has-clause-slider c = λ color seen shows.
    none_from seen color c.args.square c.reveal_invariant-2.ensures c.args.direction
    (first_harmless seen color c.args.square c.reveal_invariant-2.ensures c.args.snipers.bits shows.snipers_on
    c.args.direction c.in-Some.nearest c.reveal_invariant.ensures c.in-Some.ensures.range (c.in-Some.ensures.first seen shows.pieces).reached (c.in-Some.ensures.first seen shows.pieces).piece (search rules))

pub returns-then-not-slides_back-clause-slider : goal.returns-then-not-slides_back-clause-slider
returns-then-not-slides_back-clause-slider c = λ color seen shows.
    let set : has_bit c.args.snipers.bits c.in-Some.nearest ≡ true = search rules in
    let away : false ≡ cell_slides_back (direction_at c.args.direction) (piece_at c.args.board.now c.in-Some.nearest) = search rules in
    none_from seen color c.args.square c.reveal_invariant-2.ensures c.args.direction
    (away ∙ (ap (cell_slides_back (direction_at c.args.direction)) (sym (shows.same c.in-Some.nearest c.in-Some.ensures.range set))
    ∙ first_shoots seen color c.args.square c.reveal_invariant-2.ensures c.args.snipers.bits shows.snipers_on
    c.args.direction c.in-Some.nearest c.reveal_invariant.ensures c.in-Some.ensures.range (c.in-Some.ensures.first seen shows.pieces).reached (c.in-Some.ensures.first seen shows.pieces).piece set))

pub returns-clause-slider : goal.returns-clause-slider
returns-clause-slider c = λ color seen shows n h.
    let set : has_bit c.args.snipers.bits c.in-Some.nearest ≡ true = search rules in
    let against : cell_slides_back (direction_at c.args.direction) (piece_at c.args.board.now c.in-Some.nearest) ≡ true = search rules in
    first_from seen color c.args.square c.reveal_invariant-2.ensures c.args.snipers.bits shows.snipers_on
    c.args.direction c.in-Some.nearest c.reveal_invariant.ensures c.in-Some.ensures.range (c.in-Some.ensures.first seen shows.pieces).reached (c.in-Some.ensures.first seen shows.pieces).piece set
    (ap (cell_slides_back (direction_at c.args.direction)) (shows.same c.in-Some.nearest c.in-Some.ensures.range set) ∙ against) n
