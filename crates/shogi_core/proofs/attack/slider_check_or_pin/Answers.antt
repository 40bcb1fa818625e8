use Rattle.std.proofs.Common.{rules, sym, ◌∙◌}
use Rattle.std.proofs.lemmas.Bool.{or_left}
use Rattle.shogi_core.specs.Pieces.{opponent_of}
use Rattle.shogi_core.proofs.Pins.{none_on_line, others_not_pinned, snipers_not_pinned, none_beyond, no_sniper_next, first_marked}
use Rattle.shogi_core.proofs.SliderAttacks.{none_shoots, first_shoots, first_harmless}
use Rattle.shogi_core.proofs.attack.slider_check_or_pin.Goals as goal

pub returns-in_default-clause-shot : goal.returns-in_default-clause-shot
returns-in_default-clause-shot c = none_shoots c.args.board.now (opponent_of c.args.side) c.args.square c.reveal_invariant-2.ensures c.args.snipers.bits c.requires.snipers c.args.direction c.in_default.ensures.first

pub returns-in_default-clause-all : goal.returns-in_default-clause-all
returns-in_default-clause-all c = λ _ n a l h pin. none_on_line c.args.board.now c.args.side c.args.square c.args.direction c.in_default.ensures.first c.args.pinned.now.bits n a pin

pub returns-then-has-clause-shot : goal.returns-then-has-clause-shot
returns-then-has-clause-shot c = (search rules) ∙ first_shoots c.args.board.now (opponent_of c.args.side) c.args.square c.reveal_invariant-2.ensures c.args.snipers.bits c.requires.snipers
    c.args.direction c.in-Some.first c.reveal_invariant.ensures c.in-Some.ensures.range c.in-Some.ensures.first.reached c.in-Some.ensures.first.piece (sym c.if-has.ensures)

pub returns-then-has-clause-all : goal.returns-then-has-clause-all
returns-then-has-clause-all c = λ _ n a l h pin. snipers_not_pinned c.args.board.now c.args.side c.args.square c.args.direction c.args.snipers.bits c.requires.snipers
    c.in-Some.first c.in-Some.ensures.range c.in-Some.ensures.first.reached c.in-Some.ensures.first.piece (sym c.if-has.ensures) c.args.pinned.now.bits n a pin

pub returns-then-not-has-clause-shot : goal.returns-then-not-has-clause-shot
returns-then-not-has-clause-shot c = first_harmless c.args.board.now (opponent_of c.args.side) c.args.square c.reveal_invariant-2.ensures c.args.snipers.bits c.requires.snipers
    c.args.direction c.in-Some.first c.reveal_invariant.ensures c.in-Some.ensures.range c.in-Some.ensures.first.reached c.in-Some.ensures.first.piece (sym c.if-has.ensures)

pub returns-then-not-has-clause-all : goal.returns-then-not-has-clause-all
returns-then-not-has-clause-all c = λ _ n a l h pin. others_not_pinned c.args.board.now c.args.side c.args.square c.args.direction c.args.snipers.bits c.requires.snipers
    c.in-Some.first c.in-Some.ensures.range c.in-Some.ensures.first.reached c.in-Some.ensures.first.piece (sym (c.own.ensures.squares c.in-Some.first c.in-Some.ensures.range) ∙ sym c.if-not-has.ensures) c.args.pinned.now.bits n a pin

pub returns-in_default-first_piece-clause-shot : goal.returns-in_default-first_piece-clause-shot
returns-in_default-first_piece-clause-shot c = first_harmless c.args.board.now (opponent_of c.args.side) c.args.square c.reveal_invariant-2.ensures c.args.snipers.bits c.requires.snipers
    c.args.direction c.in-Some.first c.reveal_invariant.ensures c.in-Some.ensures.range c.in-Some.ensures.first.reached c.in-Some.ensures.first.piece (sym c.if-has.ensures)

pub returns-in_default-first_piece-clause-all : goal.returns-in_default-first_piece-clause-all
returns-in_default-first_piece-clause-all c = λ _ n a l h pin. none_beyond c.args.board.now c.args.side c.args.square c.args.direction c.args.snipers.bits c.requires.snipers
    c.in-Some.first c.in-Some.ensures.range c.in-Some.ensures.first.reached c.in-Some.ensures.first.piece c.in_default-first_piece.ensures.first c.args.pinned.now.bits n a pin

pub returns-then-has-2-clause-shot : goal.returns-then-has-2-clause-shot
returns-then-has-2-clause-shot c = first_harmless c.args.board.now (opponent_of c.args.side) c.args.square c.reveal_invariant-2.ensures c.args.snipers.bits c.requires.snipers
    c.args.direction c.in-Some.first c.reveal_invariant.ensures c.in-Some.ensures.range c.in-Some.ensures.first.reached c.in-Some.ensures.first.piece (sym c.if-has.ensures)

pub returns-then-has-2-clause-kept : goal.returns-then-has-2-clause-kept
returns-then-has-2-clause-kept c = λ n e. c.with.ensures n ∙ or_left _ _ e

pub returns-then-has-2-clause-all : goal.returns-then-has-2-clause-all
returns-then-has-2-clause-all c = λ _ n a l h pin. first_marked c.args.board.now c.args.side c.args.square c.args.direction c.args.snipers.bits c.requires.snipers
    c.in-Some.first c.in-Some.ensures.range c.in-Some.ensures.first.reached c.in-Some.ensures.first.piece c.args.pinned.now.bits c.with.result.bits c.with.ensures n a pin

pub returns-else-has-2-clause-shot : goal.returns-else-has-2-clause-shot
returns-else-has-2-clause-shot c = first_harmless c.args.board.now (opponent_of c.args.side) c.args.square c.reveal_invariant-2.ensures c.args.snipers.bits c.requires.snipers
    c.args.direction c.in-Some.first c.reveal_invariant.ensures c.in-Some.ensures.range c.in-Some.ensures.first.reached c.in-Some.ensures.first.piece (sym c.if-has.ensures)

pub returns-else-has-2-clause-all : goal.returns-else-has-2-clause-all
returns-else-has-2-clause-all c = λ _ n a l h pin. no_sniper_next c.args.board.now c.args.side c.args.square c.args.direction c.args.snipers.bits c.requires.snipers
    c.in-Some.first c.in-Some.ensures.range c.in-Some.ensures.first.reached c.in-Some.ensures.first.piece c.in-Some-first_piece.second c.in-Some-first_piece.ensures.first.reached c.in-Some-first_piece.ensures.first.piece (sym c.if-has-2.ensures) c.args.pinned.now.bits n a h pin
