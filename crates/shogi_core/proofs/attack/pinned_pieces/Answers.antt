use Rattle.std.proofs.Common.{◌∙◌, sym, false}
use Rattle.std.proofs.lemmas.Option.{IfSome_then}
use Rattle.shogi_core.specs.Pieces.{opponent_of}
use Rattle.shogi_core.proofs.Pins.{no_pins}
use Rattle.shogi_core.proofs.SliderAttacks.{attacked_by_step, attacked_by_slide, no_sniper, shot_attacks}
use Rattle.shogi_core.proofs.attack.pinned_pieces.Goals as goal

pub returns-then-is_stepped_on-clause-attacked : goal.returns-then-is_stepped_on-clause-attacked
returns-then-is_stepped_on-clause-attacked c = λ _. sym (attacked_by_step c.args.board.now (opponent_of c.args.side) c.args.square c.reveal_invariant.ensures (rw c.opponent-by.ensures at (sym c.is_stepped_on.ensures ∙ c.if-is_stepped_on.true)))

pub returns-then-snipers-eq0-clause-safe : goal.returns-then-snipers-eq0-clause-safe
returns-then-snipers-eq0-clause-safe c = sym (no_sniper c.args.board.now (opponent_of c.args.side) c.args.square c.reveal_invariant.ensures c.sniper_squares-snipers.result.bits (rw c.opponent-by.ensures at c.sniper_squares-snipers.ensures.squares) c.if-snipers-eq0.true (rw c.opponent-by.ensures at (sym c.is_stepped_on.ensures ∙ c.if-is_stepped_on.false)))

pub returns-then-snipers-eq0-clause-all : goal.returns-then-snipers-eq0-clause-all
returns-then-snipers-eq0-clause-all c = no_pins c.args.board.now c.args.side c.args.square c.sniper_squares-snipers.result.bits (rw c.opponent-by.ensures at c.sniper_squares-snipers.ensures.squares) c.if-snipers-eq0.true

pub pinned_to-requires : goal.pinned_to-requires
pinned_to-requires c = record { snipers = rw c.opponent-by.ensures at c.sniper_squares-snipers.ensures.squares }

pub returns-clause-all : goal.returns-clause-all
returns-clause-all c = c.pinned_to.ensures.all

pub returns-clause-attacked : goal.returns-clause-attacked
returns-clause-attacked c = λ none. shot_attacks c.args.board.now (opponent_of c.args.side) c.args.square c.reveal_invariant.ensures (c.pinned_to.ensures.shot none)

pub returns-clause-safe : goal.returns-clause-safe
returns-clause-safe c = IfSome_then c.pinned_to.result c.pinned_to.ensures.open (λ pinned none. sym (attacked_by_slide c.args.board.now (opponent_of c.args.side) c.args.square c.reveal_invariant.ensures false (rw c.opponent-by.ensures at (sym c.is_stepped_on.ensures ∙ c.if-is_stepped_on.false)) (sym none)))
