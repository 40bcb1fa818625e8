use Rattle.shogi_core.proofs.attack.first_piece.Goals as goal

pub returns-clause-first : goal.returns-clause-first
returns-clause-first c = c.first_occupied.ensures.first c.args.board.now c.occupied.ensures
