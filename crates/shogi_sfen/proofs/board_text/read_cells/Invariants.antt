use Rattle.shogi_sfen.proofs.BoardLaws.{HasRanks}
use Rattle.shogi_sfen.proofs.board_text.read_cells.Given as goal

-- the ranks so far are read
abbrev pub invariant-loop : goal.invariant-loop
invariant-loop l = HasRanks l.word l.rest l.squares.items l.counter
