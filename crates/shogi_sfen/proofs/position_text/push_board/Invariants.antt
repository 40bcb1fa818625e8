use Rattle.std.proofs.Common.{◌≡◌, ◌≤◌, ◌*◌, length}
use Rattle.std.specs.List.{flat_map, range_with_len}
use Rattle.shogi_sfen.specs.Written.{rank_text}
use Rattle.shogi_sfen.proofs.position_text.push_board.Given as goal

-- the ranks so far are written
abbrev pub invariant-loop-rank : goal.invariant-loop-rank
invariant-loop-rank l = record {
  value : l.text.items ≡ flat_map (rank_text l.board) (range_with_len 0 l.rank);
  len : length l.text.items ≤ 19 * l.rank;
}
