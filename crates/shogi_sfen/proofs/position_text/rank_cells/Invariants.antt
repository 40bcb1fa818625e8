use Rattle.std.proofs.Common.{◌≡◌, ◌+◌, ◌-◌, ◌*◌, length}
use Rattle.std.specs.Prelude.{map}
use Rattle.std.specs.List.{range_with_len}
use Rattle.shogi_core.specs.Movement.{piece_at}
use Rattle.shogi_sfen.proofs.position_text.rank_cells.Given as goal

-- the cells so far are those of the rank
abbrev pub invariant-loop-i : goal.invariant-loop-i
invariant-loop-i l = record {
  value : l.cells.items ≡ map (λ i. piece_at l.board ((8 - i) * 9 + l.rank)) (range_with_len 0 l.i);
  len : length l.cells.items ≡ l.i;
}
