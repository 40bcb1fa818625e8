use Rattle.std.proofs.Common.{◌≡◌, ◌+◌, ◌≤◌, drop}
use Rattle.host_core.specs.Bestmoves.{bestmove_count}
use Rattle.host_core.proofs.bestmoves.bestmove_count.Given as goal

-- the count is that of the places before, and the words from here on are still to be counted
abbrev pub invariant-loop-at : goal.invariant-loop-at
invariant-loop-at l = record {
  rest : l.count + bestmove_count (drop l.at l.bytes) ≡ bestmove_count l.bytes;
  few : l.count ≤ l.at;
}
