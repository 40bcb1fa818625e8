use Rattle.std.proofs.Common.{◌≡◌, ◌≤◌, ◌+◌, ◌*◌, ◌++◌, take, length}
use Rattle.std.specs.List.{flat_map}
use Rattle.shogi_core.specs.Position.{count_in_hand}
use Rattle.shogi_sfen.specs.Written.{held_text, kinds_in_text}
use Rattle.shogi_sfen.proofs.position_text.push_side_held.Given as goal

-- the kinds so far are written
abbrev pub invariant-loop-kind : goal.invariant-loop-kind
invariant-loop-kind l = record {
  value : l.text.items ≡ l.fn.text.items ++ flat_map (λ kind. held_text l.color kind (count_in_hand l.hands l.color kind)) (take l.kind-index kinds_in_text);
  len : length l.text.items ≤ length l.fn.text.items + 3 * l.kind-index;
}
