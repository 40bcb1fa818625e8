use Rattle.std.proofs.Common.{◌≡◌, ◌+◌, ◌≤◌, ◌++◌, flat_map}
use Rattle.usi_moves.specs.Solutions.{count_several, key_lists, keys_line}
use Rattle.usi_moves.proofs.solutions.write_key_lists.Given as goal

-- the lists written, with their count, and the lists left make the whole
abbrev pub invariant-moves : goal.invariant-moves
invariant-moves g l = record {
  text : l.out.items ++ flat_map keys_line (key_lists l.now l.left)
      ≡ l.initial.out.items ++ flat_map keys_line (key_lists l.p l.fn.n);
  count : l.several + count_several (key_lists l.now l.left) ≡ count_several (key_lists l.p l.fn.n);
  few : l.several + l.left ≤ l.fn.n;
}

abbrev pub decreases-moves : goal.decreases-moves
decreases-moves g l = l.left
