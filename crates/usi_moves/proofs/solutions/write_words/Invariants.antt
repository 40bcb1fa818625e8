use Rattle.std.proofs.Common.{◌≡◌, ◌++◌, flat_map, take}
use Rattle.shogi_core.specs.Codes.{code_of}
use Rattle.usi_moves.specs.Solutions.{word_of}
use Rattle.usi_moves.proofs.solutions.write_words.Given as goal

-- the moves so far are appended
abbrev pub invariant-loop-m : goal.invariant-loop-m
invariant-loop-m g l = l.out.items ≡ l.fn.out.items ++ flat_map (λ m. word_of (code_of m)) (take l.m-index l.moves)
