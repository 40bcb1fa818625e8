use Rattle.std.proofs.Common.{◌≡◌, ◌++◌, flat_map, take, codes}
use Rattle.shogi_sfen.specs.MoveTexts.{text_of}
use Rattle.usi_texts.proofs.text.write_moves.Given as goal

-- the moves so far were appended
abbrev pub invariant-loop-m : goal.invariant-loop-m
invariant-loop-m g l = l.out.items ≡ l.fn.out.items ++ flat_map (λ m. codes " " ++ text_of m) (take l.m-index l.moves)
