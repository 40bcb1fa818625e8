use Rattle.std.proofs.Common.{◌≡◌, ◌++◌, None}
use Rattle.std.specs.Prelude.{replicate}
use Rattle.shogi_sfen.proofs.board_text.push_run.Given as goal

-- the empty squares so far are appended
abbrev pub invariant-loop : goal.invariant-loop
invariant-loop l = l.rank.items ≡ l.fn.rank.items ++ replicate l.counter None
