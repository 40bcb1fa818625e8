use Rattle.std.proofs.Common.{◌≡◌, drop}
use Rattle.shogi_core.specs.Codes.{code_of}
use Rattle.shogi_moves.specs.Rising.{is_in}
use Rattle.shogi_search.specs.Ranked.{codes_in}
use Rattle.test_search.proofs.ranks.has.Given as goal

abbrev pub invariant-loop-pair : goal.invariant-loop-pair
invariant-loop-pair l = is_in (code_of l.m) (codes_in (drop l.pair-index l.pairs)) ≡ is_in (code_of l.m) (codes_in l.pairs)
