use Rattle.std.proofs.Common.{◌≡◌, ◌++◌, take, drop}
use Rattle.shogi_search.specs.Ranked.{insert_pair}
use Rattle.shogi_search.proofs.ranks.Ranks.place_of.Given as goal

abbrev pub invariant-loop-place : goal.invariant-loop-place
invariant-loop-place l = insert_pair l.m l.value l.pairs ≡ take l.place l.pairs ++ insert_pair l.m l.value (drop l.place l.pairs)
