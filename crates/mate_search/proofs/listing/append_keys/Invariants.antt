use Rattle.std.proofs.Common.{◌≡◌, ◌++◌, length, map}
use Rattle.std.specs.List.{filter}
use Rattle.shogi_core.specs.Codes.{code_of}
use Rattle.shogi_moves.specs.After.{after_code}
use Rattle.mate_search.specs.Mates.{is_mated, keys}
use Rattle.mate_search.proofs.listing.append_keys.Given as goal

abbrev pub invariant-moves : goal.invariant-moves
invariant-moves g l = record {
  whole : map code_of l.out.items ++ filter (λ code. is_mated (after_code l.p code) l.n) l.walk.codes
      ≡ map code_of l.initial.out.items ++ keys l.p l.n;
  same : l.walk.position ≡ l.p;
}

abbrev pub decreases-moves : goal.decreases-moves
decreases-moves g l = length l.walk.codes
