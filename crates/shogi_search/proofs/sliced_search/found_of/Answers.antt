use Rattle.std.proofs.Common.{refl, arith}
use Rattle.std.proofs.lemmas.Int.{ints}
use Rattle.shogi_search.proofs.Entries.{not_at_most, exact_found, at_least_found}
use Rattle.shogi_search.proofs.sliced_search.found_of.Goals as goal

pub unreachable-requires : goal.unreachable-requires
unreachable-requires c = not_at_most _ _ _ _ c.in-AtMost.field-0 _ c.reveal_invariant.ensures c.requires.shallow c.requires.known.truth c.requires.known.conclusive c.in-AtMost.is

pub returns-in-Exact-clause-below : goal.returns-in-Exact-clause-below
returns-in-Exact-clause-below c = exact_found _ _ _ _ c.in-Exact.value _ c.in-Exact.best _ c.reveal_invariant.ensures c.requires.shallow c.requires.known.truth c.in-Exact.is (omega (arith, ints)) refl

pub returns-in-AtLeast-clause-below : goal.returns-in-AtLeast-clause-below
returns-in-AtLeast-clause-below c = at_least_found _ _ _ _ c.in-AtLeast.value _ _ c.reveal_invariant.ensures c.requires.shallow c.requires.open c.requires.known.truth c.requires.known.conclusive c.in-AtLeast.is (omega (arith, ints)) refl
