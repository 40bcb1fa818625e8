-- What was found of replies that refute moves of a node (own choice).
use Rattle.std.specs.Prelude.{ℕ, ◌-◌}
use Rattle.std.proofs.Props.{props}
use Rattle.shogi_core.specs.Position.{Shogi}
use Rattle.shogi_eval.specs.declared.eval.Eval.{Eval}
use Rattle.analogous_moves.specs.Analogies.{AreAnalogous}
use Rattle.commuting_moves.specs.Refuted.{AreRefuted}
use Rattle.search_nodes.specs.declared.pairs.Refutations.{Refutations}
use Rattle.search_nodes.specs.declared.pairs.Refutations.TheVariants.{None, Analogous, Pairs}

-- what was found of replies is true of a position at a depth: analogous moves, or moves that are refuted with two plies less
abbrev pub AreRefutations : Shogi → Eval → ℕ → Refutations → Type 0
AreRefutations p e d None = Unit {0}
AreRefutations p e d (Analogous analogous) = AreAnalogous p e d analogous
AreRefutations p e d (Pairs kept) = AreRefuted p e (d - 2) kept

-- it has one proof at most, so it may be a ghost field
pub AreRefutations-prop :
    (p : Shogi) (e : Eval) (d : ℕ) (found : Refutations) → IsProp (AreRefutations p e d found)
AreRefutations-prop p e d None = Prim.hlevel props
AreRefutations-prop p e d (Analogous analogous) = Prim.hlevel props
AreRefutations-prop p e d (Pairs kept) = Prim.hlevel props
