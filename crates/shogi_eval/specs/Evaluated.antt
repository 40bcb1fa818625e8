-- A position and its evaluation.
use Rattle.std.specs.Prelude.{◌≡◌, ◌<◌, ℕ, ℤ, Bool, true, false}
use Rattle.shogi_core.specs.declared.moves.Move.{Move}
use Rattle.shogi_core.specs.declared.moves.Move.TheVariants as moves
use Rattle.shogi_core.specs.declared.piece.Kind.{Kind}
use Rattle.shogi_core.specs.Position.{Shogi}
use Rattle.shogi_moves.specs.After.{after}
use Rattle.shogi_moves.specs.Legal.{is_legal}
use Rattle.shogi_eval.specs.declared.eval.Eval.{Eval}
use Rattle.shogi_eval.specs.declared.eval.Eval.TheVariants.{Plain, Hand, Exchange}
use Rattle.shogi_eval.specs.Material.{material_of}

-- both are the same evaluation
abbrev pub is_same_eval : Eval → Eval → Bool
is_same_eval Plain Plain = true
is_same_eval Hand Hand = true
is_same_eval Exchange Exchange = true
is_same_eval _ _ = false

pub record Evaluated : Type 0 where
  pub position : Shogi
  pub eval : Eval

-- the material after a move, as seen by the side to move then
abbrev pub material_after : Evaluated → Move → ℤ
material_after node m = material_of (after node.position m) node.eval

-- each legal drop of the kind leaves this material
abbrev pub IsMaterialAfterDrops : Evaluated → Kind → ℤ → Type 0
IsMaterialAfterDrops node kind points =
    (to : ℕ) → to < 81 → is_legal node.position (moves.Drop kind to) ≡ true
    → material_after node (moves.Drop kind to) ≡ points
