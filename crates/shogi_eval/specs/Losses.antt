-- Bounds on the points that a drop costs its side.
use Rattle.std.specs.Prelude.{ℤ, pos, ◌<◌, ◌≤ℤ◌, ◌-ℤ◌}
use Rattle.shogi_core.specs.declared.piece.Color.{Color}
use Rattle.shogi_core.specs.declared.piece.Kind.{Kind}
use Rattle.shogi_core.specs.Position.{HandCounts, count_in_hand}
use Rattle.shogi_eval.specs.declared.eval.Eval.{Eval}
use Rattle.shogi_eval.specs.Material.{drop_gain}

-- a drop of the kind costs at most `loss`, if the side holds one
abbrev pub KindLosesAtMost : HandCounts → Color → Eval → ℤ → Kind → Type 0
KindLosesAtMost hands side e loss kind =
    0 < count_in_hand hands side kind → (pos 0 -ℤ loss) ≤ℤ drop_gain e kind

-- a drop of any kind that the side holds costs at most `loss`
abbrev pub LosesAtMost : HandCounts → Color → Eval → ℤ → Type 0
LosesAtMost hands side e loss = (kind : Kind) → KindLosesAtMost hands side e loss kind
