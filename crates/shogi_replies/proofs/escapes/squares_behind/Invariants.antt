use Rattle.std.proofs.Common.{ℕ, ◌<◌, ◌-◌}
use Rattle.shogi_replies.specs.Escapes.{HasRaysBehind}
use Rattle.shogi_replies.proofs.escapes.squares_behind.Given as goal

abbrev pub invariant-directions : goal.invariant-directions
invariant-directions l = (d : ℕ) → d < l.left → HasRaysBehind d l.from l.over l.behind.bits

abbrev pub decreases-directions : goal.decreases-directions
decreases-directions l = 8 - l.left
