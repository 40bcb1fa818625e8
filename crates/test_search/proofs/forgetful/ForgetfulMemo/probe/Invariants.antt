use Rattle.std.proofs.Common.{◌≡◌, ◌&&◌, ◌==◌, ℕ, Bool, false, Option, drop}
use Rattle.std.specs.Option.{option_map_or}
use Rattle.std.specs.List.{find}
use Rattle.shogi_core.specs.Position.{Shogi}
use Rattle.shogi_core.specs.Same.{is_same_position}
use Rattle.shogi_eval.specs.declared.eval.Eval.{Eval}
use Rattle.shogi_eval.specs.Evaluated.{is_same_eval}
use Rattle.test_search.specs.declared.forgetful.Kept.{Kept}
use Rattle.test_search.proofs.forgetful.ForgetfulMemo.probe.Given as goal

-- the slot has an entry of the position under the evaluation at the depth
abbrev pub is_of : Shogi → Eval → ℕ → Option Kept → Bool
is_of p e d slot = option_map_or (λ kept. kept.1.1.0 == d && is_same_eval kept.1.0 e && is_same_position kept.0 p) slot false

abbrev pub invariant-slots : goal.invariant-slots
invariant-slots l = find (is_of l.p l.e l.d) (drop l.slot-index l.slot-items) ≡ find (is_of l.p l.e l.d) l.slot-items
