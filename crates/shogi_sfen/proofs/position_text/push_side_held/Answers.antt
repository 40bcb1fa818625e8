use Rattle.std.proofs.Common.{◌≤◌, ◌<◌, ◌∙◌, ◌+◌, ◌*◌, ◌++◌, ℕ, List, ap, sym, arith, length, take, get_or, append_assoc, add-one}
use Rattle.std.specs.List.{flat_map}
use Rattle.shogi_core.specs.declared.piece.Kind.{Kind}
use Rattle.shogi_core.specs.declared.piece.Kind.TheVariants as kinds
use Rattle.shogi_core.specs.Position.{count_in_hand}
use Rattle.shogi_sfen.specs.Written.{held_text, kinds_in_text}
use Rattle.shogi_sfen.proofs.WriteLaws.{flat_take}
use Rattle.shogi_sfen.proofs.position_text.push_side_held.Goals as goal

pub loop-kind-preserved : goal.loop-kind-preserved
loop-kind-preserved c =
    let before : length c.loop-kind.text.items ≤ length c.args.text.now.items + 3 * c.loop-kind.kind-index = c.loop-kind.invariant.len in
    let after : length c.push_held.new.text.items ≤ length c.loop-kind.text.items + 3 = c.push_held.ensures.len in
    let below : c.loop-kind.kind-index < length kinds_in_text = c.loop-kind-test.true in
    let text_of : Kind → List ℕ = λ (kind : Kind). held_text c.args.color kind (count_in_hand c.args.hands c.args.color kind) in
    let here : Kind = get_or kinds_in_text c.loop-kind.kind-index kinds.Pawn in
    let so_far : List ℕ = flat_map text_of (take c.loop-kind.kind-index kinds_in_text) in
    record {
      value =
          c.push_held.ensures.value
          ∙ (ap (λ (n : ℕ). c.loop-kind.text.items ++ held_text c.args.color here n) c.count.ensures
          ∙ (ap (λ (t : List ℕ). t ++ text_of here) c.loop-kind.invariant.value
          ∙ (append_assoc c.args.text.now.items so_far (text_of here)
          ∙ ap (λ (t : List ℕ). c.args.text.now.items ++ t) (sym (flat_take text_of kinds_in_text c.loop-kind.kind-index kinds.Pawn below) ∙ ap (λ (n : ℕ). flat_map text_of (take n kinds_in_text)) (sym (add-one c.loop-kind.kind-index))))));
      len = omega arith;
    }
