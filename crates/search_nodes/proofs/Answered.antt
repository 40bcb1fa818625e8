-- What a true entry of a child says of its move.
use Rattle.std.proofs.Common.{◌≡◌, ◌<◌, ◌-◌, ℤ, pos, ◌-ℤ◌, ◌≤ℤ◌, Option, refl, sym, arith, subst}
use Rattle.std.proofs.lemmas.Int.{ints}
use Rattle.shogi_core.specs.declared.moves.Move.{Move}
use Rattle.shogi_core.specs.Codes.{code_of}
use Rattle.minimax.specs.declared.entry.Entry.{Entry}
use Rattle.minimax.specs.declared.entry.Entry.TheVariants.{Exact, AtLeast, AtMost}
use Rattle.minimax.specs.Minimax.{value, negated, lost_value}
use Rattle.minimax.proofs.MinimaxLaws.{worth_from, worth_deep, value_within, Within}
use Rattle.minimax.proofs.Valid.{after_valid}
use Rattle.minimax.specs.declared.bounds.TheConstants.{SEARCH_DEPTH_MAX}
use Rattle.search_nodes.specs.declared.frame.Frame.{Frame}
use Rattle.search_nodes.specs.Frames.{IsConclusiveAfter, IsTrueAfter, move_alpha_of, position_after, worth_of}
use Rattle.search_nodes.specs.Visits.{IsCurrent}
use Rattle.search_nodes.proofs.Nodes.{waits}

-- the child's value gives the move's worth
pub record IsWorth (f : Frame) (m : Move) (r : ℤ) : Type 0 where
  pub is : worth_of f m ≡ pos 0 -ℤ r
  pub least : lost_value SEARCH_DEPTH_MAX ≤ℤ r
  pub most : r ≤ℤ negated (lost_value SEARCH_DEPTH_MAX)

-- a child's value is within the bounds of its depth
child_within : (f : Frame) (m : Move) → IsCurrent f.state m → Within (f.depth - 1) (value (position_after f m) f.node.eval (f.depth - 1))
child_within f m at = value_within (f.depth - 1) (position_after f m) f.node.eval (after_valid f.node.position (code_of m) f.valid (waits _ _ _ _ _ _ _ _ _ _ at f.known).is_listed)

pub exact_says : (f : Frame) (m : Move) (e : Entry) (v : ℤ) (b : Option Move) → 1 < f.depth → IsCurrent f.state m → e ≡ Exact v b → IsTrueAfter f m e → IsWorth f m v
exact_says f m e v b deep at q t =
    let k : IsTrueAfter f m (Exact v b) = subst (IsTrueAfter f m) q t in
    let s : value (position_after f m) f.node.eval (f.depth - 1) ≡ v = k.0 in
    let w : Within (f.depth - 1) (value (position_after f m) f.node.eval (f.depth - 1)) = child_within f m at in
    record { is = worth_from f.node.position f.node.eval (f.depth - 1) (code_of m) (position_after f m) v (omega arith) (sym s) refl; least = omega (arith, ints, w, f.shallow); most = omega (arith, ints, w, f.shallow) }

pub record IsAtLeast (f : Frame) (m : Move) (v : ℤ) : Type 0 where
  pub worth_is : (pos 0 -ℤ v) ≤ℤ worth_of f m
  pub least : lost_value SEARCH_DEPTH_MAX ≤ℤ v
  pub cuts : v ≤ℤ (pos 0 -ℤ f.beta)

pub at_most_says : (f : Frame) (m : Move) (e : Entry) (v : ℤ) → 1 < f.depth → IsCurrent f.state m → e ≡ AtMost v → IsTrueAfter f m e → IsConclusiveAfter f m e → IsAtLeast f m v
at_most_says f m e v deep at q t s =
    let k : value (position_after f m) f.node.eval (f.depth - 1) ≤ℤ v = subst (IsTrueAfter f m) q t in
    let l : v ≤ℤ (pos 0 -ℤ f.beta) = subst (IsConclusiveAfter f m) q s in
    let w : Within (f.depth - 1) (value (position_after f m) f.node.eval (f.depth - 1)) = child_within f m at in
    let is : worth_of f m ≡ negated (value (position_after f m) f.node.eval (f.depth - 1)) = worth_deep f.node.position f.node.eval (f.depth - 1) (code_of m) (omega arith) in
    record { worth_is = omega (arith, ints, is, k); least = omega (arith, ints, w, k, f.shallow); cuts = l }

pub at_least_says : (f : Frame) (m : Move) (e : Entry) (v : ℤ) → 1 < f.depth → e ≡ AtLeast v → IsTrueAfter f m e → IsConclusiveAfter f m e → worth_of f m ≤ℤ move_alpha_of f m
at_least_says f m e v deep q t s =
    let k : v ≤ℤ value (position_after f m) f.node.eval (f.depth - 1) = subst (IsTrueAfter f m) q t in
    let l : negated (move_alpha_of f m) ≤ℤ v = subst (IsConclusiveAfter f m) q s in
    let is : worth_of f m ≡ negated (value (position_after f m) f.node.eval (f.depth - 1)) = worth_deep f.node.position f.node.eval (f.depth - 1) (code_of m) (omega arith) in
    omega (arith, ints, is, k, l)
