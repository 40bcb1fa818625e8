-- The current move of a node of depth 2, and what it is worth.
use Rattle.std.proofs.Common.{◌≡◌, pos, ◌-ℤ◌, ◌≤ℤ◌, Some, true, subst}
use Rattle.shogi_core.specs.declared.moves.Move.{Move}
use Rattle.shogi_core.specs.Codes.{code_of, move_of}
use Rattle.shogi_core.specs.Validity.{IsValid}
use Rattle.shogi_moves.specs.After.{after}
use Rattle.shogi_moves.specs.Legal.{is_legal}
use Rattle.shogi_moves.proofs.LegalLaws.{after_code_of, listed_to_legal}
use Rattle.shogi_eval.specs.Material.{material_of}
use Rattle.shogi_eval.specs.declared.points.TheConstants.{POINTS_MAX}
use Rattle.shogi_eval.proofs.Bounds.{material_bounds}
use Rattle.minimax.proofs.Valid.{after_valid}
use Rattle.search_nodes.specs.declared.frame.Frame.{Frame}
use Rattle.search_nodes.specs.declared.frame.NodeState.TheVariants.{AwaitingChild}
use Rattle.search_nodes.proofs.Nodes.{asked, waits}

-- the current move is legal, and the material after it is within its bounds
pub record IsMove (f : Frame) (m : Move) : Type 0 where
  pub legal : is_legal f.node.position m ≡ true
  pub least : (pos 0 -ℤ pos POINTS_MAX) ≤ℤ material_of (after f.node.position m) f.node.eval
  pub most : material_of (after f.node.position m) f.node.eval ≤ℤ pos POINTS_MAX

pub asked_move : (f : Frame) (m : Move) → f.state ≡ AwaitingChild m → move_of (code_of m) ≡ Some m → IsMove f m
asked_move f m is back =
    let w : _ = waits _ _ _ _ _ _ _ _ _ _ (asked _ _ is) f.known in
    let valid : IsValid (after f.node.position m) = subst IsValid (after_code_of f.node.position m back) (after_valid f.node.position (code_of m) f.valid w.is_listed) in
    let b : _ = material_bounds (after f.node.position m) f.node.eval valid in
    record { legal = listed_to_legal _ _ back w.is_listed; least = b.0; most = b.1 }
