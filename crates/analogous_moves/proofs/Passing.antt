-- The position after a pass.
use Rattle.std.proofs.Common.{◌≡◌, pos, ◌-ℤ◌, false, refl, ap, ◌∙◌, arith}
use Rattle.std.proofs.lemmas.Int.{ints}
use Rattle.shogi_core.specs.declared.piece.Color.{Color}
use Rattle.shogi_core.specs.Attack.{in_check}
use Rattle.shogi_core.specs.Pieces.{opponent_of}
use Rattle.shogi_core.specs.Position.{Shogi}
use Rattle.shogi_core.specs.Validity.{IsValid}
use Rattle.shogi_core.proofs.Faults.{faultless_from, faultless_to}
use Rattle.shogi_moves.proofs.MovedPieces.{opponent_twice}
use Rattle.shogi_eval.specs.declared.eval.Eval.{Eval}
use Rattle.shogi_eval.specs.Material.{points_of, material_of}
use Rattle.analogous_moves.specs.Analogies.{passed}

-- a pass out of check leaves a valid position
pub passed_valid : (p : Shogi) → IsValid p → in_check p.cells p.side ≡ false → IsValid (passed p)
passed_valid p v unchecked =
    let fine = faultless_from p v.no_fault in
    record {
      cells_fit = v.cells_fit;
      hands_fit = v.hands_fit;
      no_fault = faultless_to (passed p) (record {
        counts = fine.counts;
        kings = fine.kings;
        pawns = fine.pawns;
        alive = fine.alive;
        shut = ap (in_check p.cells) (opponent_twice p.side) ∙ unchecked;
      });
    }

points_passed : (p : Shogi) (e : Eval) (color : Color) → points_of (passed p) e color ≡ points_of p e color
unfolding points_of
points_passed p e color = refl

-- a pass negates the material
pub material_passed : (p : Shogi) (e : Eval) → material_of (passed p) e ≡ pos 0 -ℤ material_of p e
unfolding material_of
material_passed p e =
    let other : points_of (passed p) e (opponent_of p.side) ≡ points_of p e (opponent_of p.side) = points_passed p e (opponent_of p.side) in
    let own : points_of (passed p) e (opponent_of (opponent_of p.side)) ≡ points_of p e p.side = points_passed p e (opponent_of (opponent_of p.side)) ∙ ap (points_of p e) (opponent_twice p.side) in
    omega (arith, ints, other, own)
