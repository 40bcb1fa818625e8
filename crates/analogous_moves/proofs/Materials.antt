-- A drop clear of a reply changes the material by what the drop gains.
use Rattle.std.proofs.Common.{◌≡◌, ℤ, pos, ◌+◌, ◌-ℤ◌, ◌+ℤ◌, ◌≤ℤ◌, ◌<◌, ℕ, true, false, length, Option, None, Some, refl, ap, ◌∙◌, arith}
use Rattle.std.proofs.lemmas.Grind.{common_steps}
use Rattle.std.proofs.lemmas.Int.{ints}
use Rattle.shogi_core.specs.declared.moves.Move.{Move}
use Rattle.shogi_core.specs.declared.moves.Move.TheVariants.{Board, Drop}
use Rattle.shogi_core.specs.declared.piece.Color.{Color}
use Rattle.shogi_core.specs.declared.piece.Kind.{Kind}
use Rattle.shogi_core.specs.declared.piece.Piece.{Piece}
use Rattle.shogi_core.specs.Attack.{in_check}
use Rattle.shogi_core.specs.Movement.{piece_at}
use Rattle.shogi_core.specs.Pieces.{kind_of}
use Rattle.shogi_core.specs.Position.{HandCounts, Shogi}
use Rattle.shogi_core.specs.Validity.{IsValid}
use Rattle.shogi_moves.specs.After.{after, cells_after, with_captured, with_one_more}
use Rattle.shogi_moves.specs.Legal.{is_legal}
use Rattle.shogi_moves.proofs.Keeps.{is_safe_from_legal, no_fault_after_board, no_fault_after_drop}
use Rattle.shogi_eval.specs.declared.eval.Eval.{Eval}
use Rattle.shogi_core.specs.declared.piece.Kind.TheVariants as kinds
use Rattle.shogi_eval.specs.declared.eval.Eval.TheVariants.{Plain, Hand, Exchange}
use Rattle.shogi_eval.specs.Material.{drop_gain, material_of, promotion_gain, taken_gain}
use Rattle.shogi_eval.proofs.Gains.{gain_of, material_after_board, material_after_drop}
use Rattle.analogous_moves.specs.Analogies.{IsOnSquares, IsOff, after_reply, passed}
use Rattle.analogous_moves.proofs.Commuting.{other_way, stands}
use Rattle.analogous_moves.proofs.Passing.{material_passed, passed_valid}

-- ---- a legal move leaves a valid position

length-with_one_more : (hands : HandCounts) (color : Color) (kind : Option Kind) → length (with_one_more hands color kind) ≡ length hands
length-with_one_more hands color None = grind (arith, common_steps)
length-with_one_more hands color (Some kind) = grind (arith, common_steps)

length-with_captured : (hands : HandCounts) (color : Color) (cell : Option Piece) → length (with_captured hands color cell) ≡ length hands
length-with_captured hands color None = grind (arith, common_steps)
length-with_captured hands color (Some piece) = length-with_one_more hands color (kind_of piece.role)

pub move_valid : (p : Shogi) (m : Move) → IsValid p → IsOnSquares m → is_legal p m ≡ true → IsValid (after p m)
move_valid p (Board from to promote) v on l = record {
  cells_fit = grind (arith, common_steps, v.cells_fit);
  hands_fit = length-with_captured p.hands p.side (piece_at p.cells to) ∙ v.hands_fit;
  no_fault = no_fault_after_board p from to promote (is_safe_from_legal p (Board from to promote) l) v on.0 on.1;
}
move_valid p (Drop kind to) v on l = record {
  cells_fit = grind (arith, common_steps, v.cells_fit);
  hands_fit = grind (arith, common_steps, v.hands_fit);
  no_fault = no_fault_after_drop p kind to (is_safe_from_legal p (Drop kind to) l) v on;
}

-- ---- what it gains

pub material_after : (p : Shogi) (e : Eval) (m : Move) → IsValid p → IsOnSquares m → is_legal p m ≡ true → material_of (after p m) e ≡ pos 0 -ℤ (material_of p e +ℤ gain_of p e m)
material_after p e (Board from to promote) v on l = material_after_board p e from to promote v on.0 on.1 l
material_after p e (Drop kind to) v on l = material_after_drop p e kind to v on l

-- a reply gains as much after a drop off its squares as after a pass
gain_kept : (p : Shogi) (e : Eval) (kind : Kind) (b : ℕ) (r : Move) → IsOff r b → gain_of (after p (Drop kind b)) e r ≡ gain_of p e r
gain_kept p e kind b (Board c d promotes) h =
    ap (λ (cell : Option Piece). pos (taken_gain e cell + promotion_gain promotes (piece_at (cells_after p.cells p.side (Drop kind b)) c))) (stands p.cells p.side (Drop kind b) d (other_way b d h.1))
    ∙ ap (λ (cell : Option Piece). pos (taken_gain e (piece_at p.cells d) + promotion_gain promotes cell)) (stands p.cells p.side (Drop kind b) c (other_way b c h.0))
gain_kept p e kind b (Drop held d) h = refl

gain_passed : (p : Shogi) (e : Eval) (r : Move) → gain_of (passed p) e r ≡ gain_of p e r
gain_passed p e (Board c d promotes) = refl
gain_passed p e (Drop kind d) = refl

-- if the reply gains as much as after a pass, the material after move and reply is that after a pass and the reply, plus what the move gains
pub material_both : (p : Shogi) (e : Eval) (m r : Move) → IsValid p → in_check p.cells p.side ≡ false → IsOnSquares m → IsOnSquares r → gain_of (after p m) e r ≡ gain_of p e r → is_legal p m ≡ true → is_legal (passed p) r ≡ true → is_legal (after p m) r ≡ true
    → material_of (after (after p m) r) e ≡ material_of (after_reply p r) e +ℤ gain_of p e m
material_both p e m r v unchecked on there same lm lr l =
    let one : material_of (after p m) e ≡ pos 0 -ℤ (material_of p e +ℤ gain_of p e m) = material_after p e m v on lm in
    let two : material_of (after (after p m) r) e ≡ pos 0 -ℤ (material_of (after p m) e +ℤ gain_of (after p m) e r) = material_after (after p m) e r (move_valid p m v on lm) there l in
    let none : material_of (passed p) e ≡ pos 0 -ℤ material_of p e = material_passed p e in
    let three : material_of (after_reply p r) e ≡ pos 0 -ℤ (material_of (passed p) e +ℤ gain_of (passed p) e r) = material_after (passed p) e r (passed_valid p v unchecked) there lr in
    let same_too : gain_of (passed p) e r ≡ gain_of p e r = gain_passed p e r in
    whole _ _ _ _ _ _ _ _ _ one two none three same same_too
  where
    whole : (mp gm m1 q gr g1 mo q0 g0 : ℤ) → m1 ≡ pos 0 -ℤ (mp +ℤ gm) → q ≡ pos 0 -ℤ (m1 +ℤ g1) → mo ≡ pos 0 -ℤ mp → q0 ≡ pos 0 -ℤ (mo +ℤ g0) → g1 ≡ gr → g0 ≡ gr → q ≡ q0 +ℤ gm
    whole mp gm m1 q gr g1 mo q0 g0 a b c d s t = omega (arith, ints)

-- this holds for a drop off the squares of the reply
pub material_moved : (p : Shogi) (e : Eval) (kind : Kind) (b : ℕ) (r : Move) → IsValid p → in_check p.cells p.side ≡ false → b < 81 → IsOnSquares r → IsOff r b → is_legal p (Drop kind b) ≡ true → is_legal (passed p) r ≡ true → is_legal (after p (Drop kind b)) r ≡ true
    → material_of (after (after p (Drop kind b)) r) e ≡ material_of (after_reply p r) e +ℤ gain_of p e (Drop kind b)
material_moved p e kind b r v unchecked on there apart lm lr l = material_both p e (Drop kind b) r v unchecked on there (gain_kept p e kind b r apart) lm lr l

-- a drop gains nothing
pub drop_little : (e : Eval) (kind : Kind) → drop_gain e kind ≤ℤ pos 0
drop_little Plain kind = omega (arith, ints)
drop_little Exchange kind = omega (arith, ints)
drop_little Hand kinds.Pawn = omega (arith, ints)
drop_little Hand kinds.Lance = omega (arith, ints)
drop_little Hand kinds.Knight = omega (arith, ints)
drop_little Hand kinds.Silver = omega (arith, ints)
drop_little Hand kinds.Gold = omega (arith, ints)
drop_little Hand kinds.Bishop = omega (arith, ints)
drop_little Hand kinds.Rook = omega (arith, ints)
