-- The test of positions decides equality.
use Rattle.std.proofs.Common.{◌≡◌, ◌&&◌, ◌==◌, ℕ, Bool, true, false, Option, Some, None, refl, sym, ap, ap₂, [], ◌∷◌, ◌∙◌}
use Rattle.std.specs.List.{slice_index_or}
use Rattle.std.specs.Option.{option_eq}
use Rattle.std.specs.Bool.{Decides}
use Rattle.std.proofs.lemmas.Slice.Eq.{slice_eq-Decides}
use Rattle.std.proofs.lemmas.Bool.Decides.{Decides-eqb}
use Rattle.shogi_core.specs.Pieces.{is_same_color}
use Rattle.shogi_core.specs.Position.{Shogi, HandCounts}
use Rattle.shogi_core.specs.Movement.{Cells}
use Rattle.shogi_core.specs.Same.{is_same_cell, is_same_piece, is_same_position, role_number}
use Rattle.shogi_core.specs.declared.piece.Color.{Color}
use Rattle.shogi_core.specs.declared.piece.Color.TheVariants.{Black, White}
use Rattle.shogi_core.specs.declared.piece.Piece.{Piece}
use Rattle.shogi_core.specs.declared.piece.Role.{Role}
use Rattle.shogi_core.specs.declared.piece.Role.TheVariants as role

-- tests joined by `&&` decide both facts
pub both_decide : (a b : Bool) (P Q R : Type 0) → Decides a P → Decides b Q → (P → Q → R) → (R → P × Q) → Decides (a && b) R
both_decide true true P Q R p q join split = ((λ _. join (p.0 refl) (q.0 refl)), (λ _. refl))
both_decide true false P Q R p q join split = ((λ e. cc), (λ r. q.1 (split r).1))
both_decide false b P Q R p q join split = ((λ e. cc), (λ r. p.1 (split r).0))

color_same : (a b : Color) → Decides (is_same_color a b) (a ≡ b)
color_same Black Black = ((λ _. refl), (λ _. refl))
color_same Black White = ((λ e. cc), (λ e. cc))
color_same White Black = ((λ e. cc), (λ e. cc))
color_same White White = ((λ _. refl), (λ _. refl))

-- the role with this number
abbrev role_at : ℕ → Role
role_at n = slice_index_or (role.King ∷ role.Pawn ∷ role.Lance ∷ role.Knight ∷ role.Silver ∷ role.Gold ∷ role.Bishop ∷ role.Rook
    ∷ role.PromotedPawn ∷ role.PromotedLance ∷ role.PromotedKnight ∷ role.PromotedSilver ∷ role.Horse ∷ role.Dragon ∷ []) n role.King

role_back : (r : Role) → role_at (role_number r) ≡ r
role_back role.King = refl
role_back _ = refl

role_same : (a b : Role) → Decides (role_number a == role_number b) (a ≡ b)
role_same a b = let numbers = Decides-eqb (role_number a) (role_number b) in
    ((λ e. sym (role_back a) ∙ ap role_at (numbers.0 e) ∙ role_back b), (λ e. numbers.1 (ap role_number e)))

abbrev piece_of : Color → Role → Piece
piece_of color role = record { color = color; role = role }

abbrev position_of : Cells → HandCounts → Color → Shogi
position_of cells hands side = record { cells = cells; hands = hands; side = side }

piece_same : (a b : Piece) → Decides (is_same_piece a b) (a ≡ b)
piece_same a b = both_decide _ _ (a.color ≡ b.color) (a.role ≡ b.role) (a ≡ b) (color_same a.color b.color) (role_same a.role b.role)
    (λ c r. ap₂ piece_of c r) (λ e. (ap (λ (x : Piece). x.color) e, ap (λ (x : Piece). x.role) e))

cell_same : (a b : Option Piece) → Decides (is_same_cell a b) (a ≡ b)
cell_same None None = ((λ _. refl), (λ _. refl))
cell_same None (Some b) = ((λ e. cc), (λ e. cc))
cell_same (Some a) None = ((λ e. cc), (λ e. cc))
cell_same (Some a) (Some b) = let pieces = piece_same a b in
    ((λ e. ap (λ (x : Piece). Some x) (pieces.0 e)), (λ e. let same : a ≡ b = cc in pieces.1 same))

-- tests of the parts decide the equality of positions
pub parts_decide : (a b : Shogi) (cells hands side : Bool) → Decides cells (a.cells ≡ b.cells) → Decides hands (a.hands ≡ b.hands)
    → Decides side (a.side ≡ b.side) → Decides (cells && (hands && side)) (a ≡ b)
parts_decide a b cells hands side x y z =
    both_decide _ _ (a.cells ≡ b.cells) ((a.hands ≡ b.hands) × (a.side ≡ b.side)) (a ≡ b) x
    (both_decide _ _ (a.hands ≡ b.hands) (a.side ≡ b.side) ((a.hands ≡ b.hands) × (a.side ≡ b.side)) y z (λ h s. (h, s)) (λ p. p))
    (λ c p. ap₂ (λ (f : HandCounts → Color → Shogi) (h : HandCounts). f h a.side) (ap position_of c) p.0 ∙ ap (position_of b.cells b.hands) p.1)
    (λ e. (ap (λ (x : Shogi). x.cells) e, (ap (λ (x : Shogi). x.hands) e, ap (λ (x : Shogi). x.side) e)))

-- `is_same_position` decides the equality of positions
pub position_same : (a b : Shogi) → Decides (is_same_position a b) (a ≡ b)
unfolding is_same_position
position_same a b = parts_decide a b _ _ _ (slice_eq-Decides cell_same a.cells b.cells _ refl) (slice_eq-Decides Decides-eqb a.hands b.hands _ refl) (color_same a.side b.side)

-- testing values tests optional values
pub option_same : {T : Type 0} {E : T → T → Bool} → ((a b : T) → Decides (E a b) (a ≡ b)) → (a b : Option T) → Decides (option_eq E a b) (a ≡ b)
option_same same None None = ((λ _. refl), (λ _. refl))
option_same same None (Some b) = ((λ e. cc), (λ e. cc))
option_same same (Some a) None = ((λ e. cc), (λ e. cc))
option_same {T} same (Some a) (Some b) = ((λ e. ap (λ (x : T). Some x) ((same a b).0 e)), (λ e. let one : a ≡ b = cc in (same a b).1 one))
