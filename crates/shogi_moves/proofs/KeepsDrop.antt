-- A safe drop leaves a position without a fault.
use Rattle.std.proofs.Common.{◌≡◌, ℕ, ◌+◌, ◌-◌, ◌/◌, ◌<◌, ◌≤◌, true, false, length, set, refl, sym, ap, subst, arith, inl, inr, Option, Some, None, get_or-set_same, get_or-set_other, le_trans}
use Rattle.std.specs.Prelude.{count_by, ◌==◌, is_none}
use Rattle.std.proofs.lemmas.Bool.{and_right, cases_eq}
use Rattle.shogi_core.specs.declared.moves.Move.TheVariants.{Drop}
use Rattle.shogi_core.specs.Movement.{Cells, piece_at}
use Rattle.shogi_core.specs.Position.{Shogi, HandCounts, count_in_hand, place_of}
use Rattle.shogi_core.proofs.Faultless.{IsFaultless}
use Rattle.shogi_core.proofs.Faults.{number_below, faultless_from}
use Rattle.shogi_moves.specs.Legal.{is_safe, is_pawn_kind}
use Rattle.shogi_core.specs.declared.piece.Color.{Color}
use Rattle.shogi_core.specs.declared.piece.Color.TheVariants.{Black, White}
use Rattle.shogi_core.specs.declared.piece.Kind.{Kind}
use Rattle.shogi_core.specs.declared.piece.Piece.{Piece}
use Rattle.shogi_core.specs.Pieces.{kind_of, is_of_kind, is_same_color, kind_number, set_size, role_of}
use Rattle.shogi_core.specs.Attack.{in_check}
use Rattle.shogi_core.specs.Cell.{is_king_role, is_pawn_role, is_king, is_pawn, is_immobile, is_immobile_on}
use Rattle.shogi_core.specs.Validity.{pawns_on_file, count_of, IsValid}
use Rattle.shogi_moves.specs.After.{after, dropped}
use Rattle.shogi_moves.proofs.Counts.{count_by-set, count_on_file-set, here_on, here_off, hand_less, tally}
use Rattle.shogi_moves.proofs.MovedPieces.{opponent_twice}

-- a dropped piece is of its kind, no king, and a pawn exactly if the kind is
kind_of-role_of : (kind : Kind) → kind_of (role_of kind) ≡ Some kind
kind_of-role_of kind = grind arith

is_king_role-role_of : (kind : Kind) → is_king_role (role_of kind) ≡ false
is_king_role-role_of kind = grind arith

is_pawn_role-role_of : (kind : Kind) → is_pawn_role (role_of kind) ≡ is_pawn_kind kind
is_pawn_role-role_of kind = grind arith

-- equal colours by the test are equal
same_color : (a b : Color) → is_same_color a b ≡ true → a ≡ b
same_color a b e = grind arith

is_none-true : {X : Type 0} (cell : Option X) → is_none cell ≡ true → cell ≡ None
is_none-true cell e = grind arith

-- what the rules say of a safe drop
pub record IsSafeDrop (p : Shogi) (kind : Kind) (to : ℕ) : Type 0 where
  pub held_one : 0 < count_in_hand p.hands p.side kind
  pub free : piece_at p.cells to ≡ None
  pub alive : is_immobile to (dropped p.side kind) ≡ false
  pub pawns : is_pawn_kind kind ≡ true → pawns_on_file p.side (to / 9) p.cells ≤ 0
  pub shut : in_check (after p (Drop kind to)).cells p.side ≡ false

-- a safe drop obeys each of its rules
pub safe_drop : (p : Shogi) (kind : Kind) (to : ℕ) → is_safe p (Drop kind to) ≡ true → IsSafeDrop p kind to
unfolding is_safe
safe_drop p kind to e = record {
  held_one = grind arith;
  free = is_none-true (piece_at p.cells to) (grind arith);
  alive = grind arith;
  pawns = λ h. grind arith;
  shut = grind arith;
}

-- the hand has one less of the kind
hands_after_drop : (hands : HandCounts) (side : Color) (kind other : Kind) → length hands ≡ 14 → 0 < count_in_hand hands side kind
    → count_in_hand (set hands (place_of side kind) (count_in_hand hands side kind - 1)) Black other + count_in_hand (set hands (place_of side kind) (count_in_hand hands side kind - 1)) White other + tally (kind_number kind == kind_number other) ≡ count_in_hand hands Black other + count_in_hand hands White other
hands_after_drop hands Black kind other len some = hand_less hands (kind_number kind) (kind_number kind) (kind_number other) len (number_below kind) (number_below other) (inl refl) some
hands_after_drop hands White kind other len some = hand_less hands (kind_number kind + 7) (kind_number kind) (kind_number other) len (number_below kind) (number_below other) (inr refl) some

-- no piece comes or goes
counts_after_drop : (cells : Cells) (hands : HandCounts) (side : Color) (kind : Kind) (to : ℕ) (other : Kind) → length cells ≡ 81 → length hands ≡ 14 → to < 81 → piece_at cells to ≡ None → 0 < count_in_hand hands side kind
    → count_of other (set cells to (dropped side kind)) (set hands (place_of side kind) (count_in_hand hands side kind - 1)) ≡ count_of other cells hands
counts_after_drop cells hands side kind to other lc lh ht free some =
    let board = count_by-set (is_of_kind other) cells to (dropped side kind) None (omega arith) in
    let board' = rw (free, kind_of-role_of kind) at board in
    let hand = hands_after_drop hands side kind other lh some in
    omega arith

-- no king is added
kings_after_drop : (cells : Cells) (side : Color) (kind : Kind) (to : ℕ) (color : Color) → length cells ≡ 81 → to < 81
    → count_by (is_king color) (set cells to (dropped side kind)) ≤ count_by (is_king color) cells
kings_after_drop cells side kind to color lc ht =
    let board = count_by-set (is_king color) cells to (dropped side kind) None (omega arith) in
    let none : tally (is_king color (dropped side kind)) ≡ 0 = ap tally (and_right (is_same_color color side) (is_king_role (role_of kind)) (is_king_role-role_of kind)) in
    omega arith

-- no file gets a second pawn
pawns_after_drop : (cells : Cells) (side : Color) (kind : Kind) (to : ℕ) (color : Color) (file : ℕ) → length cells ≡ 81 → to < 81 → (is_pawn_kind kind ≡ true → pawns_on_file side (to / 9) cells ≤ 0) → pawns_on_file color file cells ≤ 1
    → pawns_on_file color file (set cells to (dropped side kind)) ≤ 1
pawns_after_drop cells side kind to color file lc ht ban before = grind (arith, count_on_file-set (is_pawn color) file to cells (dropped side kind) None, same_color color side, is_pawn_role-role_of kind, here_on file to, here_off file to, cases_eq (to / 9) file)

-- no piece stands where it could never move again
alive_after_drop : (cells : Cells) (to : ℕ) (v : Option Piece) (square : ℕ) → length cells ≡ 81 → to < 81 → is_immobile to v ≡ false → is_immobile_on cells square ≡ false → is_immobile_on (set cells to v) square ≡ false
alive_after_drop cells to v square lc ht alive before = grind (arith, cases_eq square to, get_or-set_same cells to v None, get_or-set_other cells to square v None)

-- a safe drop leaves no fault
pub faultless_after_drop : (p : Shogi) (kind : Kind) (to : ℕ) → IsValid p → to < 81 → is_safe p (Drop kind to) ≡ true → IsFaultless (after p (Drop kind to))
faultless_after_drop p kind to valid hto safe =
    let fine = faultless_from p valid.no_fault in
    let m = safe_drop p kind to safe in
    record {
      counts = λ other. subst (λ (n : ℕ). n ≤ set_size other) (sym (counts_after_drop p.cells p.hands p.side kind to other valid.cells_fit valid.hands_fit hto m.free m.held_one)) (fine.counts other);
      kings = λ color. le_trans (kings_after_drop p.cells p.side kind to color valid.cells_fit hto) (fine.kings color);
      pawns = λ color file h. pawns_after_drop p.cells p.side kind to color file valid.cells_fit hto m.pawns (fine.pawns color file h);
      alive = λ square h. alive_after_drop p.cells to (dropped p.side kind) square valid.cells_fit hto m.alive (fine.alive square h);
      shut = rw (opponent_twice p.side) m.shut;
    }
