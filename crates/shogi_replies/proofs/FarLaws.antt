-- Pieces far from the kings and from the zone.
use Rattle.std.proofs.Common.{◌≡◌, ℕ, ◌+◌, ◌-◌, ◌*◌, ◌/◌, ◌%◌, ◌^◌, ◌<◌, Bool, true, false, not, refl, subst, Option, Some, None, arith, inl, inr, bit_and, bit_or}
use Rattle.std.specs.Prelude.{◌&&◌, ◌||◌, nat_lt}
use Rattle.std.proofs.lemmas.Bool.{agree_below_at, both_ways, false_from_ne_true, or_cases}
use Rattle.shogi_core.specs.declared.piece.Color.{Color}
use Rattle.shogi_core.specs.declared.piece.Piece.{Piece}
use Rattle.shogi_core.specs.declared.piece.Role.{Role}
use Rattle.shogi_core.specs.Bits.{has_bit}
use Rattle.shogi_core.specs.Cell.{is_piece_of, is_slider, is_sliding_role}
use Rattle.shogi_core.specs.Lines.{is_near}
use Rattle.shogi_core.specs.Movement.{Cells, away, cell_reaches, for_side, has_slide, has_step, piece_at, reaches, slides}
use Rattle.shogi_core.specs.Pieces.{is_same_color, opponent_of, promoted}
use Rattle.shogi_core.specs.Position.{Shogi}
use Rattle.shogi_core.proofs.BitLaws.{has_bit-and, has_bit-or}
use Rattle.shogi_core.proofs.LineBits.{has_bit-not}
use Rattle.shogi_core.proofs.SeenLaws.{reaches_near, slides_role, step_near}
use Rattle.shogi_core.specs.Zones.{in_promotion_zone, is_promotable, may_promote, is_around, is_near_zone}
use Rattle.shogi_moves.specs.After.{piece_moved}
use Rattle.shogi_replies.specs.ReplyInfo.{HasAroundKings, IsFarMove}

-- a piece that does not slide ends near its origin
near_step : (cells : Cells) (cell : Option Piece) (a b : ℕ) → a < 81 → is_slider cell ≡ false → cell_reaches cells cell a b ≡ true → is_near b a ≡ true
near_step cells None a b h still e = absurd (cc)
near_step cells (Some piece) a b h still e = elim (or_cases (has_step piece a b) (has_slide cells piece a b) e) [
  | inl step ↦ step_near piece a b h step
  | inr slide ↦ absurd (both_ways (is_sliding_role piece.role) still (slides_role piece.role (λ o. slides cells (for_side piece.color o) a b) slide))
]

off_zone : (role : Role) (side color : Color) (from n : ℕ) → is_same_color side color ≡ true → in_promotion_zone side from ≡ false → in_promotion_zone side n ≡ false → (is_promotable role && (in_promotion_zone color from || in_promotion_zone color n)) ≡ false
off_zone role side color from n same x y = grind arith

stays_plain : (side : Color) (cell : Option Piece) (from n : ℕ) → is_piece_of side cell ≡ true → in_promotion_zone side from ≡ false → in_promotion_zone side n ≡ false → may_promote cell from n ≡ false
stays_plain side cell from n own x y = grind (arith, off_zone)

-- ---- ranks and files

-- b is at most two ranks and one file from a
record IsClose (a b : ℕ) : Type 0 where
  below : b % 9 < a % 9 + 3
  above : a % 9 < b % 9 + 3
  left : b / 9 < a / 9 + 2
  right : a / 9 < b / 9 + 2

abbrev is_close : ℕ → ℕ → Bool
is_close a b = not (is_near b a) || (nat_lt (b % 9) (a % 9 + 3) && nat_lt (a % 9) (b % 9 + 3) && nat_lt (b / 9) (a / 9 + 2) && nat_lt (a / 9) (b / 9 + 2))

close_at : (i : ℕ) → i < 6561 → is_close (i / 81) (i % 81) ≡ true
unfolding away
close_at i h = agree_below_at (λ i. is_close (i / 81) (i % 81)) (λ _. true) 6561 i refl h

near_close : (a b : ℕ) → a < 81 → b < 81 → is_near b a ≡ true → IsClose a b
near_close a b h l near =
    let one : (a * 81 + b) / 81 ≡ a = omega arith in
    let two : (a * 81 + b) % 81 ≡ b = omega arith in
    let at : is_close a b ≡ true = subst (λ (x : ℕ). is_close x b ≡ true) one (subst (λ (y : ℕ). is_close ((a * 81 + b) / 81) y ≡ true) two (close_at (a * 81 + b) (omega arith))) in
    record { below = grind arith; above = grind arith; left = grind arith; right = grind arith }

-- two close steps stay around the square
close_twice : (k n a : ℕ) → IsClose a n → IsClose n k → is_around k a ≡ true
close_twice k n a one two = grind arith

-- a close step from outside the squares near the zone does not lead into it
off_zone_near : (side : Color) (a n : ℕ) → is_near_zone side a ≡ false → a % 9 < n % 9 + 3 → n % 9 < a % 9 + 3 → in_promotion_zone side n ≡ false
off_zone_near side a n far x y = grind arith

-- a piece that does not slide does not after promotion
stays_still : (role : Role) → is_sliding_role role ≡ false → is_sliding_role (promoted role) ≡ false
stays_still role e = grind arith

moves_still : (promote : Bool) (cell : Option Piece) → is_slider cell ≡ false → is_slider (piece_moved promote cell) ≡ false
moves_still promote cell e = grind (arith, stays_still)

pub far_move : (p : Shogi) (king_view around : ℕ) (promotes : Bool) (a n : ℕ) → a < 81 → n < 81 → HasAroundKings p.cells (opponent_of p.side) around
    → is_piece_of p.side (piece_at p.cells a) ≡ true → is_slider (piece_at p.cells a) ≡ false → has_bit king_view a ≡ false → has_bit around a ≡ false → (promotes ≡ false → is_near_zone p.side a ≡ false)
    → reaches p.cells a n ≡ true → IsFarMove p king_view promotes a n
far_move p king_view around promotes a n ha hn kings own still unseen apart zone r =
    let close : IsClose a n = near_close a n ha hn (grind (arith, reaches_near p.cells a n ha r)) in
    record {
      unseen = unseen;
      harmless = λ promote k l king. false_from_ne_true (cell_reaches p.cells (piece_moved promote (piece_at p.cells a)) n k) (λ hit. (
          let next : IsClose n k = near_close n k hn l (near_step p.cells (piece_moved promote (piece_at p.cells a)) n k hn (moves_still promote (piece_at p.cells a) still) hit) in
          both_ways (has_bit around a) apart (kings k a l ha king (close_twice k n a close next))));
      non_promoting = λ never. stays_plain p.side (piece_at p.cells a) a n own (off_zone_near p.side a a (zone never) (omega arith) (omega arith)) (off_zone_near p.side a n (zone never) close.above close.below);
    }

-- a piece that does not slide and is far from the zone cannot promote
pub far_plain : (p : Shogi) (a n : ℕ) → a < 81 → n < 81 → is_piece_of p.side (piece_at p.cells a) ≡ true → is_slider (piece_at p.cells a) ≡ false → is_near_zone p.side a ≡ false → reaches p.cells a n ≡ true → may_promote (piece_at p.cells a) a n ≡ false
far_plain p a n ha hn own still far r =
    let close : IsClose a n = near_close a n ha hn (grind (arith, reaches_near p.cells a n ha r)) in
    stays_plain p.side (piece_at p.cells a) a n own (off_zone_near p.side a a far (omega arith) (omega arith)) (off_zone_near p.side a n far close.above close.below)

-- a square of the set that is in none of three others
pub out_of_all : (own x y z a : ℕ) → a < 81 → bit_or (bit_or x y) z < 2 ^ 128 → has_bit (bit_and own (2 ^ 128 - 1 - bit_or (bit_or x y) z)) a ≡ true
    → (has_bit own a ≡ true) × (has_bit x a ≡ false) × (has_bit y a ≡ false) × (has_bit z a ≡ false)
out_of_all own x y z a h fits set =
    grind (arith, has_bit-and own (2 ^ 128 - 1 - bit_or (bit_or x y) z) a, has_bit-not (bit_or (bit_or x y) z) a fits (omega arith), has_bit-or (bit_or x y) z a, has_bit-or x y a)
