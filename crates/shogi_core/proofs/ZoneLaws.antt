-- Masks of promotion zones, files and surroundings.
use Rattle.std.proofs.Common.{◌≡◌, ℕ, ◌<◌, ◌+◌, ◌*◌, ◌^◌, Bool, true, false, refl, ◌∙◌, arith, get_or, bit_and}
use Rattle.std.specs.Prelude.{◌%◌, ◌/◌, ◌==◌, ◌&&◌, ◌||◌, nat_lt}
use Rattle.std.proofs.lemmas.Bool.{agree_below_at, ltb-true}
use Rattle.shogi_core.specs.declared.bits.TheConstants.{ALL_SQUARES}
use Rattle.shogi_core.specs.Bits.{has_bit}
use Rattle.shogi_core.specs.declared.piece.Color.{Color}
use Rattle.shogi_core.specs.declared.piece.Color.TheVariants.{Black, White}
use Rattle.shogi_core.specs.declared.piece.Role.{Role}
use Rattle.shogi_core.specs.declared.piece.Role.TheVariants.{King, Pawn, Lance, Knight, Silver, Gold, Bishop, Rook, PromotedPawn, PromotedLance, PromotedKnight, PromotedSilver, Horse, Dragon}
use Rattle.shogi_core.specs.Cell.{is_immobile_role}
use Rattle.shogi_core.specs.Same.{role_number}
use Rattle.shogi_core.proofs.BitLaws.{has_bit-none}
use Rattle.shogi_core.proofs.LineBits.{and_fits}
use Rattle.shogi_core.specs.Zones.{is_around, in_promotion_zone, is_promotable}
use Rattle.shogi_core.specs.declared.zones.TheConstants.{BLACK_DEAD, WHITE_DEAD, FILES, FIRST_RANK, FIRST_TWO_RANKS, FIRST_THREE_RANKS, FIRST_FIVE_RANKS, LAST_RANK, LAST_TWO_RANKS, LAST_THREE_RANKS, LAST_FIVE_RANKS, TALL_RANKS, WIDE_FILES}

pub first_rank : (n : ℕ) → n < 81 → has_bit FIRST_RANK n ≡ nat_lt (n % 9) 1
unfolding has_bit
first_rank n h = agree_below_at (λ n. has_bit FIRST_RANK n) (λ n. nat_lt (n % 9) 1) 81 n refl h

pub first_ranks : (n : ℕ) → n < 81 → has_bit FIRST_TWO_RANKS n ≡ nat_lt (n % 9) 2
unfolding has_bit
first_ranks n h = agree_below_at (λ n. has_bit FIRST_TWO_RANKS n) (λ n. nat_lt (n % 9) 2) 81 n refl h

pub last_rank : (n : ℕ) → n < 81 → has_bit LAST_RANK n ≡ nat_lt 7 (n % 9)
unfolding has_bit
last_rank n h = agree_below_at (λ n. has_bit LAST_RANK n) (λ n. nat_lt 7 (n % 9)) 81 n refl h

pub last_ranks : (n : ℕ) → n < 81 → has_bit LAST_TWO_RANKS n ≡ nat_lt 6 (n % 9)
unfolding has_bit
last_ranks n h = agree_below_at (λ n. has_bit LAST_TWO_RANKS n) (λ n. nat_lt 6 (n % 9)) 81 n refl h

pub no_squares : (n : ℕ) → n < 81 → has_bit 0 n ≡ false
no_squares n h = has_bit-none n

pub black_zone : (n : ℕ) → n < 81 → has_bit FIRST_THREE_RANKS n ≡ nat_lt (n % 9) 3
unfolding has_bit
black_zone n h = agree_below_at (λ n. has_bit FIRST_THREE_RANKS n) (λ n. nat_lt (n % 9) 3) 81 n refl h

pub white_zone : (n : ℕ) → n < 81 → has_bit LAST_THREE_RANKS n ≡ nat_lt 5 (n % 9)
unfolding has_bit
white_zone n h = agree_below_at (λ n. has_bit LAST_THREE_RANKS n) (λ n. nat_lt 5 (n % 9)) 81 n refl h

pub all_squares : (n : ℕ) → n < 81 → has_bit ALL_SQUARES n ≡ true
unfolding has_bit
all_squares n h = agree_below_at (λ n. has_bit ALL_SQUARES n) (λ n. true) 81 n refl h

both_true : (a b c : Bool) → a ≡ true → b ≡ true → true ≡ (a && (b || c))
both_true a b c p q = rw (p, q) refl

right_alone : (a b c : Bool) → a ≡ true → b ≡ false → c ≡ (a && (b || c))
right_alone a b c p q = rw (p, q) refl

none_of : (a b : Bool) → a ≡ false → false ≡ (a && b)
none_of a b p = rw p refl

-- no promotion; a promotion from the zone; a promotion into the zone
pub promotes_never : (role : Role) (color : Color) (from n : ℕ) → n < 81 → is_promotable role ≡ false → has_bit 0 n ≡ (is_promotable role && (in_promotion_zone color from || in_promotion_zone color n))
promotes_never role color from n h e = has_bit-none n ∙ none_of (is_promotable role) (in_promotion_zone color from || in_promotion_zone color n) e

pub promotes_all : (role : Role) (color : Color) (from n : ℕ) → n < 81 → is_promotable role ≡ true → in_promotion_zone color from ≡ true → has_bit ALL_SQUARES n ≡ (is_promotable role && (in_promotion_zone color from || in_promotion_zone color n))
promotes_all role color from n h e z = all_squares n h ∙ both_true (is_promotable role) (in_promotion_zone color from) (in_promotion_zone color n) e z

pub promotes_there : (role : Role) (color : Color) (from n m : ℕ) → has_bit m n ≡ in_promotion_zone color n → is_promotable role ≡ true → in_promotion_zone color from ≡ false → has_bit m n ≡ (is_promotable role && (in_promotion_zone color from || in_promotion_zone color n))
promotes_there role color from n m b e z = b ∙ right_alone (is_promotable role) (in_promotion_zone color from) (in_promotion_zone color n) e z

pub black_dead : (role : Role) (n : ℕ) → n < 81 → has_bit (get_or BLACK_DEAD (role_number role) 0) n ≡ is_immobile_role Black role (n % 9)
black_dead King n h = has_bit-none n
black_dead Pawn n h = first_rank n h
black_dead Lance n h = first_rank n h
black_dead Knight n h = first_ranks n h
black_dead Silver n h = has_bit-none n
black_dead Gold n h = has_bit-none n
black_dead Bishop n h = has_bit-none n
black_dead Rook n h = has_bit-none n
black_dead PromotedPawn n h = has_bit-none n
black_dead PromotedLance n h = has_bit-none n
black_dead PromotedKnight n h = has_bit-none n
black_dead PromotedSilver n h = has_bit-none n
black_dead Horse n h = has_bit-none n
black_dead Dragon n h = has_bit-none n

pub black_dead_fits : (role : Role) → get_or BLACK_DEAD (role_number role) 0 < 2 ^ 81
black_dead_fits King = omega arith
black_dead_fits Pawn = omega arith
black_dead_fits Lance = omega arith
black_dead_fits Knight = omega arith
black_dead_fits Silver = omega arith
black_dead_fits Gold = omega arith
black_dead_fits Bishop = omega arith
black_dead_fits Rook = omega arith
black_dead_fits PromotedPawn = omega arith
black_dead_fits PromotedLance = omega arith
black_dead_fits PromotedKnight = omega arith
black_dead_fits PromotedSilver = omega arith
black_dead_fits Horse = omega arith
black_dead_fits Dragon = omega arith

pub white_dead : (role : Role) (n : ℕ) → n < 81 → has_bit (get_or WHITE_DEAD (role_number role) 0) n ≡ is_immobile_role White role (n % 9)
white_dead King n h = has_bit-none n
white_dead Pawn n h = last_rank n h
white_dead Lance n h = last_rank n h
white_dead Knight n h = last_ranks n h
white_dead Silver n h = has_bit-none n
white_dead Gold n h = has_bit-none n
white_dead Bishop n h = has_bit-none n
white_dead Rook n h = has_bit-none n
white_dead PromotedPawn n h = has_bit-none n
white_dead PromotedLance n h = has_bit-none n
white_dead PromotedKnight n h = has_bit-none n
white_dead PromotedSilver n h = has_bit-none n
white_dead Horse n h = has_bit-none n
white_dead Dragon n h = has_bit-none n

pub white_dead_fits : (role : Role) → get_or WHITE_DEAD (role_number role) 0 < 2 ^ 81
white_dead_fits King = omega arith
white_dead_fits Pawn = omega arith
white_dead_fits Lance = omega arith
white_dead_fits Knight = omega arith
white_dead_fits Silver = omega arith
white_dead_fits Gold = omega arith
white_dead_fits Bishop = omega arith
white_dead_fits Rook = omega arith
white_dead_fits PromotedPawn = omega arith
white_dead_fits PromotedLance = omega arith
white_dead_fits PromotedKnight = omega arith
white_dead_fits PromotedSilver = omega arith
white_dead_fits Horse = omega arith
white_dead_fits Dragon = omega arith

pub ruleset dead_bits = (black_dead, black_dead_fits, white_dead, white_dead_fits, no_squares)

pub black_approach : (n : ℕ) → n < 81 → has_bit FIRST_FIVE_RANKS n ≡ nat_lt (n % 9) 5
unfolding has_bit
black_approach n h = agree_below_at (λ n. has_bit FIRST_FIVE_RANKS n) (λ n. nat_lt (n % 9) 5) 81 n refl h

pub white_approach : (n : ℕ) → n < 81 → has_bit LAST_FIVE_RANKS n ≡ nat_lt 3 (n % 9)
unfolding has_bit
white_approach n h = agree_below_at (λ n. has_bit LAST_FIVE_RANKS n) (λ n. nat_lt 3 (n % 9)) 81 n refl h

pub ruleset zone_bits = (black_zone, white_zone, black_approach, white_approach)

pub ruleset promoting_bits = (no_squares, promotes_never, promotes_all, promotes_there)

-- ---- files

files_right_at : (i : ℕ) → i < 729 → has_bit (get_or FILES (i / 81) 0) (i % 81) ≡ (i % 81 / 9 == i / 81)
unfolding has_bit
files_right_at i h = agree_below_at (λ i. has_bit (get_or FILES (i / 81) 0) (i % 81)) (λ i. i % 81 / 9 == i / 81) 729 i refl h

pub files_right : (f n : ℕ) → f < 9 → n < 81 → has_bit (get_or FILES f 0) n ≡ (n / 9 == f)
files_right f n h l =
    let first : (f * 81 + n) / 81 ≡ f = omega arith in
    let second : (f * 81 + n) % 81 ≡ n = omega arith in
    rw (first, second) at (files_right_at (f * 81 + n) (omega arith))

files_fit_at : (f : ℕ) → f < 9 → nat_lt (get_or FILES f 0) (2 ^ 81) ≡ true
files_fit_at f h = agree_below_at (λ f. nat_lt (get_or FILES f 0) (2 ^ 81)) (λ _. true) 9 f refl h

pub files_fit : (f : ℕ) → f < 9 → get_or FILES f 0 < 2 ^ 81
files_fit f h = ltb-true (get_or FILES f 0) (2 ^ 81) (files_fit_at f h)

-- ---- squares around a square

around_at : (i : ℕ) → i < 6561 → has_bit (bit_and (get_or WIDE_FILES (i / 81 / 9) 0) (get_or TALL_RANKS (i / 81 % 9) 0)) (i % 81) ≡ is_around (i / 81) (i % 81)
unfolding has_bit
around_at i h = agree_below_at (λ i. has_bit (bit_and (get_or WIDE_FILES (i / 81 / 9) 0) (get_or TALL_RANKS (i / 81 % 9) 0)) (i % 81)) (λ i. is_around (i / 81) (i % 81)) 6561 i refl h

pub around_right : (k n : ℕ) → k < 81 → n < 81 → has_bit (bit_and (get_or WIDE_FILES (k / 9) 0) (get_or TALL_RANKS (k % 9) 0)) n ≡ is_around k n
around_right k n h l =
    let first : (k * 81 + n) / 81 ≡ k = omega arith in
    let second : (k * 81 + n) % 81 ≡ n = omega arith in
    rw (first, second) at (around_at (k * 81 + n) (omega arith))

wide_fit_at : (f : ℕ) → f < 9 → nat_lt (get_or WIDE_FILES f 0) (2 ^ 81) ≡ true
wide_fit_at f h = agree_below_at (λ f. nat_lt (get_or WIDE_FILES f 0) (2 ^ 81)) (λ _. true) 9 f refl h

pub around_fits : (k : ℕ) → k < 81 → bit_and (get_or WIDE_FILES (k / 9) 0) (get_or TALL_RANKS (k % 9) 0) < 2 ^ 81
around_fits k h = and_fits (get_or WIDE_FILES (k / 9) 0) (get_or TALL_RANKS (k % 9) 0) (ltb-true (get_or WIDE_FILES (k / 9) 0) (2 ^ 81) (wide_fit_at (k / 9) (omega arith)))

pub ruleset around_bits = (around_right, around_fits)
