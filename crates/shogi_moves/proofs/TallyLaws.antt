-- The number of legal moves is that of the bits of their destinations.
use Rattle.std.proofs.Common.{◌≡◌, ℕ, ◌+◌, ◌*◌, ◌/◌, ◌%◌, ◌^◌, ◌<◌, ◌≤◌, Bool, true, false, not, cond, refl, sym, ap, ◌∙◌, arith, length}
use Rattle.std.specs.Prelude.{zero, suc, ◌==◌, ◌&&◌, bit_or, count_ones}
use Rattle.std.specs.Int.{bit_at}
use Rattle.std.specs.Int.Count.{ones_step}
use Rattle.std.proofs.lemmas.Bool.{cases_lt}
use Rattle.std.proofs.lemmas.Nat.Bits.{bit_at-suc, bit_at_lowest, bit_at-lt}
use Rattle.std.proofs.lemmas.Nat.{ones_le_self}
use native.Mathlib.Nat.{pow-suc}
use Rattle.shogi_core.specs.declared.moves.TheConstants.{MOVE_CODE_COUNT, FIRST_DROP, SQUARE_CODES}
use Rattle.shogi_core.specs.declared.moves.Move.TheVariants.{Board, Drop}
use Rattle.shogi_core.specs.declared.piece.Kind.{Kind}
use Rattle.shogi_core.specs.Pieces.{kind_number}
use Rattle.shogi_core.proofs.BitLaws.{has_bit-above, has_bit-or}
use Rattle.shogi_core.proofs.Faults.{number_below}
use Rattle.shogi_core.specs.Bits.{has_bit}
use Rattle.shogi_core.specs.Cell.{is_piece_of}
use Rattle.shogi_core.specs.Codes.{code_of}
use Rattle.shogi_core.specs.Movement.{piece_at}
use Rattle.shogi_core.specs.Position.{Shogi}
use Rattle.shogi_core.specs.Sets.{HasNone}
use Rattle.shogi_moves.specs.Legal.{is_legal_code}
use Rattle.shogi_moves.specs.LegalMoves.{CountsLegal, legal_from, legal_codes}
use Rattle.shogi_moves.specs.Places.{first_of_kind}
use Rattle.shogi_moves.proofs.LegalLaws.{legal_from_found, legal_from_skips, HasPiecesFrom, next_piece, pieces_after, pieces_first, no_piece_left}

abbrev digit : Bool → ℕ
digit b = cond b 1 0

-- how many of the numbers below k pass the test
unfoldable pub tally : ℕ → (ℕ → Bool) → ℕ
tally zero test = 0
tally (suc k) test = cond (test 0) 1 0 + tally k (λ i. test (i + 1))

pub tally_same : (k : ℕ) (s t : ℕ → Bool) → ((i : ℕ) → i < k → s i ≡ t i) → tally k s ≡ tally k t
unfolding tally
tally_same zero s t h = refl
tally_same (suc k) s t h = rw (h 0 (omega arith), tally_same k (λ i. s (i + 1)) (λ i. t (i + 1)) (λ i l. h (i + 1) (omega arith))) refl

pub tally_most : (k : ℕ) (test : ℕ → Bool) → tally k test ≤ k
unfolding tally
tally_most zero test = omega arith
tally_most (suc k) test = grind (arith, tally_most k (λ i. test (i + 1)))

lowest_digit : (m : ℕ) → m % 2 ≡ cond (has_bit m 0) 1 0
unfolding has_bit
lowest_digit m = grind (arith, bit_at_lowest m, bit_at-lt m 0)

higher_digit : (m i : ℕ) → has_bit (m / 2) i ≡ has_bit m (i + 1)
unfolding has_bit
higher_digit m i = let same : i + 1 ≡ suc i = omega arith in ap (λ x. x == 1) (sym (bit_at-suc m i) ∙ ap (bit_at m) (sym same))

-- the number of bits set of a number below 2 ^ k
pub ones_tally : (k m : ℕ) → m < 2 ^ k → count_ones m ≡ tally k (has_bit m)
unfolding tally
ones_tally zero m h = omega (arith, ones_le_self m)
ones_tally (suc k) m h =
    let half : m / 2 < 2 ^ k = omega (arith, pow-suc 2 k) in
    ones_step m ∙ (rw (lowest_digit m, ones_tally k (m / 2) half) (ap (λ x. cond (has_bit m 0) 1 0 + x) (tally_same k (has_bit (m / 2)) (λ i. has_bit m (i + 1)) (λ i l. higher_digit m i))))

-- ---- one code more

code_more : (p : Shogi) (code : ℕ) → code < MOVE_CODE_COUNT → length (legal_from p code) ≡ cond (is_legal_code p code) 1 0 + length (legal_from p (code + 1))
code_more p code h = grind (arith, legal_from_found p code h, legal_from_skips p code h)

-- the codes of a piece, two for each square
pairs : (p : Shogi) (from k s : ℕ) → from < 81 → s + k ≤ 81
    → length (legal_from p (from * SQUARE_CODES + s * 2)) ≡ (tally k (λ i. is_legal_code p (code_of (Board from (i + s) false))) + tally k (λ i. is_legal_code p (code_of (Board from (i + s) true)))) + length (legal_from p (from * SQUARE_CODES + (s + k) * 2))
unfolding tally
pairs p from zero s h l =
    let same : from * SQUARE_CODES + s * 2 ≡ from * SQUARE_CODES + (s + 0) * 2 = omega arith in
    let e : length (legal_from p (from * SQUARE_CODES + s * 2)) ≡ length (legal_from p (from * SQUARE_CODES + (s + 0) * 2)) = ap (λ (c : ℕ). length (legal_from p c)) same in
    omega arith
pairs p from (suc k) s h l =
    let W : ℕ → ℕ = λ (c : ℕ). length (legal_from p c) in
    let first = code_more p (from * SQUARE_CODES + s * 2) (omega arith) in
    let second = code_more p (from * SQUARE_CODES + s * 2 + 1) (omega arith) in
    let rest = pairs p from k (s + 1) h (omega arith) in
    let non_promoting : code_of (Board from (0 + s) false) ≡ from * SQUARE_CODES + s * 2 = omega arith in
    let promoting : code_of (Board from (0 + s) true) ≡ from * SQUARE_CODES + s * 2 + 1 = omega arith in
    let on : from * SQUARE_CODES + s * 2 + 1 + 1 ≡ from * SQUARE_CODES + (s + 1) * 2 = omega arith in
    let end : from * SQUARE_CODES + (s + 1 + k) * 2 ≡ from * SQUARE_CODES + (s + suc k) * 2 = omega arith in
    let onw = ap (λ (c : ℕ). length (legal_from p c)) on in
    let endw = ap (λ (c : ℕ). length (legal_from p c)) end in
    let pw = ap (λ (c : ℕ). digit (is_legal_code p c)) non_promoting in
    let qw = ap (λ (c : ℕ). digit (is_legal_code p c)) promoting in
    let pt = tally_same k (λ i. is_legal_code p (code_of (Board from (i + (s + 1)) false))) (λ i. is_legal_code p (code_of (Board from (i + 1 + s) false))) (λ i l. ap (λ (n : ℕ). is_legal_code p (code_of (Board from n false))) (omega arith)) in
    let qt = tally_same k (λ i. is_legal_code p (code_of (Board from (i + (s + 1)) true))) (λ i. is_legal_code p (code_of (Board from (i + 1 + s) true))) (λ i l. ap (λ (n : ℕ). is_legal_code p (code_of (Board from n true))) (omega arith)) in
    omega (arith, first, second, rest, onw, endw, pw, qw, pt, qt)

-- a piece has one legal move for each bit of its destinations
pub counted_board : (p : Shogi) (from non_promoting promoting : ℕ) → from < 81 → non_promoting < 2 ^ 81 → promoting < 2 ^ 81
    → ((n : ℕ) → n < 81 → has_bit non_promoting n ≡ is_legal_code p (code_of (Board from n false))) → ((n : ℕ) → n < 81 → has_bit promoting n ≡ is_legal_code p (code_of (Board from n true)))
    → length (legal_from p (from * SQUARE_CODES)) ≡ (count_ones non_promoting + count_ones promoting) + length (legal_from p (from * SQUARE_CODES + SQUARE_CODES))
counted_board p from non_promoting promoting h pf qf pb qb =
    let all = pairs p from 81 0 h (omega arith) in
    let start : from * SQUARE_CODES + 0 * 2 ≡ from * SQUARE_CODES = omega arith in
    let startw = ap (λ (c : ℕ). length (legal_from p c)) start in
    let end : from * SQUARE_CODES + (0 + 81) * 2 ≡ from * SQUARE_CODES + SQUARE_CODES = omega arith in
    let endw = ap (λ (c : ℕ). length (legal_from p c)) end in
    let a = ones_tally 81 non_promoting pf in
    let b = ones_tally 81 promoting qf in
    let c = tally_same 81 (has_bit non_promoting) (λ i. is_legal_code p (code_of (Board from (i + 0) false))) (λ i l. pb i l ∙ ap (λ (n : ℕ). is_legal_code p (code_of (Board from n false))) (omega arith)) in
    let d = tally_same 81 (has_bit promoting) (λ i. is_legal_code p (code_of (Board from (i + 0) true))) (λ i l. qb i l ∙ ap (λ (n : ℕ). is_legal_code p (code_of (Board from n true))) (omega arith)) in
    omega (arith, all, startw, endw, a, b, c, d)

-- ---- drops

singles : (p : Shogi) (kind : Kind) (k s : ℕ) → s + k ≤ 81
    → length (legal_from p (first_of_kind kind + s)) ≡ tally k (λ i. is_legal_code p (code_of (Drop kind (i + s)))) + length (legal_from p (first_of_kind kind + (s + k)))
unfolding tally
singles p kind zero s l =
    let same : first_of_kind kind + s ≡ first_of_kind kind + (s + 0) = omega arith in
    let e : length (legal_from p (first_of_kind kind + s)) ≡ length (legal_from p (first_of_kind kind + (s + 0))) = ap (λ (c : ℕ). length (legal_from p c)) same in
    omega arith
singles p kind (suc k) s l =
    let seven : kind_number kind < 7 = number_below kind in
    let first = code_more p (first_of_kind kind + s) (omega arith) in
    let rest = singles p kind k (s + 1) (omega arith) in
    let here : code_of (Drop kind (0 + s)) ≡ first_of_kind kind + s = omega arith in
    let on : first_of_kind kind + s + 1 ≡ first_of_kind kind + (s + 1) = omega arith in
    let end : first_of_kind kind + (s + 1 + k) ≡ first_of_kind kind + (s + suc k) = omega arith in
    let onw = ap (λ (c : ℕ). length (legal_from p c)) on in
    let endw = ap (λ (c : ℕ). length (legal_from p c)) end in
    let hw = ap (λ (c : ℕ). digit (is_legal_code p c)) here in
    let t = tally_same k (λ i. is_legal_code p (code_of (Drop kind (i + (s + 1))))) (λ i. is_legal_code p (code_of (Drop kind (i + 1 + s)))) (λ i l. ap (λ (n : ℕ). is_legal_code p (code_of (Drop kind n))) (omega arith)) in
    omega (arith, first, rest, onw, endw, hw, t)

pub counted_drop : (p : Shogi) (kind : Kind) (destinations : ℕ) → destinations < 2 ^ 81 → ((n : ℕ) → n < 81 → has_bit destinations n ≡ is_legal_code p (code_of (Drop kind n)))
    → CountsLegal p (first_of_kind kind) (first_of_kind kind + 81) (count_ones destinations)
counted_drop p kind destinations fits bits =
    let all = singles p kind 81 0 (omega arith) in
    let start : first_of_kind kind + 0 ≡ first_of_kind kind = omega arith in
    let startw = ap (λ (c : ℕ). length (legal_from p c)) start in
    let end : first_of_kind kind + (0 + 81) ≡ first_of_kind kind + 81 = omega arith in
    let endw = ap (λ (c : ℕ). length (legal_from p c)) end in
    let a = ones_tally 81 destinations fits in
    let b = tally_same 81 (has_bit destinations) (λ i. is_legal_code p (code_of (Drop kind (i + 0)))) (λ i l. bits i l ∙ ap (λ (n : ℕ). is_legal_code p (code_of (Drop kind n))) (omega arith)) in
    omega (arith, all, startw, endw, a, b)

-- a set of squares has at most 81 bits
pub ones_most : (m : ℕ) → m < 2 ^ 81 → count_ones m ≤ 81
ones_most m h = omega (arith, ones_tally 81 m h, tally_most 81 (has_bit m))

-- the moves counted and those of the pieces of the set make all legal board moves
pub record IsCounted (p : Shogi) (left total : ℕ) : Type 0 where
  pub first : ℕ
  pub pieces : HasPiecesFrom p left first
  pub whole : total + length (legal_from p (first * SQUARE_CODES)) ≡ length (legal_codes p)
  pub range : total ≤ first * SQUARE_CODES

-- the next piece is counted
pub piece_counted : (p : Shogi) (left next total square non_promoting promoting : ℕ) → IsCounted p left total → square < 81 → has_bit left square ≡ true → ((n : ℕ) → has_bit left n ≡ true → square ≤ n) → ((i : ℕ) → has_bit next i ≡ (has_bit left i && not (i == square)))
    → non_promoting < 2 ^ 81 → promoting < 2 ^ 81 → ((n : ℕ) → n < 81 → has_bit non_promoting n ≡ is_legal_code p (code_of (Board square n false))) → ((n : ℕ) → n < 81 → has_bit promoting n ≡ is_legal_code p (code_of (Board square n true)))
    → IsCounted p next (total + (count_ones non_promoting + count_ones promoting))
piece_counted p left next total square non_promoting promoting h range on least less pf qf pb qb =
    let reached = next_piece p left h.first square h.pieces range on least in
    let same = ap length reached.2 in
    let block = counted_board p square non_promoting promoting range pf qf pb qb in
    let past : square * SQUARE_CODES + SQUARE_CODES ≡ (square + 1) * SQUARE_CODES = omega arith in
    let pastw = ap (λ (x : ℕ). length (legal_from p x)) past in
    let a = ones_most non_promoting pf in
    let b = ones_most promoting qf in
    record {
      first = square + 1;
      pieces = pieces_after p left next h.first square h.pieces reached.0 range least less;
      whole = omega (arith, h.whole, same, block, pastw);
      range = omega (arith, h.range, reached.0, a, b);
    }

-- ---- the lower 64 squares come first

-- no square of the set is one of the lower 64
abbrev IsAbove : ℕ → Type 0
IsAbove high = (n : ℕ) → n < 64 → has_bit high n ≡ false

pub all_left : (p : Shogi) (own low high : ℕ) → low < 2 ^ 64 → ((n : ℕ) → n < 81 → has_bit own n ≡ is_piece_of p.side (piece_at p.cells n))
    → ((n : ℕ) → n < 64 → has_bit low n ≡ has_bit own n) → IsAbove high → ((n : ℕ) → n < 81 → 64 ≤ n → has_bit high n ≡ has_bit own n)
    → IsCounted p (bit_or low high) 0
all_left p own low high fits bits lows above highs = record {
  first = 0;
  pieces = pieces_first p (bit_or low high) (λ n h. grind (arith, has_bit-or low high n, cases_lt n 64, lows n, above n, has_bit-above low 64 n fits, highs n h, bits n h));
  whole = omega arith;
  range = omega arith;
}

-- the bits of both halves without the lowest of the lower half
both_less : (low high next square i : ℕ) → square < 64 → IsAbove high → has_bit next i ≡ (has_bit low i && not (i == square))
    → has_bit (bit_or next high) i ≡ (has_bit (bit_or low high) i && not (i == square))
both_less low high next square i h above less = grind (arith, has_bit-or next high i, has_bit-or low high i, above i)

-- the lowest bit of the lower half is the lowest of both
low_next : (low high square : ℕ) → low < 2 ^ 64 → IsAbove high → has_bit low square ≡ true → ((n : ℕ) → has_bit low n ≡ true → square ≤ n)
    → (square < 64) × (has_bit (bit_or low high) square ≡ true) × ((n : ℕ) → has_bit (bit_or low high) n ≡ true → square ≤ n)
low_next low high square fits above on least =
    let under : square < 64 = grind (arith, cases_lt square 64, has_bit-above low 64 square fits) in
    (under, grind (arith, has_bit-or low high square), λ n there. grind (arith, has_bit-or low high n, least n, cases_lt n 64, above n))

-- the lowest bit of the lower half is a piece of the side to move
pub low_own : (p : Shogi) (low high total square : ℕ) → low < 2 ^ 64 → IsAbove high → IsCounted p (bit_or low high) total → square < 81 → has_bit low square ≡ true → ((n : ℕ) → has_bit low n ≡ true → square ≤ n)
    → is_piece_of p.side (piece_at p.cells square) ≡ true
low_own p low high total square fits above h range on least =
    let next = low_next low high square fits above on least in
    (next_piece p (bit_or low high) h.first square h.pieces range next.1 next.2).1

-- the lowest bit of the lower half is counted next
pub low_counted : (p : Shogi) (low high next total square non_promoting promoting : ℕ) → low < 2 ^ 64 → IsAbove high → IsCounted p (bit_or low high) total → square < 81 → has_bit low square ≡ true → ((n : ℕ) → has_bit low n ≡ true → square ≤ n) → ((i : ℕ) → has_bit next i ≡ (has_bit low i && not (i == square)))
    → non_promoting < 2 ^ 81 → promoting < 2 ^ 81 → ((n : ℕ) → n < 81 → has_bit non_promoting n ≡ is_legal_code p (code_of (Board square n false))) → ((n : ℕ) → n < 81 → has_bit promoting n ≡ is_legal_code p (code_of (Board square n true)))
    → IsCounted p (bit_or next high) (total + (count_ones non_promoting + count_ones promoting))
low_counted p low high next total square non_promoting promoting fits above h range on least less pf qf pb qb =
    let lowest = low_next low high square fits above on least in
    piece_counted p (bit_or low high) (bit_or next high) total square non_promoting promoting h range lowest.1 lowest.2 (λ i. both_less low high next square i lowest.0 above (less i)) pf qf pb qb

-- all pieces are counted
pub board_counted : (p : Shogi) (left total : ℕ) → IsCounted p left total → HasNone left → (total + length (legal_from p FIRST_DROP) ≡ length (legal_codes p)) × (total ≤ FIRST_DROP)
board_counted p left total h none =
    let end = ap length (no_piece_left p left h.first h.pieces none) in
    (omega (arith, h.whole, end), omega (arith, h.range, h.pieces.within))
