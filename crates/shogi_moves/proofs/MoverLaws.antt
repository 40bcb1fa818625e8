-- The pieces that may have a move of a kind.
use Rattle.std.proofs.Common.{◌≡◌, ◌⊎◌, ℕ, ◌+◌, ◌-◌, ◌*◌, ◌/◌, ◌%◌, ◌^◌, ◌<◌, Bool, true, false, not, refl, ap, subst, ◌∙◌, arith, inl, inr, length, bit_and, bit_or, pow_pos, ◌≤◌}
use Rattle.std.specs.Prelude.{◌&&◌, ◌||◌, ◌==◌}
use Rattle.std.specs.Int.{bit_at}
use Rattle.std.proofs.Math.Nat.{mul-le-mul_left}
use Rattle.std.proofs.Math.Pow.{pow_mono}
use Rattle.std.proofs.lemmas.Bool.{agree_below_at, and_parts, and_from, both_ways, false_from_ne_true, true_from_ne_false, or_cases, or_left, or_right, eqb-true, cases_eq}
use Rattle.std.proofs.lemmas.Nat.Bits.{bit_at_cat_high}
use Rattle.shogi_core.specs.declared.moves.TheConstants.{SQUARE_CODES}
use Rattle.shogi_core.specs.declared.moves.Move.TheVariants.{Board}
use Rattle.shogi_core.specs.Bits.{has_bit}
use Rattle.shogi_core.specs.Cell.{is_piece_of, is_slider}
use Rattle.shogi_core.specs.Codes.{code_of}
use Rattle.shogi_core.specs.Lines.{is_near}
use Rattle.shogi_core.specs.Movement.{away, piece_at, reaches, slides}
use Rattle.shogi_core.specs.Pieces.{opponent_of}
use Rattle.shogi_core.specs.Position.{Shogi}
use Rattle.shogi_core.proofs.BitLaws.{has_bit-and, has_bit-or, has_bit-shr}
use Rattle.shogi_core.proofs.SeenLaws.{reaches_near}
use Rattle.shogi_moves.specs.Captures.{is_matching}
use Rattle.shogi_moves.specs.Destinations.{is_destination}
use Rattle.shogi_moves.proofs.CaptureLaws.{HasMatchingOn}
use Rattle.shogi_moves.proofs.DestinationLaws.{matching_board}
use Rattle.shogi_moves.proofs.SweepLaws.{at_code}

-- ---- index distances of near squares

abbrev lie_apart : ℕ → ℕ → ℕ → Bool
lie_apart d a b = b == a + d || a == b + d

abbrev is_right : ℕ → ℕ → Bool
is_right a b = not (is_near b a) || (lie_apart 1 a b || (lie_apart 7 a b || (lie_apart 8 a b || (lie_apart 9 a b || (lie_apart 10 a b || lie_apart 11 a b)))))

right_at : (i : ℕ) → i < 6561 → is_right (i / 81) (i % 81) ≡ true
unfolding away
right_at i h = agree_below_at (λ i. is_right (i / 81) (i % 81)) (λ _. true) 6561 i refl h

right : (a b : ℕ) → a < 81 → b < 81 → is_right a b ≡ true
right a b h l =
    let one : (a * 81 + b) / 81 ≡ a = omega arith in
    let two : (a * 81 + b) % 81 ≡ b = omega arith in
    subst (λ (x : ℕ). is_right x b ≡ true) one (subst (λ (y : ℕ). is_right ((a * 81 + b) / 81) y ≡ true) two (right_at (a * 81 + b) (omega arith)))

-- ---- shifted bits

pub moved_down : (mask places a b : ℕ) → b ≡ a + places → has_bit mask b ≡ true → has_bit (mask / 2 ^ places) a ≡ true
moved_down mask places a b at set = has_bit-shr mask places a ∙ subst (λ (x : ℕ). has_bit mask x ≡ true) (let same : b ≡ places + a = omega (arith, at) in same) set

pub moved_up : (mask places a b : ℕ) → mask < 2 ^ 100 → places < 12 → a ≡ b + places → has_bit mask b ≡ true → has_bit (mask * 2 ^ places % 2 ^ 128) a ≡ true
unfolding has_bit
moved_up mask places a b low few at set =
    let some : 0 < 2 ^ places = pow_pos places in
    let most : 2 ^ places ≤ 2048 = pow_mono {i = places} {j = 11} (omega arith) in
    let fits : mask * 2 ^ places ≤ mask * 2048 = mul-le-mul_left mask most in
    let small : mask * 2 ^ places % 2 ^ 128 ≡ mask * 2 ^ places + 0 = omega (arith, fits) in
    ap (λ (m : ℕ). bit_at m a == 1) small ∙ (ap (λ (x : ℕ). x == 1) (bit_at_cat_high mask places 0 a some (omega (arith, at))) ∙ (ap (λ (x : ℕ). bit_at mask x == 1) (let back : a - places ≡ b = omega (arith, at) in back) ∙ set))

pub moved_either : (down up a : ℕ) → (has_bit down a ≡ true) ⊎ (has_bit up a ≡ true) → has_bit (bit_or down up) a ≡ true
moved_either down up a e = grind (arith, has_bit-or down up a)

-- ---- the squares near a set

pub near_bits : (a b next behind before : ℕ) → a < 81 → b < 81 → is_near b a ≡ true → ((b ≡ a + 1) ⊎ (a ≡ b + 1) → has_bit next a ≡ true)
    → ((k : ℕ) → k ≤ 4 → a ≡ b + k + 7 → has_bit behind a ≡ true) → ((k : ℕ) → k ≤ 4 → b + k ≡ a + 11 → has_bit before a ≡ true)
    → has_bit (bit_or (bit_or next behind) before) a ≡ true
near_bits a b next behind before ha hb near one up down =
    has_bit-or (bit_or next behind) before a ∙ (ap (λ (x : Bool). x || has_bit before a) (has_bit-or next behind a)
    ∙ elim (or_cases (not (is_near b a)) _ (right a b ha hb)) [
      | inl far ↦ absurd (both_ways (not (is_near b a)) (ap not near) far)
      | inr r1 ↦ elim (or_cases (lie_apart 1 a b) _ r1) [
        | inl e ↦ or_left _ _ (or_left _ _ (one (apart 1 e)))
        | inr r7 ↦ elim (or_cases (lie_apart 7 a b) _ r7) [
          | inl e ↦ far_apart 7 (omega arith) (omega arith) (apart 7 e)
          | inr r8 ↦ elim (or_cases (lie_apart 8 a b) _ r8) [
            | inl e ↦ far_apart 8 (omega arith) (omega arith) (apart 8 e)
            | inr r9 ↦ elim (or_cases (lie_apart 9 a b) _ r9) [
              | inl e ↦ far_apart 9 (omega arith) (omega arith) (apart 9 e)
              | inr r10 ↦ elim (or_cases (lie_apart 10 a b) (lie_apart 11 a b) r10) [
                | inl e ↦ far_apart 10 (omega arith) (omega arith) (apart 10 e)
                | inr e ↦ far_apart 11 (omega arith) (omega arith) (apart 11 e)
              ]
            ]
          ]
        ]
      ]
    ])
  where
    apart : (d : ℕ) → lie_apart d a b ≡ true → (b ≡ a + d) ⊎ (a ≡ b + d)
    apart d e = elim (or_cases (b == a + d) (a == b + d) e) [ inl x ↦ inl (eqb-true b (a + d) x) | inr x ↦ inr (eqb-true a (b + d) x) ]

    far_apart : (d : ℕ) → 7 ≤ d → d ≤ 11 → (b ≡ a + d) ⊎ (a ≡ b + d) → ((has_bit next a || has_bit behind a) || has_bit before a) ≡ true
    far_apart d least most e = elim e [
      | inl at ↦ or_right (has_bit next a || has_bit behind a) _ (down (11 - d) (omega arith) (omega (arith, at)))
      | inr at ↦ or_left _ _ (or_right (has_bit next a) _ (up (d - 7) (omega arith) (omega (arith, at))))
    ]

-- bits spread up to four places up by three shifts
pub five_bits : (mask one two four n k : ℕ) → k ≤ 4 → ((i : ℕ) → has_bit mask i ≡ true → has_bit one (i + 1) ≡ true) → ((i : ℕ) → has_bit (bit_or mask one) i ≡ true → has_bit two (i + 2) ≡ true) → ((i : ℕ) → has_bit mask i ≡ true → has_bit four (i + 4) ≡ true)
    → has_bit mask n ≡ true → has_bit (bit_or (bit_or (bit_or mask one) two) four) (n + k) ≡ true
five_bits mask one two four n k few by_one by_two by_four set =
    grind (arith, has_bit-or (bit_or (bit_or mask one) two) four (n + k), has_bit-or (bit_or mask one) two (n + k), has_bit-or mask one (n + k), has_bit-or mask one n, has_bit-or mask one (n + 1), by_one n, by_two n, by_two (n + 1), by_four n, cases_eq k 0, cases_eq k 1, cases_eq k 2, cases_eq k 3)

-- ---- pieces that reach nothing to capture

pub reaches_none : (p : Shogi) (pieces sliders near n t : ℕ) → n < 81 → t < 81 → has_bit pieces n ≡ true → has_bit (bit_and pieces (bit_or sliders near)) n ≡ false
    → ((i : ℕ) → i < 81 → has_bit sliders i ≡ is_slider (piece_at p.cells i)) → (is_piece_of (opponent_of p.side) (piece_at p.cells t) ≡ true → is_near t n ≡ true → has_bit near n ≡ true) → (reaches p.cells n t && is_destination true p.side (piece_at p.cells t)) ≡ false
reaches_none p pieces sliders near n t hn ht set out slides close = false_from_ne_true _ (λ e.
    let parts : (reaches p.cells n t ≡ true) × (is_piece_of (opponent_of p.side) (piece_at p.cells t) ≡ true) = and_parts _ _ e in
    both_ways (has_bit (bit_and pieces (bit_or sliders near)) n) out (has_bit-and pieces (bit_or sliders near) n ∙ and_from _ _ set (has_bit-or sliders near n ∙ elim (reaches_near p.cells n t hn parts.0) [
      | inl beside ↦ or_right (has_bit sliders n) _ (close parts.1 beside)
      | inr far ↦ or_left _ _ (slides n hn ∙ far.0)
    ])))

not_matching : (p : Shogi) (capture promote : Bool) (from n : ℕ) → length p.cells ≡ 81 → from < 81 → n < 81 → is_piece_of p.side (piece_at p.cells from) ≡ true → (reaches p.cells from n && is_destination capture p.side (piece_at p.cells n)) ≡ false → is_matching p capture (code_of (Board from n promote)) ≡ false
not_matching p capture promote from n len hf hn own none = matching_board p capture promote from n len hf hn own ∙ (rw none refl)

-- the moves to come are those of the movers
pub on_movers : (p : Shogi) (capture : Bool) (pieces left code : ℕ) → length p.cells ≡ 81 → HasMatchingOn p capture code pieces → ((n : ℕ) → n < 81 → has_bit pieces n ≡ true → is_piece_of p.side (piece_at p.cells n) ≡ true)
    → ((n t : ℕ) → n < 81 → t < 81 → has_bit pieces n ≡ true → has_bit left n ≡ false → (reaches p.cells n t && is_destination capture p.side (piece_at p.cells t)) ≡ false) → HasMatchingOn p capture code left
on_movers p capture pieces left code len w mine none = record {
  on = λ c low high matching. (
      let from : ℕ = c / SQUARE_CODES in
      let hf : c / SQUARE_CODES < 81 = omega arith in
      let hn : c / 2 % 81 < 81 = omega arith in
      let here : has_bit pieces (c / SQUARE_CODES) ≡ true = w.on c low high matching in
      true_from_ne_false (has_bit left (c / SQUARE_CODES)) (λ out. elim (at_code (c / SQUARE_CODES) c (omega arith) (omega arith)) [
        | inl at ↦ both_ways (is_matching p capture c) (ap (is_matching p capture) at ∙ not_matching p capture false (c / SQUARE_CODES) (c / 2 % 81) len hf hn (mine (c / SQUARE_CODES) hf here) (none (c / SQUARE_CODES) (c / 2 % 81) hf hn here out)) matching
        | inr at ↦ both_ways (is_matching p capture c) (ap (is_matching p capture) at ∙ not_matching p capture true (c / SQUARE_CODES) (c / 2 % 81) len hf hn (mine (c / SQUARE_CODES) hf here) (none (c / SQUARE_CODES) (c / 2 % 81) hf hn here out)) matching
      ]));
}
