-- Masks of slides: lines cut at the first piece.
use Rattle.std.proofs.Common.{◌≡◌, Bool, ◌≢◌, ℕ, ◌+◌, ◌-◌, ◌*◌, ◌/◌, ◌^◌, ◌<◌, ◌≤◌, true, false, not, refl, sym, ap, ◌∙◌, arith, inl, inr, Option, Some, None, [], div-lt_iff_lt-mul, le-div_iff_mul-le, bit_and, bit_or, pow_pos, get_or}
use Rattle.std.specs.Prelude.{◌==◌, ◌&&◌, ◌||◌, zero, suc, is_none}
use Rattle.std.specs.Int.{bit_at, trailing_zeros, w128}
use Rattle.std.specs.Int.Count.{count_leading_zeros}
use Rattle.std.proofs.lemmas.Int.{ints}
use Rattle.std.proofs.lemmas.Nat.{leading_top, and_le_l, and_le_r, or_lt}
use Rattle.std.proofs.lemmas.Nat.Bits.{bit_at-trailing_zeros, bit_at_not, bit_at_ones}
use Rattle.std.proofs.lemmas.Bool.{cases_Bool, cases_lt, true_from_ne_false, false_from_ne_true, both_ways, and_parts, and_from, or_cases, or_left, or_right, not-true, not_from_false, eq-eqb, eqb-true, ne_eqb}
use native.Mathlib.Nat.{pow-suc}
use Rattle.shogi_core.specs.declared.offset.Offset.{Offset}
use Rattle.shogi_core.specs.declared.piece.Color.{Color}
use Rattle.shogi_core.specs.declared.piece.Color.TheVariants.{Black, White}
use Rattle.shogi_core.specs.declared.piece.Piece.{Piece}
use Rattle.shogi_core.specs.Below.{some_below}
use Rattle.shogi_core.specs.Bits.{has_bit}
use Rattle.shogi_core.specs.Cell.{is_piece_of}
use Rattle.shogi_core.specs.Pieces.{is_same_color}
use Rattle.shogi_core.specs.Movement.{Cells, away, slides_across, slides, piece_at}
use Rattle.shogi_core.proofs.BitLaws.{has_bit-or, has_bit-and, has_bit-none, has_bit-above, has_bit-one, has_bit-mask, mask_fits}
use Rattle.shogi_core.specs.Rays.{is_on_ray, ray_of, direction_at}
use Rattle.shogi_core.proofs.Back.{away_is, away_on, leads_is}
use Rattle.shogi_core.proofs.Discovered.{some_below_which}
use Rattle.shogi_core.proofs.RayLaws.{rises, falls, nearer, nearer_down, slides_free, slides_to_first, slides_rising}
use Rattle.shogi_core.proofs.RayTable.{rays_right}
use Rattle.shogi_core.specs.declared.ray_table.TheConstants.{RAYS}

someone : (cell : Option Piece) → (is_piece_of Black cell || is_piece_of White cell) ≡ not (is_none cell)
someone None = refl
someone (Some piece) = one piece.color
  where
    one : (color : Color) → (is_same_color Black color || is_same_color White color) ≡ true
    one Black = refl
    one White = refl

pub occupied_bits : (cells : Cells) (a b n : ℕ) → has_bit a n ≡ is_piece_of Black (piece_at cells n) → has_bit b n ≡ is_piece_of White (piece_at cells n) → has_bit (bit_or a b) n ≡ not (is_none (piece_at cells n))
occupied_bits cells a b n p q = has_bit-or a b n ∙ (rw (p, q) (someone (piece_at cells n)))

-- ---- the lowest and the highest bit

below_bits : (m n : ℕ) → m < 2 ^ 81 → has_bit m n ≡ true → n < 81
below_bits m n fits e = elim (cases_lt n 81) [
  | inl low ↦ low
  | inr high ↦ absurd (both_ways (has_bit m n) (has_bit-above m 81 n fits high) e)
]

pub lowest_set : (m : ℕ) → m ≢ 0 → m < 2 ^ 81 → (trailing_zeros w128 m < 81) × (has_bit m (trailing_zeros w128 m) ≡ true) × ((n : ℕ) → has_bit m n ≡ true → trailing_zeros w128 m ≤ n)
unfolding has_bit
lowest_set m some fits =
    let low = bit_at-trailing_zeros w128 m (omega arith) (omega arith) in (
      below_bits m (trailing_zeros w128 m) fits (eq-eqb _ 1 low.1),
      eq-eqb _ 1 low.1,
      λ n e. elim (cases_lt n (trailing_zeros w128 m)) [
        | inr le ↦ le
        | inl lt ↦ absurd (both_ways (has_bit m n) (ne_eqb (bit_at m n) 1 (λ one. let none : bit_at m n ≡ 0 = low.2 n lt in omega arith)) e)
      ],
    )

pub ruleset lowest_bit = (lowest_set)

top_bit : (m k : ℕ) → 2 ^ k ≤ m → m < 2 ^ suc k → bit_at m k ≡ 1
top_bit m k low high =
    let p : 0 < 2 ^ k = pow_pos k in
    let twice : 2 ^ suc k ≡ 2 ^ k * 2 = pow-suc 2 k in
    let a : m / 2 ^ k < 2 = (div-lt_iff_lt-mul p).1 (omega arith) in
    let b : 1 ≤ m / 2 ^ k = (le-div_iff_mul-le p).1 (omega arith) in
    omega arith

pub highest_set : (m : ℕ) → m ≢ 0 → m < 2 ^ 81 → (count_leading_zeros 128 m ≤ 127) × (127 - count_leading_zeros 128 m < 81) × (has_bit m (127 - count_leading_zeros 128 m) ≡ true) × ((n : ℕ) → has_bit m n ≡ true → n ≤ 127 - count_leading_zeros 128 m)
unfolding has_bit
highest_set m some fits =
    let top = leading_top 128 m (omega arith) (omega arith) in
    let j : 127 - count_leading_zeros 128 m ≡ top.0 = omega (arith, top.1) in (
      omega (arith, top.1),
      rw j (below_bits m top.0 fits (eq-eqb _ 1 (top_bit m top.0 top.2 top.3))),
      rw j (eq-eqb _ 1 (top_bit m top.0 top.2 top.3)),
      λ n e. rw j (elim (cases_lt top.0 n) [
        | inr le ↦ le
        | inl lt ↦ absurd (both_ways (has_bit m n) (has_bit-above m (suc top.0) n top.3 (omega arith)) e)
      ]),
    )

pub ruleset highest_bit = (highest_set)

-- ---- a slide

pub has_bit-not : (m n : ℕ) → m < 2 ^ 128 → n < 128 → has_bit (2 ^ 128 - 1 - m) n ≡ not (has_bit m n)
unfolding has_bit
has_bit-not m n fits h = ap (λ x. x == 1) (bit_at_not w128 m n fits h) ∙ go (bit_at m n) (omega arith)
  where
    go : (x : ℕ) → x < 2 → (1 - x == 1) ≡ not (x == 1)
    go zero l = refl
    go (suc zero) l = refl
    go (suc (suc x)) l = absurd (omega arith)

pub has_bit-ray : (o : Offset) (a b : ℕ) → b < 81 → has_bit (ray_of o a) b ≡ is_on_ray o a b
unfolding ray_of
has_bit-ray o a b h = has_bit-mask 81 (is_on_ray o a) b h

pub ray_fits : (o : Offset) (a : ℕ) → ray_of o a < 2 ^ 81
unfolding ray_of
ray_fits o a = mask_fits 81 (is_on_ray o a)

on_board : (o : Offset) (a b : ℕ) → is_on_ray o a b ≡ true → b < 81
on_board o a b e =
    let which = some_below_which 8 (slides_across [] o a b) e in
    (away_is (which.0 + 1) o a b (leads_is _ b ((and_parts _ _ which.2).0))).2

pub direction_rises : (d : ℕ) → d < 4 → rises (direction_at d)
direction_rises zero h = omega (arith, ints)
direction_rises (suc zero) h = omega (arith, ints)
direction_rises (suc (suc zero)) h = omega (arith, ints)
direction_rises (suc (suc (suc zero))) h = omega (arith, ints)
direction_rises (suc (suc (suc (suc d)))) h = absurd (omega arith)

pub direction_falls : (d : ℕ) → 4 ≤ d → d < 8 → falls (direction_at d)
direction_falls zero g h = absurd (omega arith)
direction_falls (suc zero) g h = absurd (omega arith)
direction_falls (suc (suc zero)) g h = absurd (omega arith)
direction_falls (suc (suc (suc zero))) g h = absurd (omega arith)
direction_falls (suc (suc (suc (suc zero)))) g h = omega (arith, ints)
direction_falls (suc (suc (suc (suc (suc zero))))) g h = omega (arith, ints)
direction_falls (suc (suc (suc (suc (suc (suc zero)))))) g h = omega (arith, ints)
direction_falls (suc (suc (suc (suc (suc (suc (suc zero))))))) g h = omega (arith, ints)
direction_falls (suc (suc (suc (suc (suc (suc (suc (suc d)))))))) g h = absurd (omega arith)

module _ (cells : Cells) (o : Offset) (a occ : ℕ) (occupied : (n : ℕ) → n < 81 → has_bit occ n ≡ not (is_none (piece_at cells n))) where
  -- a piece on the line has its bit
  pub bit_there : (x : ℕ) → is_on_ray o a x ≡ true → is_none (piece_at cells x) ≡ false → has_bit (bit_and (ray_of o a) occ) x ≡ true
  bit_there x on taken =
      let low : x < 81 = on_board o a x on in
      has_bit-and (ray_of o a) occ x ∙ and_from _ _ (has_bit-ray o a x low ∙ on) (occupied x low ∙ ap not taken)

  -- a bit of the mask is a piece on the line
  pub there_bit : (x : ℕ) → x < 81 → has_bit (bit_and (ray_of o a) occ) x ≡ true → (is_on_ray o a x ≡ true) × (is_none (piece_at cells x) ≡ false)
  there_bit x low e =
      let parts : (has_bit (ray_of o a) x ≡ true) × (has_bit occ x ≡ true) = and_parts _ _ (sym (has_bit-and (ray_of o a) occ x) ∙ e) in
      (sym (has_bit-ray o a x low) ∙ parts.0, not-true _ (sym (occupied x low) ∙ parts.1))

  free_line : ((x : ℕ) → x < 81 → has_bit (bit_and (ray_of o a) occ) x ≡ false) → (b : ℕ) → b < 81 → has_bit (ray_of o a) b ≡ slides cells o a b
  free_line none b h = has_bit-ray o a b h ∙ slides_free cells o a (λ x on. true_from_ne_false (is_none (piece_at cells x)) (λ taken.
      both_ways (has_bit (bit_and (ray_of o a) occ) x) (none x (on_board o a x on)) (bit_there x on taken))) b

  -- bits of a line are below 81
  line_bit : (x : ℕ) → has_bit (bit_and (ray_of o a) occ) x ≡ true → x < 81
  line_bit x e = below_bits (ray_of o a) x (ray_fits o a) ((and_parts _ _ (sym (has_bit-and (ray_of o a) occ x) ∙ e)).0)

  pub rising_bits : rises o → (m b : ℕ) → b < 81 → has_bit m b ≡ not (some_below b (has_bit (bit_and (ray_of o a) occ))) → has_bit (bit_and (ray_of o a) m) b ≡ slides cells o a b
  rising_bits up m b h e = has_bit-and (ray_of o a) m b ∙ (rw (has_bit-ray o a b h, e)
      (slides_rising cells o a up (has_bit (bit_and (ray_of o a) occ))
      (λ x on. has_bit-and (ray_of o a) occ x ∙ (rw (has_bit-ray o a x (on_board o a x on), on, occupied x (on_board o a x on)) refl))
      (λ x taken. (there_bit x (line_bit x taken) taken).0) b))

  module _ (f : ℕ) (low : f < 81) (set : has_bit (bit_and (ray_of o a) occ) f ≡ true) where
    cut_line : (nearest : (m n x : ℕ) → away m o a ≡ Some f → away n o a ≡ Some x → has_bit (bit_and (ray_of o a) occ) x ≡ true → m ≤ n)
        → ((i j x : ℕ) → away i o a ≡ Some x → away j o a ≡ Some x → i ≤ j)
        → (b : ℕ) → b < 81 → has_bit (bit_and (ray_of o a) (2 ^ 128 - 1 - ray_of o f)) b ≡ slides cells o a b
    cut_line nearest apart b h =
        let here : (is_on_ray o a f ≡ true) × (is_none (piece_at cells f) ≡ false) = there_bit f low set in
        let which = some_below_which 8 (slides_across [] o a f) here.0 in
        let small : ray_of o f < 2 ^ 81 = ray_fits o f in
        has_bit-and (ray_of o a) (2 ^ 128 - 1 - ray_of o f) b
        ∙ (rw (has_bit-ray o a b h, has_bit-not (ray_of o f) b (omega arith) (omega arith), has_bit-ray o f b h)
        (slides_to_first cells o a f which.0 which.1 which.2 here.1
        (λ m x l at on taken. (let le : which.0 + 1 ≤ m + 1 = nearest (which.0 + 1) (m + 1) x (leads_is _ f ((and_parts _ _ which.2).0)) at (bit_there x on taken) in omega arith))
        apart b))

    falling_line : falls o → ((n : ℕ) → has_bit (bit_and (ray_of o a) occ) n ≡ true → n ≤ f) → (b : ℕ) → b < 81 → has_bit (bit_and (ray_of o a) (2 ^ 128 - 1 - ray_of o f)) b ≡ slides cells o a b
    falling_line down greatest = cut_line (λ m n x ef ex e. nearer_down o a f x m n down ef ex (greatest x e)) (λ i j x ei ej. nearer_down o a x x i j down ei ej (omega arith))

    -- the slide ends at the nearest piece
    reached : (nearest : (m n x : ℕ) → away m o a ≡ Some f → away n o a ≡ Some x → has_bit (bit_and (ray_of o a) occ) x ≡ true → m ≤ n)
        → ((i j x : ℕ) → away i o a ≡ Some x → away j o a ≡ Some x → i ≤ j)
        → slides cells o a f ≡ true
    reached nearest apart =
        let here : (is_on_ray o a f ≡ true) × (is_none (piece_at cells f) ≡ false) = there_bit f low set in
        let which = some_below_which 8 (slides_across [] o a f) here.0 in
        let at : away (which.0 + 1) o a ≡ Some f = leads_is _ f ((and_parts _ _ which.2).0) in
        sym (slides_to_first cells o a f which.0 which.1 which.2 here.1
        (λ m x l there on taken. (let le : which.0 + 1 ≤ m + 1 = nearest (which.0 + 1) (m + 1) x at there (bit_there x on taken) in omega arith))
        apart f)
        ∙ and_from (is_on_ray o a f) (not (is_on_ray o f f)) here.0 (not_from_false _ (false_from_ne_true (is_on_ray o f f) (λ e. (
        let j = some_below_which 8 (slides_across [] o f f) e in
        let again : away (which.0 + 1 + (j.0 + 1)) o a ≡ Some f = sym (away_on (which.0 + 1) (j.0 + 1) o a f at) ∙ leads_is _ f ((and_parts _ _ j.2).0) in
        let le : which.0 + 1 + (j.0 + 1) ≤ which.0 + 1 = apart (which.0 + 1 + (j.0 + 1)) (which.0 + 1) f again at in
        omega arith))))

    pub lowest_reached : rises o → ((n : ℕ) → has_bit (bit_and (ray_of o a) occ) n ≡ true → f ≤ n) → slides cells o a f ≡ true
    lowest_reached up least = reached (λ m n x ef ex e. nearer o a f x m n up ef ex (least x e)) (λ i j x ei ej. nearer o a x x i j up ei ej (omega arith))

    pub highest_reached : falls o → ((n : ℕ) → has_bit (bit_and (ray_of o a) occ) n ≡ true → n ≤ f) → slides cells o a f ≡ true
    highest_reached down greatest = reached (λ m n x ef ex e. nearer_down o a f x m n down ef ex (greatest x e)) (λ i j x ei ej. nearer_down o a x x i j down ei ej (omega arith))

  -- a line is cut at the highest of its pieces' bits and bit 0
  pub falling_bits : falls o → ray_of o 0 ≡ 0 → (f : ℕ) → f < 81 → has_bit (bit_or (bit_and (ray_of o a) occ) 1) f ≡ true → ((n : ℕ) → has_bit (bit_or (bit_and (ray_of o a) occ) 1) n ≡ true → n ≤ f)
      → (b : ℕ) → b < 81 → has_bit (bit_and (ray_of o a) (2 ^ 128 - 1 - ray_of o f)) b ≡ slides cells o a b
  falling_bits down end f low set greatest b h = elim (cases_Bool (has_bit (bit_and (ray_of o a) occ) f)) [
    | inl taken ↦ falling_line f low taken down (λ n e. greatest n (has_bit-or (bit_and (ray_of o a) occ) 1 n ∙ or_left _ _ e)) b h
    | inr bare ↦ (
        let zeroth : f ≡ 0 = elim (or_cases (has_bit (bit_and (ray_of o a) occ) f) (has_bit 1 f) (sym (has_bit-or (bit_and (ray_of o a) occ) 1 f) ∙ set)) [
          | inl taken ↦ absurd (both_ways (has_bit (bit_and (ray_of o a) occ) f) bare taken)
          | inr one ↦ eqb-true f 0 (sym (has_bit-one 0 f) ∙ one)
        ] in
        let none : (x : ℕ) → x < 81 → has_bit (bit_and (ray_of o a) occ) x ≡ false = λ x l. false_from_ne_true (has_bit (bit_and (ray_of o a) occ) x) (λ e. (
        let le : x ≤ f = greatest x (has_bit-or (bit_and (ray_of o a) occ) 1 x ∙ or_left _ _ e) in
        let same : x ≡ f = omega arith in
        both_ways (has_bit (bit_and (ray_of o a) occ) f) bare (ap (has_bit (bit_and (ray_of o a) occ)) (sym same) ∙ e))) in
        has_bit-and (ray_of o a) (2 ^ 128 - 1 - ray_of o f) b
        ∙ (rw (zeroth, end, has_bit-not 0 b (omega arith) (omega arith), has_bit-none b) (and_true (has_bit (ray_of o a) b) ∙ free_line none b h)))
  ]
    where
      and_true : (x : Bool) → (x && true) ≡ x
      and_true true = refl
      and_true false = refl

-- no line with falling indexes leads on from square 0
pub falling_end : (d : ℕ) → 4 ≤ d → d < 8 → ray_of (direction_at d) 0 ≡ 0
falling_end d low high = sym (rays_right d 0 high (omega arith)) ∙ zeroth d low high
  where
    zeroth : (d : ℕ) → 4 ≤ d → d < 8 → get_or RAYS (d * 81 + 0) 0 ≡ 0
    zeroth zero g h = absurd (omega arith)
    zeroth (suc zero) g h = absurd (omega arith)
    zeroth (suc (suc zero)) g h = absurd (omega arith)
    zeroth (suc (suc (suc zero))) g h = absurd (omega arith)
    zeroth (suc (suc (suc (suc zero)))) g h = refl
    zeroth (suc (suc (suc (suc (suc zero))))) g h = refl
    zeroth (suc (suc (suc (suc (suc (suc zero)))))) g h = refl
    zeroth (suc (suc (suc (suc (suc (suc (suc zero))))))) g h = refl
    zeroth (suc (suc (suc (suc (suc (suc (suc (suc d)))))))) g h = absurd (omega arith)

pub and_fits : (a b : ℕ) → a < 2 ^ 81 → bit_and a b < 2 ^ 81
and_fits a b h = omega (arith, and_le_l a b)

pub or_fits : (a b : ℕ) → a < 2 ^ 81 → b < 2 ^ 81 → bit_or a b < 2 ^ 81
or_fits a b h l = or_lt 81 a b h l

pub or_one : (a : ℕ) → bit_or a 1 ≢ 0
or_one a e = both_ways (has_bit (bit_or a 1) 0) (ap (λ x. has_bit x 0) e ∙ has_bit-none 0) (has_bit-or a 1 0 ∙ or_right (has_bit a 0) (has_bit 1 0) (has_bit-one 0 0))

pub or_one_fits : (a b : ℕ) → a < 2 ^ 81 → bit_or (bit_and a b) 1 < 2 ^ 81
or_one_fits a b h = or_lt 81 (bit_and a b) 1 (omega (arith, and_le_l a b)) (omega arith)

pub ruleset king_line_mask = (and_fits, or_one, or_one_fits)

has_bit-all : (n : ℕ) → n < 81 → has_bit (2 ^ 81 - 1) n ≡ true
unfolding has_bit
has_bit-all n h = eq-eqb _ 1 (bit_at_ones 81 n h)

not_not : (a b : Bool) → b ≡ true → (not (not a) && b) ≡ a
not_not true b e = e
not_not false b e = refl

pub free_bit : (m n : ℕ) (free : Bool) → m < 2 ^ 128 → n < 81 → has_bit m n ≡ not free → has_bit (bit_and (2 ^ 128 - 1 - m) (2 ^ 81 - 1)) n ≡ free
free_bit m n free fits h e = has_bit-and (2 ^ 128 - 1 - m) (2 ^ 81 - 1) n ∙ (rw (has_bit-not m n fits (omega arith), e) (not_not free (has_bit (2 ^ 81 - 1) n) (has_bit-all n h)))

pub free_fits : (a : ℕ) → bit_and a (2 ^ 81 - 1) < 2 ^ 81
free_fits a = omega (arith, and_le_r a (2 ^ 81 - 1))

pub ruleset free_bits = (free_bit, free_fits)
