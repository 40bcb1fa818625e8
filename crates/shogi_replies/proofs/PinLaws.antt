-- A piece is pinned only between its king and an enemy slider.
use Rattle.std.proofs.Common.{◌≡◌, ◌⊎◌, ℕ, ◌+◌, ◌%◌, ◌<◌, true, false, not, sym, ap, subst, ◌∙◌, arith, inl, inr, Option, Some, None, bit_and, bit_or, []}
use Rattle.std.specs.Prelude.{◌==◌, ◌&&◌, is_none}
use Rattle.std.proofs.lemmas.Bool.{cases_eq, false_from_ne_true, both_ways, and_parts, and_from, or_cases, or_left, or_right}
use Rattle.shogi_core.specs.declared.piece.Color.{Color}
use Rattle.shogi_core.specs.declared.piece.Piece.{Piece}
use Rattle.shogi_core.specs.Attack.{is_attacked_from, is_attacked, is_open_king, in_check, is_sniper, is_sniper_of_king}
use Rattle.shogi_core.specs.Below.{some_below}
use Rattle.shogi_core.specs.Bits.{has_bit}
use Rattle.shogi_core.specs.Cell.{is_piece_of, is_king, is_slider, HasNoOtherKing}
use Rattle.shogi_core.specs.Lines.{back, are_aligned}
use Rattle.shogi_core.specs.Movement.{Cells, slides, for_side, has_slide, has_step, cell_reaches, reaches, piece_at, slides_of}
use Rattle.shogi_core.specs.Pieces.{opponent_of}
use Rattle.shogi_core.specs.Sets.{HasNone}
use Rattle.shogi_core.specs.Rays.{direction_at, is_on_ray, ray_of}
use Rattle.shogi_core.proofs.Back.{back_twice}
use Rattle.shogi_core.proofs.Below.{some_below_at, some_below_no}
use Rattle.shogi_core.proofs.BitLaws.{has_bit-and, has_bit-or, has_bit-none}
use Rattle.shogi_core.proofs.LineBits.{has_bit-ray}
use Rattle.shogi_core.proofs.RayLaws.{slides_bare}
use Rattle.shogi_core.proofs.SeenLaws.{slides_back, slides_back_around, slides_role, slide_seen, lined_aligned}
use Rattle.shogi_core.proofs.SliderAttacks.{shot_by, slide_by}
use Rattle.shogi_core.proofs.Discovered.{slides_was, some_below_which}
use Rattle.shogi_replies.specs.Threats.{HasBetween, HasBeforeSnipers, IsOffPins}

-- ---- the squares between two

opposite : (d : ℕ) → d < 8 → direction_at ((d + 4) % 8) ≡ back (direction_at d)
opposite d h = grind (arith, cases_eq d 0, cases_eq d 1, cases_eq d 2, cases_eq d 3, cases_eq d 4, cases_eq d 5, cases_eq d 6, cases_eq d 7)

-- the set has the squares between for the first directions
abbrev pub HasBetweenBelow : ℕ → ℕ → ℕ → ℕ → Type 0
HasBetweenBelow from to count mask = (d n : ℕ) → d < count → n < 81 → is_on_ray (direction_at d) from n ≡ true
    → is_on_ray (direction_at d) n to ≡ true → has_bit mask n ≡ true

pub between_more : (from to count mask line against : ℕ) → HasBetweenBelow from to count mask → count < 8 → line ≡ ray_of (direction_at count) from → against ≡ ray_of (direction_at ((count + 4) % 8)) to
    → HasBetweenBelow from to (count + 1) (bit_or mask (bit_and line against))
between_more from to count mask line against h small there back_there = λ d n l hn on beyond.
    has_bit-or mask (bit_and line against) n ∙ elim (cases_eq d count) [
      | inr other ↦ or_left _ _ (h d n (omega (arith, l, other)) hn on beyond)
      | inl same ↦ or_right (has_bit mask n) _ (has_bit-and line against n ∙ and_from _ _
          (ap (λ (m : ℕ). has_bit m n) there ∙ (has_bit-ray (direction_at count) from n hn ∙ subst (λ (e : ℕ). is_on_ray (direction_at e) from n ≡ true) same on))
          (ap (λ (m : ℕ). has_bit m n) back_there ∙ (has_bit-ray (direction_at ((count + 4) % 8)) to n hn ∙ (ap (λ o. is_on_ray o to n) (opposite count small) ∙ slides_back [] (direction_at count) n to hn (subst (λ (e : ℕ). is_on_ray (direction_at e) n to ≡ true) same beyond)))))
    ]

-- ---- the squares before all snipers

pub before_first : (cells : Cells) (side : Color) (king snipers : ℕ) → ((x : ℕ) → x < 81 → has_bit snipers x ≡ is_sniper cells (opponent_of side) king x) → HasBeforeSnipers cells side king snipers 0
before_first cells side king snipers bits = λ x hx sniper out. absurd (both_ways (has_bit snipers x) out (bits x hx ∙ sniper))

pub before_more : (cells : Cells) (side : Color) (king left next squares sniper between : ℕ) → HasBeforeSnipers cells side king left squares → ((i : ℕ) → has_bit next i ≡ (has_bit left i && not (i == sniper))) → HasBetween king sniper between
    → HasBeforeSnipers cells side king next (bit_or squares between)
before_more cells side king left next squares sniper between h bits new = λ x hx is out d n hd hn on beyond.
    grind (arith, has_bit-or squares between n, cases_eq x sniper, new d n hd hn on, bits x, h x hx is)

-- no piece of the side can be pinned off the squares before its only king
pub off_pins : (cells : Cells) (side : Color) (king squares : ℕ) → HasNoOtherKing cells side king → HasBeforeSnipers cells side king 0 squares → (a : ℕ) → a < 81 → has_bit squares a ≡ false → IsOffPins cells side a
off_pins cells side king squares lone h = λ a ha out k x d hk hx hd e on. false_from_ne_true (is_on_ray (direction_at d) a x) (λ beyond. (
    let parts : (is_king side (piece_at cells k) ≡ true) × (is_sniper cells (opponent_of side) k x ≡ true) = and_parts _ _ e in
    elim (cases_eq k king) [
      | inr other ↦ both_ways (is_king side (piece_at cells k)) (lone k hk other) parts.0
      | inl same ↦ both_ways (has_bit squares a) out (h x hx (subst (λ (j : ℕ). is_sniper cells (opponent_of side) j x ≡ true) same parts.1) (has_bit-none x) d a hd ha (subst (λ (j : ℕ). is_on_ray (direction_at d) j a ≡ true) same on) beyond)
    ]))

pub before_all : (cells : Cells) (side : Color) (king left squares : ℕ) → HasNone left → HasBeforeSnipers cells side king left squares → HasBeforeSnipers cells side king 0 squares
before_all cells side king left squares none h = λ x hx is _. h x hx is (none x)

pub ruleset before_snipers = (before_first, before_all)

-- ---- one square is left empty

module _ (old new : Cells) (n : ℕ) (low : n < 81) (opened : (x : ℕ) → is_none (piece_at new x) ≡ true → (is_none (piece_at old x) ≡ true) ⊎ (x ≡ n)) where
  -- a slide to a king was there before, or leads over the square left empty
  slide_over : (piece : Piece) (a k : ℕ) → a < 81 → k < 81 → has_slide new piece a k ≡ true
      → (has_slide old piece a k ≡ true) ⊎ ((d : ℕ) × (d < 8) × (is_on_ray (direction_at d) k n ≡ true) × (is_on_ray (direction_at d) n a ≡ true))
  slide_over piece a k ha hk e =
      let s = shot_by new piece.color a k ha (slides_of piece.role) (slides_back_around piece.color piece.role) e in
      elim (slides_was old new (λ x. x ≡ n) opened (direction_at s.0) k a s.3) [
        | inr still ↦ inl (slide_by old (direction_at s.0) piece a k hk s.2 still)
        | inl far ↦ elim (slides_was old new (λ x. x ≡ n) opened (back (direction_at s.0)) a k (slides_back new (direction_at s.0) k a hk s.3)) [
          | inr still ↦ inl (slide_by old (direction_at s.0) piece a k hk s.2 (ap (λ q. slides old q k a) (sym (back_twice (direction_at s.0))) ∙ slides_back old (back (direction_at s.0)) a k ha still))
          | inl near ↦ inr (
            s.0,
            s.1,
            slides_bare old (direction_at s.0) k n (ap (λ q. slides old q k n) (sym (back_twice (direction_at s.0))) ∙ slides_back old (back (direction_at s.0)) n k low (subst (λ (x : ℕ). slides old (back (direction_at s.0)) x k ≡ true) near.1 near.2)),
            slides_bare old (direction_at s.0) n a (subst (λ (x : ℕ). slides old (direction_at s.0) x a ≡ true) far.1 far.2),
          )
        ]
      ]

  reaches_over : (a k : ℕ) → a < 81 → k < 81 → (cell : Option Piece) → cell_reaches new cell a k ≡ true
      → (cell_reaches old cell a k ≡ true) ⊎ ((is_slider cell ≡ true) × (are_aligned k a ≡ true) × ((d : ℕ) × (d < 8) × (is_on_ray (direction_at d) k n ≡ true) × (is_on_ray (direction_at d) n a ≡ true)))
  reaches_over a k ha hk None e = absurd (cc)
  reaches_over a k ha hk (Some piece) e = elim (or_cases (has_step piece a k) (has_slide new piece a k) e) [
    | inl step ↦ inl (or_left _ _ step)
    | inr slide ↦ elim (slide_over piece a k ha hk slide) [
      | inl was ↦ inl (or_right (has_step piece a k) _ was)
      | inr over ↦ inr (slides_role piece.role (λ o. slides new (for_side piece.color o) a k) slide, lined_aligned new k a (slide_seen new piece a k ha slide), over)
    ]
  ]

  -- an emptied square between no king and a sniper opens no check
  pub left_off_pins : (color : Color) → ((x : ℕ) → is_piece_of (opponent_of color) (piece_at new x) ≡ true → piece_at old x ≡ piece_at new x)
      → ((k : ℕ) → is_king color (piece_at new k) ≡ true → piece_at old k ≡ piece_at new k) → in_check old color ≡ false
      → ((k x d : ℕ) → k < 81 → x < 81 → d < 8 → is_sniper_of_king old color x k ≡ true → is_on_ray (direction_at d) k n ≡ true → is_on_ray (direction_at d) n x ≡ false) → in_check new color ≡ false
  unfolding in_check reaches
  left_off_pins color theirs crown safe off = some_below_no 81 (is_open_king new color) (λ k h. false_from_ne_true (is_open_king new color k) (λ e. (
      let parts : (is_king color (piece_at new k) ≡ true) × (is_attacked new (opponent_of color) k ≡ true) = and_parts _ _ e in
      let king : is_king color (piece_at old k) ≡ true = ap (is_king color) (crown k parts.0) ∙ parts.0 in
      let who = some_below_which 81 (is_attacked_from new (opponent_of color) k) parts.1 in
      let hit : (is_piece_of (opponent_of color) (piece_at new who.0) ≡ true) × (reaches new who.0 k ≡ true) = and_parts _ _ who.2 in
      let same : piece_at old who.0 ≡ piece_at new who.0 = theirs who.0 hit.0 in
      let foe : is_piece_of (opponent_of color) (piece_at old who.0) ≡ true = ap (is_piece_of (opponent_of color)) same ∙ hit.0 in
      elim (reaches_over who.0 k who.1 h (piece_at old who.0) (ap (λ cell. cell_reaches new cell who.0 k) same ∙ hit.1)) [
        | inl stays ↦ both_ways (some_below 81 (is_open_king old color)) safe
            (some_below_at 81 (is_open_king old color) k h (and_from _ _ king (some_below_at 81 (is_attacked_from old (opponent_of color) k) who.0 who.1 (and_from _ _ foe stays))))
        | inr over ↦ both_ways (is_on_ray (direction_at over.2.0) n who.0)
            (off k who.0 over.2.0 h who.1 over.2.1 (and_from _ _ king (and_from _ _ (and_from _ _ foe over.0) over.1)) over.2.2) over.2.3
      ])))
