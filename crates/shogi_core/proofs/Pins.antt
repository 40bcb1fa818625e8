-- A piece whose leaving gives check stands alone between a king and a sniper.
use Rattle.std.proofs.Common.{◌≡◌, ◌⊎◌, ℕ, ◌+◌, ◌<◌, ◌^◌, Bool, true, false, not, refl, sym, ap, subst, ◌∙◌, arith, inl, inr, Option, Some, None, bit_and, bit_or, set, length, get_or-set_same, get_or-set_other, []}
use Rattle.std.specs.Prelude.{◌==◌, ◌&&◌, ◌||◌, is_none}
use Rattle.std.proofs.lemmas.Nat.{or_lt}
use Rattle.std.proofs.Math.Pow.{pow-lt}
use Rattle.std.proofs.lemmas.List.{get_or_past}
use Rattle.std.proofs.lemmas.Bool.{cases_lt, cases_eq, false_from_ne_true, both_ways, and_parts, and_from, or_cases, or_left, or_right, not_from_false, eq-eqb, ne_eqb}
use Rattle.shogi_core.specs.declared.offset.Offset.{Offset}
use Rattle.shogi_core.specs.declared.piece.Color.{Color}
use Rattle.shogi_core.specs.declared.piece.Color.TheVariants.{Black, White}
use Rattle.shogi_core.specs.declared.piece.Piece.{Piece}
use Rattle.shogi_core.specs.Attack.{is_attacked_from, is_attacked, is_open_king, in_check, is_sniper, is_pinned_by}
use Rattle.shogi_core.specs.Below.{some_below}
use Rattle.shogi_core.specs.Bits.{has_bit}
use Rattle.shogi_core.specs.Cell.{is_piece_of, is_king, is_slider}
use Rattle.shogi_core.specs.Lines.{back, around, are_lined, is_same_offset}
use Rattle.shogi_core.specs.Movement.{Cells, slides, for_side, slides_of, has_slide, has_step, cell_reaches, reaches, piece_at}
use Rattle.shogi_core.specs.Pieces.{is_same_color, opponent_of}
use Rattle.shogi_core.specs.Rays.{direction_at, ray_of, is_on_ray}
use Rattle.shogi_core.specs.Sets.{HasNone}
use Rattle.shogi_core.proofs.Back.{back_twice}
use Rattle.shogi_core.proofs.Below.{some_below_at, some_below_no}
use Rattle.shogi_core.proofs.BitLaws.{same_mask, has_bit-and, has_bit-or, has_bit-one, has_bit-none}
use Rattle.shogi_core.proofs.Discovered.{one_of, some_below_which, slides_was}
use Rattle.shogi_core.proofs.LineBits.{has_bit-ray, and_fits}
use Rattle.shogi_core.proofs.Nearest.{one_piece}
use Rattle.shogi_core.proofs.RayLaws.{slides_bare}
use Rattle.shogi_core.proofs.SeenLaws.{slides_back, slides_back_around, slides_role}
use Rattle.shogi_core.proofs.SliderAttacks.{direction_around, some_of, shot_by, slide_by}

-- ---- the masks of one direction

module _ (cells : Cells) (side : Color) (square d n a : ℕ) (pin : is_pinned_by cells side square (direction_at d) n a ≡ true) where
  pub pin_own : is_piece_of side (piece_at cells n) ≡ true
  pin_own = (and_parts _ _ ((and_parts _ _ ((and_parts _ _ ((and_parts _ _ pin).0)).0)).0)).0

  pub pin_sniper : is_sniper cells (opponent_of side) square a ≡ true
  pin_sniper = (and_parts _ _ ((and_parts _ _ ((and_parts _ _ ((and_parts _ _ pin).0)).0)).0)).1

  pub pin_there : is_none (piece_at cells a) ≡ false
  pin_there = some_of (opponent_of side) (piece_at cells a) ((and_parts _ _ ((and_parts _ _ pin_sniper).0)).0)

  pub pin_ray : is_on_ray (direction_at d) square a ≡ true
  pin_ray = (and_parts _ _ ((and_parts _ _ ((and_parts _ _ pin).0)).0)).1

  pub pin_near : slides cells (direction_at d) square n ≡ true
  pin_near = (and_parts _ _ ((and_parts _ _ pin).0)).1

  pub pin_far : slides cells (direction_at d) n a ≡ true
  pin_far = (and_parts _ _ pin).1

-- a piece of one side is not a piece of the other
not_both : (side : Color) (cell : Option Piece) → is_piece_of (opponent_of side) cell ≡ true → is_piece_of side cell ≡ false
not_both side None e = refl
not_both side (Some piece) e = go side piece.color e
  where
    go : (side color : Color) → is_same_color (opponent_of side) color ≡ true → is_same_color side color ≡ false
    go Black Black e = absurd (cc)
    go Black White e = refl
    go White Black e = refl
    go White White e = absurd (cc)

no_bit : (m n : ℕ) → m ≡ 0 → has_bit m n ≡ true → false ≡ true
no_bit m n none e = sym (has_bit-none n) ∙ (ap (λ (k : ℕ). has_bit k n) (sym none) ∙ e)

-- an open line has no pinned piece
pub none_on_line : (cells : Cells) (side : Color) (square d : ℕ) → ((n : ℕ) → slides cells (direction_at d) square n ≡ true → is_none (piece_at cells n) ≡ true)
    → (found n a : ℕ) → is_pinned_by cells side square (direction_at d) n a ≡ true → has_bit found n ≡ true
none_on_line cells side square d free found n a pin = absurd (both_ways (is_none (piece_at cells n)) (some_of side (piece_at cells n) (pin_own cells side square d n a pin)) (free n (pin_near cells side square d n a pin)))

module _ (cells : Cells) (side : Color) (square d snipers : ℕ) (shots : (b : ℕ) → b < 81 → has_bit snipers b ≡ is_sniper cells (opponent_of side) square b) where
  pub no_sniper_there : bit_and (ray_of (direction_at d) square) snipers ≡ 0 → (found n a : ℕ) → a < 81 → is_pinned_by cells side square (direction_at d) n a ≡ true → has_bit found n ≡ true
  no_sniper_there none found n a h pin = absurd (let clash : false ≡ true = no_bit (bit_and (ray_of (direction_at d) square) snipers) a none
      (has_bit-and (ray_of (direction_at d) square) snipers a ∙ and_from _ _ (has_bit-ray (direction_at d) square a h ∙ pin_ray cells side square d n a pin) (shots a h ∙ pin_sniper cells side square d n a pin)) in cc)

  module _ (f : ℕ) (inside : f < 81) (line : slides cells (direction_at d) square f ≡ true) (piece : is_none (piece_at cells f) ≡ false) where
    -- the pinned piece is the first in the direction
    pub pinned_first : (n a : ℕ) → is_pinned_by cells side square (direction_at d) n a ≡ true → n ≡ f
    pinned_first n a pin = one_piece cells (direction_at d) square n f (pin_near cells side square d n a pin) line (some_of side (piece_at cells n) (pin_own cells side square d n a pin)) piece

    -- nothing is pinned if the first piece is the opponent's
    pub others_not_pinned : is_piece_of side (piece_at cells f) ≡ false → (found n a : ℕ) → is_pinned_by cells side square (direction_at d) n a ≡ true → has_bit found n ≡ true
    others_not_pinned other found n a pin = absurd (both_ways (is_piece_of side (piece_at cells f)) other
        (ap (λ (k : ℕ). is_piece_of side (piece_at cells k)) (sym (pinned_first n a pin)) ∙ pin_own cells side square d n a pin))

    pub snipers_not_pinned : has_bit snipers f ≡ true → (found n a : ℕ) → is_pinned_by cells side square (direction_at d) n a ≡ true → has_bit found n ≡ true
    snipers_not_pinned set found n a pin =
        let sniper : is_sniper cells (opponent_of side) square f ≡ true = sym (shots f inside) ∙ set in
        others_not_pinned (not_both side (piece_at cells f) ((and_parts _ _ ((and_parts _ _ sniper).0)).0)) found n a pin

    pin_beyond : (n a : ℕ) → is_pinned_by cells side square (direction_at d) n a ≡ true → slides cells (direction_at d) f a ≡ true
    pin_beyond n a pin = ap (λ (k : ℕ). slides cells (direction_at d) k a) (sym (pinned_first n a pin)) ∙ pin_far cells side square d n a pin

    -- nothing is pinned without a second piece
    pub none_beyond : ((n : ℕ) → slides cells (direction_at d) f n ≡ true → is_none (piece_at cells n) ≡ true) → (found n a : ℕ) → is_pinned_by cells side square (direction_at d) n a ≡ true → has_bit found n ≡ true
    none_beyond free found n a pin = absurd (both_ways (is_none (piece_at cells a)) (pin_there cells side square d n a pin) (free a (pin_beyond n a pin)))

    -- nothing is pinned before a piece that is no sniper
    pub no_sniper_next : (s : ℕ) → slides cells (direction_at d) f s ≡ true → is_none (piece_at cells s) ≡ false → has_bit snipers s ≡ false
        → (found n a : ℕ) → a < 81 → is_pinned_by cells side square (direction_at d) n a ≡ true → has_bit found n ≡ true
    no_sniper_next s further there clear found n a h pin =
        let same : a ≡ s = one_piece cells (direction_at d) f a s (pin_beyond n a pin) further (pin_there cells side square d n a pin) there in
        absurd (both_ways (has_bit snipers s) clear (ap (has_bit snipers) (sym same) ∙ (shots a h ∙ pin_sniper cells side square d n a pin)))

    -- adding the first piece covers the pins of the direction
    pub first_marked : (old new : ℕ) → ((i : ℕ) → has_bit new i ≡ (has_bit old i || i == f)) → (n a : ℕ) → is_pinned_by cells side square (direction_at d) n a ≡ true → has_bit new n ≡ true
    first_marked old new bits n a pin = bits n ∙ or_right (has_bit old n) (n == f) (eq-eqb n f (pinned_first n a pin))

pub marked_fits : (old new f : ℕ) → old < 2 ^ 81 → f < 81 → new < 2 ^ 128 → ((i : ℕ) → has_bit new i ≡ (has_bit old i || i == f)) → new < 2 ^ 81
marked_fits old new f fits inside wide bits =
    let power : 2 ^ f < 2 ^ 81 = pow-lt inside in
    let whole : bit_or old (2 ^ f) < 2 ^ 81 = or_lt 81 old (2 ^ f) fits power in
    let same : new ≡ bit_or old (2 ^ f) = same_mask 128 new (bit_or old (2 ^ f)) wide (omega arith) (λ i l. bits i ∙ sym (has_bit-or old (2 ^ f) i ∙ ap (λ x. has_bit old i || x) (has_bit-one f i))) in
    omega arith

pub unmarked_fits : (old new f : ℕ) → old < 2 ^ 81 → new < 2 ^ 128 → ((i : ℕ) → has_bit new i ≡ (has_bit old i && not (i == f))) → new < 2 ^ 81
unmarked_fits old new f fits wide bits =
    let low : bit_and old new < 2 ^ 81 = and_fits old new fits in
    let same : new ≡ bit_and old new = same_mask 128 new (bit_and old new) wide (omega arith) (λ i l. sym (has_bit-and old new i ∙ (rw (bits i) (twice (has_bit old i) (not (i == f)))))) in
    omega arith
  where
    twice : (a b : Bool) → (a && (a && b)) ≡ (a && b)
    twice true b = refl
    twice false b = refl

-- ---- all directions

-- `found` has all that is pinned in the first `count` directions
pub record PinsTo (cells : Cells) (side : Color) (square count found : ℕ) : Type 0 where
  pub all : (d n a : ℕ) → d < count → n < 81 → a < 81 → is_pinned_by cells side square (direction_at d) n a ≡ true → has_bit found n ≡ true

pub pins_to_none : (cells : Cells) (side : Color) (square : ℕ) → PinsTo cells side square 0 0
pins_to_none cells side square = record { all = λ d n a none l h e. absurd (omega arith) }

pub pins_to_more : (cells : Cells) (side : Color) (square count found more : ℕ) → PinsTo cells side square count found → ((n : ℕ) → has_bit found n ≡ true → has_bit more n ≡ true)
    → ((n a : ℕ) → n < 81 → a < 81 → is_pinned_by cells side square (direction_at count) n a ≡ true → has_bit more n ≡ true) → PinsTo cells side square (count + 1) more
pins_to_more cells side square count found more p kept next = record {
  all = λ d n a low l h e. elim (cases_eq d count) [
    | inl same ↦ next n a l h (subst (λ (k : ℕ). is_pinned_by cells side square (direction_at k) n a ≡ true) same e)
    | inr other ↦ kept n (p.all d n a (omega arith) l h e)
  ];
}

pub no_pins : (cells : Cells) (side : Color) (square snipers : ℕ) → ((b : ℕ) → b < 81 → has_bit snipers b ≡ is_sniper cells (opponent_of side) square b) → snipers ≡ 0
    → (d n a : ℕ) → d < 8 → n < 81 → a < 81 → is_pinned_by cells side square (direction_at d) n a ≡ true → has_bit 0 n ≡ true
no_pins cells side square snipers shots none d n a low l h e = absurd (let clash : false ≡ true = no_bit snipers a none (shots a h ∙ pin_sniper cells side square d n a e) in cc)

pub ruleset unpinned = (no_pins)

-- ---- all kings

-- `found` has all that is pinned to kings no longer in `left`
pub record Pins (cells : Cells) (side : Color) (left found : ℕ) : Type 0 where
  pub all : (k d n a : ℕ) → k < 81 → is_king side (piece_at cells k) ≡ true → has_bit left k ≡ false → d < 8 → n < 81 → a < 81 → is_pinned_by cells side k (direction_at d) n a ≡ true → has_bit found n ≡ true

pub pins_first : (cells : Cells) (side : Color) (m : ℕ) → ((n : ℕ) → n < 81 → has_bit m n ≡ is_king side (piece_at cells n)) → Pins cells side m 0
pins_first cells side m kings = record {
  all = λ k d n a hk king out low l h e. absurd (both_ways (has_bit m k) out (kings k hk ∙ king));
}

pub pins_more : (cells : Cells) (side : Color) (left next found king more : ℕ) → Pins cells side left found → ((i : ℕ) → has_bit next i ≡ (has_bit left i && not (i == king)))
    → ((d n a : ℕ) → d < 8 → n < 81 → a < 81 → is_pinned_by cells side king (direction_at d) n a ≡ true → has_bit more n ≡ true) → Pins cells side next (bit_or found more)
pins_more cells side left next found king more p bits new = record {
  all = λ k d n a hk mine out low l h e. has_bit-or found more n ∙ elim (cases_eq k king) [
    | inl same ↦ or_right (has_bit found n) (has_bit more n) (new d n a low l h (subst (λ (j : ℕ). is_pinned_by cells side j (direction_at d) n a ≡ true) same e))
    | inr other ↦ or_left _ _ (p.all k d n a hk mine (false_from_ne_true (has_bit left k) (λ set. both_ways (has_bit next k) out (bits k ∙ and_from _ _ set (not_from_false _ (ne_eqb k king other))))) low l h e)
  ];
}

-- ---- a piece that is lifted off

module _ (cells : Cells) (side : Color) (n : ℕ) (inside : n < length cells) (low : n < 81) (safe : in_check cells side ≡ false) where
  lifted_at : (x : ℕ) → x ≡ n → piece_at (set cells n None) x ≡ None
  lifted_at x here = rw here (get_or-set_same cells n None None inside)

  opened : (x : ℕ) → is_none (piece_at (set cells n None) x) ≡ true → (is_none (piece_at cells x) ≡ true) ⊎ (x ≡ n)
  opened x e = elim (cases_eq x n) [ inl here ↦ inr here | inr other ↦ inl (ap is_none (sym (get_or-set_other cells n x None None other)) ∙ e) ]

  -- lifting a piece off moves no other
  there : (test : Option Piece → Bool) → test None ≡ false → (x : ℕ) → test (piece_at (set cells n None) x) ≡ true → piece_at (set cells n None) x ≡ piece_at cells x
  there test none x e = elim (cases_eq x n) [
    | inl here ↦ absurd (both_ways (test None) none (ap test (sym (lifted_at x here)) ∙ e))
    | inr other ↦ get_or-set_other cells n x None None other
  ]

  not_before : (k a : ℕ) → k < 81 → a < 81 → is_king side (piece_at cells k) ≡ true → is_piece_of (opponent_of side) (piece_at cells a) ≡ true → reaches cells a k ≡ false
  unfolding in_check
  not_before k a hk ha king foe = false_from_ne_true (reaches cells a k) (λ e. both_ways (some_below 81 (is_open_king cells side)) safe
      (some_below_at 81 (is_open_king cells side) k hk (and_from _ _ king (some_below_at 81 (is_attacked_from cells (opponent_of side) k) a ha (and_from _ _ foe e)))))

  module _ (found : ℕ) (out : has_bit found n ≡ false) (own : is_piece_of side (piece_at cells n) ≡ true)
      (pins : (k d n a : ℕ) → k < 81 → is_king side (piece_at cells k) ≡ true → d < 8 → n < 81 → a < 81 → is_pinned_by cells side k (direction_at d) n a ≡ true → has_bit found n ≡ true) where
    no_new_slide : (k a : ℕ) → k < 81 → a < 81 → is_king side (piece_at cells k) ≡ true → is_piece_of (opponent_of side) (piece_at cells a) ≡ true → (piece : Piece) → piece_at cells a ≡ Some piece → has_slide cells piece a k ≡ false
        → has_slide (set cells n None) piece a k ≡ false
    unfolding are_lined
    no_new_slide k a hk ha king foe piece at was = false_from_ne_true (has_slide (set cells n None) piece a k) (λ e. (
        let s = shot_by (set cells n None) piece.color a k ha (slides_of piece.role) (slides_back_around piece.color piece.role) e in
        let o : Offset = direction_at s.0 in
        let old : slides cells (direction_at s.0) k a ≡ false = false_from_ne_true (slides cells (direction_at s.0) k a) (λ f. both_ways (has_slide cells piece a k) was (slide_by cells (direction_at s.0) piece a k hk s.2 f)) in
        let far : slides cells (direction_at s.0) n a ≡ true = elim (slides_was cells (set cells n None) (λ x. x ≡ n) opened (direction_at s.0) k a s.3) [
          | inl left ↦ subst (λ (x : ℕ). slides cells (direction_at s.0) x a ≡ true) left.1 left.2
          | inr still ↦ absurd (both_ways (slides cells (direction_at s.0) k a) old still)
        ] in
        let near : slides cells (direction_at s.0) k n ≡ true = elim (slides_was cells (set cells n None) (λ x. x ≡ n) opened (back (direction_at s.0)) a k (slides_back (set cells n None) (direction_at s.0) k a hk s.3)) [
          | inl left ↦ ap (λ q. slides cells q k n) (sym (back_twice (direction_at s.0))) ∙ slides_back cells (back (direction_at s.0)) n k low (subst (λ (x : ℕ). slides cells (back (direction_at s.0)) x k ≡ true) left.1 left.2)
          | inr still ↦ absurd (both_ways (slides cells (direction_at s.0) k a) old (ap (λ q. slides cells q k a) (sym (back_twice (direction_at s.0))) ∙ slides_back cells (back (direction_at s.0)) a k ha still))
        ] in
        let bare : is_on_ray (direction_at s.0) k a ≡ true = slides_bare (set cells n None) (direction_at s.0) k a s.3 in
        let slider : is_slider (piece_at cells a) ≡ true = ap is_slider at ∙ slides_role piece.role (λ p. is_same_offset (back (for_side piece.color p)) (direction_at s.0)) s.2 in
        let sniper : is_sniper cells (opponent_of side) k a ≡ true = and_from _ _ (and_from _ _ foe slider) (one_of (λ q. slides [] q k a) (direction_at s.0) around (direction_around s.0 s.1) bare) in
        both_ways (has_bit found n) out (pins k s.0 n a hk king s.1 low ha (and_from _ _ (and_from _ _ (and_from _ _ (and_from _ _ own sniper) bare) near) far))))

    no_new_reach : (k a : ℕ) → k < 81 → a < 81 → is_king side (piece_at cells k) ≡ true → is_piece_of (opponent_of side) (piece_at cells a) ≡ true → (cell : Option Piece) → piece_at cells a ≡ cell → cell_reaches (set cells n None) cell a k ≡ true → cell_reaches cells cell a k ≡ false → false ≡ true
    no_new_reach k a hk ha king foe None at e was = e
    no_new_reach k a hk ha king foe (Some piece) at e was =
        elim (or_cases (has_step piece a k) (has_slide (set cells n None) piece a k) e) [
          | inl step ↦ sym was ∙ or_left _ _ step
          | inr slide ↦ sym (no_new_slide k a hk ha king foe piece at (false_from_ne_true (has_slide cells piece a k) (λ f. both_ways (cell_reaches cells (Some piece) a k) was (or_right (has_step piece a k) _ f)))) ∙ slide
        ]

    pub lifted_free : in_check (set cells n None) side ≡ false
    unfolding in_check reaches
    lifted_free = some_below_no 81 (is_open_king (set cells n None) side) (λ k hk. false_from_ne_true (is_open_king (set cells n None) side k) (λ e. (
        let parts : (is_king side (piece_at (set cells n None) k) ≡ true) × (is_attacked (set cells n None) (opponent_of side) k ≡ true) = and_parts _ _ e in
        let king : is_king side (piece_at cells k) ≡ true = ap (is_king side) (sym (there (is_king side) refl k parts.0)) ∙ parts.0 in
        let who = some_below_which 81 (is_attacked_from (set cells n None) (opponent_of side) k) parts.1 in
        let hit : (is_piece_of (opponent_of side) (piece_at (set cells n None) who.0) ≡ true) × (reaches (set cells n None) who.0 k ≡ true) = and_parts _ _ who.2 in
        let same : piece_at (set cells n None) who.0 ≡ piece_at cells who.0 = there (is_piece_of (opponent_of side)) refl who.0 hit.0 in
        let foe : is_piece_of (opponent_of side) (piece_at cells who.0) ≡ true = ap (is_piece_of (opponent_of side)) (sym same) ∙ hit.0 in
        let clash : false ≡ true = no_new_reach k who.0 hk who.1 king foe (piece_at cells who.0) refl (ap (λ cell. cell_reaches (set cells n None) cell who.0 k) (sym same) ∙ hit.1) (not_before k who.0 hk who.1 king foe) in
        cc)))

pub pins_last : (cells : Cells) (side : Color) (left found n : ℕ) → HasNone left → Pins cells side left found → in_check cells side ≡ false → n < 81 → has_bit found n ≡ false → is_piece_of side (piece_at cells n) ≡ true → in_check (set cells n None) side ≡ false
pins_last cells side left found n none p safe low out own = lifted_free cells side n inside low safe found out own (λ k d m a hk king hd hm ha e. p.all k d m a hk king (none k) hd hm ha e)
  where
    inside : n < length cells
    inside = elim (cases_lt n (length cells)) [
      | inl here ↦ here
      | inr past ↦ absurd (let clash : false ≡ true = ap (is_piece_of side) (sym (get_or_past cells n None past)) ∙ own in cc)
    ]

pub ruleset pins = (pins_first)
