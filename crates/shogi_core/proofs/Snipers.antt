-- A pinned piece stands on an open line with an enemy slider.
use Rattle.std.proofs.Common.{◌≡◌, ◌⊎◌, ℕ, ◌<◌, true, false, not, sym, ap, subst, ◌∙◌, inl, inr, refl, Option, Some, None, bit_or, List, [], ◌∷◌}
use Rattle.std.specs.Prelude.{◌==◌, ◌&&◌, ◌||◌, is_none}
use Rattle.std.specs.List.{list_any, list_all}
use Rattle.std.proofs.lemmas.Bool.{cases_eq, false_from_ne_true, both_ways, and_parts, and_from, or_cases, or_left, or_right, not_from_false, ne_eqb}
use Rattle.shogi_core.specs.declared.offset.Offset.{Offset}
use Rattle.shogi_core.specs.declared.piece.Color.{Color}
use Rattle.shogi_core.specs.declared.piece.Piece.{Piece}
use Rattle.shogi_core.specs.Attack.{is_attacked_from, is_attacked, is_open_king, in_check, is_sniper, is_sniper_of_king, is_sniping}
use Rattle.shogi_core.specs.Below.{some_below}
use Rattle.shogi_core.specs.Bits.{has_bit}
use Rattle.shogi_core.specs.Cell.{is_piece_of, is_king, is_slider, is_sliding_role}
use Rattle.shogi_core.specs.Lines.{back, around, are_aligned, are_lined}
use Rattle.shogi_core.specs.Movement.{Cells, slides, for_side, slides_of, has_slide, has_step, cell_reaches, reaches, piece_at}
use Rattle.shogi_core.specs.Pieces.{opponent_of}
use Rattle.shogi_core.specs.Sets.{HasNone}
use Rattle.shogi_core.proofs.Back.{back_twice, same_test}
use Rattle.shogi_core.proofs.Below.{some_below_at, some_below_no}
use Rattle.shogi_core.proofs.BitLaws.{has_bit-or, has_bit-none}
use Rattle.shogi_core.proofs.Discovered.{same_way, one_of, some_below_which, slides_was}
use Rattle.shogi_core.proofs.SeenLaws.{slides_back, slides_back_around, slides_role, slide_seen, lined_aligned}

-- ---- those on lines with the kings that are gone through

pub record Snipes (cells : Cells) (color : Color) (left found : ℕ) : Type 0 where
  pub sound : (a : ℕ) → a < 81 → has_bit found a ≡ true → is_sniping cells color a ≡ true
  pub all : (k a : ℕ) → k < 81 → a < 81 → is_king color (piece_at cells k) ≡ true → has_bit left k ≡ false → is_sniper cells (opponent_of color) k a ≡ true → has_bit found a ≡ true

pub snipes_first : (cells : Cells) (color : Color) (m : ℕ) → ((n : ℕ) → n < 81 → has_bit m n ≡ is_king color (piece_at cells n)) → Snipes cells color m 0
snipes_first cells color m kings = record {
  sound = λ a h e. absurd (both_ways (has_bit 0 a) (has_bit-none a) e);
  all = λ k a h l king out e. absurd (both_ways (has_bit m k) out (kings k h ∙ king));
}

pub snipes_more : (cells : Cells) (color : Color) (left next found king more : ℕ) → Snipes cells color left found → king < 81 → is_king color (piece_at cells king) ≡ true
    → ((i : ℕ) → has_bit next i ≡ (has_bit left i && not (i == king))) → ((a : ℕ) → a < 81 → has_bit more a ≡ is_sniper cells (opponent_of color) king a) → Snipes cells color next (bit_or found more)
unfolding is_sniping
snipes_more cells color left next found king more s h crown bits shots = record {
  sound = λ a l e. elim (or_cases (has_bit found a) (has_bit more a) (sym (has_bit-or found more a) ∙ e)) [
    | inl was ↦ s.sound a l was
    | inr new ↦ some_below_at 81 (is_sniper_of_king cells color a) king h (and_from _ _ crown (sym (shots a l) ∙ new))
  ];
  all = λ k a hk l mine out e. has_bit-or found more a ∙ elim (cases_eq k king) [
    | inl same ↦ or_right (has_bit found a) (has_bit more a) (shots a l ∙ subst (λ (j : ℕ). is_sniper cells (opponent_of color) j a ≡ true) same e)
    | inr other ↦ or_left _ _ (s.all k a hk l mine (false_from_ne_true (has_bit left k) (λ set. both_ways (has_bit next k) out (bits k ∙ and_from _ _ set (not_from_false _ (ne_eqb k king other))))) e)
  ];
}

pub snipes_last : (cells : Cells) (color : Color) (left found n : ℕ) → Snipes cells color left found → HasNone left → n < 81 → has_bit found n ≡ is_sniping cells color n
unfolding is_sniping
snipes_last cells color left found n s none h = same_test (has_bit found n) (some_below 81 (is_sniper_of_king cells color n)) (s.sound n h) (λ e. (
    let which = some_below_which 81 (is_sniper_of_king cells color n) e in
    let parts : (is_king color (piece_at cells which.0) ≡ true) × (is_sniper cells (opponent_of color) which.0 n ≡ true) = and_parts _ _ which.2 in
    s.all which.0 n which.1 h parts.0 (none which.0) parts.1))

pub ruleset sniping = (snipes_first, snipes_last)

-- ---- one square is left

module _ (old new : Cells) (n : ℕ) (opened : (x : ℕ) → is_none (piece_at new x) ≡ true → (is_none (piece_at old x) ≡ true) ⊎ (x ≡ n)) where
  -- a slide existed before, or starts on an open line with the vacated square
  slide_kept : (piece : Piece) (a b : ℕ) → a < 81 → b < 81 → has_slide new piece a b ≡ true → (are_lined old n a ≡ true) ⊎ (has_slide old piece a b ≡ true)
  unfolding are_lined
  slide_kept piece a b h l e = split (slides_of piece.role) (slides_back_around piece.color piece.role) e
    where
      split : (os : List Offset) → list_all (λ o. list_any (same_way (back (for_side piece.color o))) around) os ≡ true → list_any (λ o. slides new (for_side piece.color o) a b) os ≡ true
          → (list_any (λ o. slides old o n a) around ≡ true) ⊎ (list_any (λ o. slides old (for_side piece.color o) a b) os ≡ true)
      split [] all e = absurd (cc)
      split (o ∷ os) all e =
          let parts : (list_any (same_way (back (for_side piece.color o))) around ≡ true) × (list_all (λ p. list_any (same_way (back (for_side piece.color p))) around) os ≡ true) = and_parts _ _ all in
          elim (or_cases (slides new (for_side piece.color o) a b) (list_any (λ p. slides new (for_side piece.color p) a b) os) e) [
            | inl here ↦ elim (slides_was old new (λ x. x ≡ n) opened (back (for_side piece.color o)) b a (slides_back new (for_side piece.color o) a b h here)) [
              | inl left ↦ inl (one_of (λ p. slides old p n a) (back (for_side piece.color o)) around parts.0 (subst (λ (x : ℕ). slides old (back (for_side piece.color o)) x a ≡ true) left.1 left.2))
              | inr was ↦ inr (or_left _ _ (ap (λ p. slides old p a b) (sym (back_twice (for_side piece.color o))) ∙ slides_back old (back (for_side piece.color o)) b a l was))
            ]
            | inr later ↦ elim (split os parts.1 later) [
              | inl lined ↦ inl lined
              | inr rest ↦ inr (or_right (slides old (for_side piece.color o) a b) _ rest)
            ]
          ]

  reaches_kept : (a b : ℕ) → a < 81 → b < 81 → piece_at new a ≡ piece_at old a → reaches new a b ≡ true → (reaches old a b ≡ true) ⊎ ((is_slider (piece_at old a) ≡ true) × (are_aligned b a ≡ true) × (are_lined old n a ≡ true))
  unfolding reaches
  reaches_kept a b h l same e = go (piece_at old a) (ap (λ cell. cell_reaches new cell a b) (sym same) ∙ e)
    where
      go : (cell : Option Piece) → cell_reaches new cell a b ≡ true → (cell_reaches old cell a b ≡ true) ⊎ ((is_slider cell ≡ true) × (are_aligned b a ≡ true) × (are_lined old n a ≡ true))
      go None f = absurd (cc)
      go (Some piece) f = elim (or_cases (has_step piece a b) (has_slide new piece a b) f) [
        | inl step ↦ inl (or_left _ _ step)
        | inr slide ↦ elim (slide_kept piece a b h l slide) [
          | inl lined ↦ inr (slides_role piece.role (λ o. slides new (for_side piece.color o) a b) slide, lined_aligned new b a (slide_seen new piece a b h slide), lined)
          | inr was ↦ inl (or_right (has_step piece a b) _ was)
        ]
      ]

  -- a move gives no check if no sniper has an open line to its origin and the piece on `to` reaches no king
  pub left_unpinned : (color : Color) (to : ℕ)
      → ((x : ℕ) → is_piece_of (opponent_of color) (piece_at new x) ≡ true → (piece_at old x ≡ piece_at new x) ⊎ (x ≡ to))
      → ((k : ℕ) → is_king color (piece_at new k) ≡ true → piece_at old k ≡ piece_at new k)
      → ((k : ℕ) → k < 81 → is_king color (piece_at old k) ≡ true → cell_reaches new (piece_at new to) to k ≡ false)
      → in_check old color ≡ false → ((a : ℕ) → a < 81 → is_sniping old color a ≡ true → are_lined old n a ≡ false) → in_check new color ≡ false
  unfolding in_check is_sniping reaches
  left_unpinned color to theirs crown far safe unpinned = some_below_no 81 (is_open_king new color) (λ k h. false_from_ne_true (is_open_king new color k) (λ e. (
      let parts : (is_king color (piece_at new k) ≡ true) × (is_attacked new (opponent_of color) k ≡ true) = and_parts _ _ e in
      let king : is_king color (piece_at old k) ≡ true = ap (is_king color) (crown k parts.0) ∙ parts.0 in
      let who = some_below_which 81 (is_attacked_from new (opponent_of color) k) parts.1 in
      let hit : (is_piece_of (opponent_of color) (piece_at new who.0) ≡ true) × (reaches new who.0 k ≡ true) = and_parts _ _ who.2 in
      elim (theirs who.0 hit.0) [
        | inr there ↦ both_ways (cell_reaches new (piece_at new to) to k) (far k h king) (subst (λ (y : ℕ). cell_reaches new (piece_at new y) y k ≡ true) there hit.1)
        | inl same ↦ (
            let foe : is_piece_of (opponent_of color) (piece_at old who.0) ≡ true = ap (is_piece_of (opponent_of color)) same ∙ hit.0 in
            elim (reaches_kept who.0 k who.1 h (sym same) hit.1) [
              | inl stays ↦ both_ways (some_below 81 (is_open_king old color)) safe
                  (some_below_at 81 (is_open_king old color) k h (and_from _ _ king (some_below_at 81 (is_attacked_from old (opponent_of color) k) who.0 who.1 (and_from _ _ foe stays))))
              | inr open_line ↦ both_ways (are_lined old n who.0)
                  (unpinned who.0 who.1 (some_below_at 81 (is_sniper_of_king old color who.0) k h (and_from _ _ king (and_from _ _ (and_from _ _ foe open_line.0) open_line.1)))) open_line.2
            ])
      ])))
