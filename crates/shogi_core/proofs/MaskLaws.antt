-- The masks of a board follow its cells.
use Rattle.std.proofs.Common.{◌≡◌, ℕ, ◌+◌, ◌*◌, ◌^◌, ◌%◌, ◌<◌, Bool, true, false, cond, not, refl, sym, ap, ◌∙◌, arith, bit_or, bit_and, length, inl, inr, Option, Some, None, add-one, set}
use Rattle.std.specs.Prelude.{◌==◌, ◌&&◌, ◌||◌}
use Rattle.std.proofs.lemmas.Nat.{or_shifted, or_comm, one_shl, and_le_l}
use Rattle.std.proofs.lemmas.Bool.{cases_Bool, cases_lt, cond-true, cond-false, cases_eq, eq-eqb, ne_eqb}
use Rattle.std.proofs.lemmas.List.{get_or-set_same, get_or-set_other}
use Rattle.shogi_core.specs.declared.piece.Color.{Color}
use Rattle.shogi_core.specs.declared.piece.Piece.{Piece}
use Rattle.shogi_core.specs.Bits.{has_bit, mask_below}
use Rattle.shogi_core.specs.Cell.{is_piece_of, is_king, is_king_role}
use Rattle.shogi_core.specs.Pieces.{is_same_color}
use Rattle.shogi_core.specs.Movement.{Cells, piece_at}
use Rattle.shogi_core.specs.Masks.{passes, places_of, is_any_king}
use Rattle.shogi_core.proofs.BitLaws.{mask_fits, has_bit-mask, has_bit-above, same_mask, has_bit-and}

pub mask_none : (test : ℕ → Bool) → mask_below 0 test ≡ 0
unfolding mask_below
mask_none test = refl

-- one more passing square
pub mask_on : (n : ℕ) (test : ℕ → Bool) → n < 128 → test n ≡ true → bit_or (mask_below n test) (1 * 2 ^ n % 2 ^ 128) ≡ mask_below (n + 1) test
unfolding mask_below
mask_on n test h e =
    rw add-one (rw (one_shl n 128 h, e) (or_comm (mask_below n test) (2 ^ n) ∙ (ap (λ x. bit_or x (mask_below n test)) (omega arith) ∙ or_shifted 1 n (mask_below n test) (mask_fits n test))))

pub mask_off : (n : ℕ) (test : ℕ → Bool) → test n ≡ false → mask_below n test ≡ mask_below (n + 1) test
unfolding mask_below
mask_off n test e = rw add-one (rw e (omega arith))

module _ (test : Option Piece → Bool) where
  pub places_fit : (cells : Cells) → places_of test cells < 2 ^ 81
  unfolding places_of
  places_fit cells = mask_fits 81 (passes test cells)

  -- bit n is set if and only if square n passes
  pub has_bit-places : (cells : Cells) (n : ℕ) → n < 81 → has_bit (places_of test cells) n ≡ test (piece_at cells n)
  unfolding places_of
  has_bit-places cells n h = has_bit-mask 81 (passes test cells) n h

  -- a mask with one bit written is that of the written cells
  pub places_put : (m s : ℕ) (cells : Cells) (piece : Option Piece) → length cells ≡ 81 → s < 81 → m < 2 ^ 128
      → ((n : ℕ) → has_bit m n ≡ cond (n == s) (test piece) (has_bit (places_of test cells) n)) → m ≡ places_of test (set cells s piece)
  places_put m s cells piece len h fits bits =
      same_mask 128 m (places_of test (set cells s piece)) fits (omega (arith, places_fit (set cells s piece))) (λ n l. bits n ∙ each n)
    where
      each : (n : ℕ) → cond (n == s) (test piece) (has_bit (places_of test cells) n) ≡ has_bit (places_of test (set cells s piece)) n
      each n = elim (cases_eq n s) [
        | inl same ↦ rw same (cond-true (s == s) _ _ (eq-eqb s s refl) ∙ sym (has_bit-places (set cells s piece) s h ∙ ap test (get_or-set_same cells s piece None (omega arith))))
        | inr other ↦ cond-false (n == s) _ _ (ne_eqb n s other) ∙ elim (cases_lt n 81) [
          | inl low ↦ has_bit-places cells n low ∙ sym (has_bit-places (set cells s piece) n low ∙ ap test (get_or-set_other cells s n piece None other))
          | inr high ↦ has_bit-above _ 81 n (places_fit cells) high ∙ sym (has_bit-above _ 81 n (places_fit (set cells s piece)) high)
        ]
      ]

pub ruleset own_bits = (has_bit-places, places_fit)

pub marked_on : (b : Bool) (i n : ℕ) → (b || i == n) ≡ cond (i == n) true b
marked_on true i n = elim (cases_Bool (i == n)) [ inl e ↦ rw e refl | inr e ↦ rw e refl ]
marked_on false i n = elim (cases_Bool (i == n)) [ inl e ↦ rw e refl | inr e ↦ rw e refl ]

pub marked_off : (b : Bool) (i n : ℕ) → (b && not (i == n)) ≡ cond (i == n) false b
marked_off true i n = elim (cases_Bool (i == n)) [ inl e ↦ rw e refl | inr e ↦ rw e refl ]
marked_off false i n = elim (cases_Bool (i == n)) [ inl e ↦ rw e refl | inr e ↦ rw e refl ]

pub ruleset marks = (marked_on, marked_off)

king_of : (color : Color) (cell : Option Piece) → (is_any_king cell && is_piece_of color cell) ≡ is_king color cell
king_of color None = refl
king_of color (Some piece) = swap (is_king_role piece.role) (is_same_color color piece.color)
  where
    swap : (a b : Bool) → (a && b) ≡ (b && a)
    swap true true = refl
    swap true false = refl
    swap false true = refl
    swap false false = refl

pub has_bit-kings : (cells : Cells) (color : Color) (m n : ℕ) → n < 81 → has_bit m n ≡ is_piece_of color (piece_at cells n) → has_bit (bit_and (places_of is_any_king cells) m) n ≡ is_king color (piece_at cells n)
has_bit-kings cells color m n h e = has_bit-and (places_of is_any_king cells) m n ∙ (rw (has_bit-places is_any_king cells n h, e) (king_of color (piece_at cells n)))

pub kings_fit : (cells : Cells) (m : ℕ) → bit_and (places_of is_any_king cells) m < 2 ^ 81
kings_fit cells m = omega (arith, and_le_l (places_of is_any_king cells) m, places_fit is_any_king cells)

pub ruleset king_bits = (has_bit-kings, kings_fit)
