-- The first piece on a line.
use Rattle.std.proofs.Common.{◌≡◌, ℕ, ◌+◌, ◌<◌, ◌≤◌, true, false, not, sym, ap, ◌∙◌, arith, inl, inr, Option, Some, bit_and}
use Rattle.std.specs.Prelude.{is_none}
use Rattle.std.proofs.lemmas.Bool.{cases_lt, cases_eq, true_from_ne_false, both_ways, and_parts}
use Rattle.shogi_core.specs.declared.offset.Offset.{Offset}
use Rattle.shogi_core.specs.Bits.{has_bit}
use Rattle.shogi_core.specs.Movement.{Cells, away, is_step_empty, is_empty, slides_across, slides, piece_at}
use Rattle.shogi_core.specs.Rays.{direction_at, ray_of}
use Rattle.shogi_core.proofs.Back.{leads_is}
use Rattle.shogi_core.proofs.Below.{all_below_at}
use Rattle.shogi_core.proofs.BitLaws.{has_bit-none}
use Rattle.shogi_core.proofs.Discovered.{some_below_which}
use Rattle.shogi_core.proofs.LineBits.{and_fits, bit_there, there_bit, lowest_reached, highest_reached, direction_rises, direction_falls}
use Rattle.shogi_core.proofs.RayLaws.{slides_bare}

-- a slide does not pass a piece before its end
not_nearer : (cells : Cells) (o : Offset) (s a b i j : ℕ) → i < j → slides_across cells o s a i ≡ true → slides_across cells o s b j ≡ true → is_none (piece_at cells a) ≡ false → false ≡ true
not_nearer cells o s a b i j l e f taken =
    let here : away (i + 1) o s ≡ Some a = leads_is _ a ((and_parts _ _ e).0) in
    sym taken ∙ (sym (ap (is_empty cells) here) ∙ all_below_at j (is_step_empty cells o s) i ((and_parts _ _ f).1) l)

some_same : (s : Option ℕ) (a b : ℕ) → s ≡ Some a → s ≡ Some b → a ≡ b
some_same s a b e f = let both : Some a ≡ Some b = sym e ∙ f in cc

-- a direction has one first piece
pub one_piece : (cells : Cells) (o : Offset) (s a b : ℕ) → slides cells o s a ≡ true → slides cells o s b ≡ true → is_none (piece_at cells a) ≡ false → is_none (piece_at cells b) ≡ false → a ≡ b
one_piece cells o s a b e f p q =
    let i = some_below_which 8 (slides_across cells o s a) e in
    let j = some_below_which 8 (slides_across cells o s b) f in
    elim (cases_eq i.0 j.0) [
      | inl same ↦ some_same (away (i.0 + 1) o s) a b (leads_is _ a ((and_parts _ _ i.2).0)) (ap (λ (k : ℕ). away (k + 1) o s) same ∙ leads_is _ b ((and_parts _ _ j.2).0))
      | inr other ↦ elim (cases_lt i.0 j.0) [
        | inl near ↦ absurd (let clash : false ≡ true = not_nearer cells o s a b i.0 j.0 near i.2 j.2 p in cc)
        | inr far ↦ absurd (let clash : false ≡ true = not_nearer cells o s b a j.0 i.0 (omega arith) j.2 i.2 q in cc)
      ]
    ]

module _ (cells : Cells) (d a line occ : ℕ) (range : d < 8) (there : line ≡ ray_of (direction_at d) a) (occupied : (n : ℕ) → n < 81 → has_bit occ n ≡ not (is_none (piece_at cells n))) where
  -- a line without occupied squares is open
  pub no_piece : bit_and line occ ≡ 0 → (n : ℕ) → slides cells (direction_at d) a n ≡ true → is_none (piece_at cells n) ≡ true
  no_piece none n e = true_from_ne_false (is_none (piece_at cells n)) (λ taken. both_ways (has_bit (bit_and (ray_of (direction_at d) a) occ) n)
      (ap (λ (m : ℕ). has_bit (bit_and m occ) n) (sym there) ∙ (ap (λ (m : ℕ). has_bit m n) none ∙ has_bit-none n))
      (bit_there cells (direction_at d) a occ occupied n (slides_bare cells (direction_at d) a n e) taken))

  module _ (f : ℕ) (low : f < 81) (set : has_bit (bit_and line occ) f ≡ true) where
    pub nearest_piece : is_none (piece_at cells f) ≡ false
    nearest_piece = (there_bit cells (direction_at d) a occ occupied f low (rw there at set)).1

    pub nearest_reached : (d < 4 → (n : ℕ) → has_bit (bit_and line occ) n ≡ true → f ≤ n) → (4 ≤ d → (n : ℕ) → has_bit (bit_and line occ) n ≡ true → n ≤ f) → slides cells (direction_at d) a f ≡ true
    nearest_reached rising falling = elim (cases_lt d 4) [
      | inl up ↦ lowest_reached cells (direction_at d) a occ occupied f low (rw there at set) (direction_rises d up) (rw there at (rising up))
      | inr down ↦ highest_reached cells (direction_at d) a occ occupied f low (rw there at set) (direction_falls d down range) (rw there at (falling down))
    ]

pub ruleset first_pieces = (and_fits)
