-- An attacker stands in the queen-and-knight view of the attacked square.
use Rattle.std.proofs.Common.{◌≡◌, ◌⊎◌, ℕ, pos, negsuc, ◌-◌, ◌*◌, ◌%◌, ◌^◌, ◌<◌, Bool, true, false, not, refl, sym, ap, ◌∙◌, arith, inl, inr, Option, Some, None, bit_and, bit_or, List, [], ◌∷◌, ◌++◌}
use Rattle.std.specs.Prelude.{◌==◌, ◌&&◌, ◌||◌}
use Rattle.std.specs.List.{list_any, list_all}
use Rattle.std.proofs.lemmas.Nat.{and_le_l}
use Rattle.std.proofs.lemmas.List.Folds.{list_any-append}
use Rattle.std.proofs.lemmas.Bool.{cases_eq, false_from_ne_true, both_ways, and_parts, and_from, or_cases, or_left, or_right, eq-eqb, not_from_false, ne_eqb}
use Rattle.shogi_core.specs.declared.offset.Offset.{Offset}
use Rattle.shogi_core.specs.declared.piece.Color.{Color}
use Rattle.shogi_core.specs.declared.piece.Color.TheVariants.{Black, White}
use Rattle.shogi_core.specs.declared.piece.Role.{Role}
use Rattle.shogi_core.specs.declared.piece.Role.TheVariants.{King, Pawn, Lance, Knight, Silver, Gold, Bishop, Rook, PromotedPawn, PromotedLance, PromotedKnight, PromotedSilver, Horse, Dragon}
use Rattle.shogi_core.specs.declared.piece.Piece.{Piece}
use Rattle.shogi_core.specs.Attack.{is_open_king, is_sniper}
use Rattle.shogi_core.specs.Below.{some_below}
use Rattle.shogi_core.specs.Bits.{has_bit}
use Rattle.shogi_core.specs.Cell.{is_piece_of, is_king, is_slider, is_sliding_role}
use Rattle.shogi_core.specs.Movement.{Cells, leads, offset_by, jump_left, jump_right, slides, slides_across, is_step_empty, for_side, slides_of, steps_of, has_slide, has_step, cell_reaches, reaches, piece_at, straight, diagonal}
use Rattle.shogi_core.specs.Sets.{HasNone}
use Rattle.shogi_core.proofs.BitLaws.{has_bit-and, has_bit-or, has_bit-none, has_bit-without}
use Rattle.shogi_core.proofs.Below.{all_below_none, some_below_at, some_below_no, some_below_found}
use Rattle.shogi_core.proofs.LineBits.{and_fits, or_fits}
use Rattle.shogi_core.proofs.RayLaws.{slides_bare}
use Rattle.shogi_core.specs.Lines.{back, around, are_aligned, are_lined, is_jump, is_near, is_seen}
use Rattle.shogi_core.proofs.Back.{away_back, leads_is, is_leads, slides_past_back}
use Rattle.shogi_core.proofs.Discovered.{same_way, list_any_among, list_any_kept, some_below_which}

-- ---- bits

pub cleared_less : (m n : ℕ) → m < 2 ^ 128 → n < 128 → has_bit m n ≡ true → bit_and m (2 ^ 128 - 1 - 1 * 2 ^ n % 2 ^ 128) < m
cleared_less m n fits h e = elim (cases_eq (bit_and m (2 ^ 128 - 1 - 1 * 2 ^ n % 2 ^ 128)) m) [
  | inl same ↦ absurd (both_ways (has_bit m n) (ap (λ x. has_bit x n) (sym same) ∙ (has_bit-without m n n fits h ∙ rw (e, eq-eqb n n refl) refl)) e)
  | inr other ↦ omega (arith, and_le_l m (2 ^ 128 - 1 - 1 * 2 ^ n % 2 ^ 128))
]

pub ruleset cleared = (cleared_less, has_bit-without)

-- ---- lines

pub lined_bits : (cells : Cells) (a b m n : ℕ) → has_bit m b ≡ list_any (λ o. slides cells (for_side Black o) a b) straight → has_bit n b ≡ list_any (λ o. slides cells (for_side Black o) a b) diagonal → has_bit (bit_or m n) b ≡ are_lined cells a b
unfolding are_lined
lined_bits cells a b m n p q = has_bit-or m n b ∙ (rw (p, q) (sym (list_any-append (λ o. slides cells o a b) straight diagonal)))

pub seen_bits : (cells : Cells) (a b m n : ℕ) → has_bit m b ≡ are_lined cells a b → has_bit n b ≡ is_jump a b → has_bit (bit_or m n) b ≡ is_seen cells a b
unfolding is_seen
seen_bits cells a b m n p q = has_bit-or m n b ∙ (rw (p, q) refl)

pub ruleset seen = (seen_bits, or_fits)

-- ---- from the other end

pub slides_back : (cells : Cells) (o : Offset) (a b : ℕ) → a < 81 → slides cells o a b ≡ true → slides cells (back o) b a ≡ true
slides_back cells o a b h e =
    let which = some_below_which 8 (slides_across cells o a b) e in
    some_below_at 8 (slides_across cells (back o) b a) which.0 which.1 (slides_past_back cells o a b which.0 h which.2)

pub slides_back_around : (color : Color) (role : Role) → list_all (λ o. list_any (same_way (back (for_side color o))) around) (slides_of role) ≡ true
slides_back_around Black King = refl
slides_back_around Black _ = refl
slides_back_around White King = refl
slides_back_around White _ = refl

around_back : list_all (λ o. list_any (same_way (back o)) around) around ≡ true
around_back = refl

jumps : List Offset
jumps = jump_left ∷ jump_right ∷ offset_by (pos 1) (pos 2) ∷ offset_by (negsuc 0) (pos 2) ∷ []

steps_back_near : (color : Color) (role : Role) → list_all (λ o. list_any (same_way (back (for_side color o))) (around ++ jumps)) (steps_of role) ≡ true
unfolding jumps
steps_back_near Black King = refl
steps_back_near Black _ = refl
steps_back_near White King = refl
steps_back_near White _ = refl

-- open lines run both ways
pub lined_back : (cells : Cells) (a b : ℕ) → a < 81 → are_lined cells a b ≡ true → are_lined cells b a ≡ true
unfolding are_lined
lined_back cells a b h e =
    list_any_among (λ o. slides cells o b a) back around around around_back
    (list_any_kept (λ o. slides cells o a b) (λ o. slides cells (back o) b a) around (λ o e. slides_back cells o a b h e) e)

pub slide_seen : (cells : Cells) (piece : Piece) (a b : ℕ) → a < 81 → has_slide cells piece a b ≡ true → are_lined cells b a ≡ true
unfolding are_lined
slide_seen cells piece a b h e =
    list_any_among (λ o. slides cells o b a) (λ o. back (for_side piece.color o)) (slides_of piece.role) around (slides_back_around piece.color piece.role)
    (list_any_kept (λ o. slides cells (for_side piece.color o) a b) (λ o. slides cells (back (for_side piece.color o)) b a) (slides_of piece.role) (λ o e. slides_back cells (for_side piece.color o) a b h e) e)

pub leads_back : (o : Offset) (a b : ℕ) → a < 81 → leads 1 o a b ≡ true → leads 1 (back o) b a ≡ true
leads_back o a b h e = is_leads _ a (away_back 1 o a b h (leads_is _ b e))

step_slides : (cells : Cells) (o : Offset) (a b : ℕ) → leads 1 o a b ≡ true → slides cells o a b ≡ true
step_slides cells o a b e = some_below_at 8 (slides_across cells o a b) 0 (omega arith) (and_from _ _ e (all_below_none (is_step_empty cells o a)))

jump_either : (a b : ℕ) → list_any (λ o. leads 1 o a b) jumps ≡ is_jump a b
unfolding jumps
jump_either a b = five (leads 1 jump_left a b) (leads 1 jump_right a b) (leads 1 (offset_by (pos 1) (pos 2)) a b) (leads 1 (offset_by (negsuc 0) (pos 2)) a b)
  where
    five : (p q r s : Bool) → (p || (q || (r || (s || false)))) ≡ ((p || (q || false)) || (r || (s || false)))
    five true q r s = refl
    five false true r s = refl
    five false false r s = refl

step_seen : (cells : Cells) (piece : Piece) (a b : ℕ) → a < 81 → has_step piece a b ≡ true → is_seen cells b a ≡ true
unfolding are_lined is_seen
step_seen cells piece a b h e =
    let near : list_any (λ o. leads 1 o b a) (around ++ jumps) ≡ true =
    list_any_among (λ o. leads 1 o b a) (λ o. back (for_side piece.color o)) (steps_of piece.role) (around ++ jumps) (steps_back_near piece.color piece.role)
    (list_any_kept (λ o. leads 1 (for_side piece.color o) a b) (λ o. leads 1 (back (for_side piece.color o)) b a) (steps_of piece.role) (λ o e. leads_back (for_side piece.color o) a b h e) e) in
    elim (or_cases (list_any (λ o. leads 1 o b a) around) (list_any (λ o. leads 1 o b a) jumps) (sym (list_any-append (λ o. leads 1 o b a) around jumps) ∙ near)) [
      | inl close ↦ or_left (list_any (λ o. slides cells o b a) around) (is_jump b a) (list_any_kept (λ o. leads 1 o b a) (λ o. slides cells o b a) around (λ o e. step_slides cells o b a e) close)
      | inr far ↦ or_right (list_any (λ o. slides cells o b a) around) (is_jump b a) (sym (jump_either b a) ∙ far)
    ]

pub step_near : (piece : Piece) (a b : ℕ) → a < 81 → has_step piece a b ≡ true → is_near b a ≡ true
step_near piece a b h e =
    let near : list_any (λ o. leads 1 o b a) (around ++ jumps) ≡ true =
    list_any_among (λ o. leads 1 o b a) (λ o. back (for_side piece.color o)) (steps_of piece.role) (around ++ jumps) (steps_back_near piece.color piece.role)
    (list_any_kept (λ o. leads 1 (for_side piece.color o) a b) (λ o. leads 1 (back (for_side piece.color o)) b a) (steps_of piece.role) (λ o e. leads_back (for_side piece.color o) a b h e) e) in
    elim (or_cases (list_any (λ o. leads 1 o b a) around) (list_any (λ o. leads 1 o b a) jumps) (sym (list_any-append (λ o. leads 1 o b a) around jumps) ∙ near)) [
      | inl close ↦ or_left (list_any (λ o. leads 1 o b a) around) (is_jump b a) close
      | inr far ↦ or_right (list_any (λ o. leads 1 o b a) around) (is_jump b a) (sym (jump_either b a) ∙ far)
    ]

pub slides_role : (role : Role) (test : Offset → Bool) → list_any test (slides_of role) ≡ true → is_sliding_role role ≡ true
slides_role King test e = absurd (cc)
slides_role Pawn test e = absurd (cc)
slides_role Lance test e = refl
slides_role Knight test e = absurd (cc)
slides_role Silver test e = absurd (cc)
slides_role Gold test e = absurd (cc)
slides_role Bishop test e = refl
slides_role Rook test e = refl
slides_role PromotedPawn test e = absurd (cc)
slides_role PromotedLance test e = absurd (cc)
slides_role PromotedKnight test e = absurd (cc)
slides_role PromotedSilver test e = absurd (cc)
slides_role Horse test e = refl
slides_role Dragon test e = refl

-- an attacker on a is near b, or a slider on an open line with b
cell_near : (cells : Cells) (cell : Option Piece) (a b : ℕ) → a < 81 → cell_reaches cells cell a b ≡ true → (is_near b a ≡ true) ⊎ ((is_slider cell ≡ true) × (are_lined cells b a ≡ true))
cell_near cells None a b h e = absurd (cc)
cell_near cells (Some piece) a b h e = elim (or_cases (has_step piece a b) (has_slide cells piece a b) e) [
  | inl step ↦ inl (step_near piece a b h step)
  | inr slide ↦ inr (slides_role piece.role (λ o. slides cells (for_side piece.color o) a b) slide, slide_seen cells piece a b h slide)
]

pub reaches_near : (cells : Cells) (a b : ℕ) → a < 81 → reaches cells a b ≡ true → (is_near b a ≡ true) ⊎ ((is_slider (piece_at cells a) ≡ true) × (are_lined cells b a ≡ true))
unfolding reaches
reaches_near cells a b h e = cell_near cells (piece_at cells a) a b h e

-- squares on an open line are aligned
pub lined_aligned : (cells : Cells) (a b : ℕ) → are_lined cells a b ≡ true → are_aligned a b ≡ true
unfolding are_lined
lined_aligned cells a b e = list_any_kept (λ o. slides cells o a b) (λ o. slides [] o a b) around (λ o f. slides_bare cells o a b f) e

-- an attacker of b is in its view
pub cell_seen : (cells : Cells) (cell : Option Piece) (a b : ℕ) → a < 81 → cell_reaches cells cell a b ≡ true → is_seen cells b a ≡ true
unfolding is_seen
cell_seen cells None a b h e = absurd (cc)
cell_seen cells (Some piece) a b h e = elim (or_cases (has_step piece a b) (has_slide cells piece a b) e) [
  | inl step ↦ step_seen cells piece a b h step
  | inr slide ↦ or_left (are_lined cells b a) (is_jump b a) (slide_seen cells piece a b h slide)
]

-- ---- the squares that are left to try

-- the mask `left` has every square that passes the test
pub record Covers (left : ℕ) (test : ℕ → Bool) : Type 0 where
  pub all : (a : ℕ) → a < 81 → test a ≡ true → has_bit left a ≡ true

pub covers_less : (left next from : ℕ) (test : ℕ → Bool) → Covers left test → test from ≡ false → ((i : ℕ) → has_bit next i ≡ (has_bit left i && not (i == from))) → Covers next test
covers_less left next from test rest fails bits = record {
  all = λ a h e. bits a ∙ and_from _ _ (rest.all a h e) (not_from_false _ (ne_eqb a from (λ same. both_ways (test from) fails (ap test (sym same) ∙ e))));
}

pub covers_none : (left : ℕ) (test : ℕ → Bool) → HasNone left → Covers left test → false ≡ some_below 81 test
covers_none left test none rest = sym (some_below_no 81 test (λ a h. false_from_ne_true _ (λ e. both_ways (has_bit left a) (none a) (rest.all a h e))))

pub sniper_bits : (cells : Cells) (color : Color) (square own sliders line b : ℕ) → has_bit own b ≡ is_piece_of color (piece_at cells b) → has_bit sliders b ≡ is_slider (piece_at cells b) → has_bit line b ≡ are_aligned square b
    → has_bit (bit_and (bit_and own sliders) line) b ≡ is_sniper cells color square b
sniper_bits cells color square own sliders line b e f g = has_bit-and (bit_and own sliders) line b ∙ (rw (has_bit-and own sliders b, e, f, g) refl)

pub and_and_fits : (a b c : ℕ) → a < 2 ^ 81 → bit_and (bit_and a b) c < 2 ^ 81
and_and_fits a b c h = and_fits (bit_and a b) c (and_fits a b h)

pub ruleset snipers = (sniper_bits, and_and_fits)

pub kings_first : (cells : Cells) (color : Color) (m : ℕ) → ((a : ℕ) → a < 81 → has_bit m a ≡ is_king color (piece_at cells a)) → Covers m (is_open_king cells color)
kings_first cells color m kings = record { all = λ a h e. kings a h ∙ (and_parts _ _ e).0 }

pub ruleset open_kings = (kings_first, covers_less, covers_none, some_below_found)
