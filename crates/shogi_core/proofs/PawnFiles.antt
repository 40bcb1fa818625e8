-- Files with an unpromoted pawn of a side.
use Rattle.std.proofs.Common.{◌≡◌, ℕ, ◌<◌, ◌+◌, ◌-◌, ◌*◌, ◌/◌, ◌%◌, ◌≤◌, min, Bool, true, false, not, List, Option, None, Some, refl, sym, ap, ◌∙◌, arith, get_or, subst, length, take, drop, bit_and, bit_or, ◌^◌, inl, inr}
use Rattle.std.specs.Prelude.{◌&&◌, ◌==◌, nat_lt}
use Rattle.std.proofs.lemmas.Bool.{both_ways, cases_Bool, eq-eqb, false_from_ne_true, lt-ltb, le-ltb, eqb-true, and_from, and_parts}
use Rattle.std.proofs.lemmas.List.{get_or-drop, get_or-take, length-drop, length-take, length-take-le}
use Rattle.shogi_core.specs.declared.piece.Color.{Color}
use Rattle.shogi_core.specs.declared.squares.Squares.{Squares}
use Rattle.shogi_core.specs.Bits.{HasBits, has_bit}
use Rattle.shogi_core.specs.declared.piece.Piece.{Piece}
use Rattle.shogi_core.specs.declared.piece.Role.{Role}
use Rattle.shogi_core.specs.declared.piece.Role.TheVariants as roles
use Rattle.shogi_core.specs.Cell.{is_king, is_king_role, is_pawn, is_pawn_role, is_piece_of, is_slider, is_sliding_role}
use Rattle.shogi_core.specs.Movement.{Cells, piece_at}
use Rattle.shogi_core.specs.Pieces.{is_same_color}
use Rattle.shogi_core.specs.Validity.{pawns_on_file}
use Rattle.shogi_core.specs.Sets.{IsUnion}
use Rattle.shogi_core.proofs.Counting.{none_counted, some_counted}
use Rattle.shogi_core.proofs.BitLaws.{has_bit-and, has_bit-none, has_bit-or}
use Rattle.shogi_core.proofs.LineBits.{has_bit-not}
use Rattle.shogi_core.specs.declared.zones.TheConstants.{FILES}
use Rattle.shogi_core.proofs.ZoneLaws.{files_right, files_fit}

-- ---- the pawns of a file

on_file_at : (cells : Cells) (f i : ℕ) → i < 9 → get_or (take 9 (drop (9 * f) cells)) i None ≡ piece_at cells (9 * f + i)
on_file_at cells f i h = get_or-take 9 (drop (9 * f) cells) i None h ∙ get_or-drop (9 * f) cells i None

within : {X : Type 0} (xs : List X) (s : ℕ) → length xs ≡ 81 → s < 81 → s % 9 < length (take 9 (drop (9 * (s / 9)) xs))
within xs s len h =
    let rest : length (drop (9 * (s / 9)) xs) ≡ length xs - 9 * (s / 9) = length-drop (9 * (s / 9)) xs in
    let all : length (take 9 (drop (9 * (s / 9)) xs)) ≡ 9 = length-take-le 9 (drop (9 * (s / 9)) xs) (omega (arith, rest, len)) in
    omega (arith, all)

few : {X : Type 0} (xs : List X) → length (take 9 xs) ≤ 9
few xs = let all : length (take 9 xs) ≡ min 9 (length xs) = length-take 9 xs in omega (arith, all)

pub pawn_there : (cells : Cells) (side : Color) (s : ℕ) → length cells ≡ 81 → s < 81 → is_pawn side (piece_at cells s) ≡ true → 0 < pawns_on_file side (s / 9) cells
pawn_there cells side s len h e =
    let at : 9 * (s / 9) + s % 9 ≡ s = omega arith in
    some_counted (is_pawn side) (take 9 (drop (9 * (s / 9)) cells)) (s % 9) None (within cells s len h) (ap (is_pawn side) (on_file_at cells (s / 9) (s % 9) (omega arith) ∙ ap (piece_at cells) at) ∙ e)

pub pawn_nowhere : (cells : Cells) (side : Color) (f : ℕ) → f < 9 → ((s : ℕ) → s < 81 → s / 9 ≡ f → is_pawn side (piece_at cells s) ≡ false) → pawns_on_file side f cells ≡ 0
pawn_nowhere cells side f hf none = none_counted (is_pawn side) (take 9 (drop (9 * f) cells)) None (λ i h. (
    let low : i < 9 = omega (arith, h, few (drop (9 * f) cells)) in
    let there : (9 * f + i) / 9 ≡ f = omega (arith, low) in
    ap (is_pawn side) (on_file_at cells f i low) ∙ none (9 * f + i) (omega (arith, low)) there))

-- ---- the files of the pawns among the pieces that do not slide

pawn_own : (side : Color) (cell : Option Piece) → is_pawn side cell ≡ true → is_piece_of side cell ≡ true
pawn_own side None e = e
pawn_own side (Some piece) e = (and_parts (is_same_color side piece.color) (is_pawn_role piece.role) e).0

-- a pawn is neither slider nor king
pawn_steps : (side : Color) (cell : Option Piece) → is_pawn side cell ≡ true → (is_slider cell ≡ false) × (is_king side cell ≡ false)
pawn_steps side None e = absurd (cc)
pawn_steps side (Some piece) e = go (is_same_color side piece.color) piece.role (and_parts (is_same_color side piece.color) (is_pawn_role piece.role) e).1
  where
    go : (mine : Bool) (role : Role) → is_pawn_role role ≡ true → (is_sliding_role role ≡ false) × ((mine && is_king_role role) ≡ false)
    go true roles.Pawn h = (refl, refl)
    go false roles.Pawn h = (refl, refl)
    go mine _ h = absurd (cc)

-- a pawn's square is looked at
stepper : (cells : Cells) (side : Color) (own sliders kings n : ℕ) → bit_or sliders kings < 2 ^ 128 → n < 81 → has_bit own n ≡ is_piece_of side (piece_at cells n) → has_bit sliders n ≡ is_slider (piece_at cells n) → has_bit kings n ≡ is_king side (piece_at cells n)
    → is_pawn side (piece_at cells n) ≡ true → has_bit (bit_and own (2 ^ 128 - 1 - bit_or sliders kings)) n ≡ true
stepper cells side own sliders kings n fits h owns slides crowns e =
    let step = pawn_steps side (piece_at cells n) e in
    let off : has_bit (bit_or sliders kings) n ≡ false = has_bit-or sliders kings n ∙ rw (slides, crowns, step.0, step.1) refl in
    has_bit-and own (2 ^ 128 - 1 - bit_or sliders kings) n
    ∙ and_from _ _ (owns ∙ pawn_own side (piece_at cells n) e) (has_bit-not (bit_or sliders kings) n fits (omega arith) ∙ ap not off)

-- the mask of a pawn's file
pub its_file : (pawn : Bool) (k n : ℕ) → pawn ≡ true → k < 81 → n < 81 → has_bit (get_or FILES (k / 9) 0) n ≡ (pawn && n / 9 == k / 9)
its_file pawn k n e hk hn = rw e (files_right (k / 9) n (omega arith) hn)

pub its_file_fits : (k : ℕ) → k < 81 → get_or FILES (k / 9) 0 < 2 ^ 81
its_file_fits k h = files_fit (k / 9) (omega arith)

pub no_file : (pawn : Bool) (n : ℕ) (b : Bool) → pawn ≡ false → has_bit 0 n ≡ (pawn && b)
no_file pawn n b e = rw e (has_bit-none n)

pub ruleset pawn_file_bits = (its_file, its_file_fits, no_file)

pub pawn_files_right : (cells : Cells) (side : Color) (post : ℕ → Squares → Type 0) (own sliders kings mask : ℕ) → length cells ≡ 81 → bit_or sliders kings < 2 ^ 128 → ((n : ℕ) → n < 81 → has_bit own n ≡ is_piece_of side (piece_at cells n)) → ((n : ℕ) → n < 81 → has_bit sliders n ≡ is_slider (piece_at cells n))
    → ((n : ℕ) → n < 81 → has_bit kings n ≡ is_king side (piece_at cells n)) → ((k : ℕ) (led : Squares) → k < 81 → post k led → HasBits led.bits (λ n. is_pawn side (piece_at cells k) && n / 9 == k / 9)) → IsUnion post (bit_and own (2 ^ 128 - 1 - bit_or sliders kings)) mask
    → HasBits mask (λ n. nat_lt 0 (pawns_on_file side (n / 9) cells))
pawn_files_right cells side post own sliders kings mask len fits owns slides crowns each union n low = elim (cases_Bool (has_bit mask n)) [
  | inl found ↦ (
      let from = union.only n found in
      found ∙ sym (lt-ltb 0 (pawns_on_file side (n / 9) cells) (pawn_at from.0 from.1 (and_parts _ _ (sym (each from.0 from.3 from.1 from.4 n low) ∙ from.5)))))
  | inr none ↦ (
      let nowhere : pawns_on_file side (n / 9) cells ≡ 0 = pawn_nowhere cells side (n / 9) (omega arith) (λ s below file. false_from_ne_true (is_pawn side (piece_at cells s)) (λ e. (
      let to = union.all s below (stepper cells side own sliders kings s fits below (owns s below) (slides s below) (crowns s below) e) in
      both_ways (has_bit mask n) none (to.2 n (each s to.0 below to.1 n low ∙ and_from _ _ e (eq-eqb (n / 9) (s / 9) (sym file))))))) in
      none ∙ sym (le-ltb 0 (pawns_on_file side (n / 9) cells) (omega (arith, nowhere))))
]
  where
    pawn_at : (k : ℕ) → k < 81 → (is_pawn side (piece_at cells k) ≡ true) × ((n / 9 == k / 9) ≡ true) → 0 < pawns_on_file side (n / 9) cells
    pawn_at k h e = subst (λ (f : ℕ). 0 < pawns_on_file side f cells) (sym (eqb-true (n / 9) (k / 9) e.1)) (pawn_there cells side k len h e.0)
