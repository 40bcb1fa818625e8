-- Whether any move is legal.
use Rattle.std.proofs.Common.{◌≡◌, ◌≢◌, ℕ, ◌+◌, ◌-◌, ◌*◌, ◌/◌, ◌%◌, ◌^◌, ◌<◌, ◌≤◌, Bool, true, false, List, [], ◌∷◌, Option, refl, sym, ap, ◌∙◌, arith, inl, inr, subst, bit_and, bit_or}
use Rattle.std.specs.Prelude.{◌==◌}
use Rattle.std.specs.Int.{trailing_zeros, w128}
use Rattle.std.proofs.lemmas.Bool.{or_cases, or_left, and_from, both_ways, eq-eqb, cases_lt, true_from_ne_false, false_from_ne_true}
use Rattle.shogi_core.specs.declared.moves.TheConstants.{MOVE_CODE_COUNT, FIRST_DROP, SQUARE_CODES}
use Rattle.shogi_core.specs.declared.bits.TheConstants.{ALL_SQUARES}
use Rattle.shogi_core.specs.declared.moves.Move.TheVariants.{Board, Drop}
use Rattle.shogi_core.specs.declared.piece.Color.{Color}
use Rattle.shogi_core.specs.declared.piece.Kind.{Kind}
use Rattle.shogi_core.specs.declared.piece.Kind.TheVariants as kinds
use Rattle.shogi_core.specs.declared.piece.Piece.{Piece}
use Rattle.shogi_core.specs.Attack.{in_check}
use Rattle.shogi_core.specs.Below.{some_below}
use Rattle.shogi_core.specs.Bits.{has_bit}
use Rattle.shogi_core.specs.Pieces.{kind_number}
use Rattle.shogi_core.specs.Cell.{is_piece_of, is_king, is_immobile}
use Rattle.shogi_core.specs.Codes.{code_of, kind_at}
use Rattle.shogi_core.specs.Movement.{piece_at, reaches}
use Rattle.shogi_core.specs.Position.{Shogi}
use Rattle.shogi_core.proofs.Below.{some_below_at, some_below_no}
use Rattle.shogi_core.proofs.BitLaws.{has_bit-or, has_bit-none}
use Rattle.shogi_core.proofs.CodesBack.{move_of-board, move_of-drop}
use Rattle.shogi_core.proofs.Faults.{number_below}
use Rattle.shogi_core.proofs.LineBits.{lowest_set, or_fits}
use Rattle.shogi_moves.specs.Captures.{is_matching}
use Rattle.shogi_moves.specs.declared.destinations.Destinations.{Destinations}
use Rattle.shogi_moves.specs.Destinations.{leaves_king_safe, AreAllDestinations}
use Rattle.shogi_moves.specs.CheckInfo.{IsCheckInfo}
use Rattle.shogi_moves.specs.Legal.{is_safe, is_some_and_safe, is_safe_code, is_legal, is_legal_code, is_pawn_kind, is_pseudo_legal_board_move}
use Rattle.shogi_moves.specs.LegalMoves.{legal_from, legal_codes}
use Rattle.shogi_moves.specs.Rising.{is_in}
use Rattle.shogi_moves.proofs.DestinationLaws.{drop_matching, legal_board, still, all_ways, entering}
use Rattle.shogi_moves.proofs.KingLaws.{king_own}
use Rattle.shogi_moves.proofs.LegalLaws.{in_legal, legal_in, legal_in_above, legal_code_below, is_legal_code_of, run_without, board_code, drop_code, legal_code_unsafe}
use Rattle.shogi_moves.proofs.SweepLaws.{either, at_code}
use Rattle.shogi_core.proofs.ZoneLaws.{all_squares}

-- info that marks every square claims nothing of pins
pub check_info_rough : (p : Shogi) (checked : Bool) → checked ≡ in_check p.cells p.side → IsCheckInfo p checked ALL_SQUARES
check_info_rough p checked e = record {
  check = e;
  kings = λ n h out. absurd (both_ways (has_bit ALL_SQUARES n) out (all_squares n h));
  stays = λ _ new to h out. absurd (both_ways (has_bit ALL_SQUARES to) out (all_squares to h));
  free = λ _ n h out own. absurd (both_ways (has_bit ALL_SQUARES n) out (all_squares n h));
}

-- a piece without a destination has no move
pub piece_without : (p : Shogi) (from : ℕ) (d : Destinations) → from < 81 → AreAllDestinations p from d → bit_or d.non_promoting.bits d.promoting.bits ≡ 0 → legal_from p (from * SQUARE_CODES) ≡ legal_from p ((from + 1) * SQUARE_CODES)
piece_without p from d hf all none = run_without p (from * SQUARE_CODES) ((from + 1) * SQUARE_CODES) (omega arith) (omega arith) (λ c low high. (
    let out = either d.non_promoting.bits d.promoting.bits (c / 2 % 81) none in
    elim (at_code from c low (omega arith)) [
      | inl at ↦ ap (is_legal_code p) at ∙ (sym (all.non_promoting (c / 2 % 81) (omega arith)) ∙ out.0)
      | inr at ↦ ap (is_legal_code p) at ∙ (sym (all.promoting (c / 2 % 81) (omega arith)) ∙ out.1)
    ]))

-- a kind without a destination has no drop
pub kind_without : (p : Shogi) (kind : Kind) (destinations : ℕ) → ((n : ℕ) → n < 81 → has_bit destinations n ≡ is_matching p false (code_of (Drop kind n))) → destinations ≡ 0
    → legal_from p (FIRST_DROP + kind_number kind * 81) ≡ legal_from p (FIRST_DROP + 81 + kind_number kind * 81)
kind_without p kind destinations bits none =
    let seven : kind_number kind < 7 = number_below kind in
    run_without p (FIRST_DROP + kind_number kind * 81) (FIRST_DROP + 81 + kind_number kind * 81) (omega arith) (omega arith) (λ c low high. (
    let at : c ≡ code_of (Drop kind (c - FIRST_DROP - kind_number kind * 81)) = omega arith in
    let there : c - FIRST_DROP - kind_number kind * 81 < 81 = omega arith in
    ap (is_legal_code p) at
    ∙ (sym (drop_matching p kind (c - FIRST_DROP - kind_number kind * 81) there)
    ∙ (sym (bits (c - FIRST_DROP - kind_number kind * 81) there)
    ∙ (ap (λ m. has_bit m (c - FIRST_DROP - kind_number kind * 81)) none ∙ has_bit-none (c - FIRST_DROP - kind_number kind * 81))))))

pub some_legal : (p : Shogi) (code : ℕ) → is_legal_code p code ≡ true → legal_codes p ≢ []
some_legal p code e none = let clash : false ≡ true = ap (λ codes. is_in code codes) (sym none) ∙ in_legal p 0 code (omega arith) e in cc

-- a piece with a destination has a move
pub piece_with : (p : Shogi) (from : ℕ) (d : Destinations) → AreAllDestinations p from d → bit_or d.non_promoting.bits d.promoting.bits ≢ 0 → legal_codes p ≢ []
piece_with p from d all some =
    let to : ℕ = trailing_zeros w128 (bit_or d.non_promoting.bits d.promoting.bits) in
    let low = lowest_set (bit_or d.non_promoting.bits d.promoting.bits) some (or_fits d.non_promoting.bits d.promoting.bits d.non_promoting.fits d.promoting.fits) in
    elim (or_cases (has_bit d.non_promoting.bits to) (has_bit d.promoting.bits to) (sym (has_bit-or d.non_promoting.bits d.promoting.bits to) ∙ low.1)) [
      | inl here ↦ some_legal p (code_of (Board from to false)) (sym (all.non_promoting to low.0) ∙ here)
      | inr here ↦ some_legal p (code_of (Board from to true)) (sym (all.promoting to low.0) ∙ here)
    ]

-- a kind with a destination has a drop
pub kind_with : (p : Shogi) (kind : Kind) (destinations : ℕ) → destinations < 2 ^ 81 → ((n : ℕ) → n < 81 → has_bit destinations n ≡ is_matching p false (code_of (Drop kind n))) → destinations ≢ 0 → legal_codes p ≢ []
kind_with p kind destinations fits bits some =
    let low = lowest_set destinations some fits in
    some_legal p (code_of (Drop kind (trailing_zeros w128 destinations))) (sym (drop_matching p kind (trailing_zeros w128 destinations) low.0) ∙ (sym (bits (trailing_zeros w128 destinations) low.0) ∙ low.1))

-- a king can move on from any square
pub king_lives : (side : Color) (cell : Option Piece) (t : ℕ) → is_king side cell ≡ true → is_immobile t cell ≡ false
king_lives side cell t e = grind arith

-- a king move to an unattacked square is legal
pub king_move : (p : Shogi) (from to : ℕ) → from < 81 → to < 81 → is_king p.side (piece_at p.cells from) ≡ true → (reaches p.cells from to ≡ true) × (is_piece_of p.side (piece_at p.cells to) ≡ false) → leaves_king_safe p (Board from to false) ≡ true → legal_codes p ≢ []
king_move p from to hf ht king way safe =
    let own : is_piece_of p.side (piece_at p.cells from) ≡ true = king_own p.side (piece_at p.cells from) king in
    let alive : is_immobile to (piece_at p.cells from) ≡ false = king_lives p.side (piece_at p.cells from) to king in
    let allowed : is_pseudo_legal_board_move p.cells p.side from to false ≡ true = rw (own, way.1, way.0, still to (piece_at p.cells from), alive) refl in
    some_legal p (code_of (Board from to false)) (is_legal_code_of p (code_of (Board from to false)) (Board from to false) (move_of-board from to false hf ht) ∙ (legal_board p from to false ∙ and_from _ _ allowed safe))

-- the squares that the king reaches, without those of its own pieces
pub king_ways : (p : Shogi) (from targets own : ℕ) → own < 2 ^ 81 → ((n : ℕ) → n < 81 → has_bit targets n ≡ reaches p.cells from n) → ((n : ℕ) → n < 81 → has_bit own n ≡ is_piece_of p.side (piece_at p.cells n))
    → (n : ℕ) → n < 81 → has_bit (bit_and targets (2 ^ 128 - 1 - own)) n ≡ true → (reaches p.cells from n ≡ true) × (is_piece_of p.side (piece_at p.cells n) ≡ false)
king_ways p from targets own fits t o n h e = all_ways targets (2 ^ 128 - 1 - own) n (reaches p.cells from n) (is_piece_of p.side (piece_at p.cells n)) (t n h) (entering own n _ fits h (o n h)) e

-- ---- safe moves

-- a kind other than the pawn
pub not_pawn : (kind : Kind) → 1 ≤ kind_number kind → is_pawn_kind kind ≡ false
not_pawn kind h = grind arith

not_pawn_at : (n : ℕ) → 1 ≤ n → is_pawn_kind (kind_at n) ≡ false
not_pawn_at n h = grind arith

safe_board : (p : Shogi) (from to : ℕ) (promote : Bool) → is_safe p (Board from to promote) ≡ true → is_legal p (Board from to promote) ≡ true
unfolding is_legal
safe_board p from to promote e = rw e refl

safe_piece : (p : Shogi) (kind : Kind) (to : ℕ) → is_pawn_kind kind ≡ false → is_safe p (Drop kind to) ≡ true → is_legal p (Drop kind to) ≡ true
unfolding is_legal
safe_piece p kind to other e = rw (e, other) refl

-- a safe move that is no pawn drop is legal
legal_if_board : (p : Shogi) (code : ℕ) → code < FIRST_DROP → is_safe_code p code ≡ true → is_legal_code p code ≡ true
legal_if_board p code h e =
    is_legal_code_of p code (Board (code / 2 / 81) (code / 2 % 81) (code % 2 == 1)) (board_code code h)
    ∙ safe_board p (code / 2 / 81) (code / 2 % 81) (code % 2 == 1) (sym (ap (is_some_and_safe p) (board_code code h)) ∙ e)

legal_if_piece : (p : Shogi) (code : ℕ) → FIRST_DROP + 81 ≤ code → code < MOVE_CODE_COUNT → is_safe_code p code ≡ true → is_legal_code p code ≡ true
legal_if_piece p code low high e =
    is_legal_code_of p code (Drop (kind_at ((code - FIRST_DROP) / 81)) ((code - FIRST_DROP) % 81)) (drop_code code (omega arith) high)
    ∙ safe_piece p (kind_at ((code - FIRST_DROP) / 81)) ((code - FIRST_DROP) % 81) (not_pawn_at ((code - FIRST_DROP) / 81) (omega arith)) (sym (ap (is_some_and_safe p) (drop_code code (omega arith) high)) ∙ e)

-- a legal move is safe
safe_code : (p : Shogi) (code : ℕ) → is_legal_code p code ≡ true → some_below MOVE_CODE_COUNT (is_safe_code p) ≡ true
safe_code p code e =
    some_below_at MOVE_CODE_COUNT (is_safe_code p) code (legal_code_below p code e)
    (true_from_ne_false (is_safe_code p code) (λ unsafe. both_ways (is_legal_code p code) (legal_code_unsafe p code unsafe) e))

pub safe_from_legal : (p : Shogi) → legal_codes p ≢ [] → some_below MOVE_CODE_COUNT (is_safe_code p) ≡ true
safe_from_legal p some = go (legal_codes p) (λ code h. legal_in p 0 code h) some
  where
    go : (codes : List ℕ) → ((code : ℕ) → is_in code codes ≡ true → is_legal_code p code ≡ true) → codes ≢ [] → some_below MOVE_CODE_COUNT (is_safe_code p) ≡ true
    go [] all some = absurd (some refl)
    go (code ∷ codes) all some = safe_code p code (all code (or_left (code == code) (is_in code codes) (eq-eqb code code refl)))

-- a pawn with a safe drop makes some move safe; without one, and without another legal move, none is safe
pub pawn_safe : (p : Shogi) (destinations : ℕ) → destinations < 2 ^ 81 → ((n : ℕ) → n < 81 → has_bit destinations n ≡ is_safe p (Drop kinds.Pawn n)) → destinations ≢ 0 → some_below MOVE_CODE_COUNT (is_safe_code p) ≡ true
pawn_safe p destinations fits bits some =
    let low = lowest_set destinations some fits in
    let back = move_of-drop kinds.Pawn (trailing_zeros w128 destinations) low.0 in
    some_below_at MOVE_CODE_COUNT (is_safe_code p) (code_of (Drop kinds.Pawn (trailing_zeros w128 destinations))) (omega (arith, low.0)) (ap (is_some_and_safe p) back ∙ (sym (bits (trailing_zeros w128 destinations) low.0) ∙ low.1))

pawn_unsafe : (p : Shogi) (destinations code : ℕ) → FIRST_DROP ≤ code → code < FIRST_DROP + 81 → ((n : ℕ) → n < 81 → has_bit destinations n ≡ is_safe p (Drop kinds.Pawn n)) → destinations ≡ 0 → is_safe_code p code ≡ false
pawn_unsafe p destinations code low high bits none =
    let k : (code - FIRST_DROP) / 81 ≡ 0 = omega arith in
    let same : kind_at ((code - FIRST_DROP) / 81) ≡ kinds.Pawn = ap kind_at k in
    ap (is_some_and_safe p) (drop_code code low (omega arith))
    ∙ rw same (sym (bits ((code - FIRST_DROP) % 81) (omega arith)) ∙ (ap (λ (m : ℕ). has_bit m ((code - FIRST_DROP) % 81)) none ∙ has_bit-none ((code - FIRST_DROP) % 81)))

pub none_safe : (p : Shogi) (destinations : ℕ) → legal_codes p ≡ legal_from p FIRST_DROP → legal_from p (FIRST_DROP + 81) ≡ [] → ((n : ℕ) → n < 81 → has_bit destinations n ≡ is_safe p (Drop kinds.Pawn n)) → destinations ≡ 0 → some_below MOVE_CODE_COUNT (is_safe_code p) ≡ false
none_safe p destinations board drops bits none = some_below_no MOVE_CODE_COUNT (is_safe_code p) (λ code high. false_from_ne_true (is_safe_code p code) (λ e. elim (cases_lt code FIRST_DROP) [
  | inl below ↦ (let low : FIRST_DROP ≤ code = legal_in_above p FIRST_DROP code (subst (λ (codes : List ℕ). is_in code codes ≡ true) board (in_legal p 0 code (omega arith) (legal_if_board p code below e))) in omega arith)
  | inr above ↦ elim (cases_lt code (FIRST_DROP + 81)) [
    | inl pawn ↦ both_ways (is_safe_code p code) (pawn_unsafe p destinations code above pawn bits none) e
    | inr piece ↦ (let clash : false ≡ true = ap (λ codes. is_in code codes) (sym drops) ∙ in_legal p (FIRST_DROP + 81) code piece (legal_if_piece p code piece high e) in cc)
  ]
]))
