-- A king in check may go to a square that the enemy does not attack.
use Rattle.std.proofs.Common.{◌≡◌, ◌≢◌, ◌⊎◌, ℕ, ◌-◌, ◌^◌, ◌<◌, Bool, true, false, not, Option, None, [], refl, sym, ap, subst, ◌∙◌, arith, inl, inr, set, length, length-set, get_or-set_same, get_or-set_other, bit_and}
use Rattle.std.specs.Prelude.{◌&&◌, ◌||◌, ◌==◌, is_none}
use Rattle.std.specs.List.{list_any}
use Rattle.std.specs.Int.{trailing_zeros, w128}
use Rattle.std.proofs.lemmas.Bool.{cases_eq, false_from_ne_true, both_ways, and_parts, not-true, eq-eqb}
use Rattle.shogi_core.specs.declared.moves.Move.TheVariants.{Drop}
use Rattle.shogi_core.specs.declared.piece.Color.{Color}
use Rattle.shogi_core.specs.declared.piece.Kind.{Kind}
use Rattle.shogi_core.specs.declared.piece.Kind.TheVariants as kinds
use Rattle.shogi_core.specs.declared.piece.Piece.{Piece}
use Rattle.shogi_core.specs.declared.piece.Role.{Role}
use Rattle.shogi_core.specs.declared.piece.Role.TheVariants as roles
use Rattle.shogi_core.specs.Attack.{is_attacked, in_check}
use Rattle.shogi_core.specs.Bits.{has_bit}
use Rattle.shogi_core.specs.Cell.{is_piece_of, is_king, is_king_role}
use Rattle.shogi_core.specs.Lines.{are_lined}
use Rattle.shogi_core.specs.Movement.{Cells, piece_at, reaches, cell_reaches, has_step, slides, slides_of, for_side}
use Rattle.shogi_core.specs.Pieces.{opponent_of}
use Rattle.shogi_core.specs.Position.{Shogi, HandCounts}
use Rattle.shogi_core.specs.Validity.{IsValid}
use Rattle.shogi_core.proofs.BitLaws.{has_bit-and, has_bit-none}
use Rattle.shogi_core.proofs.Faults.{faultless_from}
use Rattle.shogi_core.proofs.Discovered.{attacked_was_but, reach_was}
use Rattle.shogi_core.proofs.LineBits.{lowest_set, has_bit-not}
use Rattle.shogi_moves.specs.After.{after, cells_after, piece_moved, dropped}
use Rattle.shogi_moves.specs.Destinations.{is_mating_square}
use Rattle.shogi_moves.specs.Escapes.{IsEscape, AreKingSteps, AreEscapes, HasOpenEscape}
use Rattle.shogi_moves.specs.LegalMoves.{legal_codes}
use Rattle.shogi_moves.proofs.DropChecks as drops
use Rattle.shogi_moves.proofs.ExistenceLaws.{king_move, safe_from_legal}
use Rattle.shogi_moves.proofs.CheckInfoLaws.{other_side, own_some, is_piece_of-piece_moved, dropped_of, king_set}
use Rattle.shogi_moves.proofs.KingLaws.{king_own, in_no_way}
use Rattle.shogi_moves.proofs.MovedPieces.{opponent_twice}

pub crowned : (color : Color) (cell : Option Piece) → is_piece_of color cell ≡ false → is_king color cell ≡ false
crowned color cell e = grind arith

-- ---- a king reaches the same squares on every board

no_slide : (cells : Cells) (color : Color) (role : Role) (a b : ℕ) → is_king_role role ≡ true → list_any (λ o. slides cells (for_side color o) a b) (slides_of role) ≡ false
no_slide cells color role a b k = grind arith

pub king_reach : (old new : Cells) (side : Color) (cell : Option Piece) (a b : ℕ) → is_king side cell ≡ true → cell_reaches old cell a b ≡ true → cell_reaches new cell a b ≡ true
king_reach old new side cell a b k e = grind (arith, no_slide)

-- ---- the king steps out of the check

-- the only king of the side to move may go to a square that is not attacked
pub escape_legal : (q : Shogi) (k e : ℕ) → length q.cells ≡ 81 → k < 81 → e < 81 → is_king q.side (piece_at q.cells k) ≡ true → IsEscape q.cells q.side k e → legal_codes q ≢ []
escape_legal q k e len hk he crown way =
    king_move q k e hk he crown (way.step.reached, way.step.open_end)
    (ap not (king_set q.cells q.side k e (piece_moved false (piece_at q.cells k)) len hk he (is_piece_of-piece_moved q.side false (piece_at q.cells k) ∙ king_own q.side (piece_at q.cells k) crown) way.step.lone way.safe))

module _ (p : Shogi) (new : Cells) (hands : HandCounts) (Left : ℕ → Type 0) (to : ℕ) (cell : Option Piece) (old_len : length p.cells ≡ 81) (len : length new ≡ 81) (mine : is_piece_of p.side cell ≡ true)
    (see : (x : ℕ) → ((x ≡ to) × (piece_at new x ≡ cell)) ⊎ ((Left x × (piece_at new x ≡ None)) ⊎ (piece_at new x ≡ piece_at p.cells x)))
    (k e : ℕ) (hk : k < 81) (he : e < 81) (crown : is_king (opponent_of p.side) (piece_at p.cells k) ≡ true) (stays : Left k → ⊥) (elsewhere : (k ≢ to) × (e ≢ to)) (escape : IsEscape p.cells (opponent_of p.side) k e) where
  there : piece_at new k ≡ piece_at p.cells k
  there = grind (arith, see k)

  pub opened : (x : ℕ) → is_none (piece_at (set new k None) x) ≡ true → (is_none (piece_at (set p.cells k None) x) ≡ true) ⊎ Left x
  opened x n = grind (arith, see x, cases_eq x k, own_some p.side cell mine, get_or-set_same p.cells k None None, get_or-set_other p.cells k x None None, get_or-set_other new k x None None)

  -- the king's old square is empty
  lifted : (a : ℕ) → a ≡ k → piece_at (set new k None) a ≡ None
  lifted a here = ap (piece_at (set new k None)) here ∙ get_or-set_same new k None None (omega (arith, len))

  pub kept : cell_reaches (set new k None) cell to e ≡ false → (a : ℕ) → is_piece_of (opponent_of (opponent_of p.side)) (piece_at (set new k None) a) ≡ true → (piece_at (set p.cells k None) a ≡ piece_at (set new k None) a) ⊎ (reaches (set new k None) a e ≡ false)
  unfolding reaches
  kept short a own = elim (cases_eq a k) [
    | inl here ↦ grind (arith, lifted a here)
    | inr off ↦ elim (see a) [
      | inl at ↦ inr (ap (λ (x : Option Piece). cell_reaches (set new k None) x a e) (get_or-set_other new k a None None off ∙ at.1) ∙ subst (λ (y : ℕ). cell_reaches (set new k None) cell y e ≡ false) (sym at.0) short)
      | inr rest ↦ grind (arith, rest, get_or-set_other new k a None None off, get_or-set_other p.cells k a None None off)
    ]
  ]

  still_lone : (x : ℕ) → x < 81 → x ≢ k → is_king (opponent_of p.side) (piece_at new x) ≡ false
  still_lone x h other = grind (arith, see x, crowned (opponent_of p.side) cell (other_side p.side cell mine), escape.step.lone x h other)

  still_open : is_piece_of (opponent_of p.side) (piece_at new e) ≡ false
  still_open = grind (arith, see e, escape.step.open_end)

  still_reached : reaches new k e ≡ true
  unfolding reaches
  still_reached = ap (λ (x : Option Piece). cell_reaches new x k e) there ∙ king_reach p.cells new (opponent_of p.side) (piece_at p.cells k) k e crown escape.step.reached

  pub still_out : is_attacked (set new k None) (opponent_of (opponent_of p.side)) e ≡ false → legal_codes (record { cells = new; hands = hands; side = opponent_of p.side }) ≢ []
  still_out safe =
      escape_legal (record { cells = new; hands = hands; side = opponent_of p.side }) k e len hk he (ap (is_king (opponent_of p.side)) there ∙ crown)
      (record { step = record { lone = still_lone; reached = still_reached; open_end = still_open }; safe = safe })

  -- the moved piece does not reach the escape, and no square left empty is on a line with it
  module _ (short : cell_reaches (set p.cells k None) cell to e ≡ false) (free : (x : ℕ) → Left x → are_lined (set p.cells k None) x e ≡ false) where
    out_of_reach : is_attacked (set new k None) (opponent_of (opponent_of p.side)) e ≡ false
    out_of_reach = attacked_was_but (set p.cells k None) (set new k None) Left opened (opponent_of (opponent_of p.side)) e
        (kept (false_from_ne_true (cell_reaches (set new k None) cell to e) (λ r. both_ways (cell_reaches (set p.cells k None) cell to e) short (reach_was (set p.cells k None) (set new k None) Left opened cell to e free r))))
        free escape.safe

    pub escaped : legal_codes (record { cells = new; hands = hands; side = opponent_of p.side }) ≢ []
    escaped = still_out out_of_reach

-- ---- after the drop of a piece

pub escaped_drop : (p : Shogi) (kind : Kind) (to closed : ℕ) → IsValid p → to < 81 → (h : HasOpenEscape p closed to)
    → cell_reaches (set p.cells h.king_on None) (dropped p.side kind) to h.end ≡ false → legal_codes (after p (Drop kind to)) ≢ []
escaped_drop p kind to closed v ht h short =
    escaped p (cells_after p.cells p.side (Drop kind to)) (after p (Drop kind to)).hands (λ x. ⊥) to (dropped p.side kind) v.cells_fit
    (length-set p.cells to (dropped p.side kind) ∙ v.cells_fit)
    (dropped_of p.side kind)
    (λ x. elim (drops.look p.cells p.side kind to v.cells_fit ht x) [ inl there ↦ inl there | inr same ↦ inr (inr same) ])
    h.king_on h.end h.on_board.0 h.on_board.1 h.king (λ left. absurd left)
    h.elsewhere h.escape short (λ x left. absurd left)

-- ---- escapes as sets of squares

pub found_open : (p : Shogi) (escapes closed kings free to : ℕ) → AreEscapes p escapes → closed < 2 ^ 81 → kings < 2 ^ 81 → free < 2 ^ 81 → ((n : ℕ) → n < 81 → has_bit kings n ≡ is_king (opponent_of p.side) (piece_at p.cells n)) → kings ≢ 0 → has_bit kings to ≡ false
    → ((n : ℕ) → has_bit free n ≡ (has_bit (bit_and escapes (2 ^ 128 - 1 - closed)) n && not (n == to))) → free ≢ 0 → HasOpenEscape p closed to
found_open p escapes closed kings free to h fits kings_fit free_fits bits some off left some_free =
    let low = lowest_set kings some kings_fit in
    let crown : is_king (opponent_of p.side) (piece_at p.cells (trailing_zeros w128 kings)) ≡ true = sym (bits (trailing_zeros w128 kings) low.0) ∙ low.1 in
    let end = lowest_set free some_free free_fits in
    let apart : (has_bit (bit_and escapes (2 ^ 128 - 1 - closed)) (trailing_zeros w128 free) ≡ true) × (not (trailing_zeros w128 free == to) ≡ true) = and_parts _ _ (sym (left (trailing_zeros w128 free)) ∙ end.1) in
    let parts : (has_bit escapes (trailing_zeros w128 free) ≡ true) × (has_bit (2 ^ 128 - 1 - closed) (trailing_zeros w128 free) ≡ true) = and_parts _ _ (sym (has_bit-and escapes (2 ^ 128 - 1 - closed) (trailing_zeros w128 free)) ∙ apart.0) in
    record {
      king_on = trailing_zeros w128 kings;
      end = trailing_zeros w128 free;
      on_board = (low.0, end.0);
      king = crown;
      escape = h (trailing_zeros w128 kings) (trailing_zeros w128 free) low.0 crown end.0 parts.0;
      open_end = not-true _ (sym (has_bit-not closed (trailing_zeros w128 free) (omega arith) (omega (arith, end.0))) ∙ parts.1);
      elsewhere = (λ at. both_ways (has_bit kings to) off (subst (λ (x : ℕ). has_bit kings x ≡ true) at low.1), λ at. both_ways _ (ap not (eq-eqb _ to at)) apart.1);
    }

-- the squares to which the only king steps without those of its own pieces
pub found_steps : (p : Shogi) (king squares : ℕ) → ((x : ℕ) → x < 81 → x ≢ king → is_king (opponent_of p.side) (piece_at p.cells x) ≡ false)
    → ((n : ℕ) → n < 81 → has_bit squares n ≡ true → (reaches p.cells king n ≡ true) × (is_piece_of (opponent_of p.side) (piece_at p.cells n) ≡ false)) → AreKingSteps p squares
found_steps p king squares lone ways = λ k e hk crown he set.
    let same : k ≡ king = grind (arith, cases_eq k king, lone k hk) in
    record { lone = rw same lone; reached = rw same (ways e he set).0; open_end = (ways e he set).1 }

-- unattacked steps are escapes: out of check, the king blocks no attack on them
pub found_escapes : (p : Shogi) (steps squares : ℕ) → IsValid p → AreKingSteps p steps → ((n : ℕ) → n < 81 → has_bit squares n ≡ true → (has_bit steps n ≡ true) × (is_attacked p.cells p.side n ≡ false)) → AreEscapes p squares
found_escapes p steps squares v s found = λ k e hk crown he set.
    let here = found e he set in
    record {
      step = s k e hk crown he here.0;
      safe = sym (in_no_way p.cells (opponent_of p.side) k v.cells_fit hk crown (faultless_from p v.no_fault).shut e he) ∙ (ap (λ (color : Color). is_attacked p.cells color e) (opponent_twice p.side) ∙ here.1);
    }

-- the only square of a set
pub one_square : (bit square n : ℕ) → ((i : ℕ) → has_bit bit i ≡ (has_bit 0 i || (i == square))) → has_bit bit n ≡ true → n ≡ square
one_square bit square n bits e = grind (arith, bits n, has_bit-none n)

-- a pawn drop that leaves an escape does not mate
pub escaped_pawn : (p : Shogi) (to steps : ℕ) → IsValid p → to < 81 → HasOpenEscape p steps to → ((n : ℕ) → n < 81 → has_bit steps n ≡ has_step (record { color = p.side; role = roles.Pawn }) to n) → is_mating_square p to ≡ false
escaped_pawn p to steps v ht h bits =
    let short : cell_reaches (set p.cells h.king_on None) (dropped p.side kinds.Pawn) to h.end ≡ false = stepping (sym (bits h.end h.on_board.1) ∙ h.open_end) in
    let some = safe_from_legal (after p (Drop kinds.Pawn to)) (escaped_drop p kinds.Pawn to steps v ht h short) in
    unmated (in_check (after p (Drop kinds.Pawn to)).cells (after p (Drop kinds.Pawn to)).side) _ some
  where
    stepping : has_step (record { color = p.side; role = roles.Pawn }) to h.end ≡ false → cell_reaches (set p.cells h.king_on None) (dropped p.side kinds.Pawn) to h.end ≡ false
    stepping none = rw none refl

    unmated : (check some : Bool) → some ≡ true → (check && not some) ≡ false
    unmated check some e = grind arith
