-- A king in check goes away if the moved piece discovers nothing, or captures it.
use Rattle.std.proofs.Common.{◌≡◌, ◌≢◌, ◌^◌, ℕ, ◌<◌, Bool, true, false, not, Option, Some, None, [], sym, ap, subst, ◌∙◌, arith, inl, inr, set, length, length-set, get_or-set_same, get_or-set_other, bit_and}
use Rattle.std.specs.Int.{trailing_zeros, w128}
use Rattle.std.proofs.lemmas.Bool.{cases_eq, both_ways, and_from}
use Rattle.std.proofs.lemmas.List.{set-set}
use Rattle.shogi_core.specs.declared.moves.Move.{Move}
use Rattle.shogi_core.specs.declared.moves.Move.TheVariants.{Board, Drop}
use Rattle.shogi_core.specs.declared.piece.Color.{Color}
use Rattle.shogi_core.specs.declared.piece.Kind.{Kind}
use Rattle.shogi_core.specs.declared.piece.Piece.{Piece}
use Rattle.shogi_core.specs.Attack.{is_attacked, is_sniper}
use Rattle.shogi_core.specs.Bits.{has_bit}
use Rattle.shogi_core.specs.Cell.{is_piece_of, is_king, is_slider, is_sliding_role, HasNoOtherKing}
use Rattle.shogi_core.specs.Lines.{are_aligned}
use Rattle.shogi_core.specs.Movement.{Cells, piece_at, reaches, cell_reaches, has_step, slides, for_side}
use Rattle.shogi_core.specs.Pieces.{opponent_of}
use Rattle.shogi_core.specs.Position.{Shogi, HandCounts}
use Rattle.shogi_core.specs.Validity.{IsValid}
use Rattle.shogi_core.proofs.BitLaws.{has_bit-none}
use Rattle.shogi_core.proofs.LineBits.{lowest_set}
use Rattle.shogi_core.proofs.SeenLaws.{slides_role, sniper_bits}
use Rattle.shogi_core.proofs.Discovered.{attacked_was_but}
use Rattle.shogi_moves.specs.After.{after, cells_after, piece_moved, dropped}
use Rattle.shogi_moves.specs.Escapes.{IsEscape, AreEscapes, HasOpenEscape}
use Rattle.shogi_replies.specs.Escapes.{HasNoSniper}
use Rattle.shogi_core.specs.Moves.{end_of}
use Rattle.shogi_replies.specs.Threats.{IsTaken, MayTake, put_by}
use Rattle.shogi_moves.specs.Legal.{is_legal}
use Rattle.shogi_moves.specs.LegalMoves.{legal_codes}
use Rattle.shogi_moves.proofs.CheckInfoLaws.{look, other_side, own_some, is_piece_of-piece_moved, dropped_of, king_set}
use Rattle.shogi_moves.proofs.DestinationLaws.{legal_board}
use Rattle.shogi_moves.proofs.EscapeLaws.{king_reach, crowned}
use Rattle.shogi_replies.proofs.EscapeLaws.{escaped_covered}
use Rattle.shogi_moves.proofs.KingLaws.{king_own, unreached}
use Rattle.shogi_moves.proofs.MovedPieces.{opponent_twice}
use Rattle.shogi_replies.proofs.ReplyLaws.{legal_own, reply_by, right_step}
use Rattle.shogi_moves.proofs.ExistenceLaws.{king_lives}

-- ---- the king goes away

pub no_sniper_on : (cells : Cells) (side : Color) (square own sliders line : ℕ) → ((a : ℕ) → a < 81 → has_bit own a ≡ is_piece_of side (piece_at cells a)) → ((a : ℕ) → a < 81 → has_bit sliders a ≡ is_slider (piece_at cells a)) → ((a : ℕ) → a < 81 → has_bit line a ≡ are_aligned square a)
    → bit_and (bit_and own sliders) line ≡ 0 → HasNoSniper cells side square
no_sniper_on cells side square own sliders line o s l none a ha =
    sym (sniper_bits cells side square own sliders line a (o a ha) (s a ha) (l a ha)) ∙ (ap (λ (m : ℕ). has_bit m a) none ∙ has_bit-none a)

-- the square of the opponent's king has no piece of the mover
king_off : (p : Shogi) (from k : ℕ) → is_piece_of p.side (piece_at p.cells from) ≡ true → is_king (opponent_of p.side) (piece_at p.cells k) ≡ true → k ≢ from
king_off p from k own crown at =
    both_ways (is_piece_of (opponent_of p.side) (piece_at p.cells from)) (other_side p.side (piece_at p.cells from) own)
    (subst (λ (x : ℕ). is_piece_of (opponent_of p.side) (piece_at p.cells x) ≡ true) at (king_own (opponent_of p.side) (piece_at p.cells k) crown))

-- a piece that does not slide reaches exactly its steps
stepping : (piece : Piece) (to n : ℕ) → is_sliding_role piece.role ≡ false → has_step piece to n ≡ false → (cells : Cells) → cell_reaches cells (Some piece) to n ≡ false
stepping piece to n still short cells = grind (arith, slides_role piece.role (λ o. slides cells (for_side piece.color o) to n))

-- the moved piece does not slide, and no slider of its side is on a line with the square left
pub covered_board : (p : Shogi) (from to steps : ℕ) (promote : Bool) (piece : Piece) → IsValid p → from < 81 → to < 81 → is_legal p (Board from to promote) ≡ true
    → piece_moved promote (piece_at p.cells from) ≡ Some piece → is_sliding_role piece.role ≡ false → HasNoSniper p.cells p.side from
    → ((n : ℕ) → n < 81 → has_bit steps n ≡ has_step piece to n) → HasOpenEscape p steps to → legal_codes (after p (Board from to promote)) ≢ []
covered_board p from to steps promote piece v hf ht legal moved still none bits h =
    let own : is_piece_of p.side (piece_at p.cells from) ≡ true = legal_own p from to promote legal in
    escaped_covered p (cells_after p.cells p.side (Board from to promote)) (after p (Board from to promote)).hands (λ x. x ≡ from) to (piece_moved promote (piece_at p.cells from)) v.cells_fit
    (length-set (set p.cells from None) to (piece_moved promote (piece_at p.cells from)) ∙ (length-set p.cells from None ∙ v.cells_fit))
    (is_piece_of-piece_moved p.side promote (piece_at p.cells from) ∙ own)
    (look p.cells p.side from to (piece_moved promote (piece_at p.cells from)) v.cells_fit hf ht)
    h.king_on h.end h.on_board.0 h.on_board.1 h.king (λ at. king_off p from h.king_on own h.king at)
    h.elsewhere h.escape still_there
    (ap (λ (cell : Option Piece). cell_reaches (set (cells_after p.cells p.side (Board from to promote)) h.king_on None) cell to h.end) moved
    ∙ stepping piece to h.end still (sym (bits h.end h.on_board.1) ∙ h.open_end) (set (cells_after p.cells p.side (Board from to promote)) h.king_on None))
    (λ x at. (omega (arith, at, hf), subst (λ (y : ℕ). is_slider (piece_at (cells_after p.cells p.side (Board from to promote)) y) ≡ false) (sym at) left))
    (λ x a at ha. subst (λ (y : ℕ). is_sniper p.cells p.side y a ≡ false) (sym at) (none a ha))
  where
    still_there : is_slider (piece_moved promote (piece_at p.cells from)) ≡ false
    still_there = ap is_slider moved ∙ still

    left : is_slider (piece_at (cells_after p.cells p.side (Board from to promote)) from) ≡ false
    left = elim (cases_eq from to) [
      | inl same ↦ ap is_slider (ap (piece_at (cells_after p.cells p.side (Board from to promote))) same ∙ get_or-set_same (set p.cells from None) to (piece_moved promote (piece_at p.cells from)) None (omega (arith, length-set p.cells from None, v.cells_fit))) ∙ still_there
      | inr off ↦ ap is_slider (get_or-set_other (set p.cells from None) to from (piece_moved promote (piece_at p.cells from)) None off ∙ get_or-set_same p.cells from None None (omega (arith, v.cells_fit)))
    ]

-- ---- the king captures

pub taken_reply : (p : Shogi) (m : Move) → IsTaken p m → legal_codes (after p m) ≢ []
taken_reply p m taken = reply_by (after p m) taken.taker (end_of m) taken.on_board.0 taken.on_board.1 taken.takes.legal

module _ (cells : Cells) (side : Color) (k to : ℕ) (v : Option Piece) (len : length cells ≡ 81) (hk : k < 81) (ht : to < 81) (crown : is_king side (piece_at cells k) ≡ true) (lone : HasNoOtherKing cells side k) (reached : reaches cells k to ≡ true)
    (foe : is_piece_of (opponent_of side) v ≡ true) (safe : is_attacked (set cells k None) (opponent_of side) to ≡ false) where
  apart : k ≢ to
  apart same = both_ways (reaches cells k to) (subst (λ (y : ℕ). reaches cells k y ≡ false) same (unreached cells k hk)) reached

  at_end : piece_at (set cells to v) to ≡ v
  at_end = get_or-set_same cells to v None (omega (arith, len))

  at_end_lifted : piece_at (set (set cells to v) k None) to ≡ v
  at_end_lifted = get_or-set_other (set cells to v) k to None None (λ same. apart (sym same)) ∙ at_end

  there : piece_at (set cells to v) k ≡ piece_at cells k
  there = get_or-set_other cells to k v None apart

  same_lifted : (x : ℕ) → x ≢ to → piece_at (set (set cells to v) k None) x ≡ piece_at (set cells k None) x
  same_lifted x off = grind (arith, cases_eq x k, length-set cells to v, get_or-set_same (set cells to v) k None None, get_or-set_same cells k None None, get_or-set_other (set cells to v) k x None None, get_or-set_other cells to x v None off, get_or-set_other cells k x None None)

  not_own : is_piece_of side v ≡ false
  not_own = ap (λ (color : Color). is_piece_of color v) (sym (opponent_twice side)) ∙ other_side (opponent_of side) v foe

  -- the piece on the square does not attack it, and opens no line to it
  safe_there : is_attacked (set (set cells to v) k None) (opponent_of side) to ≡ false
  safe_there =
      attacked_was_but (set cells k None) (set (set cells to v) k None) (λ x. ⊥)
      (λ x f. grind (arith, cases_eq x to, own_some (opponent_of side) v foe, at_end_lifted, same_lifted x))
      (opponent_of side) to
      (λ a own. elim (cases_eq a to) [
        | inl at ↦ inr (subst (λ (y : ℕ). reaches (set (set cells to v) k None) y to ≡ false) (sym at) (unreached (set (set cells to v) k None) to ht))
        | inr off ↦ inl (sym (same_lifted a off))
      ])
      (λ x left. absurd left)
      safe

  still_lone : (x : ℕ) → x < 81 → x ≢ k → is_king side (piece_at (set cells to v) x) ≡ false
  still_lone x h other = grind (arith, cases_eq x to, at_end, crowned side v not_own, get_or-set_other cells to x v None, lone x h)

  still_reached : reaches (set cells to v) k to ≡ true
  unfolding reaches
  still_reached = ap (λ (x : Option Piece). cell_reaches (set cells to v) x k to) there ∙ king_reach cells (set cells to v) side (piece_at cells k) k to crown reached

  crown_there : is_king side (piece_at (set cells to v) k) ≡ true
  crown_there = ap (is_king side) there ∙ crown

  own_there : is_piece_of side (piece_at (set cells to v) k) ≡ true
  own_there = king_own side (piece_at (set cells to v) k) crown_there

  pub takes : (hands : HandCounts) → is_legal (record { cells = set cells to v; hands = hands; side = side }) (Board k to false) ≡ true
  takes hands =
      legal_board (record { cells = set cells to v; hands = hands; side = side }) k to false
      ∙ and_from _ _ (right_step (set cells to v) side k to own_there (ap (is_piece_of side) at_end ∙ not_own) still_reached (king_lives side (piece_at (set cells to v) k) to crown_there))
      (ap not (king_set (set cells to v) side k to (piece_moved false (piece_at (set cells to v) k)) (length-set cells to v ∙ len) hk ht (is_piece_of-piece_moved side false (piece_at (set cells to v) k) ∙ own_there) still_lone safe_there))

-- the king captures a piece dropped on one of its escapes
pub taken_drop : (p : Shogi) (kind : Kind) (escapes kings to : ℕ) → IsValid p → to < 81 → AreEscapes p escapes → kings < 2 ^ 81 → ((n : ℕ) → n < 81 → has_bit kings n ≡ is_king (opponent_of p.side) (piece_at p.cells n)) → kings ≢ 0 → has_bit escapes to ≡ true
    → legal_codes (after p (Drop kind to)) ≢ []
taken_drop p kind escapes kings to v ht h fits bits some among =
    let low = lowest_set kings some fits in
    let crown : is_king (opponent_of p.side) (piece_at p.cells (trailing_zeros w128 kings)) ≡ true = sym (bits (trailing_zeros w128 kings) low.0) ∙ low.1 in
    let way : IsEscape p.cells (opponent_of p.side) (trailing_zeros w128 kings) to = h (trailing_zeros w128 kings) to low.0 crown ht among in
    reply_by (after p (Drop kind to)) (trailing_zeros w128 kings) to low.0 ht
    (takes p.cells (opponent_of p.side) (trailing_zeros w128 kings) to (dropped p.side kind) v.cells_fit low.0 ht crown way.step.lone way.step.reached
    (ap (λ (color : Color). is_piece_of color (dropped p.side kind)) (opponent_twice p.side) ∙ dropped_of p.side kind) way.safe (after p (Drop kind to)).hands)

-- the king captures a piece next to it if no other piece of the mover attacks that square
module _ (p : Shogi) (from k to : ℕ) (put : Option Piece) (v : IsValid p) (hk : k < 81) (ht : to < 81) (off : k ≢ from) (crown : is_king (opponent_of p.side) (piece_at p.cells k) ≡ true) (lone : HasNoOtherKing p.cells (opponent_of p.side) k)
    (reached : reaches p.cells k to ≡ true) (mine : is_piece_of p.side put ≡ true) (safe : is_attacked (set (set p.cells from None) k None) p.side to ≡ false) where
  king_stays : piece_at (set p.cells from None) k ≡ piece_at p.cells k
  king_stays = get_or-set_other p.cells from k None None off

  alone : HasNoOtherKing (set p.cells from None) (opponent_of p.side) k
  alone x h other = grind (arith, cases_eq x from, v.cells_fit, get_or-set_same p.cells from None None, get_or-set_other p.cells from x None None, lone x h)

  reached_still : reaches (set p.cells from None) k to ≡ true
  unfolding reaches
  reached_still = ap (λ (x : Option Piece). cell_reaches (set p.cells from None) x k to) king_stays ∙ king_reach p.cells (set p.cells from None) (opponent_of p.side) (piece_at p.cells k) k to crown reached

  king_legal : (hands : HandCounts) → is_legal (record { cells = set (set p.cells from None) to put; hands = hands; side = opponent_of p.side }) (Board k to false) ≡ true
  king_legal hands =
      takes (set p.cells from None) (opponent_of p.side) k to put (length-set p.cells from None ∙ v.cells_fit) hk ht
      (ap (is_king (opponent_of p.side)) king_stays ∙ crown) alone reached_still
      (ap (λ (color : Color). is_piece_of color put) (opponent_twice p.side) ∙ mine)
      (ap (λ (color : Color). is_attacked (set (set p.cells from None) k None) color to) (opponent_twice p.side) ∙ safe)
      hands

pub taken_by_king : (p : Shogi) (from k to : ℕ) (promote : Bool) → IsValid p → from < 81 → k < 81 → to < 81 → is_king (opponent_of p.side) (piece_at p.cells k) ≡ true → HasNoOtherKing p.cells (opponent_of p.side) k
    → reaches p.cells k to ≡ true → is_attacked (set (set p.cells from None) k None) p.side to ≡ false → is_legal p (Board from to promote) ≡ true → MayTake (after p (Board from to promote)) k to false (put_by p (Board from to promote))
taken_by_king p from k to promote v hf hk ht crown lone reached safe legal =
    let own : is_piece_of p.side (piece_at p.cells from) ≡ true = legal_own p from to promote legal in
    record {
      legal = king_legal p from k to (piece_moved promote (piece_at p.cells from)) v hk ht (king_off p from k own crown) crown lone reached (is_piece_of-piece_moved p.side promote (piece_at p.cells from) ∙ own) safe (after p (Board from to promote)).hands;
      stands = get_or-set_same (set p.cells from None) to (piece_moved promote (piece_at p.cells from)) None (omega (arith, length-set p.cells from None, v.cells_fit));
    }

pub drop_taken_by_king : (p : Shogi) (kind : Kind) (k to : ℕ) → IsValid p → k < 81 → to < 81 → is_king (opponent_of p.side) (piece_at p.cells k) ≡ true → HasNoOtherKing p.cells (opponent_of p.side) k
    → reaches p.cells k to ≡ true → is_attacked (set (set p.cells to None) k None) p.side to ≡ false → MayTake (after p (Drop kind to)) k to false (put_by p (Drop kind to))
drop_taken_by_king p kind k to v hk ht crown lone reached safe = record {
  legal = subst (λ (cells : Cells). is_legal (record { cells = cells; hands = (after p (Drop kind to)).hands; side = opponent_of p.side }) (Board k to false) ≡ true) (set-set p.cells to None (dropped p.side kind))
      (king_legal p to k to (dropped p.side kind) v hk ht off crown lone reached (dropped_of p.side kind) safe (after p (Drop kind to)).hands);
  stands = get_or-set_same p.cells to (dropped p.side kind) None (omega (arith, v.cells_fit));
}
  where
    off : k ≢ to
    off same = both_ways (reaches p.cells k to) (subst (λ (y : ℕ). reaches p.cells k y ≡ false) same (unreached p.cells k hk)) reached
