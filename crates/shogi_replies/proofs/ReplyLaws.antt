-- After most moves the opponent has a legal reply.
use Rattle.std.proofs.Common.{◌≡◌, ◌≢◌, ℕ, ◌-◌, ◌^◌, ◌<◌, ◌⊎◌, Bool, true, false, not, Option, Some, None, List, [], ◌∷◌, refl, sym, ap, subst, ◌∙◌, arith, inl, inr, filter, set, length, length-set, get_or-set_same, get_or-set_other, bit_and, bit_or}
use Rattle.std.specs.Prelude.{◌==◌, ◌&&◌, ◌||◌, nat_lt, is_none}
use Rattle.std.specs.Int.{trailing_zeros, w128}
use Rattle.std.proofs.lemmas.Bool.{cases_eq, false_from_ne_true, both_ways, and_parts, and_from, or_left, or_right, or_cases, or_parts, not-true, not_from_false, ne_eqb, eq-eqb, eqb-true}
use Rattle.shogi_core.specs.declared.moves.Move.{Move}
use Rattle.shogi_core.specs.declared.moves.Move.TheVariants.{Board, Drop}
use Rattle.shogi_core.specs.declared.piece.Color.{Color}
use Rattle.shogi_core.specs.declared.piece.Kind.{Kind}
use Rattle.shogi_core.specs.declared.piece.Kind.TheVariants as kinds
use Rattle.shogi_core.specs.declared.piece.Piece.{Piece}
use Rattle.shogi_core.specs.Attack.{in_check, is_sniping, cell_steps}
use Rattle.shogi_core.specs.Below.{some_below}
use Rattle.shogi_core.specs.Bits.{has_bit}
use Rattle.shogi_core.specs.Cell.{is_piece_of, is_king, is_immobile}
use Rattle.shogi_core.specs.Codes.{code_of, move_of}
use Rattle.shogi_core.specs.Lines.{are_aligned, are_lined, is_jump, is_line_to_king, is_lined_with_king, is_seen}
use Rattle.shogi_core.specs.Movement.{Cells, piece_at, reaches, cell_reaches, has_step, has_slide}
use Rattle.shogi_core.specs.Pieces.{opponent_of}
use Rattle.shogi_core.specs.Position.{Shogi, HandCounts, count_in_hand, place_of}
use Rattle.shogi_core.specs.Sets.{HasNone, TakesLowest}
use Rattle.shogi_core.specs.Validity.{IsValid}
use Rattle.shogi_core.proofs.Below.{some_below_no, some_below_not, some_below_at}
use Rattle.shogi_core.proofs.BitLaws.{has_bit-and, has_bit-or, has_bit-none}
use Rattle.shogi_core.proofs.CodesBack.{move_of-board, move_of-drop}
use Rattle.shogi_core.proofs.Discovered.{some_below_which, reach_was}
use Rattle.shogi_core.proofs.Faults.{faultless_from, number_below}
use Rattle.shogi_core.proofs.LineBits.{lowest_set, has_bit-not}
use Rattle.shogi_core.proofs.Replies.{no_check}
use Rattle.shogi_core.proofs.SeenLaws.{lined_back, lined_aligned, cell_seen, slide_seen}
use Rattle.shogi_core.proofs.Snipers.{left_unpinned}
use Rattle.shogi_moves.specs.After.{after, cells_after, piece_moved, dropped, with_captured}
use Rattle.shogi_moves.specs.Legal.{is_legal, is_safe, is_pseudo_legal_board_move, is_pseudo_legal_drop, is_pawn_kind, is_mated_by_drop}
use Rattle.shogi_moves.specs.LegalMoves.{legal_codes}
use Rattle.shogi_moves.specs.Rising.{is_in}
use Rattle.shogi_moves.specs.declared.origin.Origin.{Origin}
use Rattle.shogi_moves.specs.declared.origin.Origin.TheVariants as origins
use Rattle.shogi_moves.specs.Origins.{move_to, put_from}
use Rattle.shogi_replies.specs.ReplyInfo.{holds_free, is_quiet, is_quiet_code, quiet_codes, is_line_of_king, is_aligned_with_king, is_quiet_step, is_step_beside, is_unbound, is_spare, is_way, HasOthers, AreQuietSteps, LeaveFreeMovers, HasFromKings, Sees, Aligns, IsReplyInfo, IsHarmless, IsHarmlessFrom, StaysCovered, DiscoversNothing, DiscoversWithin, OpensChecksWithin, IsOpen, IsAnswered, IsQuietlyAnswered, GuaranteesReply}
use Rattle.shogi_moves.proofs.DropChecks as drops
use Rattle.shogi_moves.proofs.DestinationLaws.{legal_board, legal_drop, drop_matching, still}
use Rattle.shogi_moves.proofs.ExistenceLaws.{some_legal}
use Rattle.shogi_moves.proofs.EscapeLaws.{crowned}
use Rattle.shogi_moves.proofs.CheckInfoLaws.{look, other_side, own_some, is_piece_of-piece_moved, dropped_of, quiet_board, quiet_drop}
use Rattle.shogi_moves.proofs.LegalLaws.{is_legal_code_of, legal_to_listed}

-- a kind that has a move from every square, and is no pawn
abbrev pub is_free_kind : Kind → Bool
is_free_kind kinds.Silver = true
is_free_kind kinds.Gold = true
is_free_kind kinds.Bishop = true
is_free_kind kinds.Rook = true
is_free_kind _ = false

-- ---- quiet moves

kept_in : (t : ℕ → Bool) (c : ℕ) (codes : List ℕ) → is_in c codes ≡ true → t c ≡ true → is_in c (filter t codes) ≡ true
kept_in t c [] i skips = absurd (cc)
kept_in t c (code ∷ codes) i skips = grind (arith, kept_in t c codes)

-- a quiet legal move is among the quiet codes
pub some_quiet : (q : Shogi) (m : Move) → move_of (code_of m) ≡ Some m → is_legal q m ≡ true → is_quiet q (Some m) ≡ true → quiet_codes q ≢ []
some_quiet q m back legal quiet none =
    let among : is_in (code_of m) (quiet_codes q) ≡ true = kept_in (is_quiet_code q) (code_of m) (legal_codes q) (legal_to_listed q m back legal) (ap (is_quiet q) back ∙ quiet) in
    let clash : false ≡ true = ap (is_in (code_of m)) (sym none) ∙ among in
    cc

-- if there is a quiet legal move, some move is legal
pub quiet_legal : (q : Shogi) → quiet_codes q ≢ [] → legal_codes q ≢ []
quiet_legal q some none = some (ap (filter (is_quiet_code q)) none)

-- a legal board move without promotion is a legal reply
pub reply_by : (q : Shogi) (k to : ℕ) → k < 81 → to < 81 → is_legal q (Board k to false) ≡ true → legal_codes q ≢ []
reply_by q k to hk ht legal = some_legal q (code_of (Board k to false)) (is_legal_code_of q (code_of (Board k to false)) (Board k to false) (move_of-board k to false hk ht) ∙ legal)

-- an empty square has no piece of either side
pub unowned : (color : Color) (cell : Option Piece) → is_none cell ≡ true → is_piece_of color cell ≡ false
unowned color cell bare = grind arith

-- ---- the view of a king, and its lines

pub kings_first : (holds : ℕ → ℕ → Bool) (cells : Cells) (side : Color) (m : ℕ) → ((n : ℕ) → n < 81 → has_bit m n ≡ is_king side (piece_at cells n)) → HasFromKings holds cells side m m
kings_first holds cells side m bits = record {
  kings = λ n h e. bits n h ∙ e;
  squares = λ k n h l e out seen. absurd (both_ways (has_bit m k) out (bits k h ∙ e));
}

pub kings_more : (holds : ℕ → ℕ → Bool) (cells : Cells) (side : Color) (left next mask king squares : ℕ) → HasFromKings holds cells side left mask → ((i : ℕ) → has_bit next i ≡ (has_bit left i && not (i == king)))
    → ((n : ℕ) → n < 81 → has_bit squares n ≡ holds king n) → HasFromKings holds cells side next (bit_or mask squares)
kings_more holds cells side left next mask king squares h bits on_these = record {
  kings = λ n l e. grind (arith, has_bit-or mask squares n, h.kings n l e);
  squares = λ k n l r e out on. grind (arith, has_bit-or mask squares n, cases_eq k king, on_these n r, bits k, h.squares k n l r e);
}

pub kings_done : (holds : ℕ → ℕ → Bool) (cells : Cells) (side : Color) (left mask : ℕ) → HasNone left → HasFromKings holds cells side left mask → HasFromKings holds cells side 0 mask
kings_done holds cells side left mask none s = record { kings = s.kings; squares = λ k n h l e _ on. s.squares k n h l e (none k) on }

pub ruleset seeing = (kings_first, kings_done)

-- a square on no line with a king
pub unaligned : (cells : Cells) (side : Color) (lines n : ℕ) → Aligns cells side 0 lines → n < 81 → has_bit lines n ≡ false → is_aligned_with_king cells side n ≡ false
unfolding is_aligned_with_king
unaligned cells side lines n s h out = some_below_no 81 (is_line_of_king cells side n) (λ k l. false_from_ne_true (is_line_of_king cells side n k) (λ e. (
    let parts : (is_king side (piece_at cells k) ≡ true) × (are_aligned k n ≡ true) = and_parts _ _ e in
    both_ways (has_bit lines n) out (s.squares k n l h parts.0 (has_bit-none k) parts.1))))

-- a square on no line with a king is on no open line with it, wherever the other pieces stand
pub stays_unlined : (old new : Cells) (color : Color) (a : ℕ) → a < 81 → ((k : ℕ) → is_king color (piece_at new k) ≡ true → piece_at old k ≡ piece_at new k) → is_aligned_with_king old color a ≡ false → is_lined_with_king new color a ≡ false
unfolding is_lined_with_king is_aligned_with_king
stays_unlined old new color a h kings off = some_below_no 81 (is_line_to_king new color a) (λ k l. false_from_ne_true (is_line_to_king new color a k) (λ e. (
    let parts : (is_king color (piece_at new k) ≡ true) × (are_lined new a k ≡ true) = and_parts _ _ e in
    both_ways (is_line_of_king old color a k) (some_below_not 81 (is_line_of_king old color a) k off l)
    (and_from _ _ (ap (is_king color) (kings k parts.0) ∙ parts.0) (lined_back [] a k h (lined_aligned new a k parts.1))))))

-- ---- snipers on open lines with a square

pub covered : (cells : Cells) (side : Color) (n open_lines snipers lines : ℕ) → ((a : ℕ) → a < 81 → has_bit open_lines a ≡ are_lined cells n a) → ((a : ℕ) → a < 81 → has_bit snipers a ≡ is_sniping cells side a) → ((a : ℕ) → a < 81 → has_bit lines a ≡ are_aligned n a) → bit_and open_lines (bit_and snipers lines) ≡ 0 → StaysCovered cells side n
covered cells side n open_lines snipers lines o s l none a h sniping =
    grind (arith, has_bit-and open_lines (bit_and snipers lines) a, has_bit-and snipers lines a, o a h, s a h, l a h, lined_aligned cells n a, ap (λ m. has_bit m a) none, has_bit-none a)

-- no sniper is on a line with the square, whatever stands between
pub covered_by_none : (cells : Cells) (side : Color) (n snipers lines : ℕ) → ((a : ℕ) → a < 81 → has_bit snipers a ≡ is_sniping cells side a) → ((a : ℕ) → a < 81 → has_bit lines a ≡ are_aligned n a) → bit_and snipers lines ≡ 0 → StaysCovered cells side n
covered_by_none cells side n snipers lines s l none a h sniping = false_from_ne_true (are_lined cells n a) (λ lined. both_ways (has_bit (bit_and snipers lines) a) (ap (λ m. has_bit m a) none ∙ has_bit-none a)
    (has_bit-and snipers lines a ∙ and_from _ _ (s a h ∙ sniping) (l a h ∙ lined_aligned cells n a lined)))

-- a square out of the king view is on no open line with a king
unlined : (cells : Cells) (side : Color) (king_view n : ℕ) → Sees cells side 0 king_view → n < 81 → has_bit king_view n ≡ false → is_lined_with_king cells side n ≡ false
unfolding is_lined_with_king is_seen
unlined cells side king_view n s h out = some_below_no 81 (is_line_to_king cells side n) (λ k l. false_from_ne_true (is_line_to_king cells side n k) (λ e. (
    let parts : (is_king side (piece_at cells k) ≡ true) × (are_lined cells n k ≡ true) = and_parts _ _ e in
    both_ways (has_bit king_view n) out (s.squares k n l h parts.0 (has_bit-none k) (or_left (are_lined cells k n) (is_jump k n) (lined_back cells n k h parts.1))))))

unseen : (cells : Cells) (side : Color) (king_view n : ℕ) → Sees cells side 0 king_view → n < 81 → has_bit king_view n ≡ false → (k : ℕ) → k < 81 → is_king side (piece_at cells k) ≡ true → is_seen cells k n ≡ false
unseen cells side king_view n s h out k l king = false_from_ne_true (is_seen cells k n) (λ e. both_ways (has_bit king_view n) out (s.squares k n l h king (has_bit-none k) e))

-- no piece attacks a king from outside the king view
pub harmless_far : (cells : Cells) (side : Color) (king_view : ℕ) (cell : Option Piece) (to : ℕ) → Sees cells side 0 king_view → to < 81 → has_bit king_view to ≡ false → IsHarmless cells side cell to
harmless_far cells side king_view cell to s h out k l king = false_from_ne_true (cell_reaches cells cell to k) (λ r. both_ways (is_seen cells k to) (unseen cells side king_view to s h out k l king) (cell_seen cells cell to k h r))

-- a piece that reaches none of the kings attacks none
pub harmless_here : (cells : Cells) (side : Color) (piece : Piece) (to squares kings : ℕ) → ((n : ℕ) → n < 81 → has_bit squares n ≡ cell_reaches cells (Some piece) to n) → ((n : ℕ) → n < 81 → has_bit kings n ≡ is_king side (piece_at cells n)) → bit_and squares kings ≡ 0 → IsHarmless cells side (Some piece) to
harmless_here cells side piece to squares kings s b none k l king =
    false_from_ne_true (cell_reaches cells (Some piece) to k) (λ e. both_ways (has_bit (bit_and squares kings) k) (ap (λ m. has_bit m k) none ∙ has_bit-none k) (has_bit-and squares kings k ∙ and_from _ _ (s k l ∙ e) (b k l ∙ king)))

-- ---- a king can move on from any square

-- ---- a piece in hand for any empty square

held_kind : (hands : HandCounts) (side : Color) → holds_free hands side ≡ true → (kind : Kind) × (is_free_kind kind ≡ true) × (nat_lt 0 (count_in_hand hands side kind) ≡ true)
held_kind hands side e = elim (or_cases (nat_lt 0 (count_in_hand hands side kinds.Silver) || nat_lt 0 (count_in_hand hands side kinds.Gold) || nat_lt 0 (count_in_hand hands side kinds.Bishop)) (nat_lt 0 (count_in_hand hands side kinds.Rook)) e) [
  | inl three ↦ elim (or_cases (nat_lt 0 (count_in_hand hands side kinds.Silver) || nat_lt 0 (count_in_hand hands side kinds.Gold)) (nat_lt 0 (count_in_hand hands side kinds.Bishop)) three) [
    | inl two ↦ elim (or_cases (nat_lt 0 (count_in_hand hands side kinds.Silver)) (nat_lt 0 (count_in_hand hands side kinds.Gold)) two) [
      | inl one ↦ (kinds.Silver, refl, one)
      | inr one ↦ (kinds.Gold, refl, one)
    ]
    | inr one ↦ (kinds.Bishop, refl, one)
  ]
  | inr one ↦ (kinds.Rook, refl, one)
]

free_plain : (kind : Kind) → is_free_kind kind ≡ true → is_pawn_kind kind ≡ false
free_plain kind e = grind arith

free_lands : (color : Color) (kind : Kind) (a : ℕ) → is_free_kind kind ≡ true → is_immobile a (dropped color kind) ≡ false
free_lands color kind a e = grind arith

free_drop : (cells : Cells) (hands : HandCounts) (color : Color) (kind : Kind) (a : ℕ) → length cells ≡ 81 → a < 81 → is_free_kind kind ≡ true → nat_lt 0 (count_in_hand hands color kind) ≡ true → is_none (piece_at cells a) ≡ true → in_check cells color ≡ false → quiet_codes (record { cells = cells; hands = hands; side = color }) ≢ []
unfolding is_safe
free_drop cells hands color kind a len ha kin held empty shut =
    let q : Shogi = record { cells = cells; hands = hands; side = color } in
    let non_promoting : is_pawn_kind kind ≡ false = free_plain kind kin in
    let lands : is_immobile a (dropped color kind) ≡ false = free_lands color kind a kin in
    let allowed : is_pseudo_legal_drop cells hands color kind a ≡ true = rw (held, empty, lands, non_promoting) refl in
    let safe : is_safe (record { cells = cells; hands = hands; side = color }) (Drop kind a) ≡ true = and_from _ _ allowed (ap not (quiet_drop cells color kind a len ha shut)) in
    some_quiet q (Drop kind a) (move_of-drop kind a ha)
    (sym (is_legal_code_of q (code_of (Drop kind a)) (Drop kind a) (move_of-drop kind a ha)) ∙ (sym (drop_matching q kind a ha) ∙ (legal_drop q kind a ha ∙ and_from _ _ safe (ap (λ b. not (b && is_mated_by_drop (after q (Drop kind a)))) non_promoting))))
    refl

-- a move changes nothing in the opponent's hand
other_place : (side : Color) (kind other : Kind) → place_of (opponent_of side) other ≢ place_of side kind
other_place side kind other e = grind (arith, number_below kind, number_below other)

other_hand : (hands : HandCounts) (side : Color) (kind other : Kind) (n : ℕ) → count_in_hand (set hands (place_of side kind) n) (opponent_of side) other ≡ count_in_hand hands (opponent_of side) other
other_hand hands side kind other n = get_or-set_other hands (place_of side kind) (place_of (opponent_of side) other) n 0 (other_place side kind other)

other_captured : (hands : HandCounts) (side : Color) (cell : Option Piece) (other : Kind) → count_in_hand (with_captured hands side cell) (opponent_of side) other ≡ count_in_hand hands (opponent_of side) other
other_captured hands side cell other = grind (arith, other_hand hands side)

pub other_counts : (p : Shogi) (m : Move) (other : Kind) → count_in_hand (after p m).hands (opponent_of p.side) other ≡ count_in_hand p.hands (opponent_of p.side) other
other_counts p (Board from to promote) other = other_captured p.hands p.side (piece_at p.cells to) other
other_counts p (Drop kind to) other = other_hand p.hands p.side kind other (count_in_hand p.hands p.side kind - 1)

still_holds : (p : Shogi) (m : Move) → holds_free p.hands (opponent_of p.side) ≡ true → holds_free (after p m).hands (opponent_of p.side) ≡ true
still_holds p m e = rw (other_counts p m kinds.Silver, other_counts p m kinds.Gold, other_counts p m kinds.Bishop, other_counts p m kinds.Rook) e

way_after : (p : Shogi) (m : Move) (to a : ℕ) → is_way p (opponent_of p.side) to a ≡ true → (is_spare p.cells (opponent_of p.side) to a ≡ true) ⊎ ((a ≢ to) × (is_none (piece_at p.cells a) ≡ true) × (holds_free (after p m).hands (opponent_of p.side) ≡ true))
way_after p m to a e = grind (arith, still_holds p m)

-- ---- a spare piece has a legal move

steps_reach : (cells : Cells) (cell : Option Piece) (a t : ℕ) → cell_steps cell a t ≡ true → cell_reaches cells cell a t ≡ true
steps_reach cells cell a t e = grind arith

pub right_step : (new : Cells) (color : Color) (a t : ℕ) → is_piece_of color (piece_at new a) ≡ true → is_piece_of color (piece_at new t) ≡ false → reaches new a t ≡ true → is_immobile t (piece_at new a) ≡ false → is_pseudo_legal_board_move new color a t false ≡ true
right_step new color a t own free reach alive = rw (own, free, reach, still t (piece_at new a), alive) refl

-- a move that ends on `to` leaves the other side's pieces and kings in place, and each empty square but `to` empty
pub record LeavesStanding (old new : Cells) (color : Color) (to : ℕ) : Type 0 where
  pub len : length new ≡ 81
  pub kings : (k : ℕ) → is_king color (piece_at new k) ≡ true → piece_at old k ≡ piece_at new k
  pub stays : (a : ℕ) → is_piece_of color (piece_at old a) ≡ true → a ≢ to → piece_at new a ≡ piece_at old a
  pub clear : (t : ℕ) → is_piece_of color (piece_at old t) ≡ false → is_piece_of color (piece_at new t) ≡ false
  pub empty : (x : ℕ) → is_none (piece_at old x) ≡ true → x ≢ to → is_none (piece_at new x) ≡ true

-- the parts of a quiet step
pub step_parts : (cells : Cells) (a t : ℕ) → is_quiet_step cells a t ≡ true → (cell_steps (piece_at cells a) a t ≡ true) × (is_none (piece_at cells t) ≡ true) × (is_immobile t (piece_at cells a) ≡ false)
step_parts cells a t e =
    let two = and_parts (cell_steps (piece_at cells a) a t && is_none (piece_at cells t)) (not (is_immobile t (piece_at cells a))) e in
    let one : (cell_steps (piece_at cells a) a t ≡ true) × (is_none (piece_at cells t) ≡ true) = and_parts (cell_steps (piece_at cells a) a t) (is_none (piece_at cells t)) two.0 in
    (one.0, one.1, not-true _ two.1)

module _ (old new : Cells) (hands : HandCounts) (color : Color) where
  -- a move that ends elsewhere and gives no check leaves a quiet step legal
  pub legal_step : (to a t : ℕ) → LeavesStanding old new color to → in_check new color ≡ false → a < 81 → t < 81 → a ≢ to → t ≢ to → is_unbound old color a ≡ true → is_quiet_step old a t ≡ true → is_legal (record { cells = new; hands = hands; side = color }) (Board a t false) ≡ true
  unfolding reaches
  legal_step to a t k shut ha ht stays beside loose step =
      let three = and_parts (is_piece_of color (piece_at old a) && not (is_king color (piece_at old a))) (not (is_aligned_with_king old color a)) loose in
      let two : (is_piece_of color (piece_at old a) ≡ true) × (not (is_king color (piece_at old a)) ≡ true) = and_parts (is_piece_of color (piece_at old a)) (not (is_king color (piece_at old a))) three.0 in
      let parts = step_parts old a t step in
      let same : piece_at new a ≡ piece_at old a = k.stays a two.0 stays in
      let own : is_piece_of color (piece_at new a) ≡ true = ap (is_piece_of color) same ∙ two.0 in
      let bare : is_none (piece_at new t) ≡ true = k.empty t parts.1 beside in
      let reach : reaches new a t ≡ true = ap (λ cell. cell_reaches new cell a t) same ∙ steps_reach new (piece_at old a) a t parts.0 in
      let alive : is_immobile t (piece_at new a) ≡ false = ap (is_immobile t) same ∙ parts.2 in
      let plain : is_king color (piece_at new a) ≡ false = ap (is_king color) same ∙ not-true _ two.1 in
      let off : is_lined_with_king new color a ≡ false = stays_unlined old new color a ha k.kings (not-true _ three.1) in
      legal_board (record { cells = new; hands = hands; side = color }) a t false
      ∙ and_from _ _ (right_step new color a t own (unowned color (piece_at new t) bare) reach alive) (ap not (quiet_board new color a t false k.len ha ht own plain off shut))

  replied_step : (to : ℕ) → LeavesStanding old new color to → in_check new color ≡ false → (a : ℕ) → a < 81 → is_spare old color to a ≡ true → quiet_codes (record { cells = new; hands = hands; side = color }) ≢ []
  unfolding is_spare
  replied_step to k shut a ha e =
      let four = and_parts (not (a == to) && is_unbound old color a) (some_below 81 (is_step_beside old to a)) e in
      let apart : (not (a == to) ≡ true) × (is_unbound old color a ≡ true) = and_parts (not (a == to)) (is_unbound old color a) four.0 in
      let which = some_below_which 81 (is_step_beside old to a) four.1 in
      let both : (is_quiet_step old a which.0 ≡ true) × (not (which.0 == to) ≡ true) = and_parts (is_quiet_step old a which.0) (not (which.0 == to)) which.2 in
      let beside : which.0 ≢ to = λ at. both_ways _ (ap not (eq-eqb which.0 to at)) both.1 in
      some_quiet (record { cells = new; hands = hands; side = color }) (Board a which.0 false) (move_of-board a which.0 false ha which.1)
      (legal_step to a which.0 k shut ha which.1 (λ at. both_ways _ (ap not (eq-eqb a to at)) apart.0) beside apart.1 both.0)
      (k.empty which.0 (step_parts old a which.0 both.0).1 beside)

  replied : (to : ℕ) → LeavesStanding old new color to → in_check new color ≡ false → (a : ℕ) → a < 81 → (is_spare old color to a ≡ true) ⊎ ((a ≢ to) × (is_none (piece_at old a) ≡ true) × (holds_free hands color ≡ true)) → quiet_codes (record { cells = new; hands = hands; side = color }) ≢ []
  replied to k shut a ha way = elim way [
    | inl e ↦ replied_step to k shut a ha e
    | inr e ↦ (
        let held = held_kind hands color e.2 in
        free_drop new hands color held.0 a k.len ha held.1 held.2 (k.empty a e.1 e.0) shut)
  ]

-- ---- the moved piece attacks no king from its destination once its origin is empty

harmless_unaligned : (cells : Cells) (side : Color) (lines from : ℕ) (cell : Option Piece) (n : ℕ) → Aligns cells side 0 lines → n < 81 → has_bit lines n ≡ false → IsHarmless cells side cell n → IsHarmlessFrom cells side from cell n
harmless_unaligned cells side lines from None n a h out off k l e = refl
harmless_unaligned cells side lines from (Some piece) n a h out off k l e = false_from_ne_true (cell_reaches (set cells from None) (Some piece) n k) (λ r. elim (or_cases (has_step piece n k) (has_slide (set cells from None) piece n k) r) [
  | inl step ↦ both_ways (cell_reaches cells (Some piece) n k) (off k l e) (or_left (has_step piece n k) (has_slide cells piece n k) step)
  | inr slide ↦ both_ways (has_bit lines n) out (a.squares k n l h e (has_bit-none k) (lined_aligned (set cells from None) k n (slide_seen (set cells from None) piece n k h slide)))
])

pub discovers_anywhere : (cells : Cells) (side : Color) (king_view from mask : ℕ) → ((n : ℕ) → n < 81 → has_bit mask n ≡ true) → DiscoversWithin cells side king_view from mask
discovers_anywhere cells side king_view from mask all promote n h off far = absurd (both_ways (has_bit mask n) off (all n h))

pub discovers_by_lines : (cells : Cells) (side : Color) (king_view from lines : ℕ) → StaysCovered cells side from → Aligns cells side 0 lines → DiscoversWithin cells side king_view from lines
discovers_by_lines cells side king_view from lines covered a promote n h off far = inr (harmless_unaligned cells side lines from (piece_moved promote (piece_at cells from)) n a h off far, covered)

-- ---- after a board move, and after a drop

module _ (p : Shogi) (from to : ℕ) (promote : Bool) (v : IsValid p) (hf : from < 81) (ht : to < 81) (own : is_piece_of p.side (piece_at p.cells from) ≡ true) where
  abbrev what_moved : Option Piece
  what_moved = piece_moved promote (piece_at p.cells from)

  pub moved_own : is_piece_of p.side (piece_moved promote (piece_at p.cells from)) ≡ true
  moved_own = is_piece_of-piece_moved p.side promote (piece_at p.cells from) ∙ own

  pub see_board : (x : ℕ) → ((x ≡ to) × (piece_at (set (set p.cells from None) to (piece_moved promote (piece_at p.cells from))) x ≡ piece_moved promote (piece_at p.cells from))) ⊎ (((x ≡ from) × (piece_at (set (set p.cells from None) to (piece_moved promote (piece_at p.cells from))) x ≡ None)) ⊎ (piece_at (set (set p.cells from None) to (piece_moved promote (piece_at p.cells from))) x ≡ piece_at p.cells x))
  see_board x = look p.cells p.side from to (piece_moved promote (piece_at p.cells from)) v.cells_fit hf ht x

  pub lands_board : piece_at (set (set p.cells from None) to (piece_moved promote (piece_at p.cells from))) to ≡ piece_moved promote (piece_at p.cells from)
  lands_board = get_or-set_same (set p.cells from None) to what_moved None (omega (arith, length-set p.cells from None, v.cells_fit))

  pub opened_board : (x : ℕ) → is_none (piece_at (set (set p.cells from None) to (piece_moved promote (piece_at p.cells from))) x) ≡ true → (is_none (piece_at p.cells x) ≡ true) ⊎ (x ≡ from)
  opened_board x e = grind (arith, see_board x, own_some p.side what_moved moved_own)

  theirs_board : (x : ℕ) → is_piece_of (opponent_of (opponent_of p.side)) (piece_at (set (set p.cells from None) to (piece_moved promote (piece_at p.cells from))) x) ≡ true → (piece_at p.cells x ≡ piece_at (set (set p.cells from None) to (piece_moved promote (piece_at p.cells from))) x) ⊎ (x ≡ to)
  theirs_board x e = grind (arith, see_board x)

  pub crown_board : (k : ℕ) → is_king (opponent_of p.side) (piece_at (set (set p.cells from None) to (piece_moved promote (piece_at p.cells from))) k) ≡ true → piece_at p.cells k ≡ piece_at (set (set p.cells from None) to (piece_moved promote (piece_at p.cells from))) k
  crown_board k e = grind (arith, see_board k, crowned (opponent_of p.side) what_moved (other_side p.side what_moved moved_own))

  pub stays_bare : (x : ℕ) → is_none (piece_at (set (set p.cells from None) to (piece_moved promote (piece_at p.cells from))) x) ≡ true → (is_none (piece_at (set p.cells from None) x) ≡ true) ⊎ ⊥
  stays_bare x e = grind (arith, cases_eq x to, lands_board, own_some p.side what_moved moved_own, get_or-set_other (set p.cells from None) to x what_moved None)

  -- a move that discovers nothing and attacks no king from its destination gives no check
  pub shut_board : (king_view free_movers : ℕ) → IsReplyInfo p king_view free_movers → DiscoversNothing p.cells (opponent_of p.side) king_view from (piece_moved promote (piece_at p.cells from)) to → IsHarmless p.cells (opponent_of p.side) (piece_moved promote (piece_at p.cells from)) to
      → in_check (cells_after p.cells p.side (Board from to promote)) (opponent_of p.side) ≡ false
  shut_board king_view free_movers r (inl unseen_from) off =
      no_check p.cells (set (set p.cells from None) to (piece_moved promote (piece_at p.cells from))) (λ x. x ≡ from) opened_board (opponent_of p.side) to ht theirs_board crown_board
      (λ x left. subst (λ (y : ℕ). is_lined_with_king p.cells (opponent_of p.side) y ≡ false) (sym left) (unlined p.cells (opponent_of p.side) king_view from r.sees hf unseen_from))
      (λ k l e. ap (λ cell. cell_reaches p.cells cell to k) lands_board ∙ off k l e)
      (faultless_from p v.no_fault).shut
  shut_board king_view free_movers r (inr covering) off =
      left_unpinned p.cells (set (set p.cells from None) to (piece_moved promote (piece_at p.cells from))) from opened_board (opponent_of p.side) to theirs_board crown_board
      (λ k l e. ap (λ cell. cell_reaches (set (set p.cells from None) to (piece_moved promote (piece_at p.cells from))) cell to k) lands_board
      ∙ false_from_ne_true (cell_reaches (set (set p.cells from None) to (piece_moved promote (piece_at p.cells from))) (piece_moved promote (piece_at p.cells from)) to k) (λ reach. both_ways (cell_reaches (set p.cells from None) what_moved to k) (covering.0 k l e)
      (reach_was (set p.cells from None) (set (set p.cells from None) to (piece_moved promote (piece_at p.cells from))) (λ x. ⊥) stays_bare what_moved to k (λ x left. absurd left) reach)))
      (faultless_from p v.no_fault).shut covering.1

  pub left_board : LeavesStanding p.cells (cells_after p.cells p.side (Board from to promote)) (opponent_of p.side) to
  left_board = record {
    len = length-set (set p.cells from None) to what_moved ∙ (length-set p.cells from None ∙ v.cells_fit);
    kings = crown_board;
    stays = λ x e ne. grind (arith, see_board x, other_side p.side (piece_at p.cells from) own);
    clear = λ t e. grind (arith, see_board t, other_side p.side what_moved moved_own);
    empty = λ x e ne. grind (arith, see_board x);
  }

-- ---- the board without the moved piece

module _ (p : Shogi) (from to : ℕ) (v : IsValid p) (hf : from < 81) (own : is_piece_of p.side (piece_at p.cells from) ≡ true) where
  bare : piece_at (set p.cells from None) from ≡ None
  bare = get_or-set_same p.cells from None None (omega (arith, v.cells_fit))

  pub see_lifted : (x : ℕ) → ((x ≡ from) × (piece_at (set p.cells from None) x ≡ None)) ⊎ (piece_at (set p.cells from None) x ≡ piece_at p.cells x)
  see_lifted x = grind (arith, cases_eq x from, bare, get_or-set_other p.cells from x None None)

  opened_lifted : (x : ℕ) → is_none (piece_at (set p.cells from None) x) ≡ true → (is_none (piece_at p.cells x) ≡ true) ⊎ (x ≡ from)
  opened_lifted x e = elim (see_lifted x) [ inl here ↦ inr here.0 | inr same ↦ inl (ap is_none (sym same) ∙ e) ]

  crown_lifted : (k : ℕ) → is_king (opponent_of p.side) (piece_at (set p.cells from None) k) ≡ true → piece_at p.cells k ≡ piece_at (set p.cells from None) k
  crown_lifted k e = grind (arith, see_lifted k)

  theirs_lifted : (x : ℕ) → is_piece_of (opponent_of (opponent_of p.side)) (piece_at (set p.cells from None) x) ≡ true → (piece_at p.cells x ≡ piece_at (set p.cells from None) x) ⊎ (x ≡ from)
  theirs_lifted x e = elim (see_lifted x) [ inl here ↦ inr here.0 | inr same ↦ inl (sym same) ]

  pub left_lifted : LeavesStanding p.cells (set p.cells from None) (opponent_of p.side) to
  left_lifted = record {
    len = length-set p.cells from None ∙ v.cells_fit;
    kings = crown_lifted;
    stays = λ x e ne. grind (arith, see_lifted x, other_side p.side (piece_at p.cells from) own);
    clear = λ t e. elim (see_lifted t) [ inl here ↦ ap (is_piece_of (opponent_of p.side)) here.1 | inr same ↦ ap (is_piece_of (opponent_of p.side)) same ∙ e ];
    empty = λ x e ne. elim (see_lifted x) [ inl here ↦ ap is_none here.1 | inr same ↦ ap is_none same ∙ e ];
  }

  -- the board without the piece has no check if its square is out of the king view or it blocks no slider
  pub shut_lifted : (king_view : ℕ) → Sees p.cells (opponent_of p.side) 0 king_view → (has_bit king_view from ≡ false) ⊎ StaysCovered p.cells (opponent_of p.side) from → in_check (set p.cells from None) (opponent_of p.side) ≡ false
  shut_lifted king_view sees (inl unseen_from) =
      no_check p.cells (set p.cells from None) (λ x. x ≡ from) opened_lifted (opponent_of p.side) from hf theirs_lifted crown_lifted
      (λ x left. subst (λ (y : ℕ). is_lined_with_king p.cells (opponent_of p.side) y ≡ false) (sym left) (unlined p.cells (opponent_of p.side) king_view from sees hf unseen_from))
      (λ k l e. ap (λ cell. cell_reaches p.cells cell from k) bare)
      (faultless_from p v.no_fault).shut
  shut_lifted king_view sees (inr covered) =
      left_unpinned p.cells (set p.cells from None) from opened_lifted (opponent_of p.side) from theirs_lifted crown_lifted
      (λ k l e. ap (λ cell. cell_reaches (set p.cells from None) cell from k) bare)
      (faultless_from p v.no_fault).shut covered

replied_shut : (p : Shogi) (from to : ℕ) (promote : Bool) (king_view free_movers a : ℕ) → IsValid p → IsReplyInfo p king_view free_movers → from < 81 → to < 81 → is_piece_of p.side (piece_at p.cells from) ≡ true → in_check (after p (Board from to promote)).cells (opponent_of p.side) ≡ false
    → a < 81 → has_bit free_movers a ≡ true → a ≢ to → quiet_codes (after p (Board from to promote)) ≢ []
replied_shut p from to promote king_view free_movers a v r hf ht own shut ha some other =
    let which = some_below_which 81 (is_way p (opponent_of p.side) to) (r.spares a to ha some other) in
    replied p.cells (cells_after p.cells p.side (Board from to promote)) (after p (Board from to promote)).hands (opponent_of p.side)
    to (left_board p from to promote v hf ht own) shut which.0 which.1 (way_after p (Board from to promote) to which.0 which.2)

pub replied_board : (p : Shogi) (from to : ℕ) (promote : Bool) (king_view free_movers a : ℕ) → IsValid p → IsReplyInfo p king_view free_movers → from < 81 → to < 81 → is_piece_of p.side (piece_at p.cells from) ≡ true → DiscoversNothing p.cells (opponent_of p.side) king_view from (piece_moved promote (piece_at p.cells from)) to → IsHarmless p.cells (opponent_of p.side) (piece_moved promote (piece_at p.cells from)) to
    → a < 81 → has_bit free_movers a ≡ true → a ≢ to → quiet_codes (after p (Board from to promote)) ≢ []
replied_board p from to promote king_view free_movers a v r hf ht own out off = replied_shut p from to promote king_view free_movers a v r hf ht own (shut_board p from to promote v hf ht own king_view free_movers r out off)

module _ (p : Shogi) (kind : Kind) (to : ℕ) (v : IsValid p) (ht : to < 81) where
  see_drop : (x : ℕ) → ((x ≡ to) × (piece_at (cells_after p.cells p.side (Drop kind to)) x ≡ dropped p.side kind)) ⊎ (piece_at (cells_after p.cells p.side (Drop kind to)) x ≡ piece_at p.cells x)
  see_drop x = drops.look p.cells p.side kind to v.cells_fit ht x

  crown_drop : (k : ℕ) → is_king (opponent_of p.side) (piece_at (set p.cells to (dropped p.side kind)) k) ≡ true → piece_at p.cells k ≡ piece_at (set p.cells to (dropped p.side kind)) k
  crown_drop k e = grind (arith, see_drop k, drops.no_king p.side kind)

  pub shut_drop : IsHarmless p.cells (opponent_of p.side) (dropped p.side kind) to → in_check (cells_after p.cells p.side (Drop kind to)) (opponent_of p.side) ≡ false
  shut_drop off = no_check p.cells (set p.cells to (dropped p.side kind)) (λ x. ⊥)
      (λ x e. grind (arith, see_drop x))
      (opponent_of p.side) to ht
      (λ x e. elim (see_drop x) [ inl there ↦ inr there.0 | inr same ↦ inl (sym same) ])
      crown_drop
      (λ x left. absurd left)
      (λ k l e. ap (λ cell. cell_reaches p.cells cell to k) (get_or-set_same p.cells to (dropped p.side kind) None (omega (arith, v.cells_fit))) ∙ off k l e)
      (faultless_from p v.no_fault).shut

  pub left_drop : LeavesStanding p.cells (cells_after p.cells p.side (Drop kind to)) (opponent_of p.side) to
  left_drop = record {
    len = length-set p.cells to (dropped p.side kind) ∙ v.cells_fit;
    kings = crown_drop;
    stays = λ x e ne. elim (see_drop x) [ inl there ↦ absurd (ne there.0) | inr same ↦ same ];
    clear = λ t e. grind (arith, see_drop t, other_side p.side (dropped p.side kind) (dropped_of p.side kind));
    empty = λ x e ne. elim (see_drop x) [ inl there ↦ absurd (ne there.0) | inr same ↦ ap is_none same ∙ e ];
  }

pub replied_drop : (p : Shogi) (kind : Kind) (to king_view free_movers a : ℕ) → IsValid p → IsReplyInfo p king_view free_movers → to < 81 → IsHarmless p.cells (opponent_of p.side) (dropped p.side kind) to
    → a < 81 → has_bit free_movers a ≡ true → a ≢ to → quiet_codes (after p (Drop kind to)) ≢ []
replied_drop p kind to king_view free_movers a v r ht off ha some other =
    let which = some_below_which 81 (is_way p (opponent_of p.side) to) (r.spares a to ha some other) in
    replied p.cells (cells_after p.cells p.side (Drop kind to)) (after p (Drop kind to)).hands (opponent_of p.side)
    to (left_drop p kind to v ht) (shut_drop p kind to v ht off) which.0 which.1 (way_after p (Drop kind to) to which.0 which.2)

-- ---- finding spare pieces one by one

-- a piece of the side, no king and off the lines of its kings, with a quiet step
pub record IsMover (cells : Cells) (side : Color) (a : ℕ) : Type 0 where
  pub unbound : is_unbound cells side a ≡ true
  pub steps : some_below 81 (is_quiet_step cells a) ≡ true

-- `left` has pieces of the side off the lines of its kings; each one kept has a quiet step, and each of the ends is an end of a kept piece's step
pub record IsSifted (cells : Cells) (side : Color) (lines left kept ends : ℕ) : Type 0 where
  pub own : (a : ℕ) → a < 81 → has_bit left a ≡ true → (is_piece_of side (piece_at cells a) ≡ true) × (has_bit lines a ≡ false)
  pub free_movers : (a : ℕ) → a < 81 → has_bit kept a ≡ true → IsMover cells side a
  pub end : (t : ℕ) → t < 81 → has_bit ends t ≡ true → (a : ℕ) × (a < 81) × (is_unbound cells side a ≡ true) × (is_quiet_step cells a t ≡ true)

pub sifted_first : (cells : Cells) (side : Color) (lines own : ℕ) → lines < 2 ^ 128 → ((n : ℕ) → n < 81 → has_bit own n ≡ is_piece_of side (piece_at cells n)) → IsSifted cells side lines (bit_and own (2 ^ 128 - 1 - lines)) 0 0
sifted_first cells side lines own fits bits = record {
  own = λ a h e. grind (arith, has_bit-and own (2 ^ 128 - 1 - lines) a, bits a h, has_bit-not lines a fits (omega arith));
  free_movers = λ a h e. absurd (both_ways (has_bit 0 a) (has_bit-none a) e);
  end = λ t h e. absurd (both_ways (has_bit 0 t) (has_bit-none t) e);
}

unbound_if : (cells : Cells) (side : Color) (lines a : ℕ) → Aligns cells side 0 lines → a < 81 → is_piece_of side (piece_at cells a) ≡ true → has_bit lines a ≡ false → is_unbound cells side a ≡ true
unbound_if cells side lines a s h own off = grind (arith, unaligned cells side lines a s h off, s.kings a h)

-- a piece without a quiet step is passed over
pub sifted_passed : (cells : Cells) (side : Color) (lines left kept ends next from : ℕ) → IsSifted cells side lines left kept ends → TakesLowest from left next → IsSifted cells side lines next kept ends
sifted_passed cells side lines left kept ends next from f took = record {
  own = λ a h e. f.own a h ((and_parts (has_bit left a) (not (a == from)) (sym (took.rest a) ∙ e)).0);
  free_movers = f.free_movers;
  end = f.end;
}

-- a piece with a set of steps that is not empty has a quiet step
some_step : (cells : Cells) (a steps : ℕ) → steps < 2 ^ 81 → AreQuietSteps cells a steps → steps ≢ 0 → some_below 81 (is_quiet_step cells a) ≡ true
some_step cells a steps fits are some =
    let low = lowest_set steps some fits in
    some_below_at 81 (is_quiet_step cells a) (trailing_zeros w128 steps) low.0 (are (trailing_zeros w128 steps) low.0 low.1)

pub sifted_found : (cells : Cells) (side : Color) (lines left kept ends next more from steps : ℕ) → Aligns cells side 0 lines → IsSifted cells side lines left kept ends → TakesLowest from left next → steps < 2 ^ 81 → AreQuietSteps cells from steps → steps ≢ 0
    → ((i : ℕ) → has_bit more i ≡ (has_bit kept i || i == from)) → IsSifted cells side lines next more (bit_or ends steps)
sifted_found cells side lines left kept ends next more from steps s f took fits are some bits =
    let own : _ = f.own from took.range took.set in
    let unbound : is_unbound cells side from ≡ true = unbound_if cells side lines from s took.range own.0 own.1 in
    record {
      own = (sifted_passed cells side lines left kept ends next from f took).own;
      free_movers = λ a h e. elim (or_cases (has_bit kept a) (a == from) (sym (bits a) ∙ e)) [
        | inl before ↦ f.free_movers a h before
        | inr now ↦ subst (IsMover cells side) (sym (eqb-true a from now)) (record { unbound = unbound; steps = some_step cells from steps fits are some })
      ];
      end = λ t h e. elim (or_cases (has_bit ends t) (has_bit steps t) (sym (has_bit-or ends steps t) ∙ e)) [
        | inl before ↦ f.end t h before
        | inr now ↦ (from, took.range, unbound, are t h now)
      ];
    }

-- a piece with a quiet step to a square other than `to` is spare if it does not stand on `to`
spare_at : (cells : Cells) (side : Color) (to a t : ℕ) → a < 81 → t < 81 → a ≢ to → t ≢ to → is_unbound cells side a ≡ true → is_quiet_step cells a t ≡ true → some_below 81 (is_spare cells side to) ≡ true
unfolding is_spare
spare_at cells side to a t ha ht stays beside unbound step =
    some_below_at 81 (is_spare cells side to) a ha
    (and_from _ _ (and_from _ _ (not_from_false _ (ne_eqb a to stays)) unbound)
    (some_below_at 81 (is_step_beside cells to a) t ht (and_from _ _ step (not_from_false _ (ne_eqb t to beside)))))

-- no quiet step ends on the square of an unbound piece
steps_beside : (cells : Cells) (side : Color) (to a t : ℕ) → is_unbound cells side to ≡ true → is_quiet_step cells a t ≡ true → t ≢ to
steps_beside cells side to a t unbound step same =
    let own : is_piece_of side (piece_at cells to) ≡ true = (and_parts _ _ (and_parts _ _ unbound).0).0 in
    let bare : is_none (piece_at cells t) ≡ true = (and_parts _ _ (and_parts _ _ step).0).1 in
    both_ways (is_piece_of side (piece_at cells to)) (unowned side (piece_at cells to) (subst (λ (n : ℕ). is_none (piece_at cells n) ≡ true) same bare)) own

-- with two ends, each piece leaves a step: its own or that of another piece
pub sifted_done : (cells : Cells) (side : Color) (lines left kept ends : ℕ) → HasOthers ends → IsSifted cells side lines left kept ends → LeaveFreeMovers cells side kept
sifted_done cells side lines left kept ends two f a to h set stays =
    let end = some_below_which 81 (λ t. has_bit ends t && not (t == to)) (two to) in
    let apart : (has_bit ends end.0 ≡ true) × (not (end.0 == to) ≡ true) = and_parts (has_bit ends end.0) (not (end.0 == to)) end.2 in
    let by = f.end end.0 end.1 apart.0 in
    elim (cases_eq by.0 to) [
      | inr off ↦ spare_at cells side to by.0 end.0 by.1 end.1 off (λ same. both_ways _ (ap not (eq-eqb end.0 to same)) apart.1) by.2 by.3
      | inl at ↦ (
          let mover = f.free_movers a h set in
          let step = some_below_which 81 (is_quiet_step cells a) mover.steps in
          spare_at cells side to a step.0 h step.1 stays (steps_beside cells side to a step.0 (subst (λ (n : ℕ). is_unbound cells side n ≡ true) at by.2) step.2) mover.unbound step.2)
    ]

-- quiet steps as a set of squares
pub steps_found : (cells : Cells) (piece : Piece) (a steps free dead : ℕ) → piece_at cells a ≡ Some piece → dead < 2 ^ 81 → ((n : ℕ) → n < 81 → has_bit steps n ≡ has_step piece a n) → ((n : ℕ) → n < 81 → has_bit free n ≡ is_none (piece_at cells n)) → ((n : ℕ) → n < 81 → has_bit dead n ≡ is_immobile n (piece_at cells a))
    → AreQuietSteps cells a (bit_and (bit_and steps free) (2 ^ 128 - 1 - dead))
steps_found cells piece a steps free dead stands fits s f d t h e =
    grind (arith, has_bit-and (bit_and steps free) (2 ^ 128 - 1 - dead) t, has_bit-and steps free t, s t h, f t h, d t h, has_bit-not dead t (omega (arith, fits)) (omega arith))

-- each empty square is a way if such a piece is in hand, and each spare piece is one
pub ways_free : (p : Shogi) (side : Color) (free : ℕ) → holds_free p.hands side ≡ true → ((n : ℕ) → n < 81 → has_bit free n ≡ is_none (piece_at p.cells n)) → (a to : ℕ) → a < 81 → has_bit free a ≡ true → a ≢ to → some_below 81 (is_way p side to) ≡ true
ways_free p side free held bits a to h set other =
    some_below_at 81 (is_way p side to) a h (or_right (is_spare p.cells side to a) _ (and_from _ _ (and_from _ _ (not_from_false _ (ne_eqb a to other)) (sym (bits a h) ∙ set)) held))

pub ways_spare : (p : Shogi) (side : Color) (squares : ℕ) → LeaveFreeMovers p.cells side squares → (a to : ℕ) → a < 81 → has_bit squares a ≡ true → a ≢ to → some_below 81 (is_way p side to) ≡ true
ways_spare p side squares leave a to h set other =
    let which = some_below_which 81 (is_spare p.cells side to) (leave a to h set other) in
    some_below_at 81 (is_way p side to) which.0 which.1 (or_left (is_spare p.cells side to which.0) _ which.2)

pub unknown_sees : (cells : Cells) (side : Color) (all : ℕ) → ((n : ℕ) → n < 81 → has_bit all n ≡ true) → Sees cells side 0 all
unknown_sees cells side all every = record { kings = λ n h e. every n h; squares = λ k n h l e out seen. every n l }

-- a legal board move moves a piece of the side to move
pub legal_own : (p : Shogi) (from to : ℕ) (promote : Bool) → is_legal p (Board from to promote) ≡ true → is_piece_of p.side (piece_at p.cells from) ≡ true
legal_own p from to promote e = grind (arith, legal_board p from to promote)

-- some square of the free movers is not the one on which the move ends
another_than : (free_movers free to : ℕ) → free < 2 ^ 81 → ((i : ℕ) → has_bit free i ≡ (has_bit free_movers i && not (i == to))) → free ≢ 0 → (a : ℕ) × (a < 81) × (has_bit free_movers a ≡ true) × (a ≢ to)
another_than free_movers free to fits bits some =
    let low = lowest_set free some fits in
    let parts : (has_bit free_movers (trailing_zeros w128 free) ≡ true) × (not (trailing_zeros w128 free == to) ≡ true) = and_parts _ _ (sym (bits (trailing_zeros w128 free)) ∙ low.1) in
    (trailing_zeros w128 free, low.0, parts.0, λ e. both_ways _ (ap not (eq-eqb _ to e)) parts.1)

pub guaranteed_board : (p : Shogi) (from to : ℕ) (promote : Bool) (king_view free_movers free : ℕ) → IsValid p → IsReplyInfo p king_view free_movers → free < 2 ^ 81 → from < 81 → to < 81 → is_legal p (Board from to promote) ≡ true → in_check (after p (Board from to promote)).cells (opponent_of p.side) ≡ false
    → ((i : ℕ) → has_bit free i ≡ (has_bit free_movers i && not (i == to))) → free ≢ 0 → quiet_codes (after p (Board from to promote)) ≢ []
guaranteed_board p from to promote king_view free_movers free v r fits hf ht legal shut bits some =
    let a = another_than free_movers free to fits bits some in
    replied_shut p from to promote king_view free_movers a.0 v r hf ht (legal_own p from to promote legal) shut a.1 a.2 a.3

pub guaranteed_drop : (p : Shogi) (kind : Kind) (to king_view free_movers free : ℕ) → IsValid p → IsReplyInfo p king_view free_movers → free < 2 ^ 81 → to < 81 → IsHarmless p.cells (opponent_of p.side) (dropped p.side kind) to
    → ((i : ℕ) → has_bit free i ≡ (has_bit free_movers i && not (i == to))) → free ≢ 0 → quiet_codes (after p (Drop kind to)) ≢ []
guaranteed_drop p kind to king_view free_movers free v r fits ht off bits some =
    let a = another_than free_movers free to fits bits some in
    replied_drop p kind to king_view free_movers a.0 v r ht off a.1 a.2 a.3

-- a quiet legal reply is a legal reply
pub answered : (p : Shogi) (m : Move) → IsQuietlyAnswered p m → IsAnswered p m
answered p m quietly legal = quiet_legal (after p m) (quietly legal)

-- ---- single squares and pairs

-- one of two free movers differs from any given square
pub one_of_two : (free_movers one rest n : ℕ) → free_movers < 2 ^ 81 → one < 81 → has_bit free_movers one ≡ true → ((i : ℕ) → has_bit rest i ≡ (has_bit free_movers i && not (i == one))) → rest ≢ 0 → rest < free_movers → (a : ℕ) × (a < 81) × (has_bit free_movers a ≡ true) × (a ≢ n)
one_of_two free_movers one rest n fits h set bits some less = elim (cases_eq n one) [
  | inl same ↦ (
      let low = lowest_set rest some (omega arith) in
      let parts : (has_bit free_movers (trailing_zeros w128 rest) ≡ true) × (not (trailing_zeros w128 rest == one) ≡ true) = and_parts _ _ (sym (bits (trailing_zeros w128 rest)) ∙ low.1) in
      (trailing_zeros w128 rest, low.0, parts.0, λ e. both_ways _ (ap not (eq-eqb _ one (e ∙ same))) parts.1))
  | inr other ↦ (one, h, set, λ e. other (sym e))
]

-- a set of two squares has another one for each square
pub others_of_two : (squares one rest : ℕ) → squares < 2 ^ 81 → one < 81 → has_bit squares one ≡ true → ((i : ℕ) → has_bit rest i ≡ (has_bit squares i && not (i == one))) → rest ≢ 0 → rest < squares → HasOthers squares
others_of_two squares one rest fits h set bits some less n =
    let other = one_of_two squares one rest n fits h set bits some less in
    some_below_at 81 (λ a. has_bit squares a && not (a == n)) other.0 other.1 (and_from _ _ other.2 (not_from_false _ (ne_eqb other.0 n other.3)))

pub other_than : (free_movers one n : ℕ) → one < 81 → has_bit free_movers one ≡ true → not (n == one) ≡ true → (a : ℕ) × (a < 81) × (has_bit free_movers a ≡ true) × (a ≢ n)
other_than free_movers one n h set other = (one, h, set, λ e. both_ways _ (ap not (eq-eqb n one (sym e))) other)

pub unseen_bit : (king_view n : ℕ) → king_view < 2 ^ 128 → n < 81 → has_bit (2 ^ 128 - 1 - king_view) n ≡ true → has_bit king_view n ≡ false
unseen_bit king_view n fits h e = false_from_ne_true (has_bit king_view n) (λ seen. both_ways (has_bit (2 ^ 128 - 1 - king_view) n) (has_bit-not king_view n fits (omega arith) ∙ ap not seen) e)

pub not_closed : (all closed n : ℕ) → closed < 2 ^ 128 → n < 81 → has_bit (bit_and all (2 ^ 128 - 1 - closed)) n ≡ true → has_bit closed n ≡ false
not_closed all closed n fits h e = unseen_bit closed n fits h (and_parts _ _ (sym (has_bit-and all (2 ^ 128 - 1 - closed) n) ∙ e)).1

-- a piece that does not promote stays the same
pub unmoved : (cell : Option Piece) → piece_moved false cell ≡ cell
unmoved cell = grind arith

-- a move or drop to an open square without check has a reply
pub open_far : (p : Shogi) (escapes from n : ℕ) (promote : Bool) (king_view closed free_movers : ℕ) → IsValid p → IsReplyInfo p king_view free_movers → from < 81 → n < 81 → has_bit king_view from ≡ false → IsHarmless p.cells (opponent_of p.side) (piece_moved promote (piece_at p.cells from)) n → IsOpen closed free_movers n → GuaranteesReply p escapes (Board from n promote)
open_far p escapes from n promote king_view closed free_movers v r hf hn unseen_from far o = (
  λ legal. replied_board p from n promote king_view free_movers o.way.0 v r hf hn (legal_own p from n promote legal) (inl unseen_from) far o.way.1 o.way.2 o.way.3,
  λ none legal. shut_board p from n promote v hf hn (legal_own p from n promote legal) king_view free_movers r (inl unseen_from) far,
)

pub open_board : (p : Shogi) (escapes from n : ℕ) (promote : Bool) (king_view checking discovering free_movers : ℕ) → IsValid p → IsReplyInfo p king_view free_movers → from < 81 → n < 81 → DiscoversWithin p.cells (opponent_of p.side) king_view from discovering
    → (has_bit checking n ≡ false → IsHarmless p.cells (opponent_of p.side) (piece_moved promote (piece_at p.cells from)) n) → IsOpen (bit_or checking discovering) free_movers n → GuaranteesReply p escapes (Board from n promote)
open_board p escapes from n promote king_view checking discovering free_movers v r hf hn within far o =
    let parts : (has_bit checking n ≡ false) × (has_bit discovering n ≡ false) = or_parts (has_bit checking n) (has_bit discovering n) (sym (has_bit-or checking discovering n) ∙ o.unclosed) in
    let off : IsHarmless p.cells (opponent_of p.side) (piece_moved promote (piece_at p.cells from)) n = far parts.0 in (
      λ legal. replied_board p from n promote king_view free_movers o.way.0 v r hf hn (legal_own p from n promote legal) (within promote n hn parts.1 off) off o.way.1 o.way.2 o.way.3,
      λ none legal. shut_board p from n promote v hf hn (legal_own p from n promote legal) king_view free_movers r (within promote n hn parts.1 off) off,
    )

pub open_drop : (p : Shogi) (escapes : ℕ) (kind : Kind) (n king_view closed free_movers : ℕ) → IsValid p → IsReplyInfo p king_view free_movers → n < 81 → IsHarmless p.cells (opponent_of p.side) (dropped p.side kind) n → IsOpen closed free_movers n → GuaranteesReply p escapes (Drop kind n)
open_drop p escapes kind n king_view closed free_movers v r hn off o = (
  λ legal. replied_drop p kind n king_view free_movers o.way.0 v r hn off o.way.1 o.way.2 o.way.3,
  λ none legal. shut_drop p kind n v hn off,
)

pub open_either : (p : Shogi) (escapes : ℕ) (origin : Origin) (n king_view checking opening free_movers : ℕ) → IsValid p → IsReplyInfo p king_view free_movers → n < 81 → OpensChecksWithin p king_view origin opening
    → (has_bit checking n ≡ false → IsHarmless p.cells (opponent_of p.side) (put_from p origin) n) → IsOpen (bit_or checking opening) free_movers n → GuaranteesReply p escapes (move_to origin n)
open_either p escapes (origins.Board from promote) n king_view checking opening free_movers v r hn within far o = open_board p escapes from n promote king_view checking opening free_movers v r within.0 hn within.1 far o
open_either p escapes (origins.Drop kind) n king_view checking opening free_movers v r hn within far o =
    let out : has_bit checking n ≡ false = (or_parts (has_bit checking n) (has_bit opening n) (sym (has_bit-or checking opening n) ∙ o.unclosed)).0 in
    open_drop p escapes kind n king_view (bit_or checking opening) free_movers v r hn (far out) o
