-- An unthreatening piece that is put on the board gives its side no threat and leaves the enemy king its reply squares.
use Rattle.std.proofs.Common.{◌≡◌, ◌≢◌, ◌⊎◌, ℕ, ℤ, pos, ◌+◌, ◌<◌, ◌≤◌, ◌+ℤ◌, ◌≤ℤ◌, Bool, true, false, not, Option, Some, None, refl, sym, ap, subst, ◌∙◌, inl, inr, arith, set, length, length-set, get_or-set_same, get_or-set_other}
use Rattle.std.specs.Prelude.{◌&&◌, ◌||◌, is_none, nat_lt}
use Rattle.std.proofs.lemmas.Bool.{and_from, and_parts, both_ways, cases_eq, false_from_ne_true, ltb-true, not-true}
use Rattle.std.proofs.lemmas.Int.{ints}
use Rattle.shogi_core.specs.declared.moves.Move.{Move}
use Rattle.shogi_core.specs.declared.moves.Move.TheVariants.{Board, Drop}
use Rattle.shogi_core.specs.declared.piece.Color.{Color}
use Rattle.shogi_core.specs.declared.piece.Kind.{Kind}
use Rattle.shogi_core.specs.declared.piece.Piece.{Piece}
use Rattle.shogi_core.specs.Attack.{in_check, is_attacked, is_attacked_from, is_open_king}
use Rattle.shogi_core.specs.Bits.{has_bit}
use Rattle.shogi_core.specs.Cell.{HasNoOtherKing, is_immobile, is_king, is_piece_of}
use Rattle.shogi_core.specs.Lines.{are_aligned, are_lined, is_lined_with_king}
use Rattle.shogi_core.specs.Movement.{Cells, cell_reaches, piece_at, reaches}
use Rattle.shogi_core.specs.Pieces.{opponent_of}
use Rattle.shogi_core.specs.Position.{HandCounts, Shogi, count_in_hand}
use Rattle.shogi_core.specs.Validity.{IsValid}
use Rattle.shogi_core.specs.Zones.{may_promote}
use Rattle.shogi_core.proofs.Below.{some_below_not}
use Rattle.shogi_core.proofs.Faults.{faultless_from}
use Rattle.shogi_core.proofs.SeenLaws.{lined_aligned}
use Rattle.shogi_core.proofs.Discovered.{attacked_was_but, reach_was}
use Rattle.shogi_moves.specs.After.{after, cells_after, dropped, piece_moved}
use Rattle.shogi_moves.specs.Escapes.{IsEscape}
use Rattle.shogi_moves.specs.Legal.{is_legal}
use Rattle.shogi_moves.proofs.CheckInfoLaws.{dropped_of, is_piece_of-piece_moved, look, other_side, own_some}
use Rattle.shogi_moves.proofs.DropChecks as drops
use Rattle.shogi_moves.proofs.EscapeLaws.{kept, king_reach}
use Rattle.shogi_moves.proofs.KingLaws.{king_own}
use Rattle.shogi_moves.proofs.MovedPieces.{opponent_twice}
use Rattle.shogi_replies.specs.ReplyInfo.{IsHarmless}
use Rattle.shogi_replies.proofs.KingGoes.{king_goes}
use Rattle.shogi_replies.proofs.ReplyLaws.{LeavesStanding, left_board, left_drop, shut_drop}
use Rattle.shogi_eval.specs.declared.eval.Eval.{Eval}
use Rattle.shogi_eval.specs.Material.{drop_gain, material_of, promotion_gain, taken_gain}
use Rattle.shogi_eval.proofs.Gains.{gain_of}
use Rattle.analogous_moves.specs.Analogies.{AreOffLines, HasSpareMoves, IsOnSquares, IsNoThreat, IsUnthreatening, HasNoThreats, LeavesReplySquare, without_king}
use Rattle.analogous_moves.proofs.Materials.{drop_little}
use Rattle.analogous_moves.proofs.ExposingLaws.{still_exposes}
use Rattle.analogous_moves.proofs.SpareMoves.{replies_by_step, step_same}
use Rattle.analogous_moves.proofs.StillLegal.{legal_parts, length-after}
use Rattle.analogous_moves.proofs.Unchecked.{harmless_there, unchecked_by, unlined_with}
use Rattle.analogous_moves.proofs.Worth.{HasBoardMove, IsBoundedAndAnswered}

-- the position with a piece put on a square, and with these hands
abbrev pub put_on : Shogi → Option Piece → HandCounts → ℕ → Shogi
put_on q arrived hands b = record { cells = set q.cells b arrived; hands = hands; side = q.side }

-- parts of a pseudo-legal board move
pub board_parts : (q : Shogi) (c d : ℕ) (promote : Bool) → is_legal q (Board c d promote) ≡ true → (is_piece_of q.side (piece_at q.cells c) ≡ true) × (is_piece_of q.side (piece_at q.cells d) ≡ false) × (reaches q.cells c d ≡ true) × ((not promote || may_promote (piece_at q.cells c) c d) ≡ true)
board_parts q c d promote l =
    let parts = legal_parts q (Board c d promote) l in
    let four = and_parts (is_piece_of q.side (piece_at q.cells c) && not (is_piece_of q.side (piece_at q.cells d)) && reaches q.cells c d && (not promote || may_promote (piece_at q.cells c) c d)) (not (is_immobile d (piece_moved promote (piece_at q.cells c)))) parts.0 in
    let three = and_parts (is_piece_of q.side (piece_at q.cells c) && not (is_piece_of q.side (piece_at q.cells d)) && reaches q.cells c d) (not promote || may_promote (piece_at q.cells c) c d) four.0 in
    let two = and_parts (is_piece_of q.side (piece_at q.cells c) && not (is_piece_of q.side (piece_at q.cells d))) (reaches q.cells c d) three.0 in
    let one = and_parts (is_piece_of q.side (piece_at q.cells c)) (not (is_piece_of q.side (piece_at q.cells d))) two.0 in
    (one.0, not-true _ one.1, two.1, three.1)

-- parts of a pseudo-legal drop
pub drop_parts : (q : Shogi) (kind : Kind) (d : ℕ) → is_legal q (Drop kind d) ≡ true → (nat_lt 0 (count_in_hand q.hands q.side kind) ≡ true) × (is_none (piece_at q.cells d) ≡ true) × (is_immobile d (dropped q.side kind) ≡ false)
drop_parts q kind d l =
    let parts = legal_parts q (Drop kind d) l in
    let three = and_parts (nat_lt 0 (count_in_hand q.hands q.side kind) && is_none (piece_at q.cells d) && not (is_immobile d (dropped q.side kind))) _ parts.0 in
    let two = and_parts (nat_lt 0 (count_in_hand q.hands q.side kind) && is_none (piece_at q.cells d)) (not (is_immobile d (dropped q.side kind))) three.0 in
    let one = and_parts (nat_lt 0 (count_in_hand q.hands q.side kind)) (is_none (piece_at q.cells d)) two.0 in
    (one.0, one.1, not-true _ two.1)

may_when : (promote may : Bool) → (not promote || may) ≡ true → promote ≡ true → may ≡ true
may_when true may e p = e
may_when false may e p = absurd (cc)

pub none_is : (cell : Option Piece) → is_none cell ≡ true → cell ≡ None
none_is None e = refl
none_is (Some piece) e = absurd (cc)

-- no move captures a king
takes_no_king : (q : Shogi) (c k : ℕ) → IsValid q → c < 81 → k < 81 → is_king (opponent_of q.side) (piece_at q.cells k) ≡ true → is_piece_of q.side (piece_at q.cells c) ≡ true → reaches q.cells c k ≡ false
unfolding in_check
takes_no_king q c k v hc hk crown own =
    let safe : in_check q.cells (opponent_of q.side) ≡ false = (faultless_from q v.no_fault).shut in
    let unattacked : is_attacked q.cells (opponent_of (opponent_of q.side)) k ≡ false = false_from_ne_true _ (λ hit. both_ways (is_open_king q.cells (opponent_of q.side) k) (some_below_not 81 (is_open_king q.cells (opponent_of q.side)) k safe hk) (and_from _ _ crown hit)) in
    let mine : is_piece_of (opponent_of (opponent_of q.side)) (piece_at q.cells c) ≡ true = ap (λ (color : Color). is_piece_of color (piece_at q.cells c)) (opponent_twice q.side) ∙ own in
    false_from_ne_true _ (λ reach. both_ways (is_attacked_from q.cells (opponent_of (opponent_of q.side)) k c)
    (some_below_not 81 (is_attacked_from q.cells (opponent_of (opponent_of q.side)) k) c unattacked hc) (and_from _ _ mine reach))

module _ (quiet_only : Bool) (q : Shogi) (e : Eval) (gains king squares kept_empty : ℕ) (arrived : Option Piece) (hands : HandCounts) (b : ℕ) (len : length q.cells ≡ 81) (owned : is_piece_of q.side arrived ≡ true) (fewer : (other : Kind) → 0 < count_in_hand hands q.side other → 0 < count_in_hand q.hands q.side other) (hb : b < 81) (bare : piece_at q.cells b ≡ None) (off_kept_empty : has_bit kept_empty b ≡ false)
    (no_threats : HasNoThreats quiet_only q e gains king squares kept_empty) (unthreatening : IsUnthreatening quiet_only q e gains king squares arrived b) (v : IsValid (put_on q arrived hands b)) where
  no_foe_king : is_king (opponent_of q.side) arrived ≡ false
  no_foe_king = false_from_ne_true _ (λ crown. both_ways (is_piece_of (opponent_of q.side) arrived) (other_side q.side arrived owned) (king_own (opponent_of q.side) arrived crown))

  fits : length (put_on q arrived hands b).cells ≡ 81
  fits = length-set q.cells b arrived ∙ len

  king_off : king ≢ b
  king_off same = both_ways (is_king (opponent_of q.side) None) refl (ap (is_king (opponent_of q.side)) (sym bare) ∙ subst (λ (x : ℕ). is_king (opponent_of q.side) (piece_at q.cells x) ≡ true) same no_threats.king_replies.crown)

  put : piece_at (put_on q arrived hands b).cells b ≡ arrived
  put = get_or-set_same q.cells b arrived None (omega (arith, len, hb))

  same : (x : ℕ) → x ≢ b → piece_at (put_on q arrived hands b).cells x ≡ piece_at q.cells x
  same x off = get_or-set_other q.cells b x arrived None off

  see : (x : ℕ) → ((x ≡ b) × (piece_at (put_on q arrived hands b).cells x ≡ arrived)) ⊎ ((⊥ × (piece_at (put_on q arrived hands b).cells x ≡ None)) ⊎ (piece_at (put_on q arrived hands b).cells x ≡ piece_at q.cells x))
  see x = elim (cases_eq x b) [
    | inl here ↦ inl (here, ap (piece_at (put_on q arrived hands b).cells) here ∙ put)
    | inr off ↦ inr (inr (same x off))
  ]

  -- with the king lifted, no further square is empty
  opened_lifted : (x : ℕ) → is_none (piece_at (set (put_on q arrived hands b).cells king None) x) ≡ true → (is_none (piece_at (without_king q king) x) ≡ true) ⊎ ⊥
  opened_lifted x n = elim (cases_eq x king) [
    | inl here ↦ inl (ap (λ (y : ℕ). is_none (piece_at (set q.cells king None) y)) here ∙ ap is_none (get_or-set_same q.cells king None None (omega (arith, len, no_threats.king_replies.king_fits))))
    | inr off ↦ elim (cases_eq x b) [
      | inl at ↦ inl (ap is_none (get_or-set_other q.cells king x None None off) ∙ (ap (λ (y : ℕ). is_none (piece_at q.cells y)) at ∙ ap is_none bare))
      | inr other ↦ inl (ap is_none (get_or-set_other q.cells king x None None off) ∙ (ap is_none (sym (same x other)) ∙ (ap is_none (sym (get_or-set_other (put_on q arrived hands b).cells king x None None off)) ∙ n)))
    ]
  ]

  opened_now : (x : ℕ) → is_none (piece_at (put_on q arrived hands b).cells x) ≡ true → (is_none (piece_at (without_king q king) x) ≡ true) ⊎ ⊥
  opened_now x n = elim (cases_eq x king) [
    | inl here ↦ inl (ap (λ (y : ℕ). is_none (piece_at (set q.cells king None) y)) here ∙ ap is_none (get_or-set_same q.cells king None None (omega (arith, len, no_threats.king_replies.king_fits))))
    | inr off ↦ elim (cases_eq x b) [
      | inl at ↦ inl (ap is_none (get_or-set_other q.cells king x None None off) ∙ (ap (λ (y : ℕ). is_none (piece_at q.cells y)) at ∙ ap is_none bare))
      | inr other ↦ inl (ap is_none (get_or-set_other q.cells king x None None off) ∙ (ap is_none (sym (same x other)) ∙ n))
    ]
  ]

  reached_lifted : (cell : Option Piece) (c d : ℕ) → cell_reaches (set (put_on q arrived hands b).cells king None) cell c d ≡ true → cell_reaches (without_king q king) cell c d ≡ true
  reached_lifted cell c d r = reach_was (without_king q king) (set (put_on q arrived hands b).cells king None) (λ x. ⊥) opened_lifted cell c d (λ x left. absurd left) r

  reached_now : (cell : Option Piece) (c d : ℕ) → cell_reaches (put_on q arrived hands b).cells cell c d ≡ true → cell_reaches (without_king q king) cell c d ≡ true
  reached_now cell c d r = reach_was (without_king q king) (put_on q arrived hands b).cells (λ x. ⊥) opened_now cell c d (λ x left. absurd left) r

  short_lifted : (cell : Option Piece) (c d : ℕ) → cell_reaches (without_king q king) cell c d ≡ false → cell_reaches (set (put_on q arrived hands b).cells king None) cell c d ≡ false
  short_lifted cell c d out = false_from_ne_true _ (λ r. both_ways (cell_reaches (without_king q king) cell c d) out (reached_lifted cell c d r))

  -- ---- the king keeps its flight squares

  square_off : (n : ℕ) → has_bit squares n ≡ true → n ≢ b
  square_off n bit at = both_ways (has_bit squares b) unthreatening.off (subst (λ (x : ℕ). has_bit squares x ≡ true) at bit)

  crown_now : is_king (opponent_of q.side) (piece_at (put_on q arrived hands b).cells king) ≡ true
  crown_now = ap (is_king (opponent_of q.side)) (same king king_off) ∙ no_threats.king_replies.crown

  escape_now : (n : ℕ) → n < 81 → has_bit squares n ≡ true → IsEscape q.cells (opponent_of q.side) king n → IsEscape (put_on q arrived hands b).cells (opponent_of q.side) king n
  unfolding reaches
  escape_now n h bit was =
      record {
        step = record {
          lone = λ x hx other. elim (see x) [
            | inl at ↦ ap (is_king (opponent_of q.side)) at.1 ∙ no_foe_king
            | inr rest ↦ elim rest [ inl gone ↦ absurd gone.0 | inr stood ↦ ap (is_king (opponent_of q.side)) stood ∙ no_threats.king_replies.only_king x hx other ]
          ];
          reached = ap (λ (cell : Option Piece). cell_reaches (put_on q arrived hands b).cells cell king n) (same king king_off) ∙ king_reach q.cells (put_on q arrived hands b).cells (opponent_of q.side) (piece_at q.cells king) king n no_threats.king_replies.crown was.step.reached;
          open_end = ap (is_piece_of (opponent_of q.side)) (same n (square_off n bit)) ∙ was.step.open_end;
        };
        safe =
            attacked_was_but (set q.cells king None) (set (put_on q arrived hands b).cells king None) (λ x. ⊥) opened_lifted (opponent_of (opponent_of q.side)) n
            (kept q (put_on q arrived hands b).cells (put_on q arrived hands b).hands (λ x. ⊥) b arrived len fits owned see king n no_threats.king_replies.king_fits h no_threats.king_replies.crown (λ left. left) (king_off, square_off n bit) was
            (short_lifted arrived b n (unthreatening.far n h bit)))
            (λ x left. absurd left) was.safe;
      }

  -- ---- the other side keeps its spare moves

  only_king_now : HasNoOtherKing (put_on q arrived hands b).cells (opponent_of q.side) king
  only_king_now x hx other = elim (see x) [
    | inl at ↦ ap (is_king (opponent_of q.side)) at.1 ∙ no_foe_king
    | inr rest ↦ elim rest [ inl gone ↦ absurd gone.0 | inr stood ↦ ap (is_king (opponent_of q.side)) stood ∙ no_threats.king_replies.only_king x hx other ]
  ]

  unchecked_now : in_check (put_on q arrived hands b).cells (opponent_of q.side) ≡ false
  unchecked_now = (faultless_from (put_on q arrived hands b) v.no_fault).shut

  by_spare : (new : Cells) (held : HandCounts) (d : ℕ) → HasSpareMoves q king → LeavesStanding (put_on q arrived hands b).cells new (opponent_of q.side) d → in_check new (opponent_of q.side) ≡ false → HasBoardMove quiet_only (record { cells = new; hands = held; side = opponent_of q.side })
  by_spare new held d spares stays safe =
      let one = spares b d in
      let from_off : one.0 ≢ b = λ at. both_ways (is_piece_of (opponent_of q.side) None) refl (ap (is_piece_of (opponent_of q.side)) (sym bare) ∙ subst (λ (x : ℕ). is_piece_of (opponent_of q.side) (piece_at q.cells x) ≡ true) at one.7.own) in
      replies_by_step quiet_only (put_on q arrived hands b).cells new held (opponent_of q.side) king d one.0 one.1 only_king_now stays safe one.2 one.3 one.4 one.5
      (ap (is_piece_of (opponent_of q.side)) (same one.0 from_off) ∙ one.7.own) one.7.off_king one.7.off_lines
      (step_same q.cells (put_on q arrived hands b).cells one.0 one.1 (same one.0 from_off) (same one.1 one.6) one.7.step)

  -- a square that is empty in the new position was empty before
  emptied : (x : ℕ) → is_none (piece_at (put_on q arrived hands b).cells x) ≡ true → is_none (piece_at q.cells x) ≡ true
  emptied x n = elim (see x) [
    | inl at ↦ absurd (both_ways (is_none arrived) (own_some q.side arrived owned) (ap is_none (sym at.1) ∙ n))
    | inr rest ↦ elim rest [ inl gone ↦ absurd gone.0 | inr stood ↦ ap is_none (sym stood) ∙ n ]
  ]

  harmless_now : (cell : Option Piece) (d e : ℕ) → e ≡ king → cell_reaches (without_king q king) cell d e ≡ false → IsHarmless (put_on q arrived hands b).cells (opponent_of q.side) cell d
  harmless_now cell d e at far = harmless_there (put_on q arrived hands b).cells (opponent_of q.side) king q.cells cell d len no_threats.king_replies.king_fits only_king_now emptied (subst (λ (x : ℕ). cell_reaches (without_king q king) cell d x ≡ false) at far)

  -- ---- a board move

  module _ (c d : ℕ) (promote : Bool) (hc : c < 81) (hd : d < 81) (l : is_legal (put_on q arrived hands b) (Board c d promote) ≡ true) where
    own : is_piece_of q.side (piece_at (put_on q arrived hands b).cells c) ≡ true
    own = (board_parts (put_on q arrived hands b) c d promote l).0

    free : is_piece_of q.side (piece_at (put_on q arrived hands b).cells d) ≡ false
    free = (board_parts (put_on q arrived hands b) c d promote l).1

    reach : reaches (put_on q arrived hands b).cells c d ≡ true
    reach = (board_parts (put_on q arrived hands b) c d promote l).2

    may : promote ≡ true → may_promote (piece_at (put_on q arrived hands b).cells c) c d ≡ true
    may = may_when promote (may_promote (piece_at (put_on q arrived hands b).cells c) c d) (board_parts (put_on q arrived hands b) c d promote l).3

    end_off : d ≢ b
    end_off at = both_ways (is_piece_of q.side arrived) (ap (is_piece_of q.side) (sym (ap (piece_at (put_on q arrived hands b).cells) at ∙ put)) ∙ free) owned

    free_before : is_piece_of q.side (piece_at q.cells d) ≡ false
    free_before = ap (is_piece_of q.side) (sym (same d end_off)) ∙ free

    not_king : king ≢ d
    not_king at = both_ways (reaches (put_on q arrived hands b).cells c king) (takes_no_king (put_on q arrived hands b) c king v hc no_threats.king_replies.king_fits crown_now own) (subst (λ (x : ℕ). reaches (put_on q arrived hands b).cells c x ≡ true) (sym at) reach)

    gain_here : (cell : Option Piece) → piece_at (put_on q arrived hands b).cells c ≡ cell → taken_gain e (piece_at q.cells d) + promotion_gain promote cell ≤ gains → taken_gain e (piece_at (put_on q arrived hands b).cells d) + promotion_gain promote (piece_at (put_on q arrived hands b).cells c) ≤ gains
    gain_here cell at few =
        let one : taken_gain e (piece_at (put_on q arrived hands b).cells d) ≡ taken_gain e (piece_at q.cells d) = ap (taken_gain e) (same d end_off) in
        let two : promotion_gain promote (piece_at (put_on q arrived hands b).cells c) ≡ promotion_gain promote cell = ap (promotion_gain promote) at in
        omega (arith, one, two, few)

    own_moved : is_piece_of q.side (piece_moved promote (piece_at (put_on q arrived hands b).cells c)) ≡ true
    own_moved = is_piece_of-piece_moved q.side promote (piece_at (put_on q arrived hands b).cells c) ∙ own

    end_there : piece_at (cells_after (put_on q arrived hands b).cells q.side (Board c d promote)) d ≡ piece_moved promote (piece_at (put_on q arrived hands b).cells c)
    end_there = get_or-set_same (set (put_on q arrived hands b).cells c None) d (piece_moved promote (piece_at (put_on q arrived hands b).cells c)) None (omega (arith, length-set (put_on q arrived hands b).cells c None, fits, hd))

    -- the piece that arrived moves
    dropped_moves : c ≡ b → (taken_gain e (piece_at (put_on q arrived hands b).cells d) + promotion_gain promote (piece_at (put_on q arrived hands b).cells c) ≤ gains) × (HasBoardMove quiet_only (after (put_on q arrived hands b) (Board c d promote)))
    unfolding reaches
    dropped_moves at =
        let there : piece_at (put_on q arrived hands b).cells c ≡ arrived = ap (piece_at (put_on q arrived hands b).cells) at ∙ put in
        let led : cell_reaches (without_king q king) arrived b d ≡ true = reached_now arrived b d (subst (λ (x : ℕ). cell_reaches (put_on q arrived hands b).cells arrived x d ≡ true) at (ap (λ (cell : Option Piece). cell_reaches (put_on q arrived hands b).cells cell c d) (sym there) ∙ reach)) in
        let lets : promote ≡ true → may_promote arrived b d ≡ true = λ p. subst (λ (x : ℕ). may_promote arrived x d ≡ true) at (ap (λ (cell : Option Piece). may_promote cell c d) (sym there) ∙ may p) in
        let no_threat : IsNoThreat quiet_only q e gains king arrived squares d promote = unthreatening.next d promote hd free_before led lets in
        let one = no_threat.leaves in
        let moved : piece_moved promote (piece_at (put_on q arrived hands b).cells c) ≡ piece_moved promote arrived = ap (piece_moved promote) there in (
          gain_here arrived there no_threat.gain,
          λ none. no_threats.king_replies.replies one.0 one.1 one.2
              (λ flight. none king one.0 no_threats.king_replies.king_fits one.1
              (king_goes q.cells (cells_after (put_on q arrived hands b).cells q.side (Board c d promote)) (after (put_on q arrived hands b) (Board c d promote)).hands q.side (λ x. ⊥) d (piece_moved promote (piece_at (put_on q arrived hands b).cells c))
              (length-after (put_on q arrived hands b).cells q.side (Board c d promote) ∙ fits)
              own_moved (seen_after at)
              king one.0 no_threats.king_replies.king_fits one.1 no_threats.king_replies.crown (λ left. left) not_king flight.escape
              (ap (λ (cell : Option Piece). cell_reaches (set q.cells king None) cell d one.0) moved ∙ one.3)
              (λ x left. absurd left))
              (λ only. elim (seen_after at one.0) [
                | inl end ↦ absurd (one.4 only end.0)
                | inr rest ↦ elim rest [ inl gone ↦ absurd gone.0 | inr stood ↦ ap is_none stood ∙ flight.bare only ]
              ]))
              (λ home. by_spare (cells_after (put_on q arrived hands b).cells q.side (Board c d promote)) (after (put_on q arrived hands b) (Board c d promote)).hands d home.1
              (left_board (put_on q arrived hands b) c d promote v hc hd own)
              (unchecked_by q.cells (cells_after (put_on q arrived hands b).cells q.side (Board c d promote)) q.side (λ x. ⊥) d (piece_moved promote (piece_at (put_on q arrived hands b).cells c)) hd own_moved (seen_after at) end_there (λ x left. absurd left)
              (subst (λ (cell : Option Piece). IsHarmless q.cells (opponent_of q.side) cell d) (sym moved)
              (harmless_there q.cells (opponent_of q.side) king q.cells (piece_moved promote arrived) d len no_threats.king_replies.king_fits no_threats.king_replies.only_king (λ x n. n) (subst (λ (x : ℕ). cell_reaches (without_king q king) (piece_moved promote arrived) d x ≡ false) home.0 one.3)))
              no_threats.king_replies.unchecked) none),
        )
      where
        left_none : (x : ℕ) → c ≡ b → x ≡ c → is_none (piece_at (cells_after (put_on q arrived hands b).cells q.side (Board c d promote)) x) ≡ true
        left_none x at here =
            let other : x ≢ d = λ end. end_off (sym end ∙ (here ∙ at)) in
            ap is_none (get_or-set_other (set (put_on q arrived hands b).cells c None) d x (piece_moved promote (piece_at (put_on q arrived hands b).cells c)) None other ∙ (ap (piece_at (set (put_on q arrived hands b).cells c None)) here ∙ get_or-set_same (put_on q arrived hands b).cells c None None (omega (arith, fits, hc))))

        seen_after : c ≡ b → (x : ℕ) → ((x ≡ d) × (piece_at (cells_after (put_on q arrived hands b).cells q.side (Board c d promote)) x ≡ piece_moved promote (piece_at (put_on q arrived hands b).cells c))) ⊎ ((⊥ × (piece_at (cells_after (put_on q arrived hands b).cells q.side (Board c d promote)) x ≡ None)) ⊎ (piece_at (cells_after (put_on q arrived hands b).cells q.side (Board c d promote)) x ≡ piece_at q.cells x))
        seen_after at x = elim (look (put_on q arrived hands b).cells q.side c d (piece_moved promote (piece_at (put_on q arrived hands b).cells c)) fits hc hd x) [
          | inl end ↦ inl end
          | inr rest ↦ elim rest [
            | inl gone ↦ inr (inr (gone.1 ∙ (sym bare ∙ ap (piece_at q.cells) (sym (gone.0 ∙ at)))))
            | inr stood ↦ elim (cases_eq x b) [
              | inl here ↦ inr (inr (let clash : x ≡ c = here ∙ sym at in absurd (both_ways (is_none (piece_at (cells_after (put_on q arrived hands b).cells q.side (Board c d promote)) x)) (ap is_none stood ∙ (ap (λ (y : ℕ). is_none (piece_at (put_on q arrived hands b).cells y)) clash ∙ own_some q.side (piece_at (put_on q arrived hands b).cells c) own)) (left_none x at clash))))
              | inr other ↦ inr (inr (stood ∙ same x other))
            ]
          ]
        ]

    -- a piece that stood there moves
    other_moves : c ≢ b → (taken_gain e (piece_at (put_on q arrived hands b).cells d) + promotion_gain promote (piece_at (put_on q arrived hands b).cells c) ≤ gains) × (HasBoardMove quiet_only (after (put_on q arrived hands b) (Board c d promote)))
    unfolding reaches
    other_moves off =
        let there : piece_at (put_on q arrived hands b).cells c ≡ piece_at q.cells c = same c off in
        let led : cell_reaches (without_king q king) (piece_at q.cells c) c d ≡ true = reached_now (piece_at q.cells c) c d (ap (λ (cell : Option Piece). cell_reaches (put_on q arrived hands b).cells cell c d) (sym there) ∙ reach) in
        let lets : promote ≡ true → may_promote (piece_at q.cells c) c d ≡ true = λ p. ap (λ (cell : Option Piece). may_promote cell c d) (sym there) ∙ may p in
        let moved : piece_moved promote (piece_at (put_on q arrived hands b).cells c) ≡ piece_moved promote (piece_at q.cells c) = ap (piece_moved promote) there in
        let own_before : is_piece_of q.side (piece_at q.cells c) ≡ true = ap (is_piece_of q.side) (sym there) ∙ own in
        elim (no_threats.pieces c hc own_before d promote hd free_before led lets) [
          | inl no_threat ↦ (gain_here (piece_at q.cells c) there no_threat.0, left_one there moved no_threat.1)
          | inr stopped ↦ absurd (both_ways (in_check (cells_after (put_on q arrived hands b).cells q.side (Board c d promote)) q.side)
              (legal_parts (put_on q arrived hands b) (Board c d promote) l).1
              (still_exposes q arrived kept_empty b c d promote len hb hc hd own_before (λ at. off (sym at)) (λ at. end_off (sym at)) off_kept_empty stopped))
        ]
      where
        left_one : piece_at (put_on q arrived hands b).cells c ≡ piece_at q.cells c → piece_moved promote (piece_at (put_on q arrived hands b).cells c) ≡ piece_moved promote (piece_at q.cells c) → ((set : ℕ) × AreOffLines c squares set × LeavesReplySquare quiet_only (without_king q king) (piece_moved promote (piece_at q.cells c)) d set) → HasBoardMove quiet_only (after (put_on q arrived hands b) (Board c d promote))
        left_one there moved no_threat =
            let one = no_threat.2 in
            let out = no_threat.1 one.0 one.1 one.2 in
            let short : cell_reaches (without_king q king) (piece_moved promote (piece_at (put_on q arrived hands b).cells c)) d one.0 ≡ false = ap (λ (cell : Option Piece). cell_reaches (without_king q king) cell d one.0) moved ∙ one.3 in
            λ none. no_threats.king_replies.replies one.0 one.1 out.0
            (λ flight. none king one.0 no_threats.king_replies.king_fits one.1
            (king_goes (put_on q arrived hands b).cells (cells_after (put_on q arrived hands b).cells q.side (Board c d promote)) (after (put_on q arrived hands b) (Board c d promote)).hands q.side (λ x. x ≡ c) d (piece_moved promote (piece_at (put_on q arrived hands b).cells c))
            (length-after (put_on q arrived hands b).cells q.side (Board c d promote) ∙ fits)
            own_moved
            (look (put_on q arrived hands b).cells q.side c d (piece_moved promote (piece_at (put_on q arrived hands b).cells c)) fits hc hd)
            king one.0 no_threats.king_replies.king_fits one.1 crown_now
            (λ at. both_ways (is_piece_of (opponent_of q.side) (piece_at (put_on q arrived hands b).cells c)) (other_side q.side (piece_at (put_on q arrived hands b).cells c) own) (subst (λ (x : ℕ). is_piece_of (opponent_of q.side) (piece_at (put_on q arrived hands b).cells x) ≡ true) at (king_own (opponent_of q.side) (piece_at (put_on q arrived hands b).cells king) crown_now)))
            not_king (escape_now one.0 one.1 out.0 flight.escape)
            (short_lifted (piece_moved promote (piece_at (put_on q arrived hands b).cells c)) d one.0 short)
            (λ x left. subst (λ (y : ℕ). are_lined (set (put_on q arrived hands b).cells king None) y one.0 ≡ false) (sym left) (false_from_ne_true _ (λ lined. both_ways (are_aligned c one.0) out.1 (lined_aligned (set (put_on q arrived hands b).cells king None) c one.0 lined)))))
            (λ only. elim (look (put_on q arrived hands b).cells q.side c d (piece_moved promote (piece_at (put_on q arrived hands b).cells c)) fits hc hd one.0) [
              | inl end ↦ absurd (one.4 only end.0)
              | inr rest ↦ elim rest [
                | inl gone ↦ ap is_none gone.1
                | inr stood ↦ ap is_none stood ∙ (ap is_none (same one.0 (square_off one.0 out.0)) ∙ flight.bare only)
              ]
            ]))
            (λ home. by_spare (cells_after (put_on q arrived hands b).cells q.side (Board c d promote)) (after (put_on q arrived hands b) (Board c d promote)).hands d home.1
            (left_board (put_on q arrived hands b) c d promote v hc hd own)
            (unchecked_by (put_on q arrived hands b).cells (cells_after (put_on q arrived hands b).cells q.side (Board c d promote)) q.side (λ x. x ≡ c) d (piece_moved promote (piece_at (put_on q arrived hands b).cells c)) hd own_moved
            (look (put_on q arrived hands b).cells q.side c d (piece_moved promote (piece_at (put_on q arrived hands b).cells c)) fits hc hd) end_there
            (λ x left. subst (λ (y : ℕ). is_lined_with_king (put_on q arrived hands b).cells (opponent_of q.side) y ≡ false) (sym left) (unlined_with (put_on q arrived hands b).cells (opponent_of q.side) king c only_king_now
            (false_from_ne_true _ (λ lined. both_ways (are_aligned c king) (subst (λ (x : ℕ). are_aligned c x ≡ false) home.0 out.1) (lined_aligned (put_on q arrived hands b).cells c king lined)))))
            (harmless_now (piece_moved promote (piece_at (put_on q arrived hands b).cells c)) d one.0 home.0 short)
            unchecked_now) none)

    board_no_threat : (taken_gain e (piece_at (put_on q arrived hands b).cells d) + promotion_gain promote (piece_at (put_on q arrived hands b).cells c) ≤ gains) × (HasBoardMove quiet_only (after (put_on q arrived hands b) (Board c d promote)))
    board_no_threat = elim (cases_eq c b) [ inl here ↦ dropped_moves here | inr off ↦ other_moves off ]

  -- ---- a drop

  drop_no_threat : (other : Kind) (d : ℕ) → d < 81 → is_legal (put_on q arrived hands b) (Drop other d) ≡ true → HasBoardMove quiet_only (after (put_on q arrived hands b) (Drop other d))
  drop_no_threat other d hd l =
      let parts = drop_parts (put_on q arrived hands b) other d l in
      let empty : piece_at (put_on q arrived hands b).cells d ≡ None = none_is (piece_at (put_on q arrived hands b).cells d) parts.1 in
      let off : d ≢ b = λ at. both_ways (is_none arrived) (own_some q.side arrived owned) (ap is_none (sym put) ∙ (ap (λ (x : ℕ). is_none (piece_at (put_on q arrived hands b).cells x)) (sym at) ∙ parts.1)) in
      let one = no_threats.kinds other (fewer other (ltb-true 0 (count_in_hand (put_on q arrived hands b).hands q.side other) parts.0)) d hd (sym (same d off) ∙ empty) parts.2 in
      let not_there : king ≢ d = λ at. both_ways (is_king (opponent_of q.side) None) refl (ap (is_king (opponent_of q.side)) (sym empty) ∙ subst (λ (x : ℕ). is_king (opponent_of q.side) (piece_at (put_on q arrived hands b).cells x) ≡ true) at crown_now) in
      λ none. no_threats.king_replies.replies one.0 one.1 one.2
      (λ flight. none king one.0 no_threats.king_replies.king_fits one.1
      (king_goes (put_on q arrived hands b).cells (cells_after (put_on q arrived hands b).cells q.side (Drop other d)) (after (put_on q arrived hands b) (Drop other d)).hands q.side (λ x. ⊥) d (dropped q.side other)
      (length-after (put_on q arrived hands b).cells q.side (Drop other d) ∙ fits)
      (dropped_of q.side other)
      (λ x. elim (drops.look (put_on q arrived hands b).cells q.side other d fits hd x) [ inl here ↦ inl here | inr stood ↦ inr (inr stood) ])
      king one.0 no_threats.king_replies.king_fits one.1 crown_now (λ left. left) not_there (escape_now one.0 one.1 one.2 flight.escape)
      (short_lifted (dropped q.side other) d one.0 one.3)
      (λ x left. absurd left))
      (λ only. elim (drops.look (put_on q arrived hands b).cells q.side other d fits hd one.0) [
        | inl here ↦ absurd (one.4 only here.0)
        | inr stood ↦ ap is_none stood ∙ (ap is_none (same one.0 (square_off one.0 one.2)) ∙ flight.bare only)
      ]))
      (λ home. by_spare (cells_after (put_on q arrived hands b).cells q.side (Drop other d)) (after (put_on q arrived hands b) (Drop other d)).hands d home.1
      (left_drop (put_on q arrived hands b) other d v hd) (shut_drop (put_on q arrived hands b) other d v hd (harmless_now (dropped q.side other) d one.0 home.0 one.3)) none)

  -- no move gains more than before, and none mates
  pub bounded : (t : ℤ) → (material_of (put_on q arrived hands b) e +ℤ pos gains) ≤ℤ t → IsBoundedAndAnswered quiet_only (put_on q arrived hands b) e t
  bounded t room = record {
    gains = λ c on l. few c on l;
    least = omega (arith, ints, room);
    answered = λ c on l. some c on l;
  }
    where
      few : (c : Move) → IsOnSquares c → is_legal (put_on q arrived hands b) c ≡ true → (material_of (put_on q arrived hands b) e +ℤ gain_of (put_on q arrived hands b) e c) ≤ℤ t
      few (Board c d promote) on l =
          let little : taken_gain e (piece_at (put_on q arrived hands b).cells d) + promotion_gain promote (piece_at (put_on q arrived hands b).cells c) ≤ gains = (board_no_threat c d promote on.0 on.1 l).0 in
          omega (arith, ints, little, room)
      few (Drop other d) on l =
          let none : drop_gain e other ≤ℤ pos 0 = drop_little e other in
          omega (arith, ints, none, room)

      some : (c : Move) → IsOnSquares c → is_legal (put_on q arrived hands b) c ≡ true → HasBoardMove quiet_only (after (put_on q arrived hands b) c)
      some (Board c d promote) on l = (board_no_threat c d promote on.0 on.1 l).1
      some (Drop other d) on l = drop_no_threat other d on l
