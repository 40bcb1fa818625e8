-- A side without threats has none after a piece that its position does not rely on has left its square.
use Rattle.std.proofs.Common.{◌≡◌, ◌≢◌, ◌⊎◌, ℕ, ◌+◌, ◌<◌, ◌≤◌, Bool, true, false, List, [], ◌∷◌, Option, Some, None, refl, sym, ap, subst, ◌∙◌, inl, inr, arith, set, length-set, get_or-set_other}
use Rattle.std.specs.Prelude.{is_none}
use Rattle.std.specs.List.{list_any}
use Rattle.std.proofs.lemmas.Bool.{both_ways, cases_Bool, cases_eq, false_from_ne_true, or_cases, or_left, or_right}
use Rattle.shogi_core.specs.declared.offset.Offset.{Offset}
use Rattle.shogi_core.specs.declared.piece.Color.{Color}
use Rattle.shogi_core.specs.declared.piece.Kind.{Kind}
use Rattle.shogi_core.specs.declared.piece.Piece.{Piece}
use Rattle.shogi_core.specs.declared.piece.Role.{Role}
use Rattle.shogi_core.specs.declared.piece.Role.TheVariants.{Lance, Bishop, Rook, Horse, Dragon}
use Rattle.shogi_core.specs.Attack.{in_check}
use Rattle.shogi_core.specs.Bits.{has_bit}
use Rattle.shogi_core.specs.Cell.{is_immobile, is_king, is_piece_of, is_sliding_role}
use Rattle.shogi_core.specs.Lines.{are_lined, is_lined_with_king}
use Rattle.shogi_core.specs.Movement.{Cells, cell_reaches, for_side, has_slide, has_step, piece_at, reaches, slides, slides_of}
use Rattle.shogi_core.specs.Pieces.{opponent_of}
use Rattle.shogi_core.specs.Position.{Shogi, count_in_hand}
use Rattle.shogi_core.specs.Zones.{may_promote}
use Rattle.shogi_core.proofs.Discovered.{attacked_was_but, reach_was, slides_was}
use Rattle.shogi_core.proofs.Replies.{no_check}
use Rattle.shogi_moves.specs.After.{dropped, piece_moved}
use Rattle.shogi_moves.specs.Escapes.{IsEscape}
use Rattle.shogi_moves.proofs.CheckInfoLaws.{other_side, own_some}
use Rattle.shogi_moves.proofs.EscapeLaws.{king_reach}
use Rattle.shogi_moves.proofs.KingLaws.{king_own}
use Rattle.shogi_moves.proofs.MovedPieces.{opponent_twice}
use Rattle.shogi_replies.proofs.CheckLaws.{reach_both_ways}
use Rattle.shogi_eval.specs.declared.eval.Eval.{Eval}
use Rattle.shogi_eval.specs.Material.{promotion_gain, taken_gain}
use Rattle.analogous_moves.specs.Analogies.{AreOffLines, HasSpareMoves, IsNoThreatOffLines, HasNoThreats, ExposesOwnKing, IsOffOpenLines, DropGetsNoThreat, LeavesReplySquare, PieceHasNoThreat, PieceGetsNoThreat, lifted, without_king}
use Rattle.shogi_replies.proofs.KingGoes.{cleared_none}
use Rattle.shogi_replies.proofs.ReplyLaws.{step_parts}
use Rattle.analogous_moves.proofs.ExposingLaws.{exposes_lifted}
use Rattle.analogous_moves.proofs.SpareMoves.{step_same}
use Rattle.analogous_moves.proofs.Unchecked.{unlined_with_king}

-- ---- a slide through an emptied square

no_directions : (role : Role) → is_sliding_role role ≡ false → slides_of role ≡ []
no_directions Lance e = absurd (cc)
no_directions Bishop e = absurd (cc)
no_directions Rook e = absurd (cc)
no_directions Horse e = absurd (cc)
no_directions Dragon e = absurd (cc)
no_directions _ e = refl

-- the piece in the other side's colour
abbrev turned : Piece → Piece
turned piece = record { color = opponent_of piece.color; role = piece.role }

module _ (old new : Cells) (a : ℕ) (opened : (x : ℕ) → is_none (piece_at new x) ≡ true → (is_none (piece_at old x) ≡ true) ⊎ (x ≡ a)) where
  slides_cut : (color : Color) (from to : ℕ) (os : List Offset) → list_any (λ o. slides new (for_side color o) from to) os ≡ true → (list_any (λ o. slides old (for_side color o) a to) os ≡ true) ⊎ (list_any (λ o. slides old (for_side color o) from to) os ≡ true)
  slides_cut color from to [] e = absurd (cc)
  slides_cut color from to (o ∷ os) e = elim (or_cases (slides new (for_side color o) from to) (list_any (λ d. slides new (for_side color d) from to) os) e) [
    | inl here ↦ elim (slides_was old new (λ x. x ≡ a) opened (for_side color o) from to here) [
      | inl met ↦ inl (or_left (slides old (for_side color o) a to) _ (subst (λ (x : ℕ). slides old (for_side color o) x to ≡ true) met.1 met.2))
      | inr was ↦ inr (or_left (slides old (for_side color o) from to) _ was)
    ]
    | inr later ↦ elim (slides_cut color from to os later) [
      | inl met ↦ inl (or_right (slides old (for_side color o) a to) _ met)
      | inr was ↦ inr (or_right (slides old (for_side color o) from to) _ was)
    ]
  ]

  -- a piece attacks what it attacked before, unless it is a slider that attacked the emptied square
  pub reach_cut : (piece : Piece) (from to : ℕ) → from < 81 → to < 81 → a < 81 → (is_sliding_role piece.role ≡ false) ⊎ (cell_reaches old (Some piece) from a ≡ false) → cell_reaches new (Some piece) from to ≡ true → cell_reaches old (Some piece) from to ≡ true
  reach_cut piece from to hf ht ha kept_empty e = elim (or_cases (has_step (turned piece) to from) (has_slide new (turned piece) to from) (reach_both_ways new piece from to hf e)) [
    | inl step ↦ turn to (reach_both_ways old (turned piece) to from ht (or_left (has_step (turned piece) to from) (has_slide old (turned piece) to from) step))
    | inr slide ↦ elim kept_empty [
      | inl still ↦ absurd (both_ways (has_slide new (turned piece) to from) (ap (λ (os : List Offset). list_any (λ o. slides new (for_side (opponent_of piece.color) o) to from) os) (no_directions piece.role still)) slide)
      | inr short ↦ elim (slides_cut (opponent_of piece.color) to from (slides_of piece.role) slide) [
        | inl met ↦ absurd (both_ways (cell_reaches old (Some piece) from a) short (turn a (reach_both_ways old (turned piece) a from ha (or_right (has_step (turned piece) a from) (has_slide old (turned piece) a from) met))))
        | inr was ↦ turn to (reach_both_ways old (turned piece) to from ht (or_right (has_step (turned piece) to from) (has_slide old (turned piece) to from) was))
      ]
    ]
  ]
    where
      turn : (x : ℕ) → cell_reaches old (Some (record { color = opponent_of (opponent_of piece.color); role = piece.role })) from x ≡ true → cell_reaches old (Some piece) from x ≡ true
      turn x r = ap (λ (color : Color). cell_reaches old (Some (record { color = color; role = piece.role })) from x) (sym (opponent_twice piece.color)) ∙ r

-- ---- a piece is lifted

-- with the king lifted, only the emptied square is newly empty
pub opened_lifted : (q : Shogi) (king a x : ℕ) → is_none (piece_at (without_king (lifted q a) king) x) ≡ true → (is_none (piece_at (without_king q king) x) ≡ true) ⊎ (x ≡ a)
opened_lifted q king a x n = elim (cases_eq x king) [
  | inl here ↦ inl (subst (λ (y : ℕ). is_none (piece_at (without_king q king) y) ≡ true) (sym here) (ap is_none (cleared_none q.cells king)))
  | inr off ↦ elim (cases_eq x a) [
    | inl at ↦ inr at
    | inr other ↦ inl (ap is_none (get_or-set_other q.cells king x None None off) ∙ (ap is_none (sym (get_or-set_other q.cells a x None None other)) ∙ (ap is_none (sym (get_or-set_other (lifted q a).cells king x None None off)) ∙ n)))
  ]
]

-- an attack with the piece lifted stood before, unless it is by a slider that attacked the piece
pub reach_lifted : (q : Shogi) (king a : ℕ) (piece : Piece) (from to : ℕ) → from < 81 → to < 81 → a < 81 → (is_sliding_role piece.role ≡ false) ⊎ (cell_reaches (without_king q king) (Some piece) from a ≡ false) → cell_reaches (without_king (lifted q a) king) (Some piece) from to ≡ true → cell_reaches (without_king q king) (Some piece) from to ≡ true
reach_lifted q king a piece from to hf ht ha cut reached = reach_cut (without_king q king) (without_king (lifted q a) king) a (opened_lifted q king a) piece from to hf ht ha cut reached

module _ (quiet_only : Bool) (q : Shogi) (e : Eval) (gains king squares kept_empty a : ℕ) (ha : a < 81) (mine : is_piece_of q.side (piece_at q.cells a) ≡ true) (off : has_bit kept_empty a ≡ false) (no_threats : HasNoThreats quiet_only q e gains king squares kept_empty) (off_open_lines : IsOffOpenLines q king squares a) where
  king_off : king ≢ a
  king_off at = both_ways (is_piece_of (opponent_of q.side) (piece_at q.cells a)) (other_side q.side (piece_at q.cells a) mine) (subst (λ (x : ℕ). is_piece_of (opponent_of q.side) (piece_at q.cells x) ≡ true) at (king_own (opponent_of q.side) (piece_at q.cells king) no_threats.king_replies.crown))

  same : (x : ℕ) → x ≢ a → piece_at (lifted q a).cells x ≡ piece_at q.cells x
  same x off = get_or-set_other q.cells a x None None off

  gone : piece_at (lifted q a).cells a ≡ None
  gone = cleared_none q.cells a

  opened : (x : ℕ) → is_none (piece_at (without_king (lifted q a) king) x) ≡ true → (is_none (piece_at (without_king q king) x) ≡ true) ⊎ (x ≡ a)
  opened x n = opened_lifted q king a x n

  short : (cell : Option Piece) (n s : ℕ) → are_lined (without_king q king) a s ≡ false → cell_reaches (without_king q king) cell n s ≡ false → cell_reaches (without_king (lifted q a) king) cell n s ≡ false
  short cell n s off out = false_from_ne_true _ (λ r. both_ways (cell_reaches (without_king q king) cell n s) out
      (reach_was (without_king q king) (without_king (lifted q a) king) (λ x. x ≡ a) opened cell n s (λ x left. subst (λ (y : ℕ). are_lined (without_king q king) y s ≡ false) (sym left) off) r))

  leaves : (cell : Option Piece) (n among : ℕ) → ((m : ℕ) → m < 81 → has_bit among m ≡ true → has_bit squares m ≡ true) → LeavesReplySquare quiet_only (without_king q king) cell n among → LeavesReplySquare quiet_only (without_king (lifted q a) king) cell n among
  leaves cell n among within one = (one.0, one.1, one.2, short cell n one.0 (off_open_lines.off_squares one.0 one.1 (within one.0 one.1 one.2)) one.3, one.4)

  -- ---- the king keeps its flight squares

  crown_now : is_king (opponent_of q.side) (piece_at (lifted q a).cells king) ≡ true
  crown_now = ap (is_king (opponent_of q.side)) (same king king_off) ∙ no_threats.king_replies.crown

  only_king_now : (x : ℕ) → x < 81 → x ≢ king → is_king (opponent_of q.side) (piece_at (lifted q a).cells x) ≡ false
  only_king_now x hx other = elim (cases_eq x a) [
    | inl at ↦ ap (λ (y : ℕ). is_king (opponent_of q.side) (piece_at (lifted q a).cells y)) at ∙ ap (is_king (opponent_of q.side)) gone
    | inr off ↦ ap (is_king (opponent_of q.side)) (same x off) ∙ no_threats.king_replies.only_king x hx other
  ]

  opened_up : (x : ℕ) → is_none (piece_at (set (lifted q a).cells king None) x) ≡ true → (is_none (piece_at (set q.cells king None) x) ≡ true) ⊎ (x ≡ a)
  opened_up x n = opened x n

  stood : (color : Color) (y : ℕ) → is_piece_of color (piece_at (set (lifted q a).cells king None) y) ≡ true → piece_at (set q.cells king None) y ≡ piece_at (set (lifted q a).cells king None) y
  stood color y own = elim (cases_eq y king) [
    | inl here ↦ subst (λ (x : ℕ). piece_at (set q.cells king None) x ≡ piece_at (set (lifted q a).cells king None) x) (sym here) (cleared_none q.cells king ∙ sym (cleared_none (lifted q a).cells king))
    | inr off ↦ elim (cases_eq y a) [
      | inl at ↦ absurd (both_ways (is_piece_of color None) refl (ap (is_piece_of color) (sym (get_or-set_other (lifted q a).cells king y None None off ∙ (ap (piece_at (lifted q a).cells) at ∙ gone))) ∙ own))
      | inr other ↦ get_or-set_other q.cells king y None None off ∙ (sym (same y other) ∙ sym (get_or-set_other (lifted q a).cells king y None None off))
    ]
  ]

  escape_now : (n : ℕ) → n < 81 → has_bit squares n ≡ true → IsEscape q.cells (opponent_of q.side) king n → IsEscape (lifted q a).cells (opponent_of q.side) king n
  unfolding reaches
  escape_now n h bit was =
      record {
        step = record {
          lone = only_king_now;
          reached = ap (λ (cell : Option Piece). cell_reaches (lifted q a).cells cell king n) (same king king_off) ∙ king_reach q.cells (lifted q a).cells (opponent_of q.side) (piece_at q.cells king) king n no_threats.king_replies.crown was.step.reached;
          open_end = elim (cases_eq n a) [
            | inl at ↦ ap (λ (y : ℕ). is_piece_of (opponent_of q.side) (piece_at (lifted q a).cells y)) at ∙ ap (is_piece_of (opponent_of q.side)) gone
            | inr off ↦ ap (is_piece_of (opponent_of q.side)) (same n off) ∙ was.step.open_end
          ];
        };
        safe = attacked_was_but (set q.cells king None) (set (lifted q a).cells king None) (λ x. x ≡ a) opened_up (opponent_of (opponent_of q.side)) n (λ y own. inl (stood (opponent_of (opponent_of q.side)) y own))
            (λ x left. subst (λ (y : ℕ). are_lined (without_king q king) y n ≡ false) (sym left) (off_open_lines.off_squares n h bit)) was.safe;
      }

  bare_now : (n : ℕ) → is_none (piece_at q.cells n) ≡ true → is_none (piece_at (lifted q a).cells n) ≡ true
  bare_now n was = elim (cases_eq n a) [
    | inl at ↦ ap (λ (y : ℕ). is_none (piece_at (lifted q a).cells y)) at ∙ ap is_none gone
    | inr off ↦ ap is_none (same n off) ∙ was
  ]

  -- the other side is still not in check
  unchecked_now : in_check (lifted q a).cells (opponent_of q.side) ≡ false
  unchecked_now =
      no_check q.cells (lifted q a).cells (λ x. x ≡ a)
      (λ x e. elim (cases_eq x a) [ inl at ↦ inr at | inr other ↦ inl (ap is_none (sym (same x other)) ∙ e) ])
      (opponent_of q.side) a ha
      (λ x e. elim (cases_eq x a) [ inl at ↦ inr at | inr other ↦ inl (sym (same x other)) ])
      (λ k e. elim (cases_eq k a) [
        | inl at ↦ absurd (both_ways (is_king (opponent_of q.side) None) refl (ap (is_king (opponent_of q.side)) (sym (ap (piece_at (lifted q a).cells) at ∙ gone)) ∙ e))
        | inr other ↦ sym (same k other)
      ])
      (λ x left. subst (λ (y : ℕ). is_lined_with_king q.cells (opponent_of q.side) y ≡ false) (sym left) (unlined_with_king q.cells (opponent_of q.side) king a no_threats.king_replies.cells_fit no_threats.king_replies.king_fits no_threats.king_replies.only_king off_open_lines.off_king))
      (λ k l e. ap (λ (cell : Option Piece). cell_reaches q.cells cell a k) gone)
      no_threats.king_replies.unchecked

  -- the other side keeps its spare moves
  spare_now : HasSpareMoves q king → HasSpareMoves (lifted q a) king
  spare_now spares b d =
      let one = spares b d in
      let step = step_parts q.cells one.0 one.1 one.7.step in
      let from_off : one.0 ≢ a = λ at. both_ways (is_piece_of (opponent_of q.side) (piece_at q.cells a)) (other_side q.side (piece_at q.cells a) mine) (subst (λ (x : ℕ). is_piece_of (opponent_of q.side) (piece_at q.cells x) ≡ true) at one.7.own) in
      let end_off : one.1 ≢ a = λ at. both_ways (is_none (piece_at q.cells a)) (own_some q.side (piece_at q.cells a) mine) (subst (λ (x : ℕ). is_none (piece_at q.cells x) ≡ true) at step.1) in (
        one.0,
        one.1,
        one.2,
        one.3,
        one.4,
        one.5,
        one.6,
        record {
          own = ap (is_piece_of (opponent_of q.side)) (same one.0 from_off) ∙ one.7.own;
          off_king = one.7.off_king;
          off_lines = one.7.off_lines;
          step = step_same q.cells (lifted q a).cells one.0 one.1 (same one.0 from_off) (same one.1 end_off) one.7.step;
        },
      )

  -- ---- moves of the other pieces

  piece_no_threat : (from : ℕ) → from < 81 → is_piece_of q.side (piece_at (lifted q a).cells from) ≡ true → PieceGetsNoThreat quiet_only q e gains king squares from a → PieceHasNoThreat quiet_only (lifted q a) e gains king squares kept_empty from
  piece_no_threat from hf own lets n promote h free reached may = goes
    where
      off_a : from ≢ a
      off_a at = both_ways (is_piece_of q.side None) refl (ap (is_piece_of q.side) (sym (ap (piece_at (lifted q a).cells) at ∙ gone)) ∙ own)

      there : piece_at (lifted q a).cells from ≡ piece_at q.cells from
      there = same from off_a

      mine_there : is_piece_of q.side (piece_at q.cells from) ≡ true
      mine_there = ap (is_piece_of q.side) (sym there) ∙ own

      may_there : promote ≡ true → may_promote (piece_at q.cells from) from n ≡ true
      may_there p = ap (λ (cell : Option Piece). may_promote cell from n) (sym there) ∙ may p

      moved_there : (m set : ℕ) → AreOffLines from squares set → LeavesReplySquare quiet_only (without_king q king) (piece_moved promote (piece_at q.cells from)) m set → LeavesReplySquare quiet_only (without_king (lifted q a) king) (piece_moved promote (piece_at (lifted q a).cells from)) m set
      moved_there m set lines one = subst (λ (cell : Option Piece). LeavesReplySquare quiet_only (without_king (lifted q a) king) (piece_moved promote cell) m set) (sym there) (leaves (piece_moved promote (piece_at q.cells from)) m set (λ i hi bit. (lines i hi bit).0) one)

      -- the destination is new
      anew : (cell_reaches (without_king q king) (piece_at q.cells from) from n ≡ true → n ≡ a) → IsNoThreatOffLines quiet_only (lifted q a) e gains king squares from n promote
      anew fresh =
          let no_threat = lets.no_threat n promote h free (ap (λ (cell : Option Piece). cell_reaches (without_king (lifted q a) king) cell from n) (sym there) ∙ reached) fresh may_there in
          let little : promotion_gain promote (piece_at (lifted q a).cells from) ≡ promotion_gain promote (piece_at q.cells from) = ap (promotion_gain promote) there in
          let few : taken_gain e (piece_at (lifted q a).cells n) + promotion_gain promote (piece_at q.cells from) ≤ gains = no_threat.0 in
          (omega (arith, little, few), (no_threat.1.0, no_threat.1.1, moved_there n no_threat.1.0 no_threat.1.1 no_threat.1.2))

      -- the destination was reached before
      as_before : n ≢ a → cell_reaches (without_king q king) (piece_at q.cells from) from n ≡ true → IsNoThreatOffLines quiet_only (lifted q a) e gains king squares from n promote ⊎ ExposesOwnKing (lifted q a) kept_empty from n
      as_before other was = elim (no_threats.pieces from hf mine_there n promote h (ap (is_piece_of q.side) (sym (same n other)) ∙ free) was may_there) [
        | inl no_threat ↦ (
            let alike : taken_gain e (piece_at (lifted q a).cells n) ≡ taken_gain e (piece_at q.cells n) = ap (taken_gain e) (same n other) in
            let little : promotion_gain promote (piece_at (lifted q a).cells from) ≡ promotion_gain promote (piece_at q.cells from) = ap (promotion_gain promote) there in
            let few : taken_gain e (piece_at q.cells n) + promotion_gain promote (piece_at q.cells from) ≤ gains = no_threat.0 in
            inl (omega (arith, alike, little, few), (no_threat.1.0, no_threat.1.1, moved_there n no_threat.1.0 no_threat.1.1 no_threat.1.2)))
        | inr stopped ↦ inr (exposes_lifted q kept_empty a from n no_threats.king_replies.cells_fit ha hf h (λ at. off_a (sym at)) (λ at. other (sym at)) off stopped)
      ]

      goes : IsNoThreatOffLines quiet_only (lifted q a) e gains king squares from n promote ⊎ ExposesOwnKing (lifted q a) kept_empty from n
      goes = elim (cases_eq n a) [
        | inl at ↦ inl (anew (λ was. at))
        | inr other ↦ elim (cases_Bool (cell_reaches (without_king q king) (piece_at q.cells from) from n)) [
          | inl was ↦ as_before other was
          | inr new ↦ inl (anew (λ was. absurd (both_ways (cell_reaches (without_king q king) (piece_at q.cells from) from n) new was)))
        ]
      ]

  -- its side still has no threat
  pub lift_no_threats : ((from : ℕ) → from < 81 → is_piece_of q.side (piece_at q.cells from) ≡ true → PieceGetsNoThreat quiet_only q e gains king squares from a) → ((kind : Kind) → 0 < count_in_hand q.hands q.side kind → DropGetsNoThreat quiet_only q king squares kind a) → HasNoThreats quiet_only (lifted q a) e gains king squares kept_empty
  lift_no_threats pieces kinds = record {
    king_replies = record {
      cells_fit = length-set q.cells a None ∙ no_threats.king_replies.cells_fit;
      king_fits = no_threats.king_replies.king_fits;
      crown = crown_now;
      only_king = only_king_now;
      unchecked = unchecked_now;
      replies = λ n h bit no nor. no_threats.king_replies.replies n h bit (λ was. no (record { escape = escape_now n h bit was.escape; bare = λ only. bare_now n (was.bare only) })) (λ own. nor (own.0, spare_now own.1));
    };
    pieces = λ from hf own. piece_no_threat from hf own (pieces from hf (elim (cases_eq from a) [
      | inl at ↦ absurd (both_ways (is_piece_of q.side None) refl (ap (is_piece_of q.side) (sym (ap (piece_at (lifted q a).cells) at ∙ gone)) ∙ own))
      | inr off ↦ ap (is_piece_of q.side) (sym (same from off)) ∙ own
    ]));
    kinds = λ kind held n h bare moves. leaves (dropped q.side kind) n squares (λ m hm bit. bit) (elim (cases_eq n a) [
      | inl at ↦ subst (λ (y : ℕ). LeavesReplySquare quiet_only (without_king q king) (dropped q.side kind) y squares) (sym at) (kinds kind held (subst (λ (y : ℕ). is_immobile y (dropped q.side kind) ≡ false) at moves))
      | inr off ↦ no_threats.kinds kind held n h (sym (same n off) ∙ bare) moves
    ]);
  }
