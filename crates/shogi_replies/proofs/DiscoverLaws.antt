-- A move that discovers no check and attacks no king from its destination gives no check.
use Rattle.std.proofs.Common.{◌≡◌, ◌≢◌, ◌⊎◌, ℕ, ◌<◌, Bool, true, false, not, sym, ap, subst, ◌∙◌, arith, inl, inr, Option, Some, None, List, [], ◌∷◌, set, length, length-set, get_or-set_same, get_or-set_other}
use Rattle.std.specs.Prelude.{◌==◌, ◌&&◌, ◌||◌, is_none}
use Rattle.std.specs.List.{list_any}
use Rattle.std.proofs.lemmas.Bool.{cases_eq, false_from_ne_true, both_ways, and_parts, and_from, or_cases, or_left, or_right}
use Rattle.shogi_core.specs.declared.moves.Move.TheVariants.{Board}
use Rattle.shogi_core.specs.declared.offset.Offset.{Offset}
use Rattle.shogi_core.specs.declared.piece.Color.{Color}
use Rattle.shogi_core.specs.declared.piece.Piece.{Piece}
use Rattle.shogi_core.specs.declared.piece.Role.{Role}
use Rattle.shogi_core.specs.declared.piece.Role.TheVariants.{Pawn}
use Rattle.shogi_core.specs.Attack.{in_check, is_attacked, is_attacked_from, is_open_king, IsSeenAs, TellsAttack}
use Rattle.shogi_core.specs.Below.{some_below}
use Rattle.shogi_core.specs.Bits.{has_bit}
use Rattle.shogi_core.specs.Cell.{is_king, is_piece_of, HasNoKing, HasNoOtherKing}
use Rattle.shogi_core.specs.Movement.{Cells, cell_reaches, for_side, has_slide, has_step, piece_at, reaches, slides, slides_of}
use Rattle.shogi_core.specs.Pieces.{opponent_of, promoted}
use Rattle.shogi_core.specs.Position.{Shogi}
use Rattle.shogi_core.specs.Validity.{IsValid}
use Rattle.shogi_core.proofs.Below.{some_below_at, some_below_no}
use Rattle.shogi_core.proofs.Faults.{faultless_from}
use Rattle.shogi_core.proofs.Discovered.{reach_was, slides_was, some_below_which}
use Rattle.shogi_moves.specs.After.{after, piece_moved}
use Rattle.shogi_moves.specs.Legal.{is_legal}
use Rattle.shogi_moves.proofs.CheckInfoLaws.{own_some}
use Rattle.shogi_moves.proofs.DestinationLaws.{legal_board}
use Rattle.shogi_replies.specs.ReplyInfo.{IsHarmless, IsReplyInfo, DiscoversNoCheck, DiscoversWithin}
use Rattle.shogi_replies.proofs.ReplyLaws.{crown_board, lands_board, legal_own, moved_own, opened_board, see_board, shut_board}
use Rattle.shogi_moves.proofs.MovedPieces.{opponent_twice}

-- ---- sliders after their move

either : (f g h : Offset → Bool) (os : List Offset) → ((o : Offset) → f o ≡ true → (g o ≡ true) ⊎ (h o ≡ true)) → list_any f os ≡ true → (list_any g os ≡ true) ⊎ (list_any h os ≡ true)
either f g h [] k e = absurd (cc)
either f g h (o ∷ os) k e = grind (arith, k o, either f g h os k)

-- a piece that slides after promotion slides before it
slid_before : (role : Role) (test : Offset → Bool) → list_any test (slides_of (promoted role)) ≡ true → list_any test (slides_of role) ≡ true
slid_before role test e = grind arith

module _ (old new : Cells) (from : ℕ) (opened : (x : ℕ) → is_none (piece_at new x) ≡ true → (is_none (piece_at old x) ≡ true) ⊎ (x ≡ from)) where
  slide_from : (o : Offset) (to k : ℕ) → slides new o to k ≡ true → (slides old o to k ≡ true) ⊎ (slides old o from k ≡ true)
  slide_from o to k e = elim (slides_was old new (λ x. x ≡ from) opened o to k e) [
    | inl left ↦ inr (subst (λ (x : ℕ). slides old o x k ≡ true) left.1 left.2)
    | inr was ↦ inl was
  ]

  -- the moved piece reaches a king only if it would have from its destination before, or did from its origin
  reach_from : (promote : Bool) (cell : Option Piece) (to k : ℕ) → cell_reaches new (piece_moved promote cell) to k ≡ true → (cell_reaches old (piece_moved promote cell) to k ≡ true) ⊎ (cell_reaches old cell from k ≡ true)
  reach_from promote None to k e = absurd (cc)
  reach_from false (Some piece) to k e = elim (or_cases (has_step piece to k) (has_slide new piece to k) e) [
    | inl step ↦ inl (or_left (has_step piece to k) (has_slide old piece to k) step)
    | inr slide ↦ elim (either (λ o. slides new (for_side piece.color o) to k) (λ o. slides old (for_side piece.color o) to k) (λ o. slides old (for_side piece.color o) from k) (slides_of piece.role) (λ o. slide_from (for_side piece.color o) to k) slide) [
      | inl was ↦ inl (or_right (has_step piece to k) (has_slide old piece to k) was)
      | inr before ↦ inr (or_right (has_step piece from k) (has_slide old piece from k) before)
    ]
  ]
  reach_from true (Some piece) to k e =
      let next : Piece = record { color = piece.color; role = promoted piece.role } in
      elim (or_cases (has_step (record { color = piece.color; role = promoted piece.role }) to k) (has_slide new (record { color = piece.color; role = promoted piece.role }) to k) e) [
        | inl step ↦ inl (or_left (has_step (record { color = piece.color; role = promoted piece.role }) to k) (has_slide old (record { color = piece.color; role = promoted piece.role }) to k) step)
        | inr slide ↦ elim (either (λ o. slides new (for_side piece.color o) to k) (λ o. slides old (for_side piece.color o) to k) (λ o. slides old (for_side piece.color o) from k) (slides_of (promoted piece.role)) (λ o. slide_from (for_side piece.color o) to k) slide) [
          | inl was ↦ inl (or_right (has_step (record { color = piece.color; role = promoted piece.role }) to k) (has_slide old (record { color = piece.color; role = promoted piece.role }) to k) was)
          | inr before ↦ inr (or_right (has_step piece from k) (has_slide old piece from k) (slid_before piece.role (λ o. slides old (for_side piece.color o) from k) before))
        ]
      ]

-- ---- a board that shows the other pieces

-- a piece of the other side as a stand-in
abbrev foe : Color → Option Piece
foe side = Some (record { color = opponent_of side; role = Pawn })

foe_of : (side : Color) → is_piece_of side (foe side) ≡ false
foe_of side = grind arith

abbrev shown : Shogi → ℕ → ℕ → Cells
shown p from to = set (set p.cells from None) to (foe p.side)

module _ (p : Shogi) (from to : ℕ) (len : length p.cells ≡ 81) (hf : from < 81) (ht : to < 81) (bare : is_piece_of p.side (piece_at p.cells to) ≡ false) where
  shown_to : piece_at (shown p from to) to ≡ foe p.side
  shown_to = get_or-set_same (set p.cells from None) to (foe p.side) None (omega (arith, length-set p.cells from None, len))

  shown_from : from ≢ to → piece_at (shown p from to) from ≡ None
  shown_from apart = get_or-set_other (set p.cells from None) to from (foe p.side) None apart ∙ get_or-set_same p.cells from None None (omega (arith, len))

  shown_other : (x : ℕ) → x ≢ from → x ≢ to → piece_at (shown p from to) x ≡ piece_at p.cells x
  shown_other x off apart = get_or-set_other (set p.cells from None) to x (foe p.side) None apart ∙ get_or-set_other p.cells from x None None off

  module _ (apart : from ≢ to) (own others occ lifted occupied : ℕ) (o : (n : ℕ) → n < 81 → has_bit own n ≡ is_piece_of p.side (piece_at p.cells n)) (a : (n : ℕ) → has_bit others n ≡ (has_bit own n && not (n == from)))
      (t : (n : ℕ) → n < 81 → has_bit occ n ≡ not (is_none (piece_at p.cells n))) (l : (n : ℕ) → has_bit lifted n ≡ (has_bit occ n && not (n == from))) (f : (n : ℕ) → has_bit occupied n ≡ (has_bit lifted n || n == to)) where
    others_shown : (n : ℕ) → n < 81 → has_bit others n ≡ is_piece_of p.side (piece_at (shown p from to) n)
    others_shown n h = grind (arith, a n, o n h, cases_eq n to, cases_eq n from, shown_to, shown_from apart, shown_other n, foe_of p.side)

    occupied_shown : (n : ℕ) → n < 81 → has_bit occupied n ≡ not (is_none (piece_at (shown p from to) n))
    occupied_shown n h = grind (arith, f n, l n, t n h, cases_eq n to, cases_eq n from, shown_to, shown_from apart, shown_other n)

    same_shown : (n : ℕ) → n < 81 → has_bit others n ≡ true → piece_at (shown p from to) n ≡ piece_at p.cells n
    same_shown n h e = grind (arith, cases_eq n to, cases_eq n from, shown_other n, a n, others_shown n h, shown_to, foe_of p.side)

    pub seen_shown : IsSeenAs p.cells others occupied p.side (shown p from to)
    seen_shown = record { attackers = others_shown; pieces = occupied_shown; same = same_shown }

-- ---- moves without check

-- the destination has no piece of the mover's side
legal_bare : (p : Shogi) (from to : ℕ) (promote : Bool) → is_legal p (Board from to promote) ≡ true → is_piece_of p.side (piece_at p.cells to) ≡ false
legal_bare p from to promote e = grind (arith, legal_board p from to promote)

-- without a king there is no check
pub no_king_checked : (p : Shogi) (from to : ℕ) → IsValid p → from < 81 → to < 81 → HasNoKing p.cells (opponent_of p.side) → DiscoversNoCheck p from to
unfolding in_check
no_king_checked p from to v hf ht none promote off legal =
    let own : is_piece_of p.side (piece_at p.cells from) ≡ true = legal_own p from to promote legal in
    some_below_no 81 (is_open_king (after p (Board from to promote)).cells (opponent_of p.side)) (λ k h. false_from_ne_true _ (λ e. (
    let king : is_king (opponent_of p.side) (piece_at (after p (Board from to promote)).cells k) ≡ true = (and_parts _ _ e).0 in
    both_ways (is_king (opponent_of p.side) (piece_at p.cells k)) (none k h) (ap (is_king (opponent_of p.side)) (crown_board p from to promote v hf ht own k king) ∙ king))))

module _ (p : Shogi) (from to : ℕ) (v : IsValid p) (hf : from < 81) (ht : to < 81) (promote : Bool) (legal : is_legal p (Board from to promote) ≡ true) where
  own_from : is_piece_of p.side (piece_at p.cells from) ≡ true
  own_from = legal_own p from to promote legal

  pub bare_to : is_piece_of p.side (piece_at p.cells to) ≡ false
  bare_to = legal_bare p from to promote legal

  pub apart_from : from ≢ to
  apart_from same = both_ways (is_piece_of p.side (piece_at p.cells to)) bare_to (subst (λ (x : ℕ). is_piece_of p.side (piece_at p.cells x) ≡ true) same own_from)

  -- squares empty after the move are empty on the stand-in board
  shown_bare : (x : ℕ) → is_none (piece_at (after p (Board from to promote)).cells x) ≡ true → (is_none (piece_at (shown p from to) x) ≡ true) ⊎ ⊥
  shown_bare x e = grind (arith, see_board p from to promote v hf ht own_from x, own_some p.side _ (moved_own p from to promote v hf ht own_from), cases_eq x to, cases_eq x from, lands_board p from to promote v hf ht own_from, shown_from p from to v.cells_fit hf ht bare_to apart_from, shown_other p from to v.cells_fit hf ht bare_to x)

  -- the moved piece gives no check unless it attacks a king from its destination
  moved_safe : IsHarmless p.cells (opponent_of p.side) (piece_moved promote (piece_at p.cells from)) to → (k : ℕ) → k < 81 → is_king (opponent_of p.side) (piece_at p.cells k) ≡ true → cell_reaches (after p (Board from to promote)).cells (piece_moved promote (piece_at p.cells from)) to k ≡ false
  unfolding in_check reaches
  moved_safe off k h king = false_from_ne_true _ (λ e. elim (reach_from p.cells (after p (Board from to promote)).cells from (opened_board p from to promote v hf ht own_from) promote (piece_at p.cells from) to k e) [
    | inl was ↦ both_ways (cell_reaches p.cells (piece_moved promote (piece_at p.cells from)) to k) (off k h king) was
    | inr before ↦ both_ways (some_below 81 (is_open_king p.cells (opponent_of p.side))) (faultless_from p v.no_fault).shut
        (some_below_at 81 (is_open_king p.cells (opponent_of p.side)) k h (and_from _ _ king (some_below_at 81 (is_attacked_from p.cells (opponent_of (opponent_of p.side)) k) from hf (and_from _ _ (ap (λ color. is_piece_of color (piece_at p.cells from)) (opponent_twice p.side) ∙ own_from) before))))
  ])

  -- the other pieces give no check unless they reach the only king
  pub others_safe : (king : ℕ) → king < 81 → is_king (opponent_of p.side) (piece_at p.cells king) ≡ true → HasNoOtherKing p.cells (opponent_of p.side) king → is_attacked (shown p from to) p.side king ≡ false
      → IsHarmless p.cells (opponent_of p.side) (piece_moved promote (piece_at p.cells from)) to → in_check (after p (Board from to promote)).cells (opponent_of p.side) ≡ false
  unfolding in_check reaches
  others_safe king hk crown lone safe off = some_below_no 81 (is_open_king (after p (Board from to promote)).cells (opponent_of p.side)) (λ k h. false_from_ne_true _ (λ e. (
      let new : Cells = (after p (Board from to promote)).cells in
      let parts : (is_king (opponent_of p.side) (piece_at (after p (Board from to promote)).cells k) ≡ true) × (is_attacked (after p (Board from to promote)).cells (opponent_of (opponent_of p.side)) k ≡ true) = and_parts _ _ e in
      let was : is_king (opponent_of p.side) (piece_at p.cells k) ≡ true = ap (is_king (opponent_of p.side)) (crown_board p from to promote v hf ht own_from k parts.0) ∙ parts.0 in
      let who = some_below_which 81 (is_attacked_from (after p (Board from to promote)).cells (opponent_of (opponent_of p.side)) k) parts.1 in
      let hit : (is_piece_of (opponent_of (opponent_of p.side)) (piece_at (after p (Board from to promote)).cells who.0) ≡ true) × (cell_reaches (after p (Board from to promote)).cells (piece_at (after p (Board from to promote)).cells who.0) who.0 k ≡ true) = and_parts _ _ who.2 in
      elim (cases_eq k king) [
        | inr other ↦ both_ways (is_king (opponent_of p.side) (piece_at p.cells k)) (lone k h other) was
        | inl same ↦ elim (cases_eq who.0 to) [
          | inl there ↦ both_ways (cell_reaches (after p (Board from to promote)).cells (piece_moved promote (piece_at p.cells from)) to k) (moved_safe off k h was)
              (ap (λ cell. cell_reaches (after p (Board from to promote)).cells cell to k) (sym (lands_board p from to promote v hf ht own_from)) ∙ subst (λ (x : ℕ). cell_reaches (after p (Board from to promote)).cells (piece_at (after p (Board from to promote)).cells x) x k ≡ true) there hit.1)
          | inr elsewhere ↦ elim (cases_eq who.0 from) [
            | inl here ↦ (
                let gone : piece_at (after p (Board from to promote)).cells from ≡ None = get_or-set_other (set p.cells from None) to from _ None apart_from ∙ get_or-set_same p.cells from None None (omega (arith, v.cells_fit)) in
                let clash : false ≡ true = ap (is_piece_of (opponent_of (opponent_of p.side))) (sym (ap (piece_at (after p (Board from to promote)).cells) here ∙ gone)) ∙ hit.0 in
                absurd (cc))
            | inr off_from ↦ (
                let stays : piece_at (after p (Board from to promote)).cells who.0 ≡ piece_at p.cells who.0 = get_or-set_other (set p.cells from None) to who.0 _ None elsewhere ∙ get_or-set_other p.cells from who.0 None None off_from in
                let seen : piece_at (after p (Board from to promote)).cells who.0 ≡ piece_at (shown p from to) who.0 = stays ∙ sym (shown_other p from to v.cells_fit hf ht bare_to who.0 off_from elsewhere) in
                let mine : is_piece_of p.side (piece_at (shown p from to) who.0) ≡ true = ap (is_piece_of p.side) (sym seen) ∙ (ap (λ color. is_piece_of color (piece_at (after p (Board from to promote)).cells who.0)) (sym (opponent_twice p.side)) ∙ hit.0) in
                let reach : cell_reaches (shown p from to) (piece_at (after p (Board from to promote)).cells who.0) who.0 k ≡ true = reach_was (shown p from to) (after p (Board from to promote)).cells (λ x. ⊥) shown_bare (piece_at (after p (Board from to promote)).cells who.0) who.0 k (λ x left. absurd left) hit.1 in
                both_ways (is_attacked (shown p from to) p.side king) safe
                (subst (λ (j : ℕ). is_attacked (shown p from to) p.side j ≡ true) same
                (some_below_at 81 (is_attacked_from (shown p from to) p.side k) who.0 who.1 (and_from _ _ mine (ap (λ cell. cell_reaches (shown p from to) cell who.0 k) (sym seen) ∙ reach)))))
          ]
        ]
      ])))

-- the test on the king's square shows that there is no check
pub told_safe : (p : Shogi) (from to king : ℕ) (found : Bool) (own others occ lifted occupied : ℕ) → IsValid p → from < 81 → to < 81 → king < 81 → is_king (opponent_of p.side) (piece_at p.cells king) ≡ true → HasNoOtherKing p.cells (opponent_of p.side) king
    → ((n : ℕ) → n < 81 → has_bit own n ≡ is_piece_of p.side (piece_at p.cells n)) → ((n : ℕ) → has_bit others n ≡ (has_bit own n && not (n == from)))
    → ((n : ℕ) → n < 81 → has_bit occ n ≡ not (is_none (piece_at p.cells n))) → ((n : ℕ) → has_bit lifted n ≡ (has_bit occ n && not (n == from))) → ((n : ℕ) → has_bit occupied n ≡ (has_bit lifted n || n == to))
    → TellsAttack p.cells others occupied king found → found ≡ false → DiscoversNoCheck p from to
told_safe p from to king found own others occ lifted occupied v hf ht hk crown lone o a t l f tells unfound promote off legal =
    others_safe p from to v hf ht promote legal king hk crown lone
    (sym (tells p.side (shown p from to) (seen_shown p from to v.cells_fit hf ht (bare_to p from to v hf ht promote legal) (apart_from p from to v hf ht promote legal) own others occ lifted occupied o a t l f)) ∙ unfound) off

-- a move outside the discovering squares gives no check
pub stays_safe : (p : Shogi) (from to king_view free_movers mask : ℕ) → IsValid p → from < 81 → to < 81 → IsReplyInfo p king_view free_movers → DiscoversWithin p.cells (opponent_of p.side) king_view from mask → has_bit mask to ≡ false → DiscoversNoCheck p from to
stays_safe p from to king_view free_movers mask v hf ht r within out promote off legal =
    shut_board p from to promote v hf ht (legal_own p from to promote legal) king_view free_movers r (within promote to ht out off) off
