-- A king in check may go to an escape that stays out of reach.
use Rattle.std.proofs.Common.{◌≡◌, ◌≢◌, ◌⊎◌, ℕ, ◌+◌, ◌<◌, Bool, true, false, not, Option, Some, None, List, [], ◌∷◌, refl, sym, ap, subst, ◌∙◌, arith, inl, inr, set, length, length-set, get_or-set_same, get_or-set_other, bit_and, bit_or}
use Rattle.std.specs.Prelude.{◌==◌, ◌||◌, is_none}
use Rattle.std.specs.List.{list_any, list_all}
use Rattle.std.proofs.lemmas.Bool.{cases_eq, false_from_ne_true, true_from_ne_false, both_ways, and_parts, and_from, or_parts, or_cases, or_left, or_right, eqb-true}
use Rattle.shogi_core.specs.declared.moves.Move.{Move}
use Rattle.shogi_core.specs.declared.moves.Move.TheVariants.{Board, Drop}
use Rattle.shogi_core.specs.declared.offset.Offset.{Offset}
use Rattle.shogi_core.specs.declared.piece.Color.{Color}
use Rattle.shogi_core.specs.declared.piece.Kind.{Kind}
use Rattle.shogi_core.specs.declared.piece.Piece.{Piece}
use Rattle.shogi_core.specs.Attack.{is_sniper}
use Rattle.shogi_core.specs.Bits.{has_bit}
use Rattle.shogi_core.specs.Cell.{is_piece_of, is_king, is_slider, HasNoOtherKing}
use Rattle.shogi_core.specs.Lines.{are_aligned, are_lined, around}
use Rattle.shogi_core.specs.Moves.{end_of}
use Rattle.shogi_core.specs.Movement.{Cells, piece_at, cell_reaches, has_step, has_slide, is_slide, slides, slides_of, for_side}
use Rattle.shogi_core.specs.Pieces.{opponent_of}
use Rattle.shogi_core.specs.Position.{Shogi, HandCounts}
use Rattle.shogi_core.specs.Sets.{TakesLowest}
use Rattle.shogi_core.specs.Rays.{direction_at, is_on_ray, ray_of}
use Rattle.shogi_core.specs.Validity.{IsValid}
use Rattle.shogi_core.proofs.BitLaws.{has_bit-and, has_bit-none, has_bit-or}
use Rattle.shogi_core.proofs.CodesBack.{move_of-board}
use Rattle.shogi_core.proofs.RayLaws.{slides_bare}
use Rattle.shogi_core.proofs.SliderAttacks.{direction_of}
use Rattle.shogi_core.proofs.Discovered.{same_way, same_way_is, slides_around, slides_was}
use Rattle.shogi_core.proofs.LineBits.{has_bit-ray}
use Rattle.shogi_core.proofs.SeenLaws.{lined_aligned, lined_back, slide_seen}
use Rattle.shogi_moves.specs.After.{after, cells_after, piece_moved, dropped}
use Rattle.shogi_moves.specs.Escapes.{IsEscape, HasOpenEscape}
use Rattle.shogi_moves.specs.Origins.{origin_of}
use Rattle.shogi_replies.specs.Escapes.{HasRaysBehind, OpensWithin, ReachesWithin}
use Rattle.shogi_replies.specs.Threats.{put_by}
use Rattle.shogi_moves.specs.Legal.{is_legal}
use Rattle.shogi_moves.specs.LegalMoves.{legal_codes}
use Rattle.shogi_moves.proofs.CheckInfoLaws.{look, other_side, is_piece_of-piece_moved, dropped_of}
use Rattle.shogi_moves.proofs.KingLaws.{king_own}
use Rattle.shogi_moves.proofs.MovedPieces.{opponent_twice}
use Rattle.shogi_moves.proofs.DropChecks as drops
use Rattle.shogi_moves.proofs.EscapeLaws.{kept, opened, still_out}
use Rattle.shogi_replies.specs.ReplyInfo.{quiet_codes}
use Rattle.shogi_replies.proofs.KingGoes.{king_goes}
use Rattle.shogi_replies.proofs.ReplyLaws.{left_board, left_drop, legal_own, reply_by, some_quiet}
use Rattle.shogi_replies.proofs.SlideOrigins.{attacked_from_origin}

-- ---- the squares left empty are on no line with a slider

module _ (p : Shogi) (new : Cells) (hands : HandCounts) (Left : ℕ → Type 0) (to : ℕ) (cell : Option Piece) (old_len : length p.cells ≡ 81) (len : length new ≡ 81) (mine : is_piece_of p.side cell ≡ true)
    (see : (x : ℕ) → ((x ≡ to) × (piece_at new x ≡ cell)) ⊎ ((Left x × (piece_at new x ≡ None)) ⊎ (piece_at new x ≡ piece_at p.cells x)))
    (k e : ℕ) (hk : k < 81) (he : e < 81) (crown : is_king (opponent_of p.side) (piece_at p.cells k) ≡ true) (stays : Left k → ⊥) (elsewhere : (k ≢ to) × (e ≢ to)) (escape : IsEscape p.cells (opponent_of p.side) k e)
    (still : is_slider cell ≡ false) (short : cell_reaches (set new k None) cell to e ≡ false) (gone : (x : ℕ) → Left x → (x < 81) × (is_slider (piece_at new x) ≡ false)) (bare : (x a : ℕ) → Left x → a < 81 → is_sniper p.cells p.side x a ≡ false) where
  -- the king's old square is empty
  lifted : (a : ℕ) → a ≡ k → piece_at (set new k None) a ≡ None
  lifted a here = ap (piece_at (set new k None)) here ∙ get_or-set_same new k None None (omega (arith, len))

  no_sniper : (x a : ℕ) → Left x → a < 81 → is_piece_of (opponent_of (opponent_of p.side)) (piece_at (set new k None) a) ≡ true → is_slider (piece_at (set new k None) a) ≡ true → (x < 81) × (a ≢ x) × (are_aligned x a ≡ false)
  no_sniper x a left ha own slider = elim (cases_eq a k) [
    | inl here ↦ absurd (both_ways (is_slider None) refl (ap is_slider (sym (lifted a here)) ∙ slider))
    | inr off ↦ (
        let at : piece_at (set new k None) a ≡ piece_at new a = get_or-set_other new k a None None off in
        let slides_now : is_slider (piece_at new a) ≡ true = ap is_slider (sym at) ∙ slider in (
          (gone x left).0,
          λ same. both_ways (is_slider (piece_at new a)) (subst (λ (y : ℕ). is_slider (piece_at new y) ≡ false) (sym same) (gone x left).1) slides_now,
          elim (see a) [
            | inl end ↦ absurd (both_ways (is_slider cell) still (ap is_slider (sym end.1) ∙ slides_now))
            | inr rest ↦ elim rest [
              | inl empty ↦ absurd (both_ways (is_slider None) refl (ap is_slider (sym empty.1) ∙ slides_now))
              | inr same ↦ false_from_ne_true (are_aligned x a) (λ lined. (
                  let mine_there : is_piece_of p.side (piece_at p.cells a) ≡ true = ap (λ (color : Color). is_piece_of color (piece_at p.cells a)) (sym (opponent_twice p.side)) ∙ (ap (is_piece_of (opponent_of (opponent_of p.side))) (sym (at ∙ same)) ∙ own) in
                  both_ways (is_sniper p.cells p.side x a) (bare x a left ha) (and_from _ _ (and_from _ _ mine_there (ap is_slider (sym same) ∙ slides_now)) lined)))
            ]
          ],
        ))
  ]

  pub escaped_covered : legal_codes (record { cells = new; hands = hands; side = opponent_of p.side }) ≢ []
  escaped_covered = still_out p new hands Left to cell old_len len mine see k e hk he crown stays elsewhere escape (attacked_from_origin (set p.cells k None) (set new k None) Left (opened p new hands Left to cell old_len len mine see k e hk he crown stays elsewhere escape) (opponent_of (opponent_of p.side)) no_sniper e (kept p new hands Left to cell old_len len mine see k e hk he crown stays elsewhere escape short) escape.safe)

-- ---- after a move on the board, and after a drop

step_board : (p : Shogi) (from to closed reach lines : ℕ) (promote : Bool) → IsValid p → from < 81 → to < 81 → is_legal p (Board from to promote) ≡ true → (h : HasOpenEscape p closed to) → has_bit reach h.end ≡ false → has_bit lines h.end ≡ false
    → ReachesWithin p (piece_moved promote (piece_at p.cells from)) to reach → ((n : ℕ) → n < 81 → has_bit lines n ≡ are_aligned from n) → is_legal (after p (Board from to promote)) (Board h.king_on h.end false) ≡ true
step_board p from to closed reach lines promote v hf ht legal h short off far bits =
    let own : is_piece_of p.side (piece_at p.cells from) ≡ true = legal_own p from to promote legal in
    let apart : are_aligned from h.end ≡ false = sym (bits h.end h.on_board.1) ∙ off in
    king_goes p.cells (cells_after p.cells p.side (Board from to promote)) (after p (Board from to promote)).hands p.side (λ x. x ≡ from) to (piece_moved promote (piece_at p.cells from))
    (length-set (set p.cells from None) to (piece_moved promote (piece_at p.cells from)) ∙ (length-set p.cells from None ∙ v.cells_fit))
    (is_piece_of-piece_moved p.side promote (piece_at p.cells from) ∙ own)
    (look p.cells p.side from to (piece_moved promote (piece_at p.cells from)) v.cells_fit hf ht)
    h.king_on h.end h.on_board.0 h.on_board.1 h.king
    (λ at. both_ways (is_piece_of (opponent_of p.side) (piece_at p.cells from)) (other_side p.side (piece_at p.cells from) own) (subst (λ (x : ℕ). is_piece_of (opponent_of p.side) (piece_at p.cells x) ≡ true) at (king_own (opponent_of p.side) (piece_at p.cells h.king_on) h.king)))
    h.elsewhere.0 h.escape (far h.king_on h.end h.on_board.0 h.on_board.1 h.king h.escape.step.lone short)
    (λ x at. subst (λ (y : ℕ). are_lined (set p.cells h.king_on None) y h.end ≡ false) (sym at) (false_from_ne_true (are_lined (set p.cells h.king_on None) from h.end) (λ l. both_ways (are_aligned from h.end) apart (lined_aligned (set p.cells h.king_on None) from h.end l))))

step_drop : (p : Shogi) (kind : Kind) (to closed reach : ℕ) → IsValid p → to < 81 → (h : HasOpenEscape p closed to) → has_bit reach h.end ≡ false
    → ReachesWithin p (dropped p.side kind) to reach → is_legal (after p (Drop kind to)) (Board h.king_on h.end false) ≡ true
step_drop p kind to closed reach v ht h short far =
    king_goes p.cells (cells_after p.cells p.side (Drop kind to)) (after p (Drop kind to)).hands p.side (λ x. ⊥) to (dropped p.side kind)
    (length-set p.cells to (dropped p.side kind) ∙ v.cells_fit)
    (dropped_of p.side kind)
    (λ x. elim (drops.look p.cells p.side kind to v.cells_fit ht x) [ inl there ↦ inl there | inr same ↦ inr (inr same) ])
    h.king_on h.end h.on_board.0 h.on_board.1 h.king (λ left. absurd left)
    h.elsewhere.0 h.escape (far h.king_on h.end h.on_board.0 h.on_board.1 h.king h.escape.step.lone short) (λ x left. absurd left)

-- a square in neither of two sets
off_both : (a b both n : ℕ) → both ≡ bit_or a b → has_bit both n ≡ false → (has_bit a n ≡ false) × (has_bit b n ≡ false)
off_both a b both n is out = or_parts (has_bit a n) (has_bit b n) (sym (has_bit-or a b n) ∙ (ap (λ (m : ℕ). has_bit m n) (sym is) ∙ out))

pub escaped_board : (p : Shogi) (from to closed reach lines : ℕ) (promote : Bool) → IsValid p → from < 81 → to < 81 → is_legal p (Board from to promote) ≡ true → HasOpenEscape p closed to → closed ≡ bit_or reach lines
    → ReachesWithin p (piece_moved promote (piece_at p.cells from)) to reach → ((n : ℕ) → n < 81 → has_bit lines n ≡ are_aligned from n) → legal_codes (after p (Board from to promote)) ≢ []
escaped_board p from to closed reach lines promote v hf ht legal h is far bits =
    let off : _ = off_both reach lines closed h.end is h.open_end in
    reply_by (after p (Board from to promote)) h.king_on h.end h.on_board.0 h.on_board.1 (step_board p from to closed reach lines promote v hf ht legal h off.0 off.1 far bits)

pub escaped_drop : (p : Shogi) (kind : Kind) (to reach : ℕ) → IsValid p → to < 81 → HasOpenEscape p reach to
    → ReachesWithin p (dropped p.side kind) to reach → legal_codes (after p (Drop kind to)) ≢ []
escaped_drop p kind to reach v ht h far = reply_by (after p (Drop kind to)) h.king_on h.end h.on_board.0 h.on_board.1 (step_drop p kind to reach reach v ht h h.open_end far)

-- the king's step takes nothing if all occupied squares are closed

bare_end : (cells : Cells) (occupied n : ℕ) → n < 81 → ((x : ℕ) → x < 81 → has_bit occupied x ≡ not (is_none (piece_at cells x))) → has_bit occupied n ≡ false → is_none (piece_at cells n) ≡ true
bare_end cells occupied n h bits out = true_from_ne_false (is_none (piece_at cells n)) (λ stands. both_ways (has_bit occupied n) out (bits n h ∙ ap not stands))

escaped_board_quietly : (p : Shogi) (from to closed reach lines beyond occupied : ℕ) (promote : Bool) → IsValid p → from < 81 → to < 81 → is_legal p (Board from to promote) ≡ true → HasOpenEscape p closed to → closed ≡ bit_or beyond occupied → beyond ≡ bit_or reach lines → ((n : ℕ) → n < 81 → has_bit occupied n ≡ not (is_none (piece_at p.cells n)))
    → ReachesWithin p (piece_moved promote (piece_at p.cells from)) to reach → ((n : ℕ) → n < 81 → has_bit lines n ≡ are_aligned from n) → quiet_codes (after p (Board from to promote)) ≢ []
escaped_board_quietly p from to closed reach lines beyond occupied promote v hf ht legal h is sum stands far bits =
    let ends : _ = off_both beyond occupied closed h.end is h.open_end in
    let off : _ = off_both reach lines beyond h.end sum ends.0 in
    some_quiet (after p (Board from to promote)) (Board h.king_on h.end false) (move_of-board h.king_on h.end false h.on_board.0 h.on_board.1)
    (step_board p from to closed reach lines promote v hf ht legal h off.0 off.1 far bits)
    ((left_board p from to promote v hf ht (legal_own p from to promote legal)).empty h.end (bare_end p.cells occupied h.end h.on_board.1 stands ends.1) h.elsewhere.1)

pub escaped_quietly : (p : Shogi) (m : Move) (closed reach lines beyond occupied : ℕ) → IsValid p → end_of m < 81 → is_legal p m ≡ true → HasOpenEscape p closed (end_of m) → closed ≡ bit_or beyond occupied → beyond ≡ bit_or reach lines → ((n : ℕ) → n < 81 → has_bit occupied n ≡ not (is_none (piece_at p.cells n)))
    → ReachesWithin p (put_by p m) (end_of m) reach → OpensWithin (origin_of m) lines → quiet_codes (after p m) ≢ []
escaped_quietly p (Board from to promote) closed reach lines beyond occupied v ht legal h is sum stands far opens = escaped_board_quietly p from to closed reach lines beyond occupied promote v opens.0 ht legal h is sum stands far opens.1
escaped_quietly p (Drop kind to) closed reach lines beyond occupied v ht legal h is sum stands far opens =
    let ends : _ = off_both beyond occupied closed h.end is h.open_end in
    let off : _ = off_both reach lines beyond h.end sum ends.0 in
    some_quiet (after p (Drop kind to)) (Board h.king_on h.end false) (move_of-board h.king_on h.end false h.on_board.0 h.on_board.1)
    (step_drop p kind to closed reach v ht h off.0 far)
    ((left_drop p kind to v ht).empty h.end (bare_end p.cells occupied h.end h.on_board.1 stands ends.1) h.elsewhere.1)

-- ---- escapes as sets of squares

-- the piece does not reach a square that it did not reach before and that is not behind the square left empty
pub beyond_reach : (cells : Cells) (piece : Piece) (to k n behind : ℕ) → n < 81 → ((d : ℕ) → d < 8 → HasRaysBehind d to k behind) → cell_reaches cells (Some piece) to n ≡ false → has_bit behind n ≡ false → cell_reaches (set cells k None) (Some piece) to n ≡ false
beyond_reach cells piece to k n behind hn has short out =
    false_from_ne_true (cell_reaches (set cells k None) (Some piece) to n) (λ r. both_ways (cell_reaches cells (Some piece) to n) short (elim (or_cases (has_step piece to n) (has_slide (set cells k None) piece to n) r) [
      | inl step ↦ or_left (has_step piece to n) _ step
      | inr slide ↦ or_right (has_step piece to n) _ (slide_was (slides_of piece.role) (slides_around piece.color piece.role) slide)
    ]))
  where
    opened : (x : ℕ) → is_none (piece_at (set cells k None) x) ≡ true → (is_none (piece_at cells x) ≡ true) ⊎ (x ≡ k)
    opened x e = elim (cases_eq x k) [ inl here ↦ inr here | inr other ↦ inl (ap is_none (sym (get_or-set_other cells k x None None other)) ∙ e) ]

    -- no slide goes on over the square left empty
    not_over : (o : Offset) → list_any (same_way o) around ≡ true → slides (set cells k None) o to n ≡ true → slides cells o k n ≡ true → ⊥
    not_over o among e over =
        let d = direction_of o among in
        let same : o ≡ direction_at d.0 = same_way_is o (direction_at d.0) d.2 in
        both_ways (has_bit behind n) out (has d.0 d.1 n hn
        (subst (λ (p : Offset). is_on_ray p to n ≡ true) same (slides_bare (set cells k None) o to n e))
        (subst (λ (p : Offset). is_on_ray p k n ≡ true) same (slides_bare cells o k n over)))

    slide_was : (os : List Offset) → list_all (λ o. list_any (same_way (for_side piece.color o)) around) os ≡ true → is_slide (set cells k None) piece.color os to n ≡ true → is_slide cells piece.color os to n ≡ true
    slide_was [] all e = e
    slide_was (o ∷ os) all e =
        let parts : (list_any (same_way (for_side piece.color o)) around ≡ true) × (list_all (λ p. list_any (same_way (for_side piece.color p)) around) os ≡ true) = and_parts _ _ all in
        elim (or_cases _ _ e) [
          | inl here ↦ elim (slides_was cells (set cells k None) (λ x. x ≡ k) opened (for_side piece.color o) to n here) [
            | inl left ↦ absurd (not_over (for_side piece.color o) parts.0 here (subst (λ (x : ℕ). slides cells (for_side piece.color o) x n ≡ true) left.1 left.2))
            | inr was ↦ or_left _ _ was
          ]
          | inr later ↦ or_right (slides cells (for_side piece.color o) to n) _ (slide_was os parts.1 later)
        ]

-- a square off the steps and the lines is out of reach
pub beyond_lines : (piece : Piece) (to steps lines : ℕ) → to < 81 → ((n : ℕ) → n < 81 → has_bit steps n ≡ has_step piece to n) → ((n : ℕ) → n < 81 → has_bit lines n ≡ are_aligned to n) → (cells : Cells) (n : ℕ) → n < 81 → has_bit (bit_or steps lines) n ≡ false → cell_reaches cells (Some piece) to n ≡ false
beyond_lines piece to steps lines ht s l cells n hn out =
    let off : (has_bit steps n ≡ false) × (has_bit lines n ≡ false) = or_parts (has_bit steps n) (has_bit lines n) (sym (has_bit-or steps lines n) ∙ out) in
    false_from_ne_true (cell_reaches cells (Some piece) to n) (λ r. elim (or_cases (has_step piece to n) (has_slide cells piece to n) r) [
      | inl step ↦ both_ways (has_step piece to n) (sym (s n hn) ∙ off.0) step
      | inr slide ↦ both_ways (are_aligned to n) (sym (l n hn) ∙ off.1) (lined_aligned cells to n (lined_back cells n to hn (slide_seen cells piece to n ht slide)))
    ])

-- the set of kings has no square but that of the only king
pub only_king : (p : Shogi) (kings king k : ℕ) → ((n : ℕ) → n < 81 → has_bit kings n ≡ is_king (opponent_of p.side) (piece_at p.cells n)) → king < 81 → has_bit kings king ≡ true → HasNoOtherKing p.cells (opponent_of p.side) k → king ≡ k
only_king p kings king k bits h set lone = grind (arith, cases_eq king k, lone king h, bits king h)

-- the set has what one more direction leads to from both squares
pub more_rays : (from over limit behind : ℕ) → ((d : ℕ) → d < limit → HasRaysBehind d from over behind)
    → (d : ℕ) → d < limit + 1 → HasRaysBehind d from over (bit_or behind (bit_and (ray_of (direction_at limit) from) (ray_of (direction_at limit) over)))
more_rays from over limit behind before d h n hn one other =
    grind (arith, has_bit-or behind (bit_and (ray_of (direction_at limit) from) (ray_of (direction_at limit) over)) n, has_bit-and (ray_of (direction_at limit) from) (ray_of (direction_at limit) over) n, has_bit-ray (direction_at limit) from n hn, has_bit-ray (direction_at limit) over n hn, cases_eq d limit, before d)

-- ---- gathering squares one by one

-- the squares left and found are some of the squares, and the fact holds of each one found
pub record Gathers (squares left found : ℕ) (fact : ℕ → Type 0) : Type 0 where
  pub within : (n : ℕ) → has_bit left n ≡ true → has_bit squares n ≡ true
  pub among : (n : ℕ) → has_bit found n ≡ true → has_bit squares n ≡ true
  pub facts : (n : ℕ) → n < 81 → has_bit found n ≡ true → fact n

pub gathers_first : (squares : ℕ) (fact : ℕ → Type 0) → Gathers squares squares 0 fact
gathers_first squares fact = record {
  within = λ n e. e;
  among = λ n e. absurd (both_ways (has_bit 0 n) (has_bit-none n) e);
  facts = λ n h e. absurd (both_ways (has_bit 0 n) (has_bit-none n) e);
}

-- the next square is passed over
pub gathers_less : (squares left next found to : ℕ) (fact : ℕ → Type 0) → Gathers squares left found fact → TakesLowest to left next → Gathers squares next found fact
gathers_less squares left next found to fact g took = record {
  within = λ n e. g.within n (and_parts (has_bit left n) (not (n == to)) (sym (took.rest n) ∙ e)).0;
  among = g.among;
  facts = g.facts;
}

-- the next square is found
pub gathers_more : (squares left next found more to : ℕ) (fact : ℕ → Type 0) → Gathers squares left found fact → TakesLowest to left next → ((n : ℕ) → has_bit more n ≡ (has_bit found n || n == to)) → fact to → Gathers squares next more fact
gathers_more squares left next found more to fact g took bits holds = record {
  within = (gathers_less squares left next found to fact g took).within;
  among = λ n e. grind (arith, bits n, g.among n, g.within to took.set);
  facts = λ n h e. elim (or_cases (has_bit found n) (n == to) (sym (bits n) ∙ e)) [ inl before ↦ g.facts n h before | inr now ↦ subst fact (sym (eqb-true n to now)) holds ];
}

pub ruleset gathering = (gathers_first, gathers_less, gathers_more)
