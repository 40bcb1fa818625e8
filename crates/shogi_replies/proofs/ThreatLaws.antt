-- A capture by an unpinnable piece stays possible after the moves that leave it.
use Rattle.std.proofs.Common.{◌≡◌, ◌≢◌, ℕ, zero, suc, ◌+◌, ◌-◌, ◌^◌, ◌<◌, ◌≤◌, ◌⊎◌, Bool, true, false, not, Option, Some, None, List, [], ◌∷◌, refl, sym, ap, subst, ◌∙◌, arith, inl, inr, set, length, length-set, get_or-set_same, get_or-set_other, bit_and}
use Rattle.std.specs.Prelude.{is_none, ◌==◌, ◌&&◌, ◌||◌}
use Rattle.std.specs.List.{list_any, list_all}
use Rattle.std.proofs.lemmas.Bool.{cases_Bool, cases_eq, false_from_ne_true, both_ways, and_parts, and_from, or_left, or_right, or_cases, not-true, eq-eqb}
use Rattle.shogi_core.specs.declared.moves.Move.{Move}
use Rattle.shogi_core.specs.declared.moves.Move.TheVariants.{Board, Drop}
use Rattle.shogi_core.specs.declared.offset.Offset.{Offset}
use Rattle.shogi_core.specs.declared.piece.Color.{Color}
use Rattle.shogi_core.specs.declared.piece.Kind.{Kind}
use Rattle.shogi_core.specs.declared.piece.Piece.{Piece}
use Rattle.shogi_core.specs.Attack.{in_check, is_sniper, is_sniper_of_king}
use Rattle.shogi_core.specs.Below.{some_below, all_below}
use Rattle.shogi_core.specs.Bits.{has_bit}
use Rattle.shogi_core.specs.Cell.{is_piece_of, is_king, is_immobile, is_slider}
use Rattle.shogi_core.specs.Lines.{are_aligned, are_lined, around}
use Rattle.shogi_core.specs.Movement.{Cells, piece_at, reaches, cell_reaches, has_step, has_slide, slides, slides_across, slides_of, is_step_empty, is_same_square, is_empty, away, leads, for_side, is_slide}
use Rattle.shogi_core.specs.Pieces.{opponent_of}
use Rattle.shogi_core.specs.Position.{Shogi, HandCounts}
use Rattle.shogi_core.specs.Rays.{direction_at, is_on_ray}
use Rattle.shogi_core.specs.Validity.{IsValid}
use Rattle.shogi_core.proofs.Back.{away_on, is_leads, leads_is}
use Rattle.shogi_core.proofs.Below.{some_below_at, some_below_not, all_below_at, all_below_yes}
use Rattle.shogi_core.proofs.BitLaws.{has_bit-and}
use Rattle.shogi_core.proofs.LineBits.{has_bit-not}
use Rattle.shogi_core.proofs.SliderAttacks.{direction_around, direction_of}
use Rattle.shogi_core.proofs.Discovered.{list_any_kept, one_of, some_below_which, same_way, same_way_is, slides_around}
use Rattle.shogi_moves.specs.After.{after, cells_after, piece_moved, dropped}
use Rattle.shogi_moves.specs.Legal.{is_legal, is_pseudo_legal_board_move}
use Rattle.shogi_core.specs.Zones.{may_promote}
use Rattle.shogi_replies.specs.ReplyInfo.{is_aligned_with_king, is_line_of_king}
use Rattle.shogi_core.specs.Moves.{end_of}
use Rattle.shogi_replies.specs.Threats.{IsOffPins, IsUnpinnable, IsAttack, IsThreat, EndsNonInterfering, LeavesThreat, MayTake, put_by}
use Rattle.shogi_core.proofs.RayLaws.{slides_bare}
use Rattle.shogi_moves.proofs.DestinationLaws.{alive, legal_board, still}
use Rattle.shogi_moves.proofs.CheckInfoLaws.{dropped_of, filled, is_piece_of-piece_moved, look, other_side, quiet_board}
use Rattle.shogi_moves.proofs.MovedPieces.{is_king-piece_moved}
use Rattle.shogi_core.proofs.Faults.{faultless_from}
use Rattle.shogi_replies.proofs.ReplyLaws.{LeavesStanding, left_board, left_drop, left_lifted, see_lifted, legal_own, stays_unlined}
use Rattle.std.proofs.lemmas.List.{set_comm, set-set}
use Rattle.shogi_replies.proofs.PinLaws.{left_off_pins}
use Rattle.shogi_moves.proofs.DropChecks as drops

-- ---- a piece still reaches squares if the move does not end on the way

-- the squares of a free slide lie between its ends
between_ends : (cells : Cells) (o : Offset) (a t x m i : ℕ) → m < 8 → i < m → slides_across cells o a t m ≡ true → away (i + 1) o a ≡ Some x → (is_on_ray o a x ≡ true) × (is_on_ray o x t ≡ true)
between_ends cells o a t x m i small less e at =
    let parts : (leads (m + 1) o a t ≡ true) × (all_below m (is_step_empty cells o a) ≡ true) = and_parts _ _ e in
    let near : slides cells o a x ≡ true = some_below_at 8 (slides_across cells o a x) i (omega arith) (and_from _ _ (is_leads _ x at) (all_below_yes i (is_step_empty cells o a) (λ j l. all_below_at m (is_step_empty cells o a) j parts.1 (omega arith)))) in
    let sum : i + 1 + (m - i - 1 + 1) ≡ m + 1 = omega arith in
    let there : away (m - i - 1 + 1) o x ≡ Some t = away_on (i + 1) (m - i - 1 + 1) o a x at ∙ (ap (λ (k : ℕ). away k o a) sum ∙ leads_is _ t parts.0) in
    let far : slides cells o x t ≡ true = some_below_at 8 (slides_across cells o x t) (m - i - 1) (omega arith) (and_from _ _ (is_leads _ t there) (all_below_yes (m - i - 1) (is_step_empty cells o x) (λ j l. (
    let further : i + 1 + (j + 1) ≡ i + 1 + j + 1 = omega arith in
    ap (is_empty cells) (away_on (i + 1) (j + 1) o a x at ∙ ap (λ (k : ℕ). away k o a) further) ∙ all_below_at m (is_step_empty cells o a) (i + 1 + j) parts.1 (omega arith))))) in
    (slides_bare cells o a x near, slides_bare cells o x t far)

-- a free slide stays free if the only square that may be filled is not on its way
slide_kept : (old new : Cells) (to : ℕ) → ((x : ℕ) → is_none (piece_at old x) ≡ true → x ≢ to → is_none (piece_at new x) ≡ true) → (o : Offset) (a t : ℕ) → (is_on_ray o a to ≡ true → is_on_ray o to t ≡ false) → slides old o a t ≡ true → slides new o a t ≡ true
slide_kept old new to clear o a t off e =
    let which = some_below_which 8 (slides_across old o a t) e in
    let parts : (leads (which.0 + 1) o a t ≡ true) × (all_below which.0 (is_step_empty old o a) ≡ true) = and_parts _ _ which.2 in
    some_below_at 8 (slides_across new o a t) which.0 which.1 (and_from _ _ parts.0 (all_below_yes which.0 (is_step_empty new o a)
    (λ i l. free i (away (i + 1) o a) refl (all_below_at which.0 (is_step_empty old o a) i parts.1 l) (λ at. between_ends old o a t to which.0 i which.1 l which.2 at))))
  where
    free : (i : ℕ) (x : Option ℕ) → away (i + 1) o a ≡ x → is_empty old (away (i + 1) o a) ≡ true → (away (i + 1) o a ≡ Some to → (is_on_ray o a to ≡ true) × (is_on_ray o to t ≡ true)) → is_empty new (away (i + 1) o a) ≡ true
    free i None at e met = absurd (let clash : false ≡ true = ap (is_empty old) (sym at) ∙ e in cc)
    free i (Some x) at e met = elim (cases_eq x to) [
      | inl there ↦ (let both = met (at ∙ ap Some there) in absurd (both_ways (is_on_ray o to t) (off both.0) both.1))
      | inr other ↦ ap (is_empty new) at ∙ clear x (ap (is_empty old) (sym at) ∙ e) other
    ]

-- each slide of a piece has one of the eight directions
slides_kept : (old new : Cells) (color : Color) (a t : ℕ) → ((d : ℕ) → d < 8 → slides old (direction_at d) a t ≡ true → slides new (direction_at d) a t ≡ true) → (os : List Offset) → list_all (λ o. list_any (same_way (for_side color o)) around) os ≡ true → is_slide old color os a t ≡ true → is_slide new color os a t ≡ true
slides_kept old new color a t kept [] all e = e
slides_kept old new color a t kept (o ∷ os) all e =
    let parts : (list_any (same_way (for_side color o)) around ≡ true) × (list_all (λ p. list_any (same_way (for_side color p)) around) os ≡ true) = and_parts _ _ all in
    let d = direction_of (for_side color o) parts.0 in
    let same : for_side color o ≡ direction_at d.0 = same_way_is (for_side color o) (direction_at d.0) d.2 in
    elim (or_cases (slides old (for_side color o) a t) (is_slide old color os a t) e) [
      | inl here ↦ or_left _ _ (ap (λ (p : Offset). slides new p a t) same ∙ kept d.0 d.1 (ap (λ (p : Offset). slides old p a t) (sym same) ∙ here))
      | inr later ↦ or_right (slides new (for_side color o) a t) _ (slides_kept old new color a t kept os parts.1 later)
    ]

-- a piece still reaches a square if the move does not end between the two
pub reach_kept : (old new : Cells) (to : ℕ) → ((x : ℕ) → is_none (piece_at old x) ≡ true → x ≢ to → is_none (piece_at new x) ≡ true) → (cell : Option Piece) (a t : ℕ) → cell_reaches old cell a t ≡ true → ((d : ℕ) → d < 8 → is_on_ray (direction_at d) a to ≡ true → is_on_ray (direction_at d) to t ≡ false) → cell_reaches new cell a t ≡ true
reach_kept old new to clear None a t e off = absurd (cc)
reach_kept old new to clear (Some piece) a t e off = elim (or_cases (has_step piece a t) (has_slide old piece a t) e) [
  | inl step ↦ or_left (has_step piece a t) (has_slide new piece a t) step
  | inr slide ↦ or_right (has_step piece a t) (has_slide new piece a t) (slides_kept old new piece.color a t (λ d range. slide_kept old new to clear (direction_at d) a t (off d range)) (slides_of piece.role) (slides_around piece.color piece.role) slide)
]

-- a test holds for all numbers below n, or fails for one of them
unbroken : (n : ℕ) (f : ℕ → Bool) → (all_below n f ≡ true) ⊎ ((i : ℕ) × (i < n) × (f i ≡ false))
unbroken n f = elim (cases_Bool (some_below n (λ i. not (f i)))) [
  | inl some ↦ (let which = some_below_which n (λ i. not (f i)) some in inr (which.0, which.1, not-true _ which.2))
  | inr none ↦ inl (all_below_yes n f (λ i l. true_from_not (f i) (some_below_not n (λ j. not (f j)) i none l)))
]
  where
    true_from_not : (b : Bool) → not b ≡ false → b ≡ true
    true_from_not b e = grind arith

step_to : (old new : Cells) (to : ℕ) → ((x : ℕ) → is_none (piece_at old x) ≡ true → x ≢ to → is_none (piece_at new x) ≡ true) → (o : Offset) (a n : ℕ) → n < 8 → ((i : ℕ) → i < n → slides_across old o a to i ≡ true → slides new o a to ≡ true) → slides_across old o a to n ≡ true → slides new o a to ≡ true
step_to old new to clear o a n small sooner e =
    let parts : (leads (n + 1) o a to ≡ true) × (all_below n (is_step_empty old o a) ≡ true) = and_parts _ _ e in
    elim (unbroken n (is_step_empty new o a)) [
      | inl all ↦ some_below_at 8 (slides_across new o a to) n small (and_from _ _ parts.0 all)
      | inr filled ↦ sooner filled.0 filled.1
          (and_from _ _ (ends_there filled.0 (away (filled.0 + 1) o a) refl (all_below_at n (is_step_empty old o a) filled.0 parts.1 filled.1) filled.2) (all_below_yes filled.0 (is_step_empty old o a) (λ j l. all_below_at n (is_step_empty old o a) j parts.1 (omega (arith, l, filled.1)))))
    ]
  where
    ends_there : (i : ℕ) (x : Option ℕ) → away (i + 1) o a ≡ x → is_empty old (away (i + 1) o a) ≡ true → is_empty new (away (i + 1) o a) ≡ false → is_same_square (away (i + 1) o a) to ≡ true
    ends_there i x at e shut = grind (arith, clear)

slide_to : (old new : Cells) (to : ℕ) → ((x : ℕ) → is_none (piece_at old x) ≡ true → x ≢ to → is_none (piece_at new x) ≡ true) → (o : Offset) (a d n : ℕ) → n ≤ d → n < 8 → slides_across old o a to n ≡ true → slides new o a to ≡ true
slide_to old new to clear o a zero n deep small e = step_to old new to clear o a n small (λ i l f. absurd (omega (arith, l, deep))) e
slide_to old new to clear o a (suc d) n deep small e = step_to old new to clear o a n small (λ i l f. slide_to old new to clear o a d i (omega (arith, l, deep)) (omega (arith, l, small)) f) e

-- a piece that reached the destination of the move still does, since the way there ends before it
reach_to : (old new : Cells) (to : ℕ) → ((x : ℕ) → is_none (piece_at old x) ≡ true → x ≢ to → is_none (piece_at new x) ≡ true) → (cell : Option Piece) (a : ℕ) → cell_reaches old cell a to ≡ true → cell_reaches new cell a to ≡ true
reach_to old new to clear None a e = absurd (cc)
reach_to old new to clear (Some piece) a e = elim (or_cases (has_step piece a to) (has_slide old piece a to) e) [
  | inl step ↦ or_left (has_step piece a to) (has_slide new piece a to) step
  | inr slide ↦ or_right (has_step piece a to) (has_slide new piece a to) (list_any_kept (λ o. slides old (for_side piece.color o) a to) (λ o. slides new (for_side piece.color o) a to) (slides_of piece.role) (λ o f. (
      let which = some_below_which 8 (slides_across old (for_side piece.color o) a to) f in
      slide_to old new to clear (for_side piece.color o) a which.0 which.0 (omega arith) which.1 which.2)) slide)
]

-- ---- a capture by an unpinned piece

-- the king is not in check after a capture by a piece that is between it and no slider, other than one that is captured
unpinned_take : (cells : Cells) (side : Color) (a t : ℕ) (v : Option Piece) → length cells ≡ 81 → a < 81 → t < 81 → a ≢ t → is_piece_of side v ≡ true → is_king side v ≡ false → is_king side (piece_at cells a) ≡ false → is_piece_of side (piece_at cells a) ≡ true → in_check cells side ≡ false
    → ((k x d : ℕ) → k < 81 → x < 81 → d < 8 → x ≢ t → is_sniper_of_king cells side x k ≡ true → is_on_ray (direction_at d) k a ≡ true → is_on_ray (direction_at d) a x ≡ false) → in_check (set (set cells a None) t v) side ≡ false
unpinned_take cells side a t v len ha ht other own non_promoting bare mine safe apart =
    left_off_pins (set cells t v) (set (set cells a None) t v) a ha opened side theirs crown (filled cells cells side t v len ht (λ x other. refl) own non_promoting safe) off_pins
  where
    placed : piece_at (set cells t v) t ≡ v
    placed = get_or-set_same cells t v None (omega (arith, len))

    before : (x : ℕ) → x ≢ t → piece_at (set cells t v) x ≡ piece_at cells x
    before x off = get_or-set_other cells t x v None off

    same_unless : (x : ℕ) → x ≢ a → piece_at (set cells t v) x ≡ piece_at (set (set cells a None) t v) x
    same_unless x off = grind (arith, cases_eq x t, placed, before x, length-set cells a None, get_or-set_same (set cells a None) t v None, get_or-set_other (set cells a None) t x v None, get_or-set_other cells a x None None off)

    left_bare : piece_at (set (set cells a None) t v) a ≡ None
    left_bare = get_or-set_other (set cells a None) t a v None other ∙ get_or-set_same cells a None None (omega (arith, len))

    opened : (x : ℕ) → is_none (piece_at (set (set cells a None) t v) x) ≡ true → (is_none (piece_at (set cells t v) x) ≡ true) ⊎ (x ≡ a)
    opened x e = grind (arith, cases_eq x a, same_unless x)

    theirs : (x : ℕ) → is_piece_of (opponent_of side) (piece_at (set (set cells a None) t v) x) ≡ true → piece_at (set cells t v) x ≡ piece_at (set (set cells a None) t v) x
    theirs x e = grind (arith, cases_eq x a, left_bare, same_unless x)

    crown : (k : ℕ) → is_king side (piece_at (set (set cells a None) t v) k) ≡ true → piece_at (set cells t v) k ≡ piece_at (set (set cells a None) t v) k
    crown k e = grind (arith, cases_eq k a, left_bare, same_unless k)

    off_pins : (k x d : ℕ) → k < 81 → x < 81 → d < 8 → is_sniper_of_king (set cells t v) side x k ≡ true → is_on_ray (direction_at d) k a ≡ true → is_on_ray (direction_at d) a x ≡ false
    off_pins k x d hk hx hd e on =
        let two : (is_king side (piece_at (set cells t v) k) ≡ true) × (is_sniper (set cells t v) (opponent_of side) k x ≡ true) = and_parts _ _ e in
        let inner = and_parts (is_piece_of (opponent_of side) (piece_at (set cells t v) x) && is_slider (piece_at (set cells t v) x)) (are_aligned k x) two.1 in
        let foe = and_parts (is_piece_of (opponent_of side) (piece_at (set cells t v) x)) (is_slider (piece_at (set cells t v) x)) inner.0 in
        let off : x ≢ t = λ (there : x ≡ t). both_ways (is_piece_of (opponent_of side) v) (other_side side v own) (subst (λ (cell : Option Piece). is_piece_of (opponent_of side) cell ≡ true) (ap (piece_at (set cells t v)) there ∙ placed) foe.0) in
        let king_off : k ≢ t = λ (there : k ≡ t). both_ways (is_king side v) non_promoting (subst (λ (cell : Option Piece). is_king side cell ≡ true) (ap (piece_at (set cells t v)) there ∙ placed) two.0) in
        let king : is_king side (piece_at cells k) ≡ true = ap (is_king side) (sym (before k king_off)) ∙ two.0 in
        let slides : is_sniper cells (opponent_of side) k x ≡ true = and_from _ _ (and_from _ _ (ap (is_piece_of (opponent_of side)) (sym (before x off)) ∙ foe.0) (ap is_slider (sym (before x off)) ∙ foe.1)) inner.1 in
        apart k x d hk hx hd off (and_from _ _ king slides) on

-- ---- the capture stays possible

-- a move adds at most one piece of its side, on its destination
abbrev pub AddsOne : Cells → Cells → Color → ℕ → Type 0
AddsOne old new side to = (x : ℕ) → is_piece_of (opponent_of side) (piece_at new x) ≡ true → x ≢ to → piece_at old x ≡ piece_at new x

-- a new sniper is the piece on the destination of the move
sniper_before : (old new : Cells) (side : Color) (to k x : ℕ) → AddsOne old new side to → ((k : ℕ) → is_king side (piece_at new k) ≡ true → piece_at old k ≡ piece_at new k) → k < 81 → is_sniper_of_king new side x k ≡ true
    → (is_sniper_of_king old side x k ≡ true) ⊎ ((x ≡ to) × (is_slider (piece_at new x) ≡ true) × (is_aligned_with_king old side x ≡ true))
unfolding is_aligned_with_king
sniper_before old new side to k x adds kings h e =
    let two : (is_king side (piece_at new k) ≡ true) × (is_sniper new (opponent_of side) k x ≡ true) = and_parts _ _ e in
    let inner = and_parts (is_piece_of (opponent_of side) (piece_at new x) && is_slider (piece_at new x)) (are_aligned k x) two.1 in
    let foe = and_parts (is_piece_of (opponent_of side) (piece_at new x)) (is_slider (piece_at new x)) inner.0 in
    let king : is_king side (piece_at old k) ≡ true = ap (is_king side) (kings k two.0) ∙ two.0 in
    elim (cases_eq x to) [
      | inl there ↦ inr (there, foe.1, some_below_at 81 (is_line_of_king old side x) k h (and_from _ _ king inner.1))
      | inr off ↦ (let same = adds x foe.0 off in inl (and_from _ _ king (and_from _ _ (and_from _ _ (ap (is_piece_of (opponent_of side)) same ∙ foe.0) (ap is_slider same ∙ foe.1)) inner.1)))
    ]

-- squares on no line are in no direction from one another
off_ray : (a x d : ℕ) → d < 8 → are_aligned a x ≡ false → is_on_ray (direction_at d) a x ≡ false
unfolding are_lined
off_ray a x d hd off = false_from_ne_true (is_on_ray (direction_at d) a x) (λ on. both_ways (are_aligned a x) off (one_of (λ q. slides [] q a x) (direction_at d) around (direction_around d hd) on))

-- a capture by an unpinnable piece leaves its king in no check if the piece on the destination is captured or pins nothing
takes_safely : (p : Shogi) (new : Cells) (a t to : ℕ) (promote : Bool) → LeavesStanding p.cells new (opponent_of p.side) to → in_check new (opponent_of p.side) ≡ false → AddsOne p.cells new (opponent_of p.side) to → IsUnpinnable p a → t < 81 → a ≢ t → a ≢ to
    → ((to ≡ t) ⊎ (is_slider (piece_at new to) ≡ true → is_aligned_with_king p.cells (opponent_of p.side) a ≡ true → is_aligned_with_king p.cells (opponent_of p.side) to ≡ true → are_aligned a to ≡ false))
    → in_check (cells_after new (opponent_of p.side) (Board a t promote)) (opponent_of p.side) ≡ false
takes_safely p new a t to promote k shut adds free ht other away pins =
    let color : Color = opponent_of p.side in
    let same : piece_at new a ≡ piece_at p.cells a = k.stays a free.theirs away in
    let own : is_piece_of color (piece_at new a) ≡ true = ap (is_piece_of color) same ∙ free.theirs in
    let non_promoting : is_king color (piece_at new a) ≡ false = ap (is_king color) same ∙ free.no_king in
    elim (cases_Bool (is_aligned_with_king p.cells (opponent_of p.side) a)) [
      | inl lined ↦ unpinned_take new color a t (piece_moved promote (piece_at new a)) k.len free.on_board ht other (is_piece_of-piece_moved color promote (piece_at new a) ∙ own) (is_king-piece_moved color promote (piece_at new a) ∙ non_promoting) non_promoting own shut
          (λ king x d hk hx hd off sniping on. elim (sniper_before p.cells new color to king x adds k.kings hk sniping) [
            | inl was ↦ free.unpinned king x d hk hx hd was on
            | inr came ↦ elim pins [
              | inl taken ↦ absurd (off (came.0 ∙ taken))
              | inr harmless ↦ off_ray a x d hd (subst (λ (y : ℕ). are_aligned a y ≡ false) (sym came.0) (harmless (subst (λ (y : ℕ). is_slider (piece_at new y) ≡ true) came.0 came.1) lined (subst (λ (y : ℕ). is_aligned_with_king p.cells (opponent_of p.side) y ≡ true) came.0 came.2)))
            ]
          ])
      | inr off ↦ quiet_board new color a t promote k.len free.on_board ht own non_promoting (stays_unlined p.cells new color a free.on_board k.kings off) shut
    ]

-- a capture that leaves no check is legal if the piece still reaches its target
takes_legally : (p : Shogi) (new : Cells) (hands : HandCounts) (a t to : ℕ) (promote : Bool) → LeavesStanding p.cells new (opponent_of p.side) to → IsAttack p a t promote → a ≢ to
    → is_piece_of (opponent_of p.side) (piece_at new t) ≡ false → cell_reaches new (piece_at p.cells a) a t ≡ true → in_check (cells_after new (opponent_of p.side) (Board a t promote)) (opponent_of p.side) ≡ false
    → is_legal (record { cells = new; hands = hands; side = opponent_of p.side }) (Board a t promote) ≡ true
unfolding reaches
takes_legally p new hands a t to promote k attack away open_end reach safe =
    let color : Color = opponent_of p.side in
    let free = attack.attacker in
    let same : piece_at new a ≡ piece_at p.cells a = k.stays a free.theirs away in
    let own : is_piece_of color (piece_at new a) ≡ true = ap (is_piece_of color) same ∙ free.theirs in
    let arrives : reaches new a t ≡ true = ap (λ cell. cell_reaches new cell a t) same ∙ reach in
    let promotes : (not promote || may_promote (piece_at new a) a t) ≡ true = ap (λ cell. not promote || may_promote cell a t) same ∙ either promote attack.promotes in
    let mobile : is_immobile t (piece_moved promote (piece_at new a)) ≡ false = ap (λ cell. is_immobile t (piece_moved promote cell)) same ∙ attack.mobile in
    legal_board (record { cells = new; hands = hands; side = color }) a t promote
    ∙ and_from _ _ (pseudo own open_end arrives promotes mobile) (ap not safe)
  where
    either : (promote : Bool) → (promote ≡ true → may_promote (piece_at p.cells a) a t ≡ true) → (not promote || may_promote (piece_at p.cells a) a t) ≡ true
    either promote h = grind arith

    pseudo : is_piece_of (opponent_of p.side) (piece_at new a) ≡ true → is_piece_of (opponent_of p.side) (piece_at new t) ≡ false → reaches new a t ≡ true → (not promote || may_promote (piece_at new a) a t) ≡ true → is_immobile t (piece_moved promote (piece_at new a)) ≡ false → is_pseudo_legal_board_move new (opponent_of p.side) a t promote ≡ true
    pseudo own free reach promotes mobile = rw (own, free, reach, promotes, mobile) refl

-- a threat that the move leaves is still possible
still_takes : (p : Shogi) (m : Move) (a t : ℕ) (promote : Bool) → LeavesStanding p.cells (after p m).cells (opponent_of p.side) (end_of m) → in_check (after p m).cells (opponent_of p.side) ≡ false → AddsOne p.cells (after p m).cells (opponent_of p.side) (end_of m) → piece_at (after p m).cells (end_of m) ≡ put_by p m → IsThreat p a t promote → EndsNonInterfering p a t m
    → is_legal (record { cells = (after p m).cells; hands = (after p m).hands; side = opponent_of p.side }) (Board a t promote) ≡ true
unfolding reaches
still_takes p m a t promote k shut adds put threat aside =
    let away : a ≢ end_of m = λ at. aside.attacker_stays (sym at) in
    takes_legally p (after p m).cells (after p m).hands a t (end_of m) promote k threat.attack away
    (k.clear t threat.target)
    (reach_kept p.cells (after p m).cells (end_of m) k.empty (piece_at p.cells a) a t threat.attack.reached aside.way_stays)
    (takes_safely p (after p m).cells a t (end_of m) promote k shut adds threat.attack.attacker threat.attack.on_board threat.attack.apart away
    (inr (λ slides lined met. aside.unpinned (ap is_slider (sym put) ∙ slides) lined met)))

-- capturing a piece leaves the same board as if it had not come
taken_again : (lifted : Cells) (side : Color) (a to : ℕ) (promote : Bool) (put : Option Piece) → a ≢ to → cells_after (set lifted to put) side (Board a to promote) ≡ cells_after lifted side (Board a to promote)
taken_again lifted side a to promote put apart =
    ap (λ (cell : Option Piece). set (set (set lifted to put) a None) to (piece_moved promote cell)) (get_or-set_other lifted to a put None apart)
    ∙ (ap (λ (cells : Cells). set cells to (piece_moved promote (piece_at lifted a))) (set_comm lifted to a put None (λ same. apart (sym same)))
    ∙ set-set (set lifted a None) to put (piece_moved promote (piece_at lifted a)))

-- an attack on the destination captures there if the board without the moved piece has no check
retakes : (p : Shogi) (m : Move) (lifted : Cells) (a : ℕ) (promote : Bool) → LeavesStanding p.cells lifted (opponent_of p.side) (end_of m) → in_check lifted (opponent_of p.side) ≡ false → AddsOne p.cells lifted (opponent_of p.side) (end_of m) → (after p m).cells ≡ set lifted (end_of m) (put_by p m)
    → LeavesStanding p.cells (after p m).cells (opponent_of p.side) (end_of m) → piece_at (after p m).cells (end_of m) ≡ put_by p m → is_piece_of p.side (put_by p m) ≡ true → IsAttack p a (end_of m) promote
    → is_legal (record { cells = (after p m).cells; hands = (after p m).hands; side = opponent_of p.side }) (Board a (end_of m) promote) ≡ true
unfolding reaches
retakes p m lifted a promote before shut adds made k put own attack =
    takes_legally p (after p m).cells (after p m).hands a (end_of m) (end_of m) promote k attack attack.apart
    (ap (is_piece_of (opponent_of p.side)) put ∙ other_side p.side (put_by p m) own)
    (reach_to p.cells (after p m).cells (end_of m) k.empty (piece_at p.cells a) a attack.reached)
    (ap (λ (cells : Cells). in_check (cells_after cells (opponent_of p.side) (Board a (end_of m) promote)) (opponent_of p.side)) made
    ∙ (ap (λ (cells : Cells). in_check cells (opponent_of p.side)) (taken_again lifted (opponent_of p.side) a (end_of m) promote (put_by p m) attack.apart)
    ∙ takes_safely p lifted a (end_of m) (end_of m) promote before shut adds attack.attacker attack.on_board attack.apart attack.apart (inl refl)))

module _ (p : Shogi) (from to : ℕ) (promote : Bool) (v : IsValid p) (hf : from < 81) (ht : to < 81) (legal : is_legal p (Board from to promote) ≡ true) where
  standing : LeavesStanding p.cells (after p (Board from to promote)).cells (opponent_of p.side) to
  standing = left_board p from to promote v hf ht (legal_own p from to promote legal)

  adds_board : AddsOne p.cells (after p (Board from to promote)).cells (opponent_of p.side) to
  adds_board x e ne = grind (arith, look p.cells p.side from to (piece_moved promote (piece_at p.cells from)) v.cells_fit hf ht x)

  put_board : piece_at (after p (Board from to promote)).cells to ≡ piece_moved promote (piece_at p.cells from)
  put_board = get_or-set_same (set p.cells from None) to (piece_moved promote (piece_at p.cells from)) None (omega (arith, length-set p.cells from None, v.cells_fit))

  pub threat_board : in_check (after p (Board from to promote)).cells (opponent_of p.side) ≡ false → (a t : ℕ) (promoted : Bool) → IsThreat p a t promoted → LeavesThreat p a t (Board from to promote) → MayTake (after p (Board from to promote)) a t promoted (piece_at p.cells t)
  threat_board shut a t promoted threat leaves = record {
    legal = still_takes p (Board from to promote) a t promoted standing shut adds_board put_board threat leaves.1;
    stands = grind (arith, look p.cells p.side from to (piece_moved promote (piece_at p.cells from)) v.cells_fit hf ht t, leaves.0, leaves.1.target_stays);
  }

  adds_lifted : AddsOne p.cells (set p.cells from None) (opponent_of p.side) to
  adds_lifted x e ne = grind (arith, see_lifted p from to v hf (legal_own p from to promote legal) x)

  pub retake_board : in_check (set p.cells from None) (opponent_of p.side) ≡ false → (a : ℕ) (promoted : Bool) → IsAttack p a to promoted → MayTake (after p (Board from to promote)) a to promoted (piece_moved promote (piece_at p.cells from))
  retake_board shut a promoted attack = record {
    legal = retakes p (Board from to promote) (set p.cells from None) a promoted (left_lifted p from to v hf (legal_own p from to promote legal)) shut adds_lifted refl standing put_board (is_piece_of-piece_moved p.side promote (piece_at p.cells from) ∙ legal_own p from to promote legal) attack;
    stands = put_board;
  }

  -- after a move without check, an attack on the destination captures there
  pub retake_unchecked : in_check (after p (Board from to promote)).cells (opponent_of p.side) ≡ false → (a : ℕ) (promoted : Bool) → IsAttack p a to promoted → MayTake (after p (Board from to promote)) a to promoted (piece_moved promote (piece_at p.cells from))
  unfolding reaches
  retake_unchecked shut a promoted attack =
      let new : Cells = (after p (Board from to promote)).cells in
      record {
        legal = takes_legally p new (after p (Board from to promote)).hands a to to promoted standing attack attack.apart
            (ap (is_piece_of (opponent_of p.side)) put_board ∙ other_side p.side (piece_moved promote (piece_at p.cells from)) (is_piece_of-piece_moved p.side promote (piece_at p.cells from) ∙ legal_own p from to promote legal))
            (reach_to p.cells new to standing.empty (piece_at p.cells a) a attack.reached)
            (takes_safely p new a to to promoted standing shut adds_board attack.attacker attack.on_board attack.apart attack.apart (inl refl));
        stands = put_board;
      }

module _ (p : Shogi) (kind : Kind) (to : ℕ) (v : IsValid p) (ht : to < 81) where
  standing_drop : LeavesStanding p.cells (after p (Drop kind to)).cells (opponent_of p.side) to
  standing_drop = left_drop p kind to v ht

  adds_drop : AddsOne p.cells (after p (Drop kind to)).cells (opponent_of p.side) to
  adds_drop x e ne = elim (drops.look p.cells p.side kind to v.cells_fit ht x) [ inl there ↦ absurd (ne there.0) | inr same ↦ sym same ]

  put_drop : piece_at (after p (Drop kind to)).cells to ≡ dropped p.side kind
  put_drop = get_or-set_same p.cells to (dropped p.side kind) None (omega (arith, v.cells_fit))

  pub threat_drop : in_check (after p (Drop kind to)).cells (opponent_of p.side) ≡ false → (a t : ℕ) (promoted : Bool) → IsThreat p a t promoted → LeavesThreat p a t (Drop kind to) → MayTake (after p (Drop kind to)) a t promoted (piece_at p.cells t)
  threat_drop shut a t promoted threat leaves = record {
    legal = still_takes p (Drop kind to) a t promoted standing_drop shut adds_drop put_drop threat leaves;
    stands = grind (arith, drops.look p.cells p.side kind to v.cells_fit ht t, leaves.target_stays);
  }

  standing_before : LeavesStanding p.cells p.cells (opponent_of p.side) to
  standing_before = record { len = v.cells_fit; kings = λ k e. refl; stays = λ a e ne. refl; clear = λ t e. e; empty = λ x e ne. e }

  pub retake_drop : (a : ℕ) (promoted : Bool) → IsAttack p a to promoted → MayTake (after p (Drop kind to)) a to promoted (dropped p.side kind)
  retake_drop a promoted attack = record {
    legal = retakes p (Drop kind to) p.cells a promoted standing_before (faultless_from p v.no_fault).shut (λ x e ne. refl) refl standing_drop put_drop (dropped_of p.side kind) attack;
    stands = put_drop;
  }

-- ---- captures as sets of squares

pub found_unpinnable : (p : Shogi) (own kings pinnable a : ℕ) → kings < 2 ^ 128 → pinnable < 2 ^ 128 → ((n : ℕ) → n < 81 → has_bit own n ≡ is_piece_of (opponent_of p.side) (piece_at p.cells n)) → ((n : ℕ) → n < 81 → has_bit kings n ≡ is_king (opponent_of p.side) (piece_at p.cells n))
    → ((n : ℕ) → n < 81 → has_bit pinnable n ≡ false → IsOffPins p.cells (opponent_of p.side) n) → a < 81 → has_bit (bit_and (bit_and own (2 ^ 128 - 1 - kings)) (2 ^ 128 - 1 - pinnable)) a ≡ true → IsUnpinnable p a
found_unpinnable p own kings pinnable a low fits bits crown off h e =
    let two : (has_bit (bit_and own (2 ^ 128 - 1 - kings)) a ≡ true) × (has_bit (2 ^ 128 - 1 - pinnable) a ≡ true) = and_parts _ _ (sym (has_bit-and (bit_and own (2 ^ 128 - 1 - kings)) (2 ^ 128 - 1 - pinnable) a) ∙ e) in
    let one : (has_bit own a ≡ true) × (has_bit (2 ^ 128 - 1 - kings) a ≡ true) = and_parts _ _ (sym (has_bit-and own (2 ^ 128 - 1 - kings) a) ∙ two.0) in
    record {
      on_board = h;
      theirs = sym (bits a h) ∙ one.0;
      no_king = sym (crown a h) ∙ not-true _ (sym (has_bit-not kings a low (omega arith)) ∙ one.1);
      unpinned = off a h (not-true _ (sym (has_bit-not pinnable a fits (omega arith)) ∙ two.1));
    }

-- the destinations of an unpinnable piece without promotion
pub found_plain : (p : Shogi) (a t targets reach dead : ℕ) → IsUnpinnable p a → dead < 2 ^ 128 → ((n : ℕ) → n < 81 → has_bit targets n ≡ reaches p.cells a n) → ((i : ℕ) → has_bit reach i ≡ (has_bit targets i && not (i == a))) → ((n : ℕ) → n < 81 → has_bit dead n ≡ is_immobile n (piece_at p.cells a))
    → t < 81 → has_bit (bit_and reach (2 ^ 128 - 1 - dead)) t ≡ true → IsAttack p a t false
found_plain p a t targets reach dead free fits on_targets bits on_dead h e =
    let two : (has_bit reach t ≡ true) × (has_bit (2 ^ 128 - 1 - dead) t ≡ true) = and_parts _ _ (sym (has_bit-and reach (2 ^ 128 - 1 - dead) t) ∙ e) in
    let one : (has_bit targets t ≡ true) × (not (t == a) ≡ true) = and_parts _ _ (sym (bits t) ∙ two.0) in
    record {
      attacker = free;
      on_board = h;
      apart = λ same. both_ways _ (ap not (eq-eqb t a (sym same))) one.1;
      reached = sym (on_targets t h) ∙ one.0;
      promotes = λ no. absurd (cc);
      mobile = still t (piece_at p.cells a) ∙ (sym (on_dead t h) ∙ not-true _ (sym (has_bit-not dead t fits (omega arith)) ∙ two.1));
    }

-- the destinations of an unpinnable piece with promotion
pub found_promoting : (p : Shogi) (a t targets reach zone : ℕ) → IsUnpinnable p a → ((n : ℕ) → n < 81 → has_bit targets n ≡ reaches p.cells a n) → ((i : ℕ) → has_bit reach i ≡ (has_bit targets i && not (i == a))) → ((n : ℕ) → n < 81 → has_bit zone n ≡ may_promote (piece_at p.cells a) a n)
    → t < 81 → has_bit (bit_and reach zone) t ≡ true → IsAttack p a t true
found_promoting p a t targets reach zone free on_targets bits on_zone h e =
    let two : (has_bit reach t ≡ true) × (has_bit zone t ≡ true) = and_parts _ _ (sym (has_bit-and reach zone t) ∙ e) in
    let one : (has_bit targets t ≡ true) × (not (t == a) ≡ true) = and_parts _ _ (sym (bits t) ∙ two.0) in
    let may : may_promote (piece_at p.cells a) a t ≡ true = sym (on_zone t h) ∙ two.1 in
    record {
      attacker = free;
      on_board = h;
      apart = λ same. both_ways _ (ap not (eq-eqb t a (sym same))) one.1;
      reached = sym (on_targets t h) ∙ one.0;
      promotes = λ yes. may;
      mobile = not-true _ ((and_parts _ _ (alive a t (piece_at p.cells a) ∙ may)).1);
    }
