-- A side that is not in check and has spare moves has a legal move.
use Rattle.std.proofs.Common.{◌≡◌, ◌≢◌, ℕ, ◌<◌, true, false, not, Option, Some, None, sym, ap, subst, ◌∙◌, inl, inr, ◌-◌, ◌^◌, bit_and}
use Rattle.std.specs.Prelude.{Bool, ◌&&◌, ◌||◌, ◌==◌, IfSome, is_none, is_some}
use Rattle.std.proofs.lemmas.Bool.{and_from, and_parts, both_ways, cases_eq, eq-eqb, false_from_ne_true, not-true, or_parts}
use Rattle.shogi_core.specs.declared.piece.Color.{Color}
use Rattle.shogi_core.specs.declared.piece.Piece.{Piece}
use Rattle.shogi_core.specs.Attack.{cell_steps, in_check}
use Rattle.shogi_core.specs.Bits.{has_bit}
use Rattle.shogi_core.specs.Cell.{HasNoOtherKing, is_immobile, is_king, is_piece_of}
use Rattle.shogi_core.specs.Lines.{are_aligned}
use Rattle.shogi_core.specs.Movement.{Cells, piece_at}
use Rattle.shogi_core.specs.Pieces.{opponent_of}
use Rattle.shogi_core.specs.Position.{HandCounts, Shogi}
use Rattle.shogi_core.proofs.Below.{some_below_no}
use Rattle.shogi_moves.proofs.CheckInfoLaws.{own_some}
use Rattle.shogi_replies.specs.ReplyInfo.{is_aligned_with_king, is_line_of_king, is_quiet_step}
use Rattle.shogi_replies.proofs.ReplyLaws.{LeavesStanding, legal_step, step_parts}
use Rattle.analogous_moves.specs.Analogies.{HasSpareMoves, IsSpareMove}
use Rattle.analogous_moves.specs.SpareMoves.{IsFreeStep}
use Rattle.analogous_moves.specs.declared.spare_moves.FreeStep.{FreeStep}
use Rattle.analogous_moves.proofs.Sets.{out_parts}
use Rattle.analogous_moves.proofs.Worth.{HasBoardMove}

-- the step is still one if its two squares are unchanged
pub step_same : (old new : Cells) (a t : ℕ) → piece_at new a ≡ piece_at old a → piece_at new t ≡ piece_at old t → is_quiet_step old a t ≡ true → is_quiet_step new a t ≡ true
step_same old new a t one two e =
    ap (λ (cell : Option Piece). cell_steps cell a t && is_none (piece_at new t) && not (is_immobile t cell)) one
    ∙ (ap (λ (cell : Option Piece). cell_steps (piece_at old a) a t && is_none cell && not (is_immobile t (piece_at old a))) two ∙ e)

unaligned : (cells : Cells) (color : Color) (king a : ℕ) → HasNoOtherKing cells color king → are_aligned king a ≡ false → is_aligned_with_king cells color a ≡ false
unfolding is_aligned_with_king
unaligned cells color king a only_king off = some_below_no 81 (is_line_of_king cells color a) (λ k hk. false_from_ne_true _ (λ on. (
    let parts : (is_king color (piece_at cells k) ≡ true) × (are_aligned k a ≡ true) = and_parts _ _ on in
    elim (cases_eq k king) [
      | inl at ↦ both_ways (are_aligned king a) off (subst (λ (x : ℕ). are_aligned x a ≡ true) at parts.1)
      | inr other ↦ both_ways (is_king color (piece_at cells k)) (only_king k hk other) parts.0
    ])))

-- a step stays legal after a move of the other side that ends on neither of its squares
pub replies_by_step : (quiet_only : Bool) (old new : Cells) (hands : HandCounts) (color : Color) (king d a t : ℕ) → HasNoOtherKing old color king → LeavesStanding old new color d → in_check new color ≡ false → a < 81 → t < 81 → a ≢ d → t ≢ d → is_piece_of color (piece_at old a) ≡ true → a ≢ king → are_aligned king a ≡ false → is_quiet_step old a t ≡ true
    → HasBoardMove quiet_only (record { cells = new; hands = hands; side = color })
replies_by_step quiet_only old new hands color king d a t only_king k unchecked ha ht stays beside own other off step =
    λ none. none a t ha ht (legal_step old new hands color d a t k unchecked ha ht stays beside (and_from _ _ (and_from _ _ own (ap not (only_king a ha other))) (ap not (unaligned old color king a only_king off))) step) (λ only. k.empty t (step_parts old a t step).1 beside)

-- ---- one of three is left

-- the two squares of a step differ
apart : (cells : Cells) (color : Color) (a t : ℕ) → is_piece_of color (piece_at cells a) ≡ true → is_none (piece_at cells t) ≡ true → a ≢ t
apart cells color a t own bare at = both_ways (is_none (piece_at cells a)) (own_some color (piece_at cells a) own) (subst (λ (x : ℕ). is_none (piece_at cells x) ≡ true) (sym at) bare)

-- a spare move between squares of the board
pub record IsStepAt (q : Shogi) (king a t : ℕ) : Type 0 where
  pub on_board : (a < 81) × (t < 81)
  pub spare : IsSpareMove q king a t

abbrev Left : Shogi → ℕ → ℕ → ℕ → Type 0
Left q king b d = (a : ℕ) × (t : ℕ) × (a < 81) × (t < 81) × (a ≢ d) × (t ≢ d) × (t ≢ b) × IsSpareMove q king a t

own_of : (q : Shogi) (king a t : ℕ) → IsStepAt q king a t → is_none (piece_at q.cells t) ≡ true
own_of q king a t s = (step_parts q.cells a t s.spare.step).1

-- of two steps, one is left wherever a move ends, if neither target is filled
one_of_two : (q : Shogi) (king b d a t c u : ℕ) → IsStepAt q king a t → IsStepAt q king c u → a ≢ c → t ≢ u → t ≢ b → u ≢ b → Left q king b d
one_of_two q king b d a t c u s r ne nu tb ub = elim (cases_eq a d) [
  | inl at ↦ (c, u, r.on_board.0, r.on_board.1, (λ same. ne (at ∙ sym same)), (λ same. apart q.cells (opponent_of q.side) a u s.spare.own (own_of q king c u r) (at ∙ sym same)), ub, r.spare)
  | inr off ↦ elim (cases_eq t d) [
    | inl there ↦ (c, u, r.on_board.0, r.on_board.1, (λ same. apart q.cells (opponent_of q.side) c t r.spare.own (own_of q king a t s) (same ∙ sym there)), (λ same. nu (there ∙ sym same)), ub, r.spare)
    | inr beside ↦ (a, t, s.on_board.0, s.on_board.1, off, beside, tb, s.spare)
  ]
]

pub three_steps : (q : Shogi) (king a t c u e v : ℕ) → IsStepAt q king a t → IsStepAt q king c u → IsStepAt q king e v → a ≢ c → a ≢ e → c ≢ e → t ≢ u → t ≢ v → u ≢ v → HasSpareMoves q king
three_steps q king a t c u e v one two three ac ae ce tu tv uv b d = elim (cases_eq t b) [
  | inl at ↦ one_of_two q king b d c u e v two three ce uv (λ same. tu (at ∙ sym same)) (λ same. tv (at ∙ sym same))
  | inr off ↦ elim (cases_eq u b) [
    | inl there ↦ one_of_two q king b d a t e v one three ae tv off (λ same. uv (there ∙ sym same))
    | inr beside ↦ one_of_two q king b d a t c u one two ac tu off beside
  ]
]

-- ---- three steps that the code finds

-- the pieces of the opponent, on no line with its king
pub record AreUnbound (q : Shogi) (king pieces : ℕ) : Type 0 where
  pub each : (n : ℕ) → n < 81 → has_bit pieces n ≡ true → (is_piece_of (opponent_of q.side) (piece_at q.cells n) ≡ true) × (n ≢ king) × (are_aligned king n ≡ false)

pub unbound : (q : Shogi) (king own lines closed pieces : ℕ) → ((n : ℕ) → n < 81 → has_bit own n ≡ is_piece_of (opponent_of q.side) (piece_at q.cells n)) → ((n : ℕ) → n < 81 → has_bit lines n ≡ are_aligned king n) → ((i : ℕ) → has_bit closed i ≡ (has_bit lines i || i == king)) → closed < 2 ^ 81 → pieces ≡ bit_and own (2 ^ 128 - 1 - closed) → AreUnbound q king pieces
unbound q king own lines closed pieces owned lined joined fits meet = record {
  each = λ n h on. (
      let out : (has_bit own n ≡ true) × (has_bit closed n ≡ false) = out_parts own closed n fits h (sym (ap (λ (m : ℕ). has_bit m n) meet) ∙ on) in
      let both : (has_bit lines n ≡ false) × ((n == king) ≡ false) = or_parts (has_bit lines n) (n == king) (sym (joined n) ∙ out.1) in
      (sym (owned n h) ∙ out.0, λ same. both_ways (n == king) both.1 (eq-eqb n king same), sym (lined n h) ∙ both.0));
}

step_at : (q : Shogi) (king pieces taken : ℕ) (s : FreeStep) → AreUnbound q king pieces → IsFreeStep q.cells pieces taken s → IsStepAt q king s.from s.to
step_at q king pieces taken s free f =
    let facts = free.each s.from f.on_board.0 f.among in
    record { on_board = f.on_board; spare = record { own = facts.0; off_king = facts.1; off_lines = facts.2; step = f.step } }

fewer_unbound : (q : Shogi) (king pieces less n : ℕ) → ((i : ℕ) → has_bit less i ≡ (has_bit pieces i && not (i == n))) → AreUnbound q king pieces → AreUnbound q king less
fewer_unbound q king pieces less n bits free = record { each = λ i h on. free.each i h (and_parts (has_bit pieces i) (not (i == n)) (sym (bits i) ∙ on)).0 }

left_out : (pieces less n i : ℕ) → ((i : ℕ) → has_bit less i ≡ (has_bit pieces i && not (i == n))) → has_bit less i ≡ true → n ≢ i
left_out pieces less n i bits on same = both_ways (i == n) (not-true _ (and_parts (has_bit pieces i) (not (i == n)) (sym (bits i) ∙ on)).1) (eq-eqb i n (sym same))

pub some_found : (fact : FreeStep → Type 0) (found : Option FreeStep) → IfSome found fact → is_some found ≡ true → (s : FreeStep) × fact s
some_found fact None f e = absurd (cc)
some_found fact (Some s) f e = (s, f)

pub spare_by_three : (q : Shogi) (king pieces less fewer any none taken more : ℕ) (s r w : FreeStep) → AreUnbound q king pieces → ((i : ℕ) → has_bit less i ≡ (has_bit pieces i && not (i == s.from))) → ((i : ℕ) → has_bit fewer i ≡ (has_bit less i && not (i == r.from)))
    → ((i : ℕ) → has_bit taken i ≡ (has_bit none i || i == s.to)) → ((i : ℕ) → has_bit more i ≡ (has_bit taken i || i == r.to)) → IsFreeStep q.cells pieces any s → IsFreeStep q.cells less taken r → IsFreeStep q.cells fewer more w → HasSpareMoves q king
spare_by_three q king pieces less fewer any none taken more s r w free without_one without_two one_taken two_taken first second third =
    let free_two : AreUnbound q king less = fewer_unbound q king pieces less s.from without_one free in
    let free_three : AreUnbound q king fewer = fewer_unbound q king less fewer r.from without_two free_two in
    let in_less : has_bit less w.from ≡ true = (and_parts (has_bit less w.from) (not (w.from == r.from)) (sym (without_two w.from) ∙ third.among)).0 in
    let off_one : (has_bit none r.to ≡ false) × ((r.to == s.to) ≡ false) = or_parts (has_bit none r.to) (r.to == s.to) (sym (one_taken r.to) ∙ second.other) in
    let off_two : (has_bit taken w.to ≡ false) × ((w.to == r.to) ≡ false) = or_parts (has_bit taken w.to) (w.to == r.to) (sym (two_taken w.to) ∙ third.other) in
    let off_both : (has_bit none w.to ≡ false) × ((w.to == s.to) ≡ false) = or_parts (has_bit none w.to) (w.to == s.to) (sym (one_taken w.to) ∙ off_two.0) in
    three_steps q king s.from s.to r.from r.to w.from w.to
    (step_at q king pieces any s free first) (step_at q king less taken r free_two second) (step_at q king fewer more w free_three third)
    (left_out pieces less s.from r.from without_one second.among)
    (left_out pieces less s.from w.from without_one in_less)
    (left_out less fewer r.from w.from without_two third.among)
    (λ same. both_ways (r.to == s.to) off_one.1 (eq-eqb r.to s.to (sym same)))
    (λ same. both_ways (w.to == s.to) off_both.1 (eq-eqb w.to s.to (sym same)))
    (λ same. both_ways (w.to == r.to) off_two.1 (eq-eqb w.to r.to (sym same)))
