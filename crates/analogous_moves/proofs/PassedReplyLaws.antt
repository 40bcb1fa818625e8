-- The sets of squares that the code computes say which moves are threats.
use Rattle.std.proofs.Common.{◌≡◌, ◌≢◌, ◌⊎◌, ℕ, ◌+◌, ◌-◌, ◌^◌, ◌<◌, ◌≤◌, Bool, true, false, Option, Some, None, refl, sym, ap, subst, ◌∙◌, inl, inr, arith, bit_and, bit_or, set, get_or-set_other}
use Rattle.std.proofs.lemmas.List.{set_comm}
use Rattle.std.specs.Prelude.{◌&&◌, ◌||◌, not, ◌==◌, is_none, nat_lt}
use Rattle.std.proofs.lemmas.Bool.{and_from, and_parts, both_ways, cases_Bool, cases_eq, eq-eqb, false_from_ne_true, ltb-false, not-true, not_from_false, or_cases, or_left, or_parts, or_right}
use Rattle.shogi_core.specs.declared.piece.Color.{Color}
use Rattle.shogi_core.specs.declared.piece.Color.TheVariants.{Black, White}
use Rattle.shogi_core.specs.declared.piece.Kind.{Kind}
use Rattle.shogi_core.specs.declared.piece.Kind.TheVariants as kinds
use Rattle.shogi_core.specs.declared.piece.Piece.{Piece}
use Rattle.shogi_core.specs.Bits.{has_bit}
use Rattle.shogi_core.specs.Sets.{IsSifted, IsUnion}
use Rattle.shogi_core.specs.declared.squares.Squares.{Squares}
use Rattle.shogi_core.specs.Cell.{is_immobile, is_king, is_piece_of, is_sliding_role}
use Rattle.shogi_core.specs.Lines.{are_aligned, are_lined}
use Rattle.shogi_core.specs.Movement.{Cells, cell_reaches, piece_at, reaches}
use Rattle.shogi_core.specs.Pieces.{is_same_color, opponent_of}
use Rattle.shogi_core.specs.Position.{Shogi}
use Rattle.shogi_core.specs.Zones.{may_promote}
use Rattle.shogi_core.proofs.BitLaws.{has_bit-and, has_bit-none, has_bit-or}
use Rattle.shogi_core.proofs.LineBits.{has_bit-not}
use Rattle.shogi_core.proofs.SeenLaws.{lined_back}
use Rattle.shogi_moves.specs.After.{dropped, piece_moved}
use Rattle.shogi_moves.proofs.CheckInfoLaws.{other_side}
use Rattle.shogi_moves.proofs.KingLaws.{king_own}
use Rattle.shogi_eval.specs.declared.eval.Eval.{Eval}
use Rattle.shogi_eval.specs.Material.{promotion_gain, taken_gain}
use Rattle.shogi_replies.proofs.KingGoes.{cleared_none}
use Rattle.analogous_moves.proofs.Lifting.{reach_lifted}
use Rattle.analogous_moves.proofs.Sets.{out_parts}
use Rattle.analogous_moves.proofs.ExposingLaws.{exposes_more}
use Rattle.shogi_eval.specs.Evaluated.{Evaluated}
use Rattle.analogous_moves.specs.declared.passed_reply.ForbiddenSquares.{ForbiddenSquares}
use Rattle.analogous_moves.specs.declared.passed_reply.PassedReply.{PassedReply}
use Rattle.analogous_moves.specs.PassedReplies.{IsAlike, IsUnthreateningIn, place_in}
use Rattle.analogous_moves.specs.Analogies.{Allows, AllowsPromotions, AreCapturesAbove, AreOffLines, IsUnthreatening, IsOffOpenLines, ExposesOwnKing, DropsAreNoThreat, DropGetsNoThreat, LeavesReplySquare, PieceHasNoThreat, PieceGetsNoThreat, lifted, without_king}

-- a square of one of two disjoint sets is not in the other
pub none_in : (a b n : ℕ) → bit_and a b ≡ 0 → has_bit a n ≡ true → has_bit b n ≡ false
none_in a b n none set = false_from_ne_true (has_bit b n) (λ on. both_ways (has_bit (bit_and a b) n) (ap (λ (m : ℕ). has_bit m n) none ∙ has_bit-none n) (has_bit-and a b n ∙ and_from _ _ set on))

-- a square of the first set and not of the second
kept_out : (a b n : ℕ) → b < 2 ^ 81 → n < 81 → has_bit a n ≡ true → has_bit b n ≡ false → has_bit (bit_and a (2 ^ 128 - 1 - b)) n ≡ true
kept_out a b n fits h on off = has_bit-and a (2 ^ 128 - 1 - b) n ∙ and_from _ _ on (has_bit-not b n (omega (arith, fits)) (omega (arith, h)) ∙ not_from_false _ off)

-- ---- captures that gain too much

no_piece : (color : Color) (cell : Option Piece) → is_piece_of color cell ≡ false → is_piece_of (opponent_of color) cell ≡ false → cell ≡ None
no_piece color None mine theirs = refl
no_piece color (Some piece) mine theirs = absurd (both_ways (is_same_color (opponent_of color) piece.color) theirs (either color piece.color mine))
  where
    either : (color other : Color) → is_same_color color other ≡ false → is_same_color (opponent_of color) other ≡ true
    either Black Black e = absurd (cc)
    either Black White e = refl
    either White Black e = refl
    either White White e = absurd (cc)

-- enemy pieces sifted by their capture's gain are the captures above the bound
pub captures_above_sifted : (cells : Cells) (side : Color) (e : Eval) (most foes kept : ℕ) (post : ℕ → Bool → Type 0) → ((n : ℕ) → n < 81 → has_bit foes n ≡ is_piece_of (opponent_of side) (piece_at cells n)) → ((n : ℕ) (passes : Bool) → n < 81 → post n passes → passes ≡ nat_lt most (taken_gain e (piece_at cells n))) → IsSifted post foes kept
    → AreCapturesAbove cells side e most kept
captures_above_sifted cells side e most foes kept post bits says s n h free out = elim (cases_Bool (has_bit foes n)) [
  | inl on ↦ (let tried = s.tried n h on in ltb-false most (taken_gain e (piece_at cells n)) (sym (says n tried.0 h tried.1) ∙ (sym tried.2 ∙ out)))
  | inr off ↦ (
      let none : piece_at cells n ≡ None = no_piece side (piece_at cells n) free (sym (bits n h) ∙ off) in
      let nothing : taken_gain e (piece_at cells n) ≡ 0 = ap (taken_gain e) none in
      omega (arith, nothing))
]

-- an emptied square is no capture above the bound
pub captures_above_lifted : (cells : Cells) (side : Color) (e : Eval) (most captures a : ℕ) → AreCapturesAbove cells side e most captures → AreCapturesAbove (set cells a None) side e most captures
captures_above_lifted cells side e most captures a d n h free out = elim (cases_eq n a) [
  | inl at ↦ (
      let nothing : taken_gain e (piece_at (set cells a None) n) ≡ 0 = ap (λ (y : ℕ). taken_gain e (piece_at (set cells a None) y)) at ∙ ap (taken_gain e) (cleared_none cells a) in
      omega (arith, nothing))
  | inr off ↦ (
      let same : piece_at (set cells a None) n ≡ piece_at cells n = get_or-set_other cells a n None None off in
      subst (λ (cell : Option Piece). taken_gain e cell ≤ most) (sym same) (d n h (ap (is_piece_of side) (sym same) ∙ free) out))
]

-- the enemy king does not stand on the emptied square
pub king_off : (cells : Cells) (color : Color) (king a : ℕ) → is_king color (piece_at (set cells a None) king) ≡ true → king ≢ a
king_off cells color king a crown at = both_ways (is_king color None) refl (ap (is_king color) (sym (ap (piece_at (set cells a None)) at ∙ cleared_none cells a)) ∙ crown)

-- the king and another piece may be lifted in either order
pub both_lifted : (kingless board : Cells) (king a : ℕ) → kingless ≡ set board king None → king ≢ a → set kingless a None ≡ set (set board a None) king None
both_lifted kingless board king a lifted off = ap (λ (cells : Cells). set cells a None) lifted ∙ set_comm board king a None None off

-- ---- forbidden destinations

-- the forbidden targets, with and without promotion
pub targets_within : (targets forbidden n : ℕ) → has_bit (bit_and targets forbidden) n ≡ true → has_bit targets n ≡ true
targets_within targets forbidden n e = (and_parts _ _ (sym (has_bit-and targets forbidden n) ∙ e)).0

off_both : (targets non promoting n : ℕ) → has_bit targets n ≡ true → has_bit (bit_and targets (bit_or non promoting)) n ≡ false → (has_bit non n ≡ false) × (has_bit promoting n ≡ false)
off_both targets non promoting n on out = or_parts (has_bit non n) (has_bit promoting n) (sym (has_bit-or non promoting n) ∙ false_from_ne_true (has_bit (bit_or non promoting) n) (λ some. both_ways (has_bit (bit_and targets (bit_or non promoting)) n) out (has_bit-and targets (bit_or non promoting) n ∙ and_from _ _ on some)))

pub off_non_promoting : (targets non promoting n : ℕ) → has_bit targets n ≡ true → has_bit (bit_and targets (bit_or non promoting)) n ≡ false → has_bit non n ≡ false
off_non_promoting targets non promoting n on out = (off_both targets non promoting n on out).0

pub off_promoting : (targets non forbidden may both n : ℕ) → both ≡ bit_and forbidden may → has_bit targets n ≡ true → has_bit (bit_and targets (bit_or non both)) n ≡ false → has_bit may n ≡ true → has_bit forbidden n ≡ false
off_promoting targets non forbidden may both n is on out set = false_from_ne_true (has_bit forbidden n) (λ some. both_ways (has_bit both n) (off_both targets non both n on out).1 (ap (λ (m : ℕ). has_bit m n) is ∙ (has_bit-and forbidden may n ∙ and_from _ _ some set)))

off_two : (a b n : ℕ) → has_bit (bit_or a b) n ≡ false → (has_bit a n ≡ false) × (has_bit b n ≡ false)
off_two a b n out = or_parts (has_bit a n) (has_bit b n) (sym (has_bit-or a b n) ∙ out)

-- what holds off a set holds off a larger one
pub off_left : (a b n : ℕ) → has_bit (bit_or a b) n ≡ false → has_bit a n ≡ false
off_left a b n out = (off_two a b n out).0

pub off_right : (a b n : ℕ) → has_bit (bit_or a b) n ≡ false → has_bit b n ≡ false
off_right a b n out = (off_two a b n out).1

pub promotes_nowhere : (quiet_only : Bool) (q : Shogi) (e : Eval) (gains king : ℕ) (piece : Piece) (squares all : ℕ) → ((n : ℕ) → n < 81 → has_bit all n ≡ true) → AllowsPromotions quiet_only q e gains king piece squares all
promotes_nowhere quiet_only q e gains king piece squares all every = record {
  leaves = λ n h out. absurd (both_ways (has_bit all n) out (every n h));
  gain = λ n h out. absurd (both_ways (has_bit all n) out (every n h));
  takes = λ n h out free. absurd (both_ways (has_bit all n) out (every n h));
}

pub promotes_off : (quiet_only : Bool) (q : Shogi) (e : Eval) (gains king : ℕ) (kingless : Cells) (piece promoted : Piece) (more captures covered squares : ℕ) → kingless ≡ without_king q king → piece_moved true (Some piece) ≡ Some promoted → more ≡ promotion_gain true (Some piece) → more ≤ gains → AreCapturesAbove q.cells q.side e (gains - more) captures
    → ((n : ℕ) → n < 81 → has_bit covered n ≡ false → LeavesReplySquare quiet_only kingless (Some promoted) n squares) → AllowsPromotions quiet_only q e gains king piece squares (bit_or captures covered)
promotes_off quiet_only q e gains king kingless piece promoted more captures covered squares lifted is gain fits above leaves = record {
  leaves = λ n h out. subst (λ (x : Option Piece). LeavesReplySquare quiet_only (without_king q king) x n squares) (sym is) (subst (λ (cells : Cells). LeavesReplySquare quiet_only cells (Some promoted) n squares) lifted (leaves n h (off_two captures covered n out).1));
  gain = λ n h out. omega (arith, gain, fits);
  takes = λ n h out free. (let few : taken_gain e (piece_at q.cells n) ≤ gains - more = above n h free (off_two captures covered n out).0 in omega (arith, few, gain, fits));
}

pub allows_off : (quiet_only : Bool) (q : Shogi) (e : Eval) (gains king : ℕ) (kingless : Cells) (piece : Piece) (squares captures covered : ℕ) (promoting forbidden : Squares) → kingless ≡ without_king q king → AreCapturesAbove q.cells q.side e gains captures → ((n : ℕ) → n < 81 → has_bit covered n ≡ false → LeavesReplySquare quiet_only kingless (Some piece) n squares) → forbidden.bits ≡ bit_or captures covered
    → AllowsPromotions quiet_only q e gains king piece squares promoting.bits → Allows quiet_only q e gains king piece squares (record { non_promoting = forbidden; promoting = promoting })
allows_off quiet_only q e gains king kingless piece squares captures covered promoting forbidden lifted above leaves is promotions = record {
  leaves = λ n h out. subst (λ (cells : Cells). LeavesReplySquare quiet_only cells (Some piece) n squares) lifted (leaves n h (off_two captures covered n (ap (λ (m : ℕ). has_bit m n) (sym is) ∙ out)).1);
  takes = λ n h free out. above n h free (off_two captures covered n (ap (λ (m : ℕ). has_bit m n) (sym is) ∙ out)).0;
  promotions = promotions;
}

-- ---- the moves of a piece

-- the position with a square emptied
abbrev lifted_from : Shogi → ℕ → Shogi
lifted_from q a = lifted q a

no_promotion : (cell : Option Piece) → promotion_gain false cell ≡ 0
no_promotion None = refl
no_promotion (Some piece) = refl

-- a move to a square that is not forbidden is no threat
no_threat_there : (quiet_only : Bool) (q : Shogi) (e : Eval) (gains king : ℕ) (piece : Piece) (squares n : ℕ) (promote : Bool) (forbidden : ForbiddenSquares) → Allows quiet_only q e gains king piece squares forbidden → n < 81 → has_bit forbidden.non_promoting.bits n ≡ false → (promote ≡ true → has_bit forbidden.promoting.bits n ≡ false)
    → (promotion_gain promote (Some piece) ≤ gains) × LeavesReplySquare quiet_only (without_king q king) (piece_moved promote (Some piece)) n squares
no_threat_there quiet_only q e gains king piece squares n true forbidden allows h out off = (allows.promotions.gain n h (off refl), allows.promotions.leaves n h (off refl))
no_threat_there quiet_only q e gains king piece squares n false forbidden allows h out off = let nothing : promotion_gain false (Some piece) ≡ 0 = no_promotion (Some piece) in (omega (arith, nothing), allows.leaves n h out)

gain_there : (quiet_only : Bool) (q : Shogi) (e : Eval) (gains king : ℕ) (piece : Piece) (squares n : ℕ) (promote : Bool) (forbidden : ForbiddenSquares) → Allows quiet_only q e gains king piece squares forbidden → n < 81 → is_piece_of q.side (piece_at q.cells n) ≡ false → has_bit forbidden.non_promoting.bits n ≡ false → (promote ≡ true → has_bit forbidden.promoting.bits n ≡ false)
    → taken_gain e (piece_at q.cells n) + promotion_gain promote (Some piece) ≤ gains
gain_there quiet_only q e gains king piece squares n true forbidden allows h free out off = allows.promotions.takes n h (off refl) free
gain_there quiet_only q e gains king piece squares n false forbidden allows h free out off =
    let nothing : promotion_gain false (Some piece) ≡ 0 = no_promotion (Some piece) in
    let few : taken_gain e (piece_at q.cells n) ≤ gains = allows.takes n h free out in
    omega (arith, nothing, few)

-- `found` has the targets that are forbidden
pub record AreForbidden (piece : Piece) (from targets : ℕ) (forbidden : ForbiddenSquares) (found : ℕ) : Type 0 where
  pub non_promoting : (n : ℕ) → has_bit targets n ≡ true → has_bit found n ≡ false → has_bit forbidden.non_promoting.bits n ≡ false
  pub promoting : (n : ℕ) → n < 81 → has_bit targets n ≡ true → has_bit found n ≡ false → may_promote (Some piece) from n ≡ true → has_bit forbidden.promoting.bits n ≡ false

-- a piece all of whose moves to forbidden targets expose its own king has no threat
module _ (quiet_only : Bool) (q : Shogi) (e : Eval) (gains king : ℕ) (kingless : Cells) (piece : Piece) (from targets own lines clear squares found : ℕ) (forbidden : ForbiddenSquares) (lifted : kingless ≡ without_king q king) (is : piece_at q.cells from ≡ Some piece) (reach : (n : ℕ) → n < 81 → has_bit targets n ≡ cell_reaches kingless (Some piece) from n)
    (lined : (n : ℕ) → n < 81 → has_bit lines n ≡ are_aligned from n) (lines_fit : lines < 2 ^ 81) (opens : clear ≡ bit_and squares (2 ^ 128 - 1 - lines)) (allows : Allows quiet_only q e gains king piece clear forbidden) (these : AreForbidden piece from targets forbidden found) where
  led : (n : ℕ) → n < 81 → cell_reaches (without_king q king) (piece_at q.cells from) from n ≡ true → has_bit targets n ≡ true
  led n h reached = reach n h ∙ (ap (λ (cells : Cells). cell_reaches cells (Some piece) from n) lifted ∙ (ap (λ (x : Option Piece). cell_reaches (without_king q king) x from n) (sym is) ∙ reached))

  off_lines : AreOffLines from squares clear
  off_lines m hm set = let out = out_parts squares lines m lines_fit hm (sym (ap (λ (x : ℕ). has_bit x m) opens) ∙ set) in (out.0, sym (lined m hm) ∙ out.1)

  no_threat_off : (n : ℕ) (promote : Bool) → n < 81 → has_bit targets n ≡ true → has_bit found n ≡ false → (promote ≡ true → may_promote (piece_at q.cells from) from n ≡ true)
      → (promotion_gain promote (piece_at q.cells from) ≤ gains) × ((set : ℕ) × AreOffLines from squares set × LeavesReplySquare quiet_only (without_king q king) (piece_moved promote (piece_at q.cells from)) n set)
  no_threat_off n promote h on out lets =
      let one = no_threat_there quiet_only q e gains king piece clear n promote forbidden allows h (these.non_promoting n on out) (λ p. these.promoting n h on out (ap (λ (x : Option Piece). may_promote x from n) (sym is) ∙ lets p)) in
      (subst (λ (x : Option Piece). promotion_gain promote x ≤ gains) (sym is) one.0, (clear, off_lines, subst (λ (x : Option Piece). LeavesReplySquare quiet_only (without_king q king) (piece_moved promote x) n clear) (sym is) one.1))

  pub piece_no_threat : (rest kept_empty : ℕ) → ((n : ℕ) → n < 81 → has_bit own n ≡ is_piece_of q.side (piece_at q.cells n)) → own < 2 ^ 81 → rest ≡ bit_and found (2 ^ 128 - 1 - own) → ((n : ℕ) → n < 81 → has_bit rest n ≡ true → ExposesOwnKing q kept_empty from n) → PieceHasNoThreat quiet_only q e gains king squares kept_empty from
  piece_no_threat rest kept_empty owned own_fits left stopped n promote h free reached lets = elim (cases_Bool (has_bit found n)) [
    | inl some ↦ inr (stopped n h (ap (λ (m : ℕ). has_bit m n) left ∙ kept_out found own n own_fits h some (owned n h ∙ free)))
    | inr out ↦ (
        let on : has_bit targets n ≡ true = led n h reached in
        let few : taken_gain e (piece_at q.cells n) + promotion_gain promote (Some piece) ≤ gains = gain_there quiet_only q e gains king piece clear n promote forbidden allows h free (these.non_promoting n on out) (λ p. these.promoting n h on out (ap (λ (x : Option Piece). may_promote x from n) (sym is) ∙ lets p)) in
        inl (subst (λ (x : Option Piece). taken_gain e (piece_at q.cells n) + promotion_gain promote x ≤ gains) (sym is) few, (no_threat_off n promote h on out lets).1))
  ]

  same_piece : (other : Piece) → piece_at q.cells from ≡ Some other → Some other ≡ Some piece
  same_piece other at = sym at ∙ is

  -- if the piece steps, or does not attack the one that leaves, its only new target is the square that was left
  led_anew : (a n : ℕ) → from < 81 → a < 81 → n < 81 → (is_sliding_role piece.role ≡ false) ⊎ (has_bit targets a ≡ false) → cell_reaches (without_king (lifted_from q a) king) (piece_at q.cells from) from n ≡ true → (cell_reaches (without_king q king) (piece_at q.cells from) from n ≡ true → n ≡ a) → (n ≡ a) × (has_bit targets a ≡ true)
  led_anew a n hf ha h cut reached fresh =
      let was : cell_reaches (without_king q king) (piece_at q.cells from) from n ≡ true = ap (λ (x : Option Piece). cell_reaches (without_king q king) x from n) is
      ∙ reach_lifted q king a piece from n hf h ha (elim cut [ inl still ↦ inl still | inr out ↦ inr (false_from_ne_true _ (λ r. both_ways (has_bit targets a) out (led a ha (ap (λ (x : Option Piece). cell_reaches (without_king q king) x from a) is ∙ r)))) ])
      (ap (λ (x : Option Piece). cell_reaches (without_king (lifted_from q a) king) x from n) (sym is) ∙ reached) in
      (fresh was, subst (λ (x : ℕ). has_bit targets x ≡ true) (fresh was) (led n h was))

  -- a slider gets no threat if a piece leaves that it does not attack
  pub slider_lets : from < 81 → (a : ℕ) → a < 81 → has_bit targets a ≡ false → PieceGetsNoThreat quiet_only q e gains king squares from a
  slider_lets hf a ha out = record { no_threat = λ n promote h free reached fresh lets. absurd (both_ways (has_bit targets a) out (led_anew a n hf ha h (inr out) reached fresh).1) }

  -- a stepping piece gets no threat on a square that is not forbidden
  pub stepper_lets : from < 81 → is_sliding_role piece.role ≡ false → (a : ℕ) → a < 81 → has_bit found a ≡ false → PieceGetsNoThreat quiet_only q e gains king squares from a
  stepper_lets hf still a ha out = record {
    no_threat = λ n promote h free reached fresh lets. (
        let at = led_anew a n hf ha h (inl still) reached fresh in
        let no_threat = no_threat_off n promote h (subst (λ (x : ℕ). has_bit targets x ≡ true) (sym at.0) at.1) (subst (λ (x : ℕ). has_bit found x ≡ false) (sym at.0) out) lets in
        let none : taken_gain e (piece_at (lifted_from q a).cells n) ≡ 0 = ap (λ (y : ℕ). taken_gain e (piece_at (lifted_from q a).cells y)) at.0 ∙ ap (taken_gain e) (cleared_none q.cells a) in
        let few : promotion_gain promote (piece_at q.cells from) ≤ gains = no_threat.0 in
        (omega (arith, none, few), no_threat.1));
  }

-- a slider gets no threat if a blocker leaves and no new target is forbidden
module _ (quiet_only : Bool) (q : Shogi) (e : Eval) (gains king : ℕ) (kingless : Cells) (piece : Piece) (from a targets opened own both others ends clear squares found : ℕ) (forbidden : ForbiddenSquares) (lifted : kingless ≡ without_king q king) (is : piece_at q.cells from ≡ Some piece) (reach : (n : ℕ) → n < 81 → has_bit targets n ≡ cell_reaches kingless (Some piece) from n)
    (wide : (n : ℕ) → n < 81 → has_bit opened n ≡ cell_reaches (set kingless a None) (Some piece) from n) (owned : (n : ℕ) → n < 81 → has_bit own n ≡ is_piece_of q.side (piece_at q.cells n)) (joins : both ≡ bit_or own targets) (spares : (i : ℕ) → has_bit others i ≡ (has_bit both i && not (i == a))) (others_fit : others < 2 ^ 81) (rest : ends ≡ bit_and opened (2 ^ 128 - 1 - others))
    (off_lines : AreOffLines from squares clear) (allows : Allows quiet_only q e gains king piece clear forbidden) (these : AreForbidden piece from ends forbidden found) (nothing : found ≡ 0) (off : king ≢ a) where
  led_wide : (n : ℕ) → n < 81 → cell_reaches (without_king (lifted_from q a) king) (piece_at q.cells from) from n ≡ true → has_bit opened n ≡ true
  led_wide n h reached = wide n h ∙ (ap (λ (cells : Cells). cell_reaches cells (Some piece) from n) (both_lifted kingless q.cells king a lifted off) ∙ (ap (λ (x : Option Piece). cell_reaches (without_king (lifted_from q a) king) x from n) (sym is) ∙ reached))

  among_ends : (n : ℕ) → n < 81 → is_piece_of q.side (piece_at (lifted_from q a).cells n) ≡ false → cell_reaches (without_king (lifted_from q a) king) (piece_at q.cells from) from n ≡ true → (cell_reaches (without_king q king) (piece_at q.cells from) from n ≡ true → n ≡ a) → has_bit ends n ≡ true
  among_ends n h free reached fresh = ap (λ (m : ℕ). has_bit m n) rest ∙ kept_out opened others n others_fit h (led_wide n h reached) (false_from_ne_true _ (λ on. (
      let parts = and_parts (has_bit both n) (not (n == a)) (sym (spares n) ∙ on) in
      let other : n ≢ a = λ at. both_ways (n == a) (not-true _ parts.1) (eq-eqb n a at) in
      elim (or_cases (has_bit own n) (has_bit targets n) (sym (has_bit-or own targets n) ∙ (ap (λ (m : ℕ). has_bit m n) (sym joins) ∙ parts.0))) [
        | inl mine ↦ both_ways (is_piece_of q.side (piece_at q.cells n)) (ap (is_piece_of q.side) (sym (get_or-set_other q.cells a n None None other)) ∙ free) (sym (owned n h) ∙ mine)
        | inr led ↦ other (fresh (ap (λ (x : Option Piece). cell_reaches (without_king q king) x from n) is ∙ (ap (λ (cells : Cells). cell_reaches cells (Some piece) from n) (sym lifted) ∙ (sym (reach n h) ∙ led))))
      ])))

  pub blocker_lets : PieceGetsNoThreat quiet_only q e gains king squares from a
  blocker_lets = record {
    no_threat = λ n promote h free reached fresh lets. (
        let on : has_bit ends n ≡ true = among_ends n h free reached fresh in
        let out : has_bit found n ≡ false = ap (λ (m : ℕ). has_bit m n) nothing ∙ has_bit-none n in
        let plain : has_bit forbidden.non_promoting.bits n ≡ false = these.non_promoting n on out in
        let may : promote ≡ true → has_bit forbidden.promoting.bits n ≡ false = λ p. these.promoting n h on out (ap (λ (x : Option Piece). may_promote x from n) (sym is) ∙ lets p) in
        let one = no_threat_there quiet_only q e gains king piece clear n promote forbidden allows h plain may in
        let few : taken_gain e (piece_at (lifted_from q a).cells n) + promotion_gain promote (Some piece) ≤ gains = elim (cases_eq n a) [
          | inl at ↦ (
              let none : taken_gain e (piece_at (lifted_from q a).cells n) ≡ 0 = ap (λ (y : ℕ). taken_gain e (piece_at (lifted_from q a).cells y)) at ∙ ap (taken_gain e) (cleared_none q.cells a) in
              let little : promotion_gain promote (Some piece) ≤ gains = one.0 in
              omega (arith, none, little))
          | inr other ↦ (
              let same : piece_at (lifted_from q a).cells n ≡ piece_at q.cells n = get_or-set_other q.cells a n None None other in
              subst (λ (x : Option Piece). taken_gain e x + promotion_gain promote (Some piece) ≤ gains) (sym same) (gain_there quiet_only q e gains king piece clear n promote forbidden allows h (ap (is_piece_of q.side) (sym same) ∙ free) plain may))
        ] in
        (subst (λ (x : Option Piece). taken_gain e (piece_at (lifted_from q a).cells n) + promotion_gain promote x ≤ gains) (sym is) few, (clear, off_lines, subst (λ (x : Option Piece). LeavesReplySquare quiet_only (without_king q king) (piece_moved promote x) n clear) (sym is) one.1)));
  }

-- the enemy king does not stand on a square of ours
pub king_apart : (q : Shogi) (king a : ℕ) → is_king (opponent_of q.side) (piece_at q.cells king) ≡ true → is_piece_of q.side (piece_at q.cells a) ≡ true → king ≢ a
king_apart q king a crown mine at = both_ways (is_piece_of (opponent_of q.side) (piece_at q.cells a)) (other_side q.side (piece_at q.cells a) mine) (subst (λ (x : ℕ). is_piece_of (opponent_of q.side) (piece_at q.cells x) ≡ true) at (king_own (opponent_of q.side) (piece_at q.cells king) crown))

-- ---- drops

pub drop_gets_no_threat : (quiet_only : Bool) (q : Shogi) (king : ℕ) (kingless : Cells) (kind : Kind) (piece : Piece) (covered dead relied squares : ℕ) → kingless ≡ without_king q king → dropped q.side kind ≡ Some piece → ((n : ℕ) → n < 81 → has_bit covered n ≡ false → LeavesReplySquare quiet_only kingless (Some piece) n squares)
    → ((n : ℕ) → n < 81 → has_bit dead n ≡ is_immobile n (Some piece)) → dead < 2 ^ 81 → relied ≡ bit_and covered (2 ^ 128 - 1 - dead) → (a : ℕ) → a < 81 → has_bit relied a ≡ false → DropGetsNoThreat quiet_only q king squares kind a
drop_gets_no_threat quiet_only q king kingless kind piece covered dead relied squares lifted is leaves stuck dead_fits live a h out moves =
    let off : has_bit covered a ≡ false = false_from_ne_true _ (λ on. both_ways (has_bit relied a) out (ap (λ (m : ℕ). has_bit m a) live ∙ kept_out covered dead a dead_fits h on (stuck a h ∙ (ap (is_immobile a) (sym is) ∙ moves)))) in
    subst (λ (x : Option Piece). LeavesReplySquare quiet_only (without_king q king) x a squares) (sym is) (subst (λ (cells : Cells). LeavesReplySquare quiet_only cells (Some piece) a squares) lifted (leaves a h off))

pub drops_no_threat : (quiet_only : Bool) (q : Shogi) (king : ℕ) (kingless : Cells) (kind : Kind) (piece : Piece) (covered free dead relied both squares : ℕ) → kingless ≡ without_king q king → dropped q.side kind ≡ Some piece → ((n : ℕ) → n < 81 → has_bit covered n ≡ false → LeavesReplySquare quiet_only kingless (Some piece) n squares)
    → ((n : ℕ) → n < 81 → has_bit free n ≡ is_none (piece_at q.cells n)) → ((n : ℕ) → n < 81 → has_bit dead n ≡ is_immobile n (Some piece)) → dead < 2 ^ 81 → relied ≡ bit_and covered (2 ^ 128 - 1 - dead) → both ≡ bit_and relied free → both ≡ 0 → DropsAreNoThreat quiet_only q king squares kind
drops_no_threat quiet_only q king kingless kind piece covered free dead relied both squares lifted is leaves empty stuck dead_fits live meet none n h bare moves =
    drop_gets_no_threat quiet_only q king kingless kind piece covered dead relied squares lifted is leaves stuck dead_fits live n h
    (false_from_ne_true (has_bit relied n) (λ on. both_ways (has_bit both n) (ap (λ (m : ℕ). has_bit m n) none ∙ has_bit-none n) (ap (λ (m : ℕ). has_bit m n) meet ∙ (has_bit-and relied free n ∙ and_from _ _ on (empty n h ∙ ap is_none bare))))) moves

pub each_kind : (fact : Kind → Type 0) → fact kinds.Pawn → fact kinds.Lance → fact kinds.Knight → fact kinds.Silver → fact kinds.Gold → fact kinds.Bishop → fact kinds.Rook → (kind : Kind) → fact kind
each_kind fact pawn lance knight silver gold bishop rook kinds.Pawn = pawn
each_kind fact pawn lance knight silver gold bishop rook kinds.Lance = lance
each_kind fact pawn lance knight silver gold bishop rook kinds.Knight = knight
each_kind fact pawn lance knight silver gold bishop rook kinds.Silver = silver
each_kind fact pawn lance knight silver gold bishop rook kinds.Gold = gold
each_kind fact pawn lance knight silver gold bishop rook kinds.Bishop = bishop
each_kind fact pawn lance knight silver gold bishop rook kinds.Rook = rook

-- a piece makes no threat if it attacks no reply square and has no forbidden target
pub unthreatening_there : (quiet_only : Bool) (q : Shogi) (e : Eval) (gains king : ℕ) (kingless : Cells) (piece : Piece) (to reach squares closed own rest found : ℕ) (forbidden : ForbiddenSquares) → kingless ≡ without_king q king → king < 81 → ((n : ℕ) → n < 81 → has_bit reach n ≡ cell_reaches kingless (Some piece) to n)
    → has_bit squares to ≡ false → ((i : ℕ) → has_bit closed i ≡ (has_bit squares i || i == king)) → bit_and reach closed ≡ 0 → ((n : ℕ) → n < 81 → has_bit own n ≡ is_piece_of q.side (piece_at q.cells n)) → own < 2 ^ 81 → rest ≡ bit_and reach (2 ^ 128 - 1 - own)
    → Allows quiet_only q e gains king piece squares forbidden → AreForbidden piece to rest forbidden found → found ≡ 0 → IsUnthreatening quiet_only q e gains king squares (Some piece) to
unthreatening_there quiet_only q e gains king kingless piece to reach squares closed own rest found forbidden lifted low led off apart none owned own_fits left allows these nothing = record {
  off = off;
  king_far = far king low (apart king ∙ or_right (has_bit squares king) (king == king) (same king));
  far = λ n h set. far n h (apart n ∙ or_left (has_bit squares n) (n == king) set);
  next = λ n promote h free reached lets. (
      let on : has_bit rest n ≡ true = ap (λ (m : ℕ). has_bit m n) left ∙ kept_out reach own n own_fits h (led n h ∙ back n reached) (owned n h ∙ free) in
      let out : has_bit found n ≡ false = ap (λ (m : ℕ). has_bit m n) nothing ∙ has_bit-none n in
      let may : promote ≡ true → has_bit forbidden.promoting.bits n ≡ false = λ p. these.promoting n h on out (lets p) in
      record {
        gain = gain_there quiet_only q e gains king piece squares n promote forbidden allows h free (these.non_promoting n on out) may;
        leaves = (no_threat_there quiet_only q e gains king piece squares n promote forbidden allows h (these.non_promoting n on out) may).1;
      });
}
  where
    same : (n : ℕ) → (n == n) ≡ true
    same n = eq-eqb n n refl

    back : (n : ℕ) → cell_reaches (without_king q king) (Some piece) to n ≡ true → cell_reaches kingless (Some piece) to n ≡ true
    back n r = ap (λ (cells : Cells). cell_reaches cells (Some piece) to n) lifted ∙ r

    far : (n : ℕ) → n < 81 → has_bit closed n ≡ true → cell_reaches (without_king q king) (Some piece) to n ≡ false
    far n h set = false_from_ne_true _ (λ r. both_ways (has_bit reach n) (false_from_ne_true (has_bit reach n) (λ on. both_ways (has_bit closed n) (none_in reach closed n none on) set)) (led n h ∙ back n r))

-- ---- more squares are kept empty

-- a piece has no threats either if more squares are kept empty
no_threat_more : (quiet_only : Bool) (q : Shogi) (e : Eval) (gains king squares kept_empty more from : ℕ) → ((x : ℕ) → has_bit more x ≡ false → has_bit kept_empty x ≡ false) → PieceHasNoThreat quiet_only q e gains king squares kept_empty from → PieceHasNoThreat quiet_only q e gains king squares more from
no_threat_more quiet_only q e gains king squares kept_empty more from within no_threat n promote h free reached lets = elim (no_threat n promote h free reached lets) [ inl little ↦ inl little | inr stopped ↦ inr (exposes_more q kept_empty more from n within stopped) ]

pub exposes_next : (q : Shogi) (from kept_empty more : ℕ) → ((n : ℕ) → ExposesOwnKing q kept_empty from n → ExposesOwnKing q (bit_or kept_empty more) from n) × ((n : ℕ) → ExposesOwnKing q more from n → ExposesOwnKing q (bit_or kept_empty more) from n)
exposes_next q from kept_empty more = (λ n. exposes_more q kept_empty (bit_or kept_empty more) from n (off_left kept_empty more), λ n. exposes_more q more (bit_or kept_empty more) from n (off_right kept_empty more))

pub no_threat_next : (quiet_only : Bool) (q : Shogi) (e : Eval) (gains king squares kept_empty more : ℕ) → ((n : ℕ) → PieceHasNoThreat quiet_only q e gains king squares kept_empty n → PieceHasNoThreat quiet_only q e gains king squares (bit_or kept_empty more) n) × ((n : ℕ) → PieceHasNoThreat quiet_only q e gains king squares more n → PieceHasNoThreat quiet_only q e gains king squares (bit_or kept_empty more) n)
no_threat_next quiet_only q e gains king squares kept_empty more = (λ n. no_threat_more quiet_only q e gains king squares kept_empty (bit_or kept_empty more) n (off_left kept_empty more), λ n. no_threat_more quiet_only q e gains king squares more (bit_or kept_empty more) n (off_right kept_empty more))

-- ---- open lines

unlined : (cells : Cells) (lines n a : ℕ) → ((m : ℕ) → m < 81 → has_bit lines m ≡ are_lined cells n m) → a < 81 → has_bit lines a ≡ false → are_lined cells a n ≡ false
unlined cells lines n a bits ha out = false_from_ne_true _ (λ seen. both_ways (has_bit lines a) out (bits a ha ∙ lined_back cells a n ha seen))

-- a square outside the open lines of the king and of the reply squares is on none of them
pub all_seen : (q : Shogi) (kingless : Cells) (king squares found lines : ℕ) (post : ℕ → Squares → Type 0) → kingless ≡ without_king q king → ((k : ℕ) (led : Squares) → k < 81 → post k led → (m : ℕ) → m < 81 → has_bit led.bits m ≡ are_lined kingless k m) → IsUnion post squares found → ((m : ℕ) → m < 81 → has_bit lines m ≡ are_lined kingless king m)
    → (a : ℕ) → a < 81 → has_bit (bit_or found lines) a ≡ false → IsOffOpenLines q king squares a
all_seen q kingless king squares found lines post lifted says union lined a ha out = record {
  off_king = ap (λ (cells : Cells). are_lined cells a king) (sym lifted) ∙ unlined kingless lines king a lined ha (off_right found lines a out);
  off_squares = λ n h set. (
      let led = union.all n h set in
      ap (λ (cells : Cells). are_lined cells a n) (sym lifted) ∙ unlined kingless led.0.bits n a (says n led.0 h led.1) ha (false_from_ne_true _ (λ on. both_ways (has_bit found a) (off_left found lines a out) (led.2 a on))));
}

-- ---- destinations of several pieces

-- the piece on `from`, once lifted, makes no threat on the ends that it reaches on the board before
abbrev pub AreUnthreateningEndsFrom : PassedReply → Cells → ℕ → ℕ → Type 0
AreUnthreateningEndsFrom s before set from = (to : ℕ) → to < 81 → has_bit set to ≡ true → reaches before from to ≡ true
    → IsUnthreatening s.quiet_only (lifted (place_in s) from) s.node.eval s.gains s.king s.squares.bits (piece_at s.board from) to

-- the ends without the targets on which the piece makes a threat
pub merged_among : (ends targets unthreatening n : ℕ) → ((m : ℕ) → has_bit unthreatening m ≡ true → has_bit (bit_and targets ends) m ≡ true) → has_bit (bit_or (bit_and ends (2 ^ 128 - 1 - targets)) unthreatening) n ≡ true → has_bit ends n ≡ true
merged_among ends targets unthreatening n within set = elim (or_cases _ _ (sym (has_bit-or (bit_and ends (2 ^ 128 - 1 - targets)) unthreatening n) ∙ set)) [
  | inl kept ↦ targets_within ends (2 ^ 128 - 1 - targets) n kept
  | inr new ↦ (and_parts _ _ (sym (has_bit-and targets ends n) ∙ within n new)).1
]

pub merged_unthreatening : (ends targets unthreatening n : ℕ) → targets < 2 ^ 81 → n < 81 → has_bit (bit_or (bit_and ends (2 ^ 128 - 1 - targets)) unthreatening) n ≡ true → has_bit targets n ≡ true → has_bit unthreatening n ≡ true
merged_unthreatening ends targets unthreatening n fits h set on = elim (or_cases _ _ (sym (has_bit-or (bit_and ends (2 ^ 128 - 1 - targets)) unthreatening n) ∙ set)) [
  | inl kept ↦ absurd (both_ways (has_bit targets n) (out_parts ends targets n fits h kept).1 on)
  | inr new ↦ new
]

-- a piece that makes no threat in a passed reply makes none in one that differs only by the lifted piece
pub unthreatening_alike : (s t : PassedReply) (a : ℕ) (cell : Option Piece) (to : ℕ) → place_in t ≡ lifted (place_in s) a → IsAlike s t → IsUnthreateningIn t cell to → IsUnthreatening s.quiet_only (lifted (place_in s) a) s.node.eval s.gains s.king s.squares.bits cell to
unthreatening_alike s t a cell to place alike unthreatening =
    subst (λ (q : Shogi). IsUnthreatening s.quiet_only q s.node.eval s.gains s.king s.squares.bits cell to) place
    (subst (λ (squares : Squares). IsUnthreatening s.quiet_only (place_in t) s.node.eval s.gains s.king squares.bits cell to) alike.squares
    (subst (λ (king : ℕ). IsUnthreatening s.quiet_only (place_in t) s.node.eval s.gains king t.squares.bits cell to) alike.king
    (subst (λ (gains : ℕ). IsUnthreatening s.quiet_only (place_in t) s.node.eval gains t.king t.squares.bits cell to) alike.gains
    (subst (λ (n : Evaluated). IsUnthreatening s.quiet_only (place_in t) n.eval t.gains t.king t.squares.bits cell to) alike.node
    (subst (λ (quiet : Bool). IsUnthreatening quiet (place_in t) t.node.eval t.gains t.king t.squares.bits cell to) alike.quiet_only unthreatening)))))
