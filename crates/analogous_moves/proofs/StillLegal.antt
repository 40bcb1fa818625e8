-- A reply legal after a pass is legal after a drop that is clear of it and gives no check.
use Rattle.std.proofs.Common.{◌≡◌, ◌≢◌, ℕ, ◌/◌, ◌<◌, ◌≤◌, Bool, true, false, not, Option, Some, None, refl, sym, ap, subst, ◌∙◌, arith, inl, inr, set, length, length-set, get_or-set_same}
use Rattle.std.specs.Prelude.{◌&&◌, ◌||◌, nat_lt, is_none}
use Rattle.std.proofs.lemmas.Bool.{and_cases, and_from, and_left, and_parts, and_right, both_ways, false_from_ne_true, le-ltb, ltb-false, not-true, not_from_false}
use Rattle.shogi_core.specs.declared.moves.Move.{Move}
use Rattle.shogi_core.specs.declared.moves.Move.TheVariants.{Board, Drop}
use Rattle.shogi_core.specs.declared.piece.Color.{Color}
use Rattle.shogi_core.specs.declared.piece.Kind.{Kind}
use Rattle.shogi_core.specs.declared.piece.Piece.{Piece}
use Rattle.shogi_core.specs.Attack.{in_check}
use Rattle.shogi_core.specs.Cell.{is_immobile, is_pawn, is_pawn_role, is_piece_of}
use Rattle.shogi_core.specs.Movement.{Cells, cell_reaches, piece_at, reaches}
use Rattle.shogi_core.specs.Pieces.{is_same_color, opponent_of}
use Rattle.shogi_core.specs.Position.{HandCounts, Shogi, count_in_hand}
use Rattle.shogi_core.specs.Validity.{pawns_on_file}
use Rattle.shogi_core.specs.Zones.{may_promote}
use Rattle.shogi_core.proofs.PawnFiles.{pawn_nowhere, pawn_there}
use Rattle.shogi_core.proofs.Replies.{no_check}
use Rattle.shogi_moves.specs.After.{after, cells_after, dropped, piece_moved}
use Rattle.shogi_moves.specs.Legal.{is_legal, is_pawn_drop, is_mated_by_drop, is_pawn_drop_mate, is_pawn_kind, is_pseudo_legal, is_pseudo_legal_board_move, is_pseudo_legal_drop, is_safe}
use Rattle.shogi_moves.proofs.CheckInfoLaws.{dropped_of, other_side}
use Rattle.shogi_moves.proofs.DropChecks as drops
use Rattle.shogi_moves.proofs.KingLaws.{king_own}
use Rattle.shogi_replies.specs.ReplyInfo.{IsHarmless}
use Rattle.shogi_replies.proofs.ReplyLaws.{LeavesStanding, other_counts}
use Rattle.analogous_moves.specs.Analogies.{IsOnSquares, IsOffWay, IsClearOf, LeavesReplyLegal, passed}
use Rattle.analogous_moves.proofs.Commuting.{cells_commute}
use Rattle.shogi_replies.proofs.ThreatLaws.{reach_kept}

-- ---- a legal move and its parts

pub legal_parts : (p : Shogi) (m : Move) → is_legal p m ≡ true → (is_pseudo_legal p m ≡ true) × (in_check (after p m).cells p.side ≡ false) × (is_pawn_drop_mate p m ≡ false)
unfolding is_legal is_safe
legal_parts p m e =
    let two : ((is_pseudo_legal p m && not (in_check (after p m).cells p.side)) ≡ true) × (not (is_pawn_drop_mate p m) ≡ true) = and_parts _ _ e in
    let one : (is_pseudo_legal p m ≡ true) × (not (in_check (after p m).cells p.side) ≡ true) = and_parts _ _ two.0 in
    (one.0, not-true _ one.1, not-true _ two.1)

pub legal_from : (p : Shogi) (m : Move) → is_pseudo_legal p m ≡ true → in_check (after p m).cells p.side ≡ false → is_pawn_drop_mate p m ≡ false → is_legal p m ≡ true
unfolding is_legal is_safe
legal_from p m may unchecked none = and_from _ _ (and_from _ _ may (not_from_false _ unchecked)) (not_from_false _ none)

-- ---- what a drop leaves of the other side's pieces

abbrev pub StandsStill : Cells → Cells → Color → Type 0
StandsStill old new color = (x : ℕ) → is_piece_of color (piece_at new x) ≡ true → piece_at old x ≡ piece_at new x

module _ (q : Cells) (side : Color) (kind : Kind) (to : ℕ) (len : length q ≡ 81) (ht : to < 81) where
  foes_drop : StandsStill q (set q to (dropped side kind)) (opponent_of side)
  foes_drop x e = elim (drops.look q side kind to len ht x) [
    | inl on ↦ absurd (both_ways (is_piece_of (opponent_of side) (dropped side kind)) (other_side side (dropped side kind) (dropped_of side kind)) (ap (is_piece_of (opponent_of side)) (sym on.1) ∙ e))
    | inr same ↦ sym same
  ]

  pub standing_drop : LeavesStanding q (set q to (dropped side kind)) (opponent_of side) to
  standing_drop = record {
    len = length-set q to (dropped side kind) ∙ len;
    kings = λ k e. foes_drop k (king_own (opponent_of side) (piece_at (set q to (dropped side kind)) k) e);
    stays = λ x e ne. elim (drops.look q side kind to len ht x) [ inl on ↦ absurd (ne on.0) | inr same ↦ same ];
    clear = λ t e. false_from_ne_true (is_piece_of (opponent_of side) (piece_at (set q to (dropped side kind)) t)) (λ yes. both_ways (is_piece_of (opponent_of side) (piece_at q t)) e (ap (is_piece_of (opponent_of side)) (foes_drop t yes) ∙ yes));
    empty = λ x e ne. elim (drops.look q side kind to len ht x) [ inl on ↦ absurd (ne on.0) | inr same ↦ ap is_none same ∙ e ];
  }

  drop_unchecked : IsHarmless q (opponent_of side) (dropped side kind) to → in_check q (opponent_of side) ≡ false → in_check (set q to (dropped side kind)) (opponent_of side) ≡ false
  drop_unchecked far safe =
      no_check q (set q to (dropped side kind)) (λ x. ⊥)
      (λ x e. elim (drops.look q side kind to len ht x) [
        | inl on ↦ absurd (let clash : false ≡ true = ap is_none (sym on.1) ∙ e in cc)
        | inr same ↦ inl (ap is_none (sym same) ∙ e)
      ])
      (opponent_of side) to ht
      (λ x e. elim (drops.look q side kind to len ht x) [ inl on ↦ inr on.0 | inr same ↦ inl (sym same) ])
      standing_drop.kings
      (λ x left. absurd left)
      (λ k l e. ap (λ (cell : Option Piece). cell_reaches q cell to k) (get_or-set_same q to (dropped side kind) None (omega (arith, len))) ∙ far k l e)
      safe

pub length-after : (cells : Cells) (side : Color) (m : Move) → length (cells_after cells side m) ≡ length cells
length-after cells side (Board from to promote) = length-set (set cells from None) to (piece_moved promote (piece_at cells from)) ∙ length-set cells from None
length-after cells side (Drop kind to) = length-set cells to (dropped side kind)

-- ---- the reply stays pseudo-legal

all_five : (cells : Cells) (color : Color) (c d : ℕ) (promote : Bool) → is_piece_of color (piece_at cells c) ≡ true → is_piece_of color (piece_at cells d) ≡ false → reaches cells c d ≡ true → (not promote || may_promote (piece_at cells c) c d) ≡ true → is_immobile d (piece_moved promote (piece_at cells c)) ≡ false
    → is_pseudo_legal_board_move cells color c d promote ≡ true
all_five cells color c d promote own free reach may alive = rw (own, free, reach, may, alive) refl

pub pseudo_board : (old new : Cells) (color : Color) (to c d : ℕ) (promote : Bool) → LeavesStanding old new color to → c ≢ to → IsOffWay (Board c d promote) to → is_pseudo_legal_board_move old color c d promote ≡ true → is_pseudo_legal_board_move new color c d promote ≡ true
unfolding reaches
pseudo_board old new color to c d promote k off way e =
    let four = and_parts (is_piece_of color (piece_at old c) && not (is_piece_of color (piece_at old d)) && reaches old c d && (not promote || may_promote (piece_at old c) c d)) (not (is_immobile d (piece_moved promote (piece_at old c)))) e in
    let three = and_parts (is_piece_of color (piece_at old c) && not (is_piece_of color (piece_at old d)) && reaches old c d) (not promote || may_promote (piece_at old c) c d) four.0 in
    let two = and_parts (is_piece_of color (piece_at old c) && not (is_piece_of color (piece_at old d))) (reaches old c d) three.0 in
    let one = and_parts (is_piece_of color (piece_at old c)) (not (is_piece_of color (piece_at old d))) two.0 in
    let same : piece_at new c ≡ piece_at old c = k.stays c one.0 off in
    all_five new color c d promote
    (ap (is_piece_of color) same ∙ one.0)
    (k.clear d (not-true _ one.1))
    (ap (λ (cell : Option Piece). cell_reaches new cell c d) same ∙ reach_kept old new to k.empty (piece_at old c) c d two.1 way)
    (ap (λ (cell : Option Piece). not promote || may_promote cell c d) same ∙ three.1)
    (ap (λ (cell : Option Piece). is_immobile d (piece_moved promote cell)) same ∙ not-true _ four.1)

pawn_own : (color : Color) (cell : Option Piece) → is_pawn color cell ≡ true → is_piece_of color cell ≡ true
pawn_own color None e = e
pawn_own color (Some piece) e = (and_parts (is_same_color color piece.color) (is_pawn_role piece.role) e).0

no_pawn : (old new : Cells) (color : Color) (file : ℕ) → length old ≡ 81 → file < 9 → StandsStill old new color → pawns_on_file color file old ≤ 0 → pawns_on_file color file new ≤ 0
no_pawn old new color file len low stay none =
    let now : pawns_on_file color file new ≡ 0 = pawn_nowhere new color file low (λ s below there. false_from_ne_true (is_pawn color (piece_at new s)) (λ e. (
    let was : is_pawn color (piece_at old s) ≡ true = ap (is_pawn color) (stay s (pawn_own color (piece_at new s) e)) ∙ e in
    let some : 0 < pawns_on_file color file old = subst (λ (f : ℕ). 0 < pawns_on_file color f old) there (pawn_there old color s len below was) in
    omega arith))) in
    omega arith

pub pseudo_drop : (old new : Cells) (hands held : HandCounts) (color : Color) (kind : Kind) (to d : ℕ) → LeavesStanding old new color to → length old ≡ 81 → d < 81 → d ≢ to → StandsStill old new color
    → count_in_hand held color kind ≡ count_in_hand hands color kind → is_pseudo_legal_drop old hands color kind d ≡ true → is_pseudo_legal_drop new held color kind d ≡ true
pseudo_drop old new hands held color kind to d k len low off stay same e =
    let three = and_parts (nat_lt 0 (count_in_hand hands color kind) && is_none (piece_at old d) && not (is_immobile d (dropped color kind))) (not (is_pawn_kind kind && nat_lt 0 (pawns_on_file color (d / 9) old))) e in
    let two = and_parts (nat_lt 0 (count_in_hand hands color kind) && is_none (piece_at old d)) (not (is_immobile d (dropped color kind))) three.0 in
    let one = and_parts (nat_lt 0 (count_in_hand hands color kind)) (is_none (piece_at old d)) two.0 in
    let files : (is_pawn_kind kind && nat_lt 0 (pawns_on_file color (d / 9) new)) ≡ false = elim (and_cases (is_pawn_kind kind) (nat_lt 0 (pawns_on_file color (d / 9) old)) (not-true _ three.1)) [
      | inl plain ↦ and_left (is_pawn_kind kind) _ plain
      | inr none ↦ and_right (is_pawn_kind kind) (nat_lt 0 (pawns_on_file color (d / 9) new)) (le-ltb 0 (pawns_on_file color (d / 9) new) (no_pawn old new color (d / 9) len (omega arith) stay (ltb-false 0 (pawns_on_file color (d / 9) old) none)))
    ] in
    and_from _ _ (and_from _ _ (and_from _ _ (ap (nat_lt 0) same ∙ one.0) (k.empty d one.1 off)) two.1) (not_from_false _ files)

pseudo_kept : (p : Shogi) (kind : Kind) (b : ℕ) (r : Move) → length p.cells ≡ 81 → b < 81 → IsOnSquares r → IsClearOf r b → is_pseudo_legal (passed p) r ≡ true → is_pseudo_legal (after p (Drop kind b)) r ≡ true
pseudo_kept p kind b (Board c d promotes) len on there spared e =
    pseudo_board p.cells (cells_after p.cells p.side (Drop kind b)) (opponent_of p.side) b c d promotes (standing_drop p.cells p.side kind b len on) (λ same. spared.0.0 (sym same)) spared.1 e
pseudo_kept p kind b (Drop held d) len on there spared e =
    pseudo_drop p.cells (cells_after p.cells p.side (Drop kind b)) p.hands (after p (Drop kind b)).hands (opponent_of p.side) held b d (standing_drop p.cells p.side kind b len on) len there (λ same. spared.0 (sym same)) (foes_drop p.cells p.side kind b len on) (other_counts p (Drop kind b) held) e

-- ---- the reply stays legal

pub still_legal : (p : Shogi) (kind : Kind) (b : ℕ) (r : Move) → length p.cells ≡ 81 → b < 81 → IsOnSquares r → is_legal (passed p) r ≡ true → LeavesReplyLegal p kind b r → is_legal (after p (Drop kind b)) r ≡ true
still_legal p kind b r len on there lr be =
    let parts : (is_pseudo_legal (passed p) r ≡ true) × (in_check (after (passed p) r).cells (opponent_of p.side) ≡ false) × (is_pawn_drop_mate (passed p) r ≡ false) = legal_parts (passed p) r lr in
    legal_from (after p (Drop kind b)) r (pseudo_kept p kind b r len on there be.spared parts.0)
    (ap (λ (cells : Cells). in_check cells (opponent_of p.side)) (cells_commute p.cells p.side (opponent_of p.side) kind b r be.spared.0)
    ∙ drop_unchecked (cells_after p.cells (opponent_of p.side) r) p.side kind b (length-after p.cells (opponent_of p.side) r ∙ len) on be.harmless parts.1)
    (both_false (is_pawn_drop r) (is_mated_by_drop (after (after p (Drop kind b)) r)) be.plain)
  where
    both_false : (x y : Bool) → x ≡ false → (x && y) ≡ false
    both_false false y e = refl
    both_false true y e = absurd (cc)
