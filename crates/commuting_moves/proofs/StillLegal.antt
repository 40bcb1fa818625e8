-- A move that is legal before two others which let it be is legal after them.
use Rattle.std.proofs.Common.{◌≡◌, ◌≢◌, ℕ, ◌+◌, ◌-◌, ◌/◌, ◌<◌, ◌≤◌, Bool, true, false, not, Option, Some, None, refl, sym, ap, subst, ◌∙◌, arith, inl, inr, set, length, get_or, get_or-set_same, get_or-set_other}
use Rattle.std.specs.Prelude.{◌&&◌, ◌||◌, nat_lt, is_none}
use Rattle.std.proofs.lemmas.Grind.{get_or-set_at}
use Rattle.std.proofs.lemmas.List.{get_or_past}
use Rattle.std.proofs.lemmas.Bool.{and_from, and_left, and_parts, and_right, cases_Bool, cases_eq, cases_lt, le-ltb, lt-ltb, ltb-true, not-true, not_from_false}
use Rattle.shogi_core.specs.declared.moves.Move.{Move}
use Rattle.shogi_core.specs.declared.moves.Move.TheVariants.{Board, Drop}
use Rattle.shogi_core.specs.declared.piece.Color.{Color}
use Rattle.shogi_core.specs.declared.piece.Color.TheVariants.{Black, White}
use Rattle.shogi_core.specs.declared.piece.Kind.{Kind}
use Rattle.shogi_core.specs.declared.piece.Piece.{Piece}
use Rattle.shogi_core.specs.Attack.{in_check}
use Rattle.shogi_core.specs.Cell.{is_immobile, is_piece_of}
use Rattle.shogi_core.specs.Movement.{Cells, cell_reaches, piece_at, reaches}
use Rattle.shogi_core.specs.Moves.{end_of}
use Rattle.shogi_core.specs.Pieces.{kind_of, opponent_of}
use Rattle.shogi_core.specs.Validity.{IsValid, pawns_on_file}
use Rattle.shogi_core.specs.Position.{HandCounts, Shogi, count_in_hand, place_of}
use Rattle.shogi_core.specs.Zones.{may_promote}
use Rattle.shogi_moves.specs.After.{after, cells_after, dropped, hands_after, piece_moved, with_captured, with_one_more}
use Rattle.shogi_moves.specs.Legal.{is_legal, is_pawn_drop_mate, is_pawn_kind, is_pseudo_legal, is_pseudo_legal_board_move, is_pseudo_legal_drop}
use Rattle.shogi_replies.proofs.ReplyLaws.{other_counts}
use Rattle.shogi_replies.proofs.ThreatLaws.{reach_kept}
use Rattle.analogous_moves.specs.Analogies.{IsOff, IsOffWay, IsOnSquares}
use Rattle.analogous_moves.proofs.Commuting.{position, stands}
use Rattle.analogous_moves.proofs.StillLegal.{legal_from, legal_parts, length-after}
use Rattle.commuting_moves.specs.Apart.{AreApart, AreDisjoint, IsHeld}
use Rattle.analogous_moves.proofs.Materials.{move_valid}
use Rattle.shogi_core.proofs.Faults.{faultless_from}
use Rattle.shogi_moves.proofs.MovedPieces.{opponent_twice}
use Rattle.commuting_moves.proofs.Orders.{in_either_order}
use Rattle.commuting_moves.proofs.PawnDrops.{free_file, no_mate}

-- ---- what two moves leave

-- what was empty is, but for the end of the move
emptied : (cells : Cells) (side : Color) (m : Move) → length cells ≡ 81 → IsOnSquares m → (n : ℕ) → is_none (piece_at cells n) ≡ true → n ≢ end_of m → is_none (piece_at (cells_after cells side m) n) ≡ true
emptied cells side (Board from to promote) len on n bare off =
    ap is_none (get_or-set_other (set cells from None) to n (piece_moved promote (piece_at cells from)) None off)
    ∙ elim (cases_eq n from) [
      | inl here ↦ subst (λ (k : ℕ). is_none (piece_at (set cells from None) k) ≡ true) (sym here) (ap is_none (get_or-set_same cells from None None (let low : from < 81 = on.0 in omega (arith, len, low))))
      | inr other ↦ ap is_none (get_or-set_other cells from n None None other) ∙ bare
    ]
emptied cells side (Drop kind to) len on n bare off = ap is_none (get_or-set_other cells to n (dropped side kind) None off) ∙ bare

-- ---- the move may be made, apart from checks

all_five : (cells : Cells) (color : Color) (c d : ℕ) (promote : Bool) → is_piece_of color (piece_at cells c) ≡ true → is_piece_of color (piece_at cells d) ≡ false → reaches cells c d ≡ true → (not promote || may_promote (piece_at cells c) c d) ≡ true → is_immobile d (piece_moved promote (piece_at cells c)) ≡ false
    → is_pseudo_legal_board_move cells color c d promote ≡ true
all_five cells color c d promote own free reach may alive = rw (own, free, reach, may, alive) refl

-- a move whose squares stand as they did and whose way is free
board_kept : (old new : Cells) (color : Color) (c d : ℕ) (promote : Bool) → piece_at new c ≡ piece_at old c → piece_at new d ≡ piece_at old d → (cell_reaches old (piece_at old c) c d ≡ true → cell_reaches new (piece_at old c) c d ≡ true)
    → is_pseudo_legal_board_move old color c d promote ≡ true → is_pseudo_legal_board_move new color c d promote ≡ true
unfolding reaches
board_kept old new color c d promote same there way e =
    let four = and_parts (is_piece_of color (piece_at old c) && not (is_piece_of color (piece_at old d)) && reaches old c d && (not promote || may_promote (piece_at old c) c d)) (not (is_immobile d (piece_moved promote (piece_at old c)))) e in
    let three = and_parts (is_piece_of color (piece_at old c) && not (is_piece_of color (piece_at old d)) && reaches old c d) (not promote || may_promote (piece_at old c) c d) four.0 in
    let two = and_parts (is_piece_of color (piece_at old c) && not (is_piece_of color (piece_at old d))) (reaches old c d) three.0 in
    let one = and_parts (is_piece_of color (piece_at old c)) (not (is_piece_of color (piece_at old d))) two.0 in
    all_five new color c d promote
    (ap (is_piece_of color) same ∙ one.0)
    (ap (is_piece_of color) there ∙ not-true _ one.1)
    (ap (λ (cell : Option Piece). cell_reaches new cell c d) same ∙ way two.1)
    (ap (λ (cell : Option Piece). not promote || may_promote cell c d) same ∙ three.1)
    (ap (λ (cell : Option Piece). is_immobile d (piece_moved promote cell)) same ∙ not-true _ four.1)

-- two moves that end on none of the squares between leave the way free
way_kept : (cells : Cells) (s t : Color) (x r : Move) (c d : ℕ) (promote : Bool) (cell : Option Piece) → length cells ≡ 81 → IsOnSquares x → IsOnSquares r → IsOffWay (Board c d promote) (end_of x) → IsOffWay (Board c d promote) (end_of r)
    → cell_reaches cells cell c d ≡ true → cell_reaches (cells_after (cells_after cells s x) t r) cell c d ≡ true
way_kept cells s t x r c d promote cell len on_x on_r off_x off_r e =
    reach_kept (cells_after cells s x) (cells_after (cells_after cells s x) t r) (end_of r) (emptied (cells_after cells s x) t r (length-after cells s x ∙ len) on_r) cell c d
    (reach_kept cells (cells_after cells s x) (end_of x) (emptied cells s x len on_x) cell c d e off_x)
    off_r

-- a drop on a square that stands as it did
drop_kept : (old new : Cells) (hands held : HandCounts) (color : Color) (kind : Kind) (d : ℕ) → piece_at new d ≡ piece_at old d → 0 < count_in_hand held color kind → (is_pawn_kind kind ≡ true → pawns_on_file color (d / 9) new ≤ 0) → is_pseudo_legal_drop old hands color kind d ≡ true → is_pseudo_legal_drop new held color kind d ≡ true
drop_kept old new hands held color kind d same some none e =
    let three = and_parts (nat_lt 0 (count_in_hand hands color kind) && is_none (piece_at old d) && not (is_immobile d (dropped color kind))) (not (is_pawn_kind kind && nat_lt 0 (pawns_on_file color (d / 9) old))) e in
    let two = and_parts (nat_lt 0 (count_in_hand hands color kind) && is_none (piece_at old d)) (not (is_immobile d (dropped color kind))) three.0 in
    let one = and_parts (nat_lt 0 (count_in_hand hands color kind)) (is_none (piece_at old d)) two.0 in
    let files : (is_pawn_kind kind && nat_lt 0 (pawns_on_file color (d / 9) new)) ≡ false = elim (cases_Bool (is_pawn_kind kind)) [
      | inr plain ↦ and_left (is_pawn_kind kind) _ plain
      | inl pawn ↦ and_right (is_pawn_kind kind) (nat_lt 0 (pawns_on_file color (d / 9) new)) (le-ltb 0 (pawns_on_file color (d / 9) new) (none pawn))
    ] in
    and_from _ _ (and_from _ _ (and_from _ _ (lt-ltb 0 (count_in_hand held color kind) some) (ap is_none same ∙ one.1)) two.1) (not_from_false _ files)

-- ---- what the side holds

-- the other side's move changes nothing of it
own_counts : (cells : Cells) (hands : HandCounts) (side : Color) (r : Move) (kind : Kind) → count_in_hand (hands_after hands cells (opponent_of side) r) side kind ≡ count_in_hand hands side kind
own_counts cells hands Black r kind = other_counts (position cells hands White) r kind
own_counts cells hands White r kind = other_counts (position cells hands Black) r kind

-- one more of a kind is no less of any
more_held : (hands : HandCounts) (side : Color) (kind : Kind) (taken : Option Kind) → 0 < count_in_hand hands side kind → 0 < count_in_hand (with_one_more hands side taken) side kind
more_held hands side kind None some = some
more_held hands side kind (Some other) some = elim (cases_lt (place_of side kind) (length hands)) [
  | inl inside ↦ elim (cases_eq (place_of side kind) (place_of side other)) [
    | inl same ↦ subst (λ (n : ℕ). 0 < n) (sym (get_or-set_at hands (place_of side other) (place_of side kind) (count_in_hand hands side other + 1) 0 same (omega (arith, same, inside)))) (omega arith)
    | inr ne ↦ subst (λ (n : ℕ). 0 < n) (sym (get_or-set_other hands (place_of side other) (place_of side kind) (count_in_hand hands side other + 1) 0 ne)) some
  ]
  | inr outside ↦ absurd (let none : count_in_hand hands side kind ≡ 0 = get_or_past hands (place_of side kind) 0 outside in omega (arith, none, some))
]

taken_held : (hands : HandCounts) (side : Color) (kind : Kind) (cell : Option Piece) → 0 < count_in_hand hands side kind → 0 < count_in_hand (with_captured hands side cell) side kind
taken_held hands side kind None some = some
taken_held hands side kind (Some piece) some = more_held hands side kind (kind_of piece.role) some

-- after a drop there is one more of a kind to drop, if so it is with the drops the other way round
drop_held : (hands : HandCounts) (side : Color) (kind other : Kind) → 0 < count_in_hand hands side kind
    → 0 < count_in_hand (set hands (place_of side kind) (count_in_hand hands side kind - 1)) side other
    → 0 < count_in_hand (set hands (place_of side other) (count_in_hand hands side other - 1)) side kind
drop_held hands side kind other some left = elim (cases_eq (place_of side kind) (place_of side other)) [
  | inl same ↦ subst (λ (i : ℕ). 0 < get_or (set hands i (get_or hands i 0 - 1)) (place_of side kind) 0) same (subst (λ (i : ℕ). 0 < get_or (set hands (place_of side kind) (count_in_hand hands side kind - 1)) i 0) (sym same) left)
  | inr ne ↦ subst (λ (n : ℕ). 0 < n) (sym (get_or-set_other hands (place_of side other) (place_of side kind) (count_in_hand hands side other - 1) 0 ne)) some
]

still_held : (cells : Cells) (hands : HandCounts) (side : Color) (m x : Move) → IsHeld hands side m → IsHeld (hands_after hands cells side m) side x → IsHeld (hands_after hands cells side x) side m
still_held cells hands side (Board from to promote) x hm hx = tt
still_held cells hands side (Drop kind to) (Board c d promotes) hm hx = taken_held hands side kind (piece_at cells d) hm
still_held cells hands side (Drop kind to) (Drop other d) hm hx = drop_held hands side kind other hm hx

-- ---- the move may be made

pub legal_pseudo : (p : Shogi) (m : Move) → is_legal p m ≡ true → is_pseudo_legal p m ≡ true
legal_pseudo p m l = (legal_parts p m l).0

pub held_of : (p : Shogi) (m : Move) → is_pseudo_legal p m ≡ true → IsHeld p.hands p.side m
held_of p (Board from to promote) e = tt
held_of p (Drop kind to) e = ltb-true 0 (count_in_hand p.hands p.side kind) (
    let three = and_parts (nat_lt 0 (count_in_hand p.hands p.side kind) && is_none (piece_at p.cells to) && not (is_immobile to (dropped p.side kind))) (not (is_pawn_kind kind && nat_lt 0 (pawns_on_file p.side (to / 9) p.cells))) e in
    let two = and_parts (nat_lt 0 (count_in_hand p.hands p.side kind) && is_none (piece_at p.cells to)) (not (is_immobile to (dropped p.side kind))) three.0 in
    (and_parts (nat_lt 0 (count_in_hand p.hands p.side kind)) (is_none (piece_at p.cells to)) two.0).0)

-- if the move drops a pawn, its side has none on the file
abbrev HasFreeFile : Cells → Color → Move → Type 0
HasFreeFile cells side (Board from to promote) = Unit {0}
HasFreeFile cells side (Drop kind to) = is_pawn_kind kind ≡ true → pawns_on_file side (to / 9) cells ≤ 0

module _ (p : Shogi) (r x : Move) where
  -- the position after the other move and the reply
  abbrev other : Shogi
  other = after (after p x) r

  same_there : (n : ℕ) → IsOff r n → IsOff x n → piece_at other.cells n ≡ piece_at p.cells n
  same_there n off_r off_x = stands (after p x).cells (opponent_of p.side) r n off_r ∙ stands p.cells p.side x n off_x

  pseudo_again : (m : Move) → length p.cells ≡ 81 → IsOnSquares x → IsOnSquares r → AreApart m r x → IsHeld other.hands p.side m → HasFreeFile other.cells p.side m → is_pseudo_legal p m ≡ true → is_pseudo_legal (position other.cells other.hands p.side) m ≡ true
  pseudo_again (Board c d promote) len on_x on_r apart held free e =
      board_kept p.cells other.cells p.side c d promote
      (same_there c apart.reply.0 apart.other.0)
      (same_there d apart.reply.1 apart.other.1)
      (way_kept p.cells p.side (opponent_of p.side) x r c d promote (piece_at p.cells c) len on_x on_r apart.other_way apart.reply_way)
      e
  pseudo_again (Drop kind d) len on_x on_r apart held free e = drop_kept p.cells other.cells p.hands other.hands p.side kind d (same_there d apart.reply apart.other) held free e

-- ---- and is legal

held_past : (cells : Cells) (hands : HandCounts) (side : Color) (r m : Move) → IsHeld hands side m → IsHeld (hands_after hands cells (opponent_of side) r) side m
held_past cells hands side r (Board from to promote) h = tt
held_past cells hands side r (Drop kind to) h = subst (λ (n : ℕ). 0 < n) (sym (own_counts cells hands side r kind)) h

held_before : (cells : Cells) (hands : HandCounts) (side : Color) (r m : Move) → IsHeld (hands_after hands cells (opponent_of side) r) side m → IsHeld hands side m
held_before cells hands side r (Board from to promote) h = tt
held_before cells hands side r (Drop kind to) h = subst (λ (n : ℕ). 0 < n) (own_counts cells hands side r kind) h

is_none-true : (cell : Option Piece) → is_none cell ≡ true → cell ≡ None
is_none-true None e = refl
is_none-true (Some piece) e = absurd (cc)

bare_of : (p : Shogi) (kind : Kind) (to : ℕ) → is_pseudo_legal p (Drop kind to) ≡ true → piece_at p.cells to ≡ None
bare_of p kind to e = is_none-true (piece_at p.cells to) (
    let three = and_parts (nat_lt 0 (count_in_hand p.hands p.side kind) && is_none (piece_at p.cells to) && not (is_immobile to (dropped p.side kind))) (not (is_pawn_kind kind && nat_lt 0 (pawns_on_file p.side (to / 9) p.cells))) e in
    let two = and_parts (nat_lt 0 (count_in_hand p.hands p.side kind) && is_none (piece_at p.cells to)) (not (is_immobile to (dropped p.side kind))) three.0 in
    (and_parts (nat_lt 0 (count_in_hand p.hands p.side kind)) (is_none (piece_at p.cells to)) two.0).1)

-- if the board after a drop is that of a valid position, the file of a dropped pawn was free
file_of : (p : Shogi) (q : Shogi) (n : Shogi) (m : Move) → IsValid n → length q.cells ≡ 81 → IsOnSquares m → is_pseudo_legal p m ≡ true → (piece_at q.cells (end_of m) ≡ piece_at p.cells (end_of m)) → cells_after q.cells q.side m ≡ n.cells → HasFreeFile q.cells q.side m
file_of p q n (Board from to promote) v len on e same there = tt
file_of p q n (Drop kind to) v len on e same there =
    free_file q.cells q.side kind to len on (same ∙ bare_of p kind to e)
    (subst (λ (cells : Cells). pawns_on_file q.side (to / 9) cells ≤ 1) (sym there) ((faultless_from n v.no_fault).pawns q.side (to / 9) (let low : to < 81 = on in omega (arith, low))))

no_mate_of : (q s : Shogi) (m x : Move) → IsValid q → IsValid s → q.side ≡ s.side → IsOnSquares m → IsOnSquares x → is_legal s x ≡ true → AreDisjoint x m → cells_after q.cells q.side m ≡ cells_after s.cells s.side x → is_pawn_drop_mate q m ≡ false
no_mate_of q s (Board from to promote) x vq vs one on_m on_x l off same = refl
no_mate_of q s (Drop kind to) x vq vs one on_m on_x l off same = no_mate q s x to vq vs one on_x kind on_m l off same

-- the cell on which the move ends
end_stands : (p : Shogi) (r x m : Move) → AreApart m r x → piece_at (after (after p x) r).cells (end_of m) ≡ piece_at p.cells (end_of m)
end_stands p r x (Board from to promote) apart = same_there p r x to apart.reply.1 apart.other.1
end_stands p r x (Drop kind to) apart = same_there p r x to apart.reply apart.other

-- the move is legal after the other move and the reply, if that move is legal after the move and the reply
pub still_legal : (p : Shogi) (m r x : Move) → IsValid p → IsOnSquares m → IsOnSquares r → IsOnSquares x → AreApart m r x → is_legal p m ≡ true → is_legal (after p m) r ≡ true → is_legal (after (after p m) r) x ≡ true → is_legal p x ≡ true → is_legal (after p x) r ≡ true → is_legal (after (after p x) r) m ≡ true
still_legal p m r x v on_m on_r on_x apart lm lmr lmrx lx lxr =
    let vq : IsValid (after (after p x) r) = move_valid (after p x) r (move_valid p x v on_x lx) on_r lxr in
    let vs : IsValid (after (after p m) r) = move_valid (after p m) r (move_valid p m v on_m lm) on_r lmr in
    let vn : IsValid (after (after (after p m) r) x) = move_valid (after (after p m) r) x vs on_x lmrx in
    let pm : is_pseudo_legal p m ≡ true = (legal_parts p m lm).0 in
    let px : is_pseudo_legal p x ≡ true = (legal_parts p x lx).0 in
    let last : (is_pseudo_legal (after (after p m) r) x ≡ true) × (in_check (after (after (after p m) r) x).cells (opponent_of (opponent_of p.side)) ≡ false) × (is_pawn_drop_mate (after (after p m) r) x ≡ false) = legal_parts (after (after p m) r) x lmrx in
    let same : after (after (after p x) r) m ≡ after (after (after p m) r) x = in_either_order p m r x v.hands_fit (held_of p m pm) (held_of p x px) apart in
    let cells : (after (after (after p x) r) m).cells ≡ (after (after (after p m) r) x).cells = ap (λ (n : Shogi). n.cells) same in
    let hx : IsHeld (after p m).hands p.side x = held_before (after p m).cells (after p m).hands p.side r x (subst (λ (c : Color). IsHeld (after (after p m) r).hands c x) (opponent_twice p.side) (held_of (after (after p m) r) x last.0)) in
    let hm : IsHeld (after (after p x) r).hands p.side m = held_past (after p x).cells (after p x).hands p.side r m (still_held p.cells p.hands p.side m x (held_of p m pm) hx) in
    let file : HasFreeFile (after (after p x) r).cells p.side m = subst (λ (c : Color). HasFreeFile (after (after p x) r).cells c m) (opponent_twice p.side) (file_of p (after (after p x) r) (after (after (after p m) r) x) m vn vq.cells_fit on_m pm (end_stands p r x m apart) cells) in
    legal_from (after (after p x) r) m
    (subst (λ (c : Color). is_pseudo_legal (position (after (after p x) r).cells (after (after p x) r).hands c) m ≡ true) (sym (opponent_twice p.side)) (pseudo_again p r x m v.cells_fit on_x on_r apart hm file pm))
    (ap (λ (n : Shogi). in_check n.cells (opponent_of (opponent_of p.side))) same ∙ last.1)
    (no_mate_of (after (after p x) r) (after (after p m) r) m x vq vs refl on_m on_x lmrx apart.other cells)
