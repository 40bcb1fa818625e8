-- A drop or quiet move that changes nothing the refutation relies on is worth no more than the bound.
use Rattle.std.proofs.Common.{◌≡◌, ◌≢◌, ℕ, ℤ, pos, ◌-◌, ◌^◌, ◌<◌, bit_and, bit_or, ◌+ℤ◌, ◌≤ℤ◌, Bool, true, false, Option, None, refl, sym, ap, subst, ◌∙◌, inl, inr, arith, set, length, length-set, get_or, get_or-set_same, get_or-set_other}
use Rattle.std.specs.Prelude.{is_none}
use Rattle.std.proofs.lemmas.Bool.{both_ways, cases_eq, ltb-true, or_parts}
use Rattle.std.proofs.lemmas.Int.{ints}
use Rattle.shogi_core.specs.declared.moves.Move.{Move}
use Rattle.shogi_core.specs.declared.moves.Move.TheVariants.{Board, Drop}
use Rattle.shogi_core.specs.declared.piece.Color.{Color}
use Rattle.shogi_core.specs.declared.piece.Color.TheVariants.{Black, White}
use Rattle.shogi_core.specs.declared.piece.Kind.{Kind}
use Rattle.shogi_core.specs.declared.piece.Piece.{Piece}
use Rattle.shogi_core.specs.Attack.{in_check}
use Rattle.shogi_core.specs.Bits.{has_bit}
use Rattle.shogi_core.specs.Cell.{HasNoOtherKing, is_piece_of}
use Rattle.shogi_core.specs.Lines.{is_lined_with_king}
use Rattle.shogi_core.specs.Movement.{Cells, cell_reaches, piece_at, reaches}
use Rattle.shogi_core.specs.Pieces.{kind_number, opponent_of}
use Rattle.shogi_core.specs.Position.{Shogi, count_in_hand, place_of}
use Rattle.shogi_core.specs.Validity.{IsValid}
use Rattle.shogi_core.proofs.BitLaws.{has_bit-or}
use Rattle.shogi_core.proofs.Faults.{number_below}
use Rattle.shogi_moves.specs.After.{after, dropped, hands_after}
use Rattle.shogi_moves.specs.Legal.{is_legal, is_pawn_drop}
use Rattle.shogi_moves.proofs.CheckInfoLaws.{dropped_of}
use Rattle.shogi_moves.proofs.MovedPieces.{opponent_twice}
use Rattle.shogi_replies.specs.ReplyInfo.{IsHarmless}
use Rattle.shogi_replies.proofs.ReplyLaws.{other_counts}
use Rattle.shogi_eval.specs.declared.eval.Eval.{Eval}
use Rattle.shogi_eval.specs.Material.{material_of}
use Rattle.shogi_eval.proofs.Gains.{gain_of}
use Rattle.minimax.specs.Minimax.{lost_value}
use Rattle.analogous_moves.specs.declared.moves.AnalogousMoves.{AnalogousMoves}
use Rattle.analogous_moves.specs.Analogies.{AreAnalogous, AreUnthreatening, CoversMove, DropsAreWorthAtMost, IsOnSquares, IsUnthreatening, IsOff, HasNoThreats, ReplySuffices, IsOffOpenLines, MoveIsWorthAtMost, LeavesReplyLegal, QuietsAreWorthAtMost, IsClearOf, after_reply, drops_of, lifted, passed, placed}
use Rattle.analogous_moves.proofs.BoardMoves.{quiet_analogous}
use Rattle.analogous_moves.proofs.Commuting.{commute, stands}
use Rattle.analogous_moves.proofs.UnthreateningLaws.{board_parts, drop_parts, none_is, put_on, bounded}
use Rattle.analogous_moves.proofs.Materials.{drop_little, material_moved, move_valid}
use Rattle.analogous_moves.proofs.Passing.{passed_valid}
use Rattle.analogous_moves.proofs.Sets.{out_parts}
use Rattle.analogous_moves.proofs.StillLegal.{still_legal}
use Rattle.analogous_moves.proofs.Unchecked.{harmless_there, unlined_with_king}
use Rattle.analogous_moves.proofs.Worth.{AreAtMost, IsBoundedAndAnswered, reply_at_most, bounded_at_most}

-- the position with a piece dropped, and the same side to move
abbrev pub after_drop : Shogi → Kind → ℕ → Shogi
after_drop q kind b = put_on q (dropped q.side kind) (hands_after q.hands q.cells q.side (Drop kind b)) b

-- a drop and then the reply leave the board that a pass, the reply and then the drop leave
as_left : (p : Shogi) (kind : Kind) (b : ℕ) (r : Move) → IsClearOf r b → after (after p (Drop kind b)) r ≡ after_drop (after_reply p r) kind b
as_left p kind b r spared =
    commute p kind b r spared.0
    ∙ ap (λ (color : Color). record { cells = (after_drop (after_reply p r) kind b).cells; hands = (after_drop (after_reply p r) kind b).hands; side = color }) (opponent_twice (after_reply p r).side)

-- after a drop, a side has in hand only kinds that it had before
place_below : (side : Color) (kind : Kind) → place_of side kind < 14
place_below Black kind = let low : kind_number kind < 7 = number_below kind in omega (arith, low)
place_below White kind = let low : kind_number kind < 7 = number_below kind in omega (arith, low)

held_before : (q : Shogi) (kind : Kind) (b : ℕ) → length q.hands ≡ 14 → (other : Kind) → 0 < count_in_hand (after_drop q kind b).hands q.side other → 0 < count_in_hand q.hands q.side other
held_before q kind b held other some = elim (cases_eq (place_of q.side other) (place_of q.side kind)) [
  | inl here ↦ (
      let low : place_of q.side kind < 14 = place_below q.side kind in
      let now_is : count_in_hand (after_drop q kind b).hands q.side other ≡ count_in_hand q.hands q.side kind - 1 = ap (λ (i : ℕ). get_or (after_drop q kind b).hands i 0) here ∙ get_or-set_same q.hands (place_of q.side kind) (count_in_hand q.hands q.side kind - 1) 0 (omega (arith, low, held)) in
      let was_is : count_in_hand q.hands q.side other ≡ count_in_hand q.hands q.side kind = ap (λ (i : ℕ). get_or q.hands i 0) here in
      omega (arith, some, now_is, was_is))
  | inr off ↦ subst (λ (n : ℕ). 0 < n) (get_or-set_other q.hands (place_of q.side kind) (place_of q.side other) (count_in_hand q.hands q.side kind - 1) 0 off) some
]

-- after a pass and the reply, a piece gives no check if it does not attack the king on the board without it
harmless_after : (p : Shogi) (r : Move) (king : ℕ) (cells : Cells) (cell : Option Piece) (b : ℕ) → length cells ≡ 81 → king < 81 → HasNoOtherKing (after_reply p r).cells (opponent_of (after_reply p r).side) king → ((x : ℕ) → is_none (piece_at (after_reply p r).cells x) ≡ true → is_none (piece_at cells x) ≡ true)
    → cell_reaches (set cells king None) cell b king ≡ false → IsHarmless (after_reply p r).cells (opponent_of p.side) cell b
harmless_after p r king cells cell b len low only_king emptied far = subst (λ (color : Color). IsHarmless (after_reply p r).cells color cell b) (ap opponent_of (opponent_twice p.side)) (harmless_there (after_reply p r).cells (opponent_of (after_reply p r).side) king cells cell b len low only_king emptied far)

-- the squares of the set are clear of the reply and outside those kept empty
abbrev AreSpared : Move → ℕ → ℕ → Type 0
AreSpared r kept_empty set = (n : ℕ) → n < 81 → has_bit set n ≡ true → IsClearOf r n × (has_bit kept_empty n ≡ false)

-- a set without the reply's squares and those kept empty is spared
pub spared_among : (r : Move) (kept_empty touched both free among set : ℕ) → CoversMove r touched → both ≡ bit_or touched kept_empty → both < 2 ^ 81 → among ≡ bit_and free (2 ^ 128 - 1 - both) → ((n : ℕ) → has_bit set n ≡ true → has_bit among n ≡ true) → AreSpared r kept_empty set
spared_among r kept_empty touched both free among set spared join fits meet within n h on =
    let out : has_bit both n ≡ false = (out_parts free both n fits h (sym (ap (λ (m : ℕ). has_bit m n) meet) ∙ within n on)).1 in
    let apart = or_parts (has_bit touched n) (has_bit kept_empty n) (sym (has_bit-or touched kept_empty n) ∙ (ap (λ (m : ℕ). has_bit m n) (sym join) ∙ out)) in
    (spared n h apart.0, apart.1)

-- ---- a drop

pub analogous : (quiet_only : Bool) (depth : ℕ) (p : Shogi) (e : Eval) (kind : Kind) (b : ℕ) (r : Move) (gains king squares kept_empty : ℕ) (t : ℤ) → ReplySuffices quiet_only e depth → IsValid p → in_check p.cells p.side ≡ false → b < 81 → IsOnSquares r → is_legal p (Drop kind b) ≡ true → is_legal (passed p) r ≡ true → is_pawn_drop r ≡ false → IsClearOf r b → has_bit kept_empty b ≡ false
    → HasNoThreats quiet_only (after_reply p r) e gains king squares kept_empty → IsUnthreatening quiet_only (after_reply p r) e gains king squares (dropped (after_reply p r).side kind) b → lost_value 1 ≤ℤ t → (material_of (after_reply p r) e +ℤ pos gains) ≤ℤ t → MoveIsWorthAtMost p e depth t (Drop kind b)
analogous quiet_only depth p e kind b r gains king squares kept_empty t told v safe on there lm lr plain spared off no_threats unthreatening low room =
    let v0 : IsValid (passed p) = passed_valid p v safe in
    let vq : IsValid (after_reply p r) = move_valid (passed p) r v0 there lr in
    let be : LeavesReplyLegal p kind b r = record {
      spared = spared;
      harmless = subst (λ (color : Color). IsHarmless (after_reply p r).cells (opponent_of p.side) (dropped color kind) b) (opponent_twice p.side) (harmless_after p r king (after_reply p r).cells (dropped (after_reply p r).side kind) b vq.cells_fit no_threats.king_replies.king_fits no_threats.king_replies.only_king (λ x n. n) unthreatening.king_far);
      plain = plain;
    } in
    let l : is_legal (after p (Drop kind b)) r ≡ true = still_legal p kind b r v.cells_fit on there lr be in
    let vd : IsValid (after p (Drop kind b)) = move_valid p (Drop kind b) v on lm in
    let vn : IsValid (after (after p (Drop kind b)) r) = move_valid (after p (Drop kind b)) r vd there l in
    let same : after (after p (Drop kind b)) r ≡ after_drop (after_reply p r) kind b = as_left p kind b r spared in
    let vw : IsValid (after_drop (after_reply p r) kind b) = subst IsValid same vn in
    let bare : piece_at (after_reply p r).cells b ≡ None = stands p.cells (opponent_of p.side) r b spared.0 ∙ none_is (piece_at p.cells b) (drop_parts p kind b lm).1 in
    let moved : material_of (after (after p (Drop kind b)) r) e ≡ material_of (after_reply p r) e +ℤ gain_of p e (Drop kind b) = material_moved p e kind b r v safe on there spared.0 lm lr l in
    let little : gain_of p e (Drop kind b) ≤ℤ pos 0 = drop_little e kind in
    let here : material_of (after (after p (Drop kind b)) r) e ≡ material_of (after_drop (after_reply p r) kind b) e = ap (λ (q : Shogi). material_of q e) same in
    let less : (material_of (after_drop (after_reply p r) kind b) e +ℤ pos gains) ≤ℤ t = omega (arith, ints, moved, little, here, room) in
    let bounds : IsBoundedAndAnswered quiet_only (after_drop (after_reply p r) kind b) e t = bounded quiet_only (after_reply p r) e gains king squares kept_empty (dropped (after_reply p r).side kind) (hands_after (after_reply p r).hands (after_reply p r).cells (after_reply p r).side (Drop kind b)) b vq.cells_fit (dropped_of (after_reply p r).side kind) (held_before (after_reply p r) kind b vq.hands_fit) on bare off no_threats unthreatening vw t less in
    reply_at_most quiet_only p e depth (Drop kind b) r t told on there l (subst (λ (q : Shogi). AreAtMost q e depth t) (sym same) (bounded_at_most quiet_only (after_drop (after_reply p r) kind b) e depth t told vw low bounds))

-- no drop of the kind on spared, unthreatening squares is worth more than the bound
drops_analogous : (quiet_only : Bool) (depth : ℕ) (p : Shogi) (e : Eval) (kind : Kind) (r : Move) (gains king squares kept_empty : ℕ) (t : ℤ) (unthreatening : ℕ) → ReplySuffices quiet_only e depth → IsValid p → in_check p.cells p.side ≡ false → IsOnSquares r → is_legal (passed p) r ≡ true → is_pawn_drop r ≡ false → AreSpared r kept_empty unthreatening
    → HasNoThreats quiet_only (after_reply p r) e gains king squares kept_empty → AreUnthreatening quiet_only (after_reply p r) e gains king squares (dropped (after_reply p r).side kind) unthreatening → lost_value 1 ≤ℤ t → (material_of (after_reply p r) e +ℤ pos gains) ≤ℤ t → DropsAreWorthAtMost p e depth t kind unthreatening
drops_analogous quiet_only depth p e kind r gains king squares kept_empty t unthreatening told v safe there lr plain spared no_threats all low room to h set legal =
    analogous quiet_only depth p e kind to r gains king squares kept_empty t told v safe h there legal lr plain (spared to h set).0 (spared to h set).1 no_threats (all to h set) low room

-- a side that may drop a kind has that kind in hand after a pass and a reply
held_there : (p : Shogi) (kind : Kind) (b : ℕ) (r : Move) → is_legal p (Drop kind b) ≡ true → 0 < count_in_hand (after_reply p r).hands (after_reply p r).side kind
held_there p kind b r legal =
    subst (λ (n : ℕ). 0 < n) (sym (other_counts (passed p) r kind ∙ ap (λ (color : Color). count_in_hand p.hands color kind) (opponent_twice p.side))) (ltb-true 0 (count_in_hand p.hands p.side kind) (drop_parts p kind b legal).0)

-- drops are bounded if the position is that after a pass and the reply, and the squares are unthreatening if the kind is in hand
pub replied_analogous : (quiet_only : Bool) (depth : ℕ) (p q : Shogi) (e f : Eval) (kind : Kind) (r : Move) (gains king squares kept_empty : ℕ) (t : ℤ) (unthreatening : ℕ) → ReplySuffices quiet_only e depth → q ≡ after_reply p r → f ≡ e → IsValid p → in_check p.cells p.side ≡ false → IsOnSquares r → is_legal (passed p) r ≡ true → is_pawn_drop r ≡ false → AreSpared r kept_empty unthreatening
    → HasNoThreats quiet_only q f gains king squares kept_empty → lost_value 1 ≤ℤ t → (material_of q f +ℤ pos gains) ≤ℤ t → (0 < count_in_hand q.hands q.side kind → AreUnthreatening quiet_only q f gains king squares (dropped q.side kind) unthreatening) → DropsAreWorthAtMost p e depth t kind unthreatening
replied_analogous quiet_only depth p q e f kind r gains king squares kept_empty t unthreatening told is alike v safe there lr plain spared no_threats low room each to h set legal =
    let held : 0 < count_in_hand q.hands q.side kind = subst (λ (x : Shogi). 0 < count_in_hand x.hands x.side kind) (sym is) (held_there p kind to r legal) in
    drops_analogous quiet_only depth p e kind r gains king squares kept_empty t unthreatening told v safe there lr plain spared
    (subst (λ (x : Shogi). HasNoThreats quiet_only x e gains king squares kept_empty) is (subst (λ (y : Eval). HasNoThreats quiet_only q y gains king squares kept_empty) alike no_threats))
    (subst (λ (x : Shogi). AreUnthreatening quiet_only x e gains king squares (dropped x.side kind) unthreatening) is (subst (λ (y : Eval). AreUnthreatening quiet_only q y gains king squares (dropped q.side kind) unthreatening) alike (each held))) low
    (subst (λ (x : Shogi). (material_of x e +ℤ pos gains) ≤ℤ t) is (subst (λ (y : Eval). (material_of q y +ℤ pos gains) ≤ℤ t) alike room))
    to h set legal

-- ---- a quiet move on the board

legal_owns : (p : Shogi) (a b : ℕ) → is_legal p (Board a b false) ≡ true → (is_piece_of p.side (piece_at p.cells a) ≡ true) × (reaches p.cells a b ≡ true)
legal_owns p a b l = let parts = board_parts p a b false l in (parts.0, parts.2)

pub quiet_is_analogous : (quiet_only : Bool) (depth : ℕ) (p : Shogi) (e : Eval) (a b : ℕ) (r : Move) (gains king squares kept_empty : ℕ) (t : ℤ) → ReplySuffices quiet_only e depth → IsValid p → in_check p.cells p.side ≡ false → a < 81 → b < 81 → IsOnSquares r → is_legal p (Board a b false) ≡ true → piece_at p.cells b ≡ None → is_legal (passed p) r ≡ true → is_pawn_drop r ≡ false → IsOff r a → IsClearOf r b → has_bit kept_empty b ≡ false
    → HasNoThreats quiet_only (after_reply p r) e gains king squares kept_empty → IsOffOpenLines (after_reply p r) king squares a → HasNoThreats quiet_only (lifted (after_reply p r) a) e gains king squares kept_empty → IsUnthreatening quiet_only (lifted (after_reply p r) a) e gains king squares (piece_at (after_reply p r).cells a) b
    → lost_value 1 ≤ℤ t → (material_of (after_reply p r) e +ℤ pos gains) ≤ℤ t → MoveIsWorthAtMost p e depth t (Board a b false)
quiet_is_analogous quiet_only depth p e a b r gains king squares kept_empty t told v safe ha on there lm bare lr plain apart spared off no_threats off_open_lines no_threats_lifted unthreatening low room =
    let vq : IsValid (after_reply p r) = move_valid (passed p) r (passed_valid p v safe) there lr in
    let own : is_piece_of p.side (piece_at p.cells a) ≡ true = (legal_owns p a b lm).0 in
    let stays_there : piece_at (after_reply p r).cells a ≡ piece_at p.cells a = stands p.cells (opponent_of p.side) r a apart in
    let ne : b ≢ a = λ at. both_ways (is_piece_of p.side None) refl (ap (is_piece_of p.side) (sym (ap (piece_at p.cells) (sym at) ∙ bare)) ∙ own) in
    let empty : piece_at (lifted (after_reply p r) a).cells b ≡ None = get_or-set_other (after_reply p r).cells a b None None ne ∙ (stands p.cells (opponent_of p.side) r b spared.0 ∙ bare) in
    let len : length (lifted (after_reply p r) a).cells ≡ 81 = length-set (after_reply p r).cells a None ∙ vq.cells_fit in
    let unthreatening_there : IsUnthreatening quiet_only (lifted (after_reply p r) a) e gains king squares (piece_at p.cells a) b = subst (λ (cell : Option Piece). IsUnthreatening quiet_only (lifted (after_reply p r) a) e gains king squares cell b) stays_there unthreatening in
    let mine : is_piece_of (after_reply p r).side (piece_at p.cells a) ≡ true = ap (λ (color : Color). is_piece_of color (piece_at p.cells a)) (opponent_twice p.side) ∙ own in
    quiet_analogous quiet_only p e depth a b r t told v safe ha on there lm bare lr plain apart spared
    (ap (λ (color : Color). is_lined_with_king (after_reply p r).cells color a) (sym (ap opponent_of (opponent_twice p.side))) ∙ unlined_with_king (after_reply p r).cells (opponent_of (after_reply p r).side) king a vq.cells_fit no_threats.king_replies.king_fits no_threats.king_replies.only_king off_open_lines.off_king)
    (harmless_after p r king (lifted (after_reply p r) a).cells (piece_at p.cells a) b len no_threats.king_replies.king_fits no_threats.king_replies.only_king (emptied vq.cells_fit) unthreatening_there.king_far)
    (λ vw material. bounded_at_most quiet_only (placed (lifted (after_reply p r) a) (piece_at p.cells a) b) e depth t told vw low
    (bounded quiet_only (lifted (after_reply p r) a) e gains king squares kept_empty (piece_at p.cells a) (after_reply p r).hands b len mine (λ other some. some) on empty off no_threats_lifted unthreatening_there vw t (omega (arith, ints, material, room))))
  where
    emptied : length (after_reply p r).cells ≡ 81 → (x : ℕ) → is_none (piece_at (after_reply p r).cells x) ≡ true → is_none (piece_at (lifted (after_reply p r) a).cells x) ≡ true
    emptied len x n = elim (cases_eq x a) [
      | inl at ↦ ap (λ (y : ℕ). is_none (piece_at (lifted (after_reply p r) a).cells y)) at ∙ ap is_none (get_or-set_same (after_reply p r).cells a None None (omega (arith, len, ha)))
      | inr off ↦ ap is_none (get_or-set_other (after_reply p r).cells a x None None off) ∙ n
    ]

-- quiet moves are bounded if the position is that after a pass and the reply, and each piece, once lifted, makes no threat on its ends
pub replied_quiets : (quiet_only : Bool) (depth : ℕ) (p q : Shogi) (e f : Eval) (r : Move) (gains king squares kept_empty : ℕ) (t : ℤ) (pieces ends : ℕ) → ReplySuffices quiet_only e depth → q ≡ after_reply p r → f ≡ e → IsValid p → in_check p.cells p.side ≡ false → IsOnSquares r → is_legal (passed p) r ≡ true → is_pawn_drop r ≡ false → AreSpared r kept_empty ends
    → HasNoThreats quiet_only q f gains king squares kept_empty → lost_value 1 ≤ℤ t → (material_of q f +ℤ pos gains) ≤ℤ t → ((a : ℕ) → a < 81 → has_bit pieces a ≡ true → IsOff r a)
    → ((a : ℕ) → a < 81 → has_bit pieces a ≡ true → IsOffOpenLines q king squares a) → ((a : ℕ) → a < 81 → has_bit pieces a ≡ true → HasNoThreats quiet_only (lifted q a) f gains king squares kept_empty)
    → ((from to : ℕ) → from < 81 → to < 81 → has_bit pieces from ≡ true → has_bit ends to ≡ true → reaches p.cells from to ≡ true → IsUnthreatening quiet_only (lifted q from) f gains king squares (piece_at q.cells from) to) → QuietsAreWorthAtMost p e depth t pieces ends
replied_quiets quiet_only depth p q e f r gains king squares kept_empty t pieces ends told is alike v safe there lr plain spared no_threats low room apart off_open_lines lifts unthreatening from to hf ht mine on bare legal =
    quiet_is_analogous quiet_only depth p e from to r gains king squares kept_empty t told v safe hf ht there legal bare lr plain (apart from hf mine) (spared to ht on).0 (spared to ht on).1
    (subst (λ (x : Shogi). HasNoThreats quiet_only x e gains king squares kept_empty) is (subst (λ (y : Eval). HasNoThreats quiet_only q y gains king squares kept_empty) alike no_threats))
    (subst (λ (x : Shogi). IsOffOpenLines x king squares from) is (off_open_lines from hf mine))
    (subst (λ (x : Shogi). HasNoThreats quiet_only (lifted x from) e gains king squares kept_empty) is (subst (λ (y : Eval). HasNoThreats quiet_only (lifted q from) y gains king squares kept_empty) alike (lifts from hf mine)))
    (subst (λ (x : Shogi). IsUnthreatening quiet_only (lifted x from) e gains king squares (piece_at x.cells from) to) is (subst (λ (y : Eval). IsUnthreatening quiet_only (lifted q from) y gains king squares (piece_at q.cells from) to) alike (unthreatening from to hf ht mine on (legal_owns p from to legal).1))) low
    (subst (λ (x : Shogi). (material_of x e +ℤ pos gains) ≤ℤ t) is (subst (λ (y : Eval). (material_of q y +ℤ pos gains) ≤ℤ t) alike room))

-- a piece off the squares of the reply stands there after it
pub own_stays : (p q : Shogi) (r : Move) (a : ℕ) → q ≡ after_reply p r → IsOff r a → is_piece_of p.side (piece_at p.cells a) ≡ true → is_piece_of q.side (piece_at q.cells a) ≡ true
own_stays p q r a is off own =
    subst (λ (x : Shogi). is_piece_of x.side (piece_at x.cells a) ≡ true) (sym is)
    (ap (λ (color : Color). is_piece_of color (piece_at (after_reply p r).cells a)) (opponent_twice p.side) ∙ (ap (is_piece_of p.side) (stands p.cells (opponent_of p.side) r a off) ∙ own))

-- no legal quiet move that the sets hold is worth more than the bound
pub all_analogous : (p : Shogi) (e : Eval) (depth : ℕ) (d : AnalogousMoves) → ((kind : Kind) → DropsAreWorthAtMost p e depth d.most kind (drops_of d.drops kind).bits) → QuietsAreWorthAtMost p e depth d.most d.pieces.bits d.ends.bits → AreAnalogous p e depth d
all_analogous p e depth d drops quiets (Board from to promote) on among quiet legal =
    subst (λ (x : Bool). MoveIsWorthAtMost p e depth d.most (Board from to x)) (sym quiet.0)
    (quiets from to on.0 on.1 among.0 among.1 quiet.1 (subst (λ (x : Bool). is_legal p (Board from to x) ≡ true) quiet.0 legal))
all_analogous p e depth d drops quiets (Drop kind to) on among quiet legal = drops kind to on among legal
