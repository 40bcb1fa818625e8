-- A quiet board move and a reply clear of it may be made in either order.
use Rattle.std.proofs.Common.{◌≡◌, ℕ, ℤ, pos, ◌+◌, ◌<◌, ◌+ℤ◌, Bool, true, false, Option, Some, None, refl, sym, ap, subst, ◌∙◌, arith, inl, inr, set, length, length-set, get_or-set_same, get_or-set_other}
use Rattle.std.proofs.lemmas.Bool.{and_left, both_ways}
use Rattle.std.proofs.lemmas.Int.{ints}
use Rattle.std.proofs.lemmas.List.{set_comm}
use Rattle.shogi_core.specs.declared.moves.Move.{Move}
use Rattle.shogi_core.specs.declared.moves.Move.TheVariants.{Board, Drop}
use Rattle.shogi_core.specs.declared.piece.Color.{Color}
use Rattle.shogi_core.specs.declared.piece.Piece.{Piece}
use Rattle.shogi_core.specs.Attack.{in_check}
use Rattle.shogi_core.specs.Cell.{is_piece_of}
use Rattle.shogi_core.specs.Lines.{is_lined_with_king}
use Rattle.shogi_core.specs.Movement.{Cells, piece_at}
use Rattle.shogi_core.specs.Pieces.{opponent_of}
use Rattle.shogi_core.specs.Position.{HandCounts, Shogi}
use Rattle.shogi_core.specs.Validity.{IsValid}
use Rattle.shogi_moves.specs.After.{after, cells_after, dropped, hands_after, piece_moved, with_captured}
use Rattle.shogi_moves.specs.Legal.{is_legal, is_mated_by_drop, is_pawn_drop, is_pawn_drop_mate, is_pseudo_legal}
use Rattle.shogi_moves.proofs.CheckInfoLaws.{look, other_side}
use Rattle.shogi_replies.specs.ReplyInfo.{IsHarmless}
use Rattle.shogi_replies.proofs.ReplyLaws.{left_board, legal_own, moved_own, other_counts, unmoved}
use Rattle.shogi_eval.specs.declared.eval.Eval.{Eval}
use Rattle.shogi_eval.specs.Material.{material_of, promotion_gain, taken_gain}
use Rattle.shogi_eval.proofs.Gains.{gain_of}
use Rattle.analogous_moves.specs.Analogies.{IsOff, IsOnSquares, ReplySuffices, MoveIsWorthAtMost, IsClearOf, after_reply, lifted, passed, placed}
use Rattle.analogous_moves.proofs.Commuting.{one_by_two, other_way, position, stands}
use Rattle.analogous_moves.proofs.Materials.{material_both, move_valid}
use Rattle.analogous_moves.proofs.Unchecked.{unchecked_by}
use Rattle.analogous_moves.proofs.StillLegal.{StandsStill, legal_from, legal_parts, length-after, pseudo_board, pseudo_drop}
use Rattle.analogous_moves.proofs.Worth.{AreAtMost, reply_at_most}

-- ---- in either order

-- a write to a square that a move neither leaves nor enters commutes with the move
write_commutes : (cells : Cells) (side : Color) (n : ℕ) (cell : Option Piece) (r : Move) → IsOff r n → cells_after (set cells n cell) side r ≡ set (cells_after cells side r) n cell
write_commutes cells side n cell (Board c d promotes) off =
    ap (λ (here : Option Piece). set (set (set cells n cell) c None) d (piece_moved promotes here)) (get_or-set_other cells n c cell None (other_way n c off.0))
    ∙ one_by_two cells n c d cell None (piece_moved promotes (piece_at cells c)) off.0 off.1
write_commutes cells side n cell (Drop kind d) off = set_comm cells n d cell (dropped side kind) off

-- a quiet move between two such squares commutes with the move
board_commutes : (cells : Cells) (s t : Color) (a b : ℕ) (r : Move) → IsOff r a → IsOff r b → cells_after (cells_after cells s (Board a b false)) t r ≡ set (set (cells_after cells t r) a None) b (piece_at cells a)
board_commutes cells s t a b r off apart =
    ap (λ (cell : Option Piece). cells_after (set (set cells a None) b cell) t r) (unmoved (piece_at cells a))
    ∙ write_commutes (set cells a None) t b (piece_at cells a) r apart
    ∙ ap (λ (old : Cells). set old b (piece_at cells a)) (write_commutes cells t a None r off)

-- a quiet move leaves the hands, and a reply off its squares captures the same piece as before
hands_kept : (hands : HandCounts) (cells : Cells) (s t : Color) (a b : ℕ) (r : Move) → piece_at cells b ≡ None → IsOff r a → IsOff r b → hands_after (hands_after hands cells s (Board a b false)) (cells_after cells s (Board a b false)) t r ≡ hands_after hands cells t r
hands_kept hands cells s t a b (Board c d promotes) bare off apart =
    ap (λ (cell : Option Piece). with_captured (with_captured hands s (piece_at cells b)) t cell) (stands cells s (Board a b false) d (other_way a d off.1, other_way b d apart.1))
    ∙ ap (λ (cell : Option Piece). with_captured (with_captured hands s cell) t (piece_at cells d)) bare
hands_kept hands cells s t a b (Drop kind d) bare off apart =
    ap (λ (cell : Option Piece). hands_after (with_captured hands s cell) cells t (Drop kind d)) bare

-- a quiet move and a reply off its squares leave the position after a pass and the reply, with the piece on its new square
pub commute_board : (p : Shogi) (a b : ℕ) (r : Move) → piece_at p.cells b ≡ None → IsOff r a → IsOff r b → after (after p (Board a b false)) r ≡ placed (lifted (after_reply p r) a) (piece_at p.cells a) b
commute_board p a b r bare off apart =
    ap (λ (cells : Cells). position cells (after (after p (Board a b false)) r).hands (opponent_of (opponent_of p.side))) (board_commutes p.cells p.side (opponent_of p.side) a b r off apart)
    ∙ ap (λ (held : HandCounts). position (placed (lifted (after_reply p r) a) (piece_at p.cells a) b).cells held (opponent_of (opponent_of p.side))) (hands_kept p.hands p.cells p.side (opponent_of p.side) a b r bare off apart)

-- ---- the reply is legal

module _ (q : Cells) (side : Color) (cell : Option Piece) (a b : ℕ) (len : length q ≡ 81) (ha : a < 81) (hb : b < 81) (own : is_piece_of side cell ≡ true) where
  abbrev moved : Cells
  moved = set (set q a None) b cell

  foes_board : StandsStill q moved (opponent_of side)
  foes_board x e = elim (look q side a b cell len ha hb x) [
    | inl there ↦ absurd (both_ways (is_piece_of (opponent_of side) cell) (other_side side cell own) (ap (is_piece_of (opponent_of side)) (sym there.1) ∙ e))
    | inr rest ↦ elim rest [
      | inl here ↦ absurd (let clash : false ≡ true = ap (is_piece_of (opponent_of side)) (sym here.1) ∙ e in cc)
      | inr same ↦ sym same
    ]
  ]

  -- a piece gives no check by a move from a square on no open line with an enemy king to one from which it attacks none
  board_unchecked : is_lined_with_king q (opponent_of side) a ≡ false → IsHarmless q (opponent_of side) cell b → in_check q (opponent_of side) ≡ false → in_check moved (opponent_of side) ≡ false
  board_unchecked free far safe =
      unchecked_by q moved side (λ x. x ≡ a) b cell hb own (look q side a b cell len ha hb)
      (get_or-set_same (set q a None) b cell None (omega (arith, length-set q a None, len)))
      (λ x left. subst (λ (y : ℕ). is_lined_with_king q (opponent_of side) y ≡ false) (sym left) free)
      far safe

-- the reply stays pseudo-legal
pseudo_kept : (p : Shogi) (a b : ℕ) (r : Move) → IsValid p → a < 81 → b < 81 → IsOnSquares r → is_piece_of p.side (piece_at p.cells a) ≡ true → IsClearOf r b → is_pseudo_legal (passed p) r ≡ true → is_pseudo_legal (after p (Board a b false)) r ≡ true
pseudo_kept p a b (Board c d promotes) v ha hb there own spared e =
    pseudo_board p.cells (cells_after p.cells p.side (Board a b false)) (opponent_of p.side) b c d promotes (left_board p a b false v ha hb own) (other_way b c spared.0.0) spared.1 e
pseudo_kept p a b (Drop held d) v ha hb there own spared e =
    pseudo_drop p.cells (cells_after p.cells p.side (Board a b false)) p.hands (after p (Board a b false)).hands (opponent_of p.side) held b d (left_board p a b false v ha hb own) v.cells_fit there (other_way b d spared.0)
    (foes_board p.cells p.side (piece_moved false (piece_at p.cells a)) a b v.cells_fit ha hb (moved_own p a b false v ha hb own)) (other_counts p (Board a b false) held) e

pub still_legal_board : (p : Shogi) (a b : ℕ) (r : Move) → IsValid p → a < 81 → b < 81 → IsOnSquares r → is_legal p (Board a b false) ≡ true → is_legal (passed p) r ≡ true → is_pawn_drop r ≡ false → IsOff r a → IsClearOf r b
    → is_lined_with_king (after_reply p r).cells (opponent_of p.side) a ≡ false → IsHarmless (after_reply p r).cells (opponent_of p.side) (piece_at p.cells a) b → is_legal (after p (Board a b false)) r ≡ true
still_legal_board p a b r v ha hb there lm lr plain off spared free far =
    let own : is_piece_of p.side (piece_at p.cells a) ≡ true = legal_own p a b false lm in
    let parts : (is_pseudo_legal (passed p) r ≡ true) × (in_check (after_reply p r).cells (opponent_of p.side) ≡ false) × (is_pawn_drop_mate (passed p) r ≡ false) = legal_parts (passed p) r lr in
    legal_from (after p (Board a b false)) r (pseudo_kept p a b r v ha hb there own spared parts.0)
    (ap (λ (cells : Cells). in_check cells (opponent_of p.side)) (board_commutes p.cells p.side (opponent_of p.side) a b r off spared.0)
    ∙ board_unchecked (after_reply p r).cells p.side (piece_at p.cells a) a b (length-after p.cells (opponent_of p.side) r ∙ v.cells_fit) ha hb own free far parts.1)
    (and_left (is_pawn_drop r) (is_mated_by_drop (after (after p (Board a b false)) r)) plain)

-- ---- the material

-- a reply off the squares of the move gains what it gains after a pass
gain_same : (p : Shogi) (e : Eval) (a b : ℕ) (r : Move) → IsOff r a → IsOff r b → gain_of (after p (Board a b false)) e r ≡ gain_of p e r
gain_same p e a b (Board c d promotes) off apart =
    ap (λ (cell : Option Piece). pos (taken_gain e cell + promotion_gain promotes (piece_at (cells_after p.cells p.side (Board a b false)) c))) (stands p.cells p.side (Board a b false) d (other_way a d off.1, other_way b d apart.1))
    ∙ ap (λ (cell : Option Piece). pos (taken_gain e (piece_at p.cells d) + promotion_gain promotes cell)) (stands p.cells p.side (Board a b false) c (other_way a c off.0, other_way b c apart.0))
gain_same p e a b (Drop kind d) off apart = refl

no_promotion : (cell : Option Piece) → promotion_gain false cell ≡ 0
no_promotion None = refl
no_promotion (Some piece) = refl

-- a quiet move gains nothing
no_gain : (p : Shogi) (e : Eval) (a b : ℕ) → piece_at p.cells b ≡ None → gain_of p e (Board a b false) ≡ pos 0
no_gain p e a b bare =
    ap (λ (cell : Option Piece). pos (taken_gain e cell + promotion_gain false (piece_at p.cells a))) bare
    ∙ ap (λ (n : ℕ). pos (0 + n)) (no_promotion (piece_at p.cells a))

-- move and reply leave the material that a pass and the reply leave
pub material_board : (p : Shogi) (e : Eval) (a b : ℕ) (r : Move) → IsValid p → in_check p.cells p.side ≡ false → a < 81 → b < 81 → IsOnSquares r → is_legal p (Board a b false) ≡ true → piece_at p.cells b ≡ None → is_legal (passed p) r ≡ true → IsOff r a → IsOff r b → is_legal (after p (Board a b false)) r ≡ true
    → material_of (after (after p (Board a b false)) r) e ≡ material_of (after_reply p r) e
material_board p e a b r v unchecked ha hb there lm bare lr off apart l =
    let all : material_of (after (after p (Board a b false)) r) e ≡ material_of (after_reply p r) e +ℤ gain_of p e (Board a b false) = material_both p e (Board a b false) r v unchecked (ha, hb) there (gain_same p e a b r off apart) lm lr l in
    let none : gain_of p e (Board a b false) ≡ pos 0 = no_gain p e a b bare in
    omega (arith, ints)

-- ---- what the move is worth

-- a quiet move is worth at most `t` if the position after a pass and the reply, with the piece moved, is, given that it is valid and its material unchanged
pub quiet_analogous : (quiet_only : Bool) (p : Shogi) (e : Eval) (depth a b : ℕ) (r : Move) (t : ℤ) → ReplySuffices quiet_only e depth → IsValid p → in_check p.cells p.side ≡ false → a < 81 → b < 81 → IsOnSquares r → is_legal p (Board a b false) ≡ true → piece_at p.cells b ≡ None → is_legal (passed p) r ≡ true → is_pawn_drop r ≡ false → IsOff r a → IsClearOf r b
    → is_lined_with_king (after_reply p r).cells (opponent_of p.side) a ≡ false → IsHarmless (after_reply p r).cells (opponent_of p.side) (piece_at p.cells a) b
    → (IsValid (placed (lifted (after_reply p r) a) (piece_at p.cells a) b) → material_of (placed (lifted (after_reply p r) a) (piece_at p.cells a) b) e ≡ material_of (after_reply p r) e → AreAtMost (placed (lifted (after_reply p r) a) (piece_at p.cells a) b) e depth t)
    → MoveIsWorthAtMost p e depth t (Board a b false)
quiet_analogous quiet_only p e depth a b r t told v unchecked ha hb there lm bare lr plain off spared free far low =
    let l : is_legal (after p (Board a b false)) r ≡ true = still_legal_board p a b r v ha hb there lm lr plain off spared free far in
    let same : after (after p (Board a b false)) r ≡ placed (lifted (after_reply p r) a) (piece_at p.cells a) b = commute_board p a b r bare off spared.0 in
    let vn : IsValid (after (after p (Board a b false)) r) = move_valid (after p (Board a b false)) r (move_valid p (Board a b false) v (ha, hb) lm) there l in
    reply_at_most quiet_only p e depth (Board a b false) r t told (ha, hb) there l
    (subst (λ (q : Shogi). AreAtMost q e depth t) (sym same) (low (subst IsValid same vn)
    (ap (λ (q : Shogi). material_of q e) (sym same) ∙ material_board p e a b r v unchecked ha hb there lm bare lr off spared.0 l)))
