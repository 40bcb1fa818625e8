-- A pawn that was dropped before a reply gives no check after it.
use Rattle.std.proofs.Common.{◌≡◌, ℕ, ◌/◌, ◌<◌, ◌≤◌, Bool, true, false, Option, None, refl, sym, ap, subst, ◌∙◌, arith, set, length, get_or-set_same}
use Rattle.std.specs.Prelude.{◌||◌}
use Rattle.std.proofs.lemmas.Bool.{and_from, both_ways, false_from_ne_true}
use Rattle.shogi_core.specs.declared.moves.Move.{Move}
use Rattle.shogi_core.specs.declared.moves.Move.TheVariants.{Board, Drop}
use Rattle.shogi_core.specs.declared.piece.Color.{Color}
use Rattle.shogi_core.specs.declared.piece.Kind.{Kind}
use Rattle.shogi_core.specs.declared.piece.Kind.TheVariants as kinds
use Rattle.shogi_core.specs.declared.piece.Piece.{Piece}
use Rattle.shogi_core.specs.declared.piece.Role.TheVariants.{Pawn}
use Rattle.shogi_core.specs.Attack.{in_check, is_attacked_from, is_open_king}
use Rattle.shogi_core.specs.Cell.{is_king, is_pawn, is_piece_of}
use Rattle.shogi_core.specs.Movement.{Cells, cell_reaches, has_step, piece_at, reaches}
use Rattle.shogi_core.specs.Pieces.{opponent_of}
use Rattle.shogi_core.specs.Position.{Shogi}
use Rattle.shogi_core.specs.Validity.{IsValid, pawns_on_file}
use Rattle.shogi_core.proofs.Below.{some_below_at, some_below_not}
use Rattle.shogi_core.proofs.Faults.{faultless_from}
use Rattle.shogi_moves.specs.After.{after, cells_after, dropped}
use Rattle.shogi_moves.specs.Legal.{is_legal, is_pawn_drop_mate, is_pawn_kind}
use Rattle.shogi_moves.proofs.CheckInfoLaws.{dropped_of}
use Rattle.shogi_moves.proofs.Counts.{count_on_file-set, here_on}
use Rattle.shogi_moves.proofs.DropChecks.{non_mating_pawn}
use Rattle.shogi_moves.proofs.MovedPieces.{opponent_twice}
use Rattle.shogi_replies.proofs.ReplyLaws.{left_board, legal_own}
use Rattle.analogous_moves.specs.Analogies.{IsOff, IsOnSquares}
use Rattle.analogous_moves.proofs.Commuting.{stands}
use Rattle.analogous_moves.proofs.StillLegal.{standing_drop}

-- ---- files

-- if a dropped pawn is the only one of its file, the file had none before
free_of : (cells : Cells) (side : Color) (to : ℕ) → length cells ≡ 81 → to < 81 → piece_at cells to ≡ None → is_pawn side (dropped side kinds.Pawn) ≡ true → pawns_on_file side (to / 9) (set cells to (dropped side kinds.Pawn)) ≤ 1 → pawns_on_file side (to / 9) cells ≤ 0
free_of cells side to len ht bare pawn few = grind (arith, count_on_file-set (is_pawn side) (to / 9) to cells (dropped side kinds.Pawn) None, here_on (to / 9) to)

pawn_of : (side : Color) → is_pawn side (dropped side kinds.Pawn) ≡ true
pawn_of side = grind arith

pub free_file : (cells : Cells) (side : Color) (kind : Kind) (to : ℕ) → length cells ≡ 81 → to < 81 → piece_at cells to ≡ None → pawns_on_file side (to / 9) (set cells to (dropped side kind)) ≤ 1 → is_pawn_kind kind ≡ true → pawns_on_file side (to / 9) cells ≤ 0
free_file cells side kinds.Pawn to len ht bare few e = free_of cells side to len ht bare (pawn_of side) few
free_file cells side kinds.Lance to len ht bare few e = absurd (cc)
free_file cells side kinds.Knight to len ht bare few e = absurd (cc)
free_file cells side kinds.Silver to len ht bare few e = absurd (cc)
free_file cells side kinds.Gold to len ht bare few e = absurd (cc)
free_file cells side kinds.Bishop to len ht bare few e = absurd (cc)
free_file cells side kinds.Rook to len ht bare few e = absurd (cc)

-- ---- checks

-- what stands there reaches no king that is not attacked
unreached : (cells : Cells) (color : Color) (a k : ℕ) → a < 81 → k < 81 → in_check cells color ≡ false → is_king color (piece_at cells k) ≡ true → is_piece_of (opponent_of color) (piece_at cells a) ≡ true → reaches cells a k ≡ false
unfolding in_check
unreached cells color a k ha hk safe crown own = false_from_ne_true _ (λ r. both_ways (is_open_king cells color k) (some_below_not 81 (is_open_king cells color) k safe hk) (and_from _ _ crown (some_below_at 81 (is_attacked_from cells (opponent_of color) k) a ha (and_from _ _ own r))))

step_alone : (a : Bool) → (a || false) ≡ a
step_alone a = grind arith

-- a pawn reaches the same on all boards
pawn_reaches : (cells : Cells) (side : Color) (to k : ℕ) → piece_at cells to ≡ dropped side kinds.Pawn → reaches cells to k ≡ has_step (record { color = side; role = Pawn }) to k
unfolding reaches
pawn_reaches cells side to k e = ap (λ (cell : Option Piece). cell_reaches cells cell to k) e ∙ step_alone (has_step (record { color = side; role = Pawn }) to k)

-- a king of the other side stands as before a legal move
king_before : (s : Shogi) (x : Move) → IsValid s → IsOnSquares x → is_legal s x ≡ true → (k : ℕ) → is_king (opponent_of s.side) (piece_at (after s x).cells k) ≡ true → piece_at s.cells k ≡ piece_at (after s x).cells k
king_before s (Board from to promote) v on l k crown = (left_board s from to promote v on.0 on.1 (legal_own s from to promote l)).kings k crown
king_before s (Drop kind to) v on l k crown = (standing_drop s.cells s.side kind to v.cells_fit on).kings k crown

-- two positions of one side that a pawn drop and another move lead to one: the drop is no mate, since the pawn stands in the second one and gives no check there
pawn_no_mate : (q s : Shogi) (x : Move) (to : ℕ) → IsValid q → IsValid s → q.side ≡ s.side → IsOnSquares x → to < 81 → is_legal s x ≡ true → IsOff x to → cells_after q.cells q.side (Drop kinds.Pawn to) ≡ cells_after s.cells s.side x → is_pawn_drop_mate q (Drop kinds.Pawn to) ≡ false
pawn_no_mate q s x to vq vs one on ht l off same =
    let there : piece_at (cells_after q.cells q.side (Drop kinds.Pawn to)) to ≡ dropped q.side kinds.Pawn = get_or-set_same q.cells to (dropped q.side kinds.Pawn) None (let fit : length q.cells ≡ 81 = vq.cells_fit in omega (arith, fit, ht)) in
    let before : piece_at s.cells to ≡ dropped q.side kinds.Pawn = sym (stands s.cells s.side x to off) ∙ ap (λ (cells : Cells). piece_at cells to) (sym same) ∙ there in
    let own : is_piece_of (opponent_of (opponent_of s.side)) (piece_at s.cells to) ≡ true = subst (λ (c : Color). is_piece_of c (piece_at s.cells to) ≡ true) (sym (opponent_twice s.side)) (ap (is_piece_of s.side) before ∙ subst (λ (c : Color). is_piece_of c (dropped q.side kinds.Pawn) ≡ true) one (dropped_of q.side kinds.Pawn)) in
    non_mating_pawn q to vq.cells_fit ht (faultless_from q vq.no_fault).shut (λ k hk crown. (
    let king : is_king (opponent_of s.side) (piece_at (after s x).cells k) ≡ true = subst (λ (c : Color). is_king (opponent_of c) (piece_at (after s x).cells k) ≡ true) one (ap (λ (cells : Cells). is_king (opponent_of q.side) (piece_at cells k)) (sym same) ∙ crown) in
    let stood : is_king (opponent_of s.side) (piece_at s.cells k) ≡ true = ap (is_king (opponent_of s.side)) (king_before s x vs on l k king) ∙ king in
    pawn_reaches (cells_after q.cells q.side (Drop kinds.Pawn to)) q.side to k there
    ∙ sym (pawn_reaches s.cells q.side to k before)
    ∙ unreached s.cells (opponent_of s.side) to k ht hk (faultless_from s vs.no_fault).shut stood own))

pub no_mate : (q s : Shogi) (x : Move) (to : ℕ) → IsValid q → IsValid s → q.side ≡ s.side → IsOnSquares x → (kind : Kind) → to < 81 → is_legal s x ≡ true → IsOff x to → cells_after q.cells q.side (Drop kind to) ≡ cells_after s.cells s.side x → is_pawn_drop_mate q (Drop kind to) ≡ false
no_mate q s x to vq vs one on kinds.Pawn ht l off same = pawn_no_mate q s x to vq vs one on ht l off same
no_mate q s x to vq vs one on kinds.Lance ht l off same = refl
no_mate q s x to vq vs one on kinds.Knight ht l off same = refl
no_mate q s x to vq vs one on kinds.Silver ht l off same = refl
no_mate q s x to vq vs one on kinds.Gold ht l off same = refl
no_mate q s x to vq vs one on kinds.Bishop ht l off same = refl
no_mate q s x to vq vs one on kinds.Rook ht l off same = refl
