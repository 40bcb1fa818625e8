use Rattle.std.proofs.Common.{◌≡◌, ◌∙◌, ℕ, true, not, sym, subst}
use Rattle.std.proofs.lemmas.Bool.{and_parts, not-true}
use Rattle.shogi_core.specs.declared.moves.Move.{Move}
use Rattle.shogi_core.specs.declared.moves.Move.TheVariants.{Board, Drop}
use Rattle.shogi_core.specs.Cell.{is_king, HasNoOtherKing}
use Rattle.shogi_core.specs.Movement.{piece_at}
use Rattle.shogi_core.specs.Pieces.{opponent_of}
use Rattle.shogi_moves.specs.Destinations.{leaves_king_safe}
use Rattle.shogi_moves.specs.Legal.{is_pseudo_legal}
use Rattle.shogi_moves.proofs.SeenAfter.{king_goes, king_left, king_left_by_drop, board_seen, drop_seen, moved, with_drop}
use Rattle.shogi_moves.proofs.king_safety.leaves_king_safe.Goals as goal

pub returns-then-index : goal.returns-then-index
returns-then-index c =
    let pseudo : is_pseudo_legal c.args.p.now (Board c.in-Board.from c.in-Board.to c.in-Board.promote) ≡ true = subst (λ (m : Move). is_pseudo_legal c.args.p.now m ≡ true) c.in-Board.is c.requires in
    let ends = and_parts _ _ (and_parts _ _ (and_parts _ _ (and_parts _ _ pseudo).0).0).0 in
    let seen = board_seen c.args.p.now c.in-Board.from c.in-Board.to c.in-Board.promote c.reveal_invariant.ensures.cells_fit c.reveal_invariant-in-Board.ensures c.reveal_invariant-in-Board-2.ensures ends.0 c.own-theirs.result.bits c.except-among.result.bits c.occupied.result.bits c.except.result.bits c.with-occupied.result.bits
    (rw (c.opponent.ensures, c.side-2.ensures, c.as_board-board.ensures) at c.own-theirs.ensures.squares) (λ n h. c.except-among.ensures n) (rw c.as_board-board.ensures at c.occupied.ensures) (λ n h. c.except.ensures n) (λ n h. c.with-occupied.ensures n) in
    let found = (rw c.as_board-board.ensures at c.is_attacked_among.ensures) (opponent_of c.args.p.now.side) (moved c.args.p.now c.in-Board.from c.in-Board.to c.in-Board.promote) seen in
    subst (λ (m : Move). not c.is_attacked_among.result ≡ leaves_king_safe c.args.p.now m) (sym c.in-Board.is)
    (let here : c.in-Board.from ≡ c.in-Some.king = sym c.index.ensures.index ∙ (c.if-index.true ∙ c.index-in-Board.ensures.index) in
    king_goes c.args.p.now c.in-Board.from c.in-Board.to c.in-Board.promote c.reveal_invariant.ensures.cells_fit c.reveal_invariant-in-Board.ensures c.reveal_invariant-in-Board-2.ensures ends.0 c.is_attacked_among.result
    (subst (λ (k : ℕ). is_king c.args.p.now.side (piece_at c.args.p.now.cells k) ≡ true) (sym here) (rw c.side.ensures at c.in-Some.ensures.king)) (subst (λ (k : ℕ). HasNoOtherKing c.args.p.now.cells c.args.p.now.side k) (sym here) (rw c.side.ensures at c.in-Some.ensures.lone)) found)

pub returns-else-index : goal.returns-else-index
returns-else-index c =
    let pseudo : is_pseudo_legal c.args.p.now (Board c.in-Board.from c.in-Board.to c.in-Board.promote) ≡ true = subst (λ (m : Move). is_pseudo_legal c.args.p.now m ≡ true) c.in-Board.is c.requires in
    let ends = and_parts _ _ (and_parts _ _ (and_parts _ _ (and_parts _ _ pseudo).0).0).0 in
    let seen = board_seen c.args.p.now c.in-Board.from c.in-Board.to c.in-Board.promote c.reveal_invariant.ensures.cells_fit c.reveal_invariant-in-Board.ensures c.reveal_invariant-in-Board-2.ensures ends.0 c.own-theirs.result.bits c.except-among.result.bits c.occupied.result.bits c.except.result.bits c.with-occupied.result.bits
    (rw (c.opponent.ensures, c.side-2.ensures, c.as_board-board.ensures) at c.own-theirs.ensures.squares) (λ n h. c.except-among.ensures n) (rw c.as_board-board.ensures at c.occupied.ensures) (λ n h. c.except.ensures n) (λ n h. c.with-occupied.ensures n) in
    let found = (rw c.as_board-board.ensures at c.is_attacked_among-in-Board.ensures) (opponent_of c.args.p.now.side) (moved c.args.p.now c.in-Board.from c.in-Board.to c.in-Board.promote) seen in
    subst (λ (m : Move). not c.is_attacked_among-in-Board.result ≡ leaves_king_safe c.args.p.now m) (sym c.in-Board.is)
    (king_left c.args.p.now c.in-Board.from c.in-Board.to c.in-Board.promote c.reveal_invariant.ensures.cells_fit c.reveal_invariant-in-Board.ensures c.reveal_invariant-in-Board-2.ensures ends.0 c.in-Some.king c.is_attacked_among-in-Board.result c.reveal_invariant-2.ensures
    (λ e. c.if-index.false (c.index.ensures.index ∙ (sym e ∙ sym c.index-in-Board.ensures.index))) (rw c.side.ensures at c.in-Some.ensures.king) (rw c.side.ensures at c.in-Some.ensures.lone) (not-true _ ends.1) found)

pub returns-in-Drop : goal.returns-in-Drop
returns-in-Drop c =
    let pseudo : is_pseudo_legal c.args.p.now (Drop c.in-Drop.kind c.in-Drop.to) ≡ true = subst (λ (m : Move). is_pseudo_legal c.args.p.now m ≡ true) c.in-Drop.is c.requires in
    let bare = (and_parts _ _ (and_parts _ _ (and_parts _ _ pseudo).0).0).1 in
    let seen = drop_seen c.args.p.now c.in-Drop.kind c.in-Drop.to c.reveal_invariant.ensures.cells_fit c.reveal_invariant-in-Drop.ensures bare c.own-theirs.result.bits c.occupied-in-Drop.result.bits c.with-occupied-in-Drop.result.bits
    (rw (c.opponent.ensures, c.side-2.ensures, c.as_board-board.ensures) at c.own-theirs.ensures.squares) (rw c.as_board-board.ensures at c.occupied-in-Drop.ensures) (λ n h. c.with-occupied-in-Drop.ensures n) in
    subst (λ (m : Move). not c.is_attacked_among-in-Drop.result ≡ leaves_king_safe c.args.p.now m) (sym c.in-Drop.is)
    (king_left_by_drop c.args.p.now c.in-Drop.kind c.in-Drop.to c.reveal_invariant.ensures.cells_fit c.reveal_invariant-in-Drop.ensures bare c.in-Some.king c.is_attacked_among-in-Drop.result c.reveal_invariant-2.ensures (rw c.side.ensures at c.in-Some.ensures.king) (rw c.side.ensures at c.in-Some.ensures.lone)
    ((rw c.as_board-board.ensures at c.is_attacked_among-in-Drop.ensures) (opponent_of c.args.p.now.side) (with_drop c.args.p.now c.in-Drop.kind c.in-Drop.to) seen))
