use Rattle.std.proofs.Common.{refl}
use Rattle.shogi_replies.proofs.DiscoverLaws.{no_king_checked, told_safe}
use Rattle.shogi_replies.proofs.replies.discovers_check.Goals as goal

pub returns-in-None : goal.returns-in-None
returns-in-None c = λ unfound. no_king_checked c.args.p.now c.args.from c.args.to c.reveal_invariant.ensures c.reveal_invariant-2.ensures c.reveal_invariant-3.ensures ((rw (c.opponent.ensures, c.side.ensures) at c.in-None.ensures.if_none) refl)

pub returns-in-Some : goal.returns-in-Some
returns-in-Some c = told_safe c.args.p.now c.args.from c.args.to c.in-Some.king c.is_attacked_among.result c.own.result.bits c.except-others.result.bits c.occupied.result.bits c.except.result.bits c.with-occupied.result.bits c.reveal_invariant.ensures c.reveal_invariant-2.ensures c.reveal_invariant-3.ensures c.reveal_invariant-in-Some.ensures
    (rw (c.opponent.ensures, c.side.ensures) at c.in-Some.ensures.king) (rw (c.opponent.ensures, c.side.ensures) at c.in-Some.ensures.lone)
    (rw (c.side-in-Some.ensures, c.as_board-board.ensures) at c.own.ensures.squares) c.except-others.ensures
    (rw c.as_board-board.ensures at c.occupied.ensures) c.except.ensures c.with-occupied.ensures
    (rw c.as_board-board.ensures at c.is_attacked_among.ensures)
