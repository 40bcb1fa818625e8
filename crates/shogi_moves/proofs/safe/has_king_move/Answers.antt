use Rattle.std.proofs.Common.{rules, ◌≡◌, true, false}
use Rattle.shogi_core.specs.declared.moves.Move.TheVariants.{Board}
use Rattle.shogi_moves.specs.Destinations.{leaves_king_safe, AreEnterable}
use Rattle.shogi_moves.proofs.ExistenceLaws.{king_move, king_ways}
use Rattle.shogi_moves.proofs.safe.has_king_move.Goals as goal

pub returns : goal.returns
returns c = λ _.
    let safe : leaves_king_safe c.args.p.now (Board c.in-Some.from c.in-Some-find.to false) ≡ true = search rules in
    let ways : AreEnterable c.args.p.now c.in-Some.from c.without-destinations.result.bits = rw c.without-destinations.ensures (king_ways c.args.p.now c.in-Some.from c.targets.result.bits c.own.result.bits c.own.result.fits (rw c.as_board-board.ensures at c.targets.ensures.squares) (rw (c.side-2.ensures, c.as_board-board.ensures) at c.own.ensures.squares)) in
    king_move c.args.p.now c.in-Some.from c.in-Some-find.to c.reveal_invariant-2.ensures c.reveal_invariant-3.ensures (rw c.side.ensures at c.in-Some.ensures.king) (ways c.in-Some-find.to c.reveal_invariant-3.ensures c.in-Some-find.ensures.among) safe
