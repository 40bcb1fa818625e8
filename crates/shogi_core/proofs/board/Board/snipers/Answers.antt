use Rattle.std.proofs.Common.{sym, ◌∙◌}
use Rattle.std.proofs.lemmas.Bool.{and_parts}
use Rattle.shogi_core.proofs.Snipers.{snipes_more}
use Rattle.shogi_core.proofs.board.Board.snipers.Goals as goal

pub kings-preserved : goal.kings-preserved
kings-preserved c = record {
  all = rw c.bitor-found.ensures (snipes_more c.args.self.now c.args.side c.kings.left c.next.new.self c.kings.found.bits c.in-Some.king c.sniper_squares.result.bits c.kings.invariant.all c.in-Some.ensures.some.range
      (c.kings.invariant.kings c.in-Some.king c.in-Some.ensures.some.range c.in-Some.ensures.some.set) c.in-Some.ensures.some.rest (rw c.opponent.ensures at c.sniper_squares.ensures.squares));
  kings = λ n h e. c.kings.invariant.kings n h ((and_parts _ _ (sym (c.in-Some.ensures.some.rest n) ∙ e)).0);
}
