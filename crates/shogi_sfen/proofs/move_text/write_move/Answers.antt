use Rattle.shogi_sfen.proofs.TextsFound.{move_of_text-coded}
use Rattle.shogi_sfen.proofs.move_text.write_move.Goals as goal

pub returns-then-promote-clause-back : goal.returns-then-promote-clause-back
returns-then-promote-clause-back c = move_of_text-coded c.args.m _ c.reveal_invariant.ensures.range c.reveal_invariant.ensures.back

pub returns-else-promote-clause-back : goal.returns-else-promote-clause-back
returns-else-promote-clause-back c = move_of_text-coded c.args.m _ c.reveal_invariant.ensures.range c.reveal_invariant.ensures.back

pub returns-in-Drop-clause-back : goal.returns-in-Drop-clause-back
returns-in-Drop-clause-back c = move_of_text-coded c.args.m _ c.reveal_invariant.ensures.range c.reveal_invariant.ensures.back
