use Rattle.std.proofs.Common.{refl, sym, ◌∙◌}
use Rattle.std.proofs.lemmas.Bool.{and_parts, and_from, false_from_ne_true, both_ways}
use Rattle.shogi_core.specs.Attack.{is_open_king, is_attacked, in_check}
use Rattle.shogi_core.specs.Bits.{has_bit}
use Rattle.shogi_core.specs.Pieces.{opponent_of}
use Rattle.shogi_core.proofs.Below.{some_below_at}
use Rattle.shogi_core.proofs.Pins.{pins_more, pins_last}
use Rattle.shogi_core.proofs.SeenLaws.{covers_less, covers_none}
use Rattle.shogi_core.proofs.board.Board.pinned.Goals as goal

pub returns-in-None-clause-checked : goal.returns-in-None-clause-checked
unfolding in_check
returns-in-None-clause-checked c = λ _. some_below_at 81 (is_open_king c.args.self.now c.args.side) c.in-Some.king c.in-Some.ensures.some.range
    (and_from _ _ (c.kings.invariant.mine c.in-Some.king c.in-Some.ensures.some.range c.in-Some.ensures.some.set) (c.in-None.ensures.attacked refl))

pub kings-preserved : goal.kings-preserved
kings-preserved c = record {
  covers = covers_less c.kings.left c.next.new.self c.in-Some.king (is_open_king c.args.self.now c.args.side) c.kings.invariant.covers
      (false_from_ne_true (is_open_king c.args.self.now c.args.side c.in-Some.king) (λ e. both_ways (is_attacked c.args.self.now (opponent_of c.args.side) c.in-Some.king) c.in-Some-pinned_pieces.ensures.safe ((and_parts _ _ e).1)))
      c.in-Some.ensures.some.rest;
  all = rw c.bitor-found.ensures (pins_more c.args.self.now c.args.side c.kings.left c.next.new.self c.kings.found.bits c.in-Some.king c.in-Some-pinned_pieces.more.bits c.kings.invariant.all c.in-Some.ensures.some.rest c.in-Some-pinned_pieces.ensures.all);
  mine = λ n h e. c.kings.invariant.mine n h ((and_parts (has_bit c.kings.left n) _ (sym (c.in-Some.ensures.some.rest n) ∙ e)).0);
}

pub returns-clause-unchecked : goal.returns-clause-unchecked
unfolding in_check
returns-clause-unchecked c = sym (covers_none c.kings.left (is_open_king c.args.self.now c.args.side) (c.in_default.ensures.none refl) c.kings.invariant.covers)

pub returns-clause-free : goal.returns-clause-free
unfolding in_check
returns-clause-free c = λ n h out own. pins_last c.args.self.now c.args.side c.kings.left c.kings.found.bits n (c.in_default.ensures.none refl) c.kings.invariant.all
    (sym (covers_none c.kings.left (is_open_king c.args.self.now c.args.side) (c.in_default.ensures.none refl) c.kings.invariant.covers)) h out own
