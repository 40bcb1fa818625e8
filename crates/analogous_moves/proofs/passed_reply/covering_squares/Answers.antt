use Rattle.std.proofs.Common.{ap, sym, ◌∙◌}
use Rattle.shogi_core.specs.Bits.{has_bit}
use Rattle.shogi_core.specs.declared.squares.Squares.{Squares}
use Rattle.std.proofs.lemmas.Bool.{both_ways}
use Rattle.shogi_core.proofs.Sifting.{still_left}
use Rattle.analogous_moves.proofs.Sets.{covers_next, has_bit-all, off_closing}
use Rattle.analogous_moves.proofs.passed_reply.covering_squares.Goals.{then-quiet_only, else-quiet_only}
use Rattle.analogous_moves.proofs.passed_reply.covering_squares.Goals as goal

pub squares-init : goal.squares-init
squares-init c = rw (c.iter-left.ensures, c.all-covered.ensures) (record {
  among = λ n on. on;
  leaves = λ n h out. absurd (both_ways _ out (has_bit-all n h));
})

pub squares-preserved : goal.squares-preserved
squares-preserved c = rw c.bitand-covered.ensures (record {
  among = λ n on. c.squares.invariant.among n (still_left c.squares.left c.next.new.self c.in-Some.to n c.in-Some.ensures.some.rest on);
  leaves = covers_next c.args.quiet_only c.args.board.now c.args.piece c.args.squares.bits c.squares.covered.bits c.targets_of-targets.result.bits c.if-quiet_only.closing.bits c.in-Some.to c.squares.invariant.leaves c.in-Some.ensures.some.range (c.squares.invariant.among c.in-Some.to c.in-Some.ensures.some.set) (rw c.opponent.ensures at c.targets_of-targets.ensures.squares)
      (elim c.if-quiet_only.branch [
        | then-quiet_only w ↦ λ n out. off_closing c.args.quiet_only c.targets_of-targets.result.bits w.with-closing.result.bits c.in-Some.to n w.with-closing.ensures (ap (λ (s : Squares). has_bit s.bits n) (sym w.closing-is) ∙ out)
        | else-quiet_only w ↦ λ n out. (ap (λ (s : Squares). has_bit s.bits n) (sym w.closing-is) ∙ out, λ only. absurd (both_ways c.args.quiet_only w.if-quiet_only.false only))
      ]);
})
