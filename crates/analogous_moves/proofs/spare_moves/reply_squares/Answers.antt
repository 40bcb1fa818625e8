use Rattle.std.proofs.Common.{ℕ, ap, sym, ◌∙◌, inl, inr}
use Rattle.std.specs.Prelude.{◌==◌}
use Rattle.std.proofs.lemmas.Bool.{and_parts, both_ways, eqb-true, or_cases}
use Rattle.shogi_core.specs.Bits.{has_bit}
use Rattle.shogi_core.specs.declared.squares.Squares.{Squares}
use Rattle.shogi_core.proofs.BitLaws.{has_bit-and}
use Rattle.analogous_moves.proofs.spare_moves.reply_squares.Goals.{then-quiet_only, else-quiet_only}
use Rattle.analogous_moves.proofs.spare_moves.reply_squares.Goals as goal

pub returns-then-has_spare_moves : goal.returns-then-has_spare_moves
returns-then-has_spare_moves c = λ n h bit no nor. elim (or_cases (has_bit c.if-quiet_only.squares.bits n) (n == c.args.king) (sym (c.with.ensures n) ∙ bit)) [
  | inl on ↦ no (elim c.if-quiet_only.branch [
    | then-quiet_only w ↦ (
        let both = and_parts (has_bit c.escape_squares-escapes.result.bits n) (has_bit w.free.result.bits n) (sym (has_bit-and c.escape_squares-escapes.result.bits w.free.result.bits n) ∙ (ap (λ (m : ℕ). has_bit m n) (sym w.bitand-squares.ensures) ∙ (ap (λ (s : Squares). has_bit s.bits n) (sym w.squares-is) ∙ on))) in
        record {
          escape = c.escape_squares-escapes.ensures c.args.king n c.reveal_invariant.ensures c.requires.crown h both.0;
          bare = λ only. sym ((rw w.as_board.ensures at w.free.ensures.squares) n h) ∙ both.1;
        })
    | else-quiet_only w ↦ record {
      escape = c.escape_squares-escapes.ensures c.args.king n c.reveal_invariant.ensures c.requires.crown h (ap (λ (s : Squares). has_bit s.bits n) (sym w.squares-is) ∙ on);
      bare = λ only. absurd (both_ways c.args.quiet_only w.if-quiet_only.false only);
    }
  ])
  | inr at ↦ nor (eqb-true n c.args.king at, c.has_spare_moves.ensures c.if-has_spare_moves.true)
]

pub returns : goal.returns
returns c = λ n h bit no nor. no (elim c.if-quiet_only.branch [
  | then-quiet_only w ↦ (
      let both = and_parts (has_bit c.escape_squares-escapes.result.bits n) (has_bit w.free.result.bits n) (sym (has_bit-and c.escape_squares-escapes.result.bits w.free.result.bits n) ∙ (ap (λ (m : ℕ). has_bit m n) (sym w.bitand-squares.ensures) ∙ (ap (λ (s : Squares). has_bit s.bits n) (sym w.squares-is) ∙ bit))) in
      record {
        escape = c.escape_squares-escapes.ensures c.args.king n c.reveal_invariant.ensures c.requires.crown h both.0;
        bare = λ only. sym ((rw w.as_board.ensures at w.free.ensures.squares) n h) ∙ both.1;
      })
  | else-quiet_only w ↦ record {
    escape = c.escape_squares-escapes.ensures c.args.king n c.reveal_invariant.ensures c.requires.crown h (ap (λ (s : Squares). has_bit s.bits n) (sym w.squares-is) ∙ bit);
    bare = λ only. absurd (both_ways c.args.quiet_only w.if-quiet_only.false only);
  }
])
