use Rattle.std.proofs.Common.{◌∙◌, sym, arith}
use Rattle.shogi_core.proofs.PawnFiles.{its_file, its_file_fits, no_file}
use Rattle.shogi_core.proofs.zones.pawn_file.Goals as goal
use Rattle.shogi_core.proofs.zones.pawn_file.Goals.{then-is_pawn, else-is_pawn}

pub invariant_of-result : goal.invariant_of-result
invariant_of-result c = record {
  fits = elim c.if-is_pawn.branch [
    | then-is_pawn w ↦ rw w.result-is (its_file_fits w.index.result w.index.ensures.range)
    | else-is_pawn w ↦ rw w.result-is (omega arith)
  ];
}

pub returns : goal.returns
returns c = λ n h. elim c.if-is_pawn.branch [
  | then-is_pawn w ↦ rw (w.result-is, w.index.ensures.index) (its_file _ c.args.square n (rw c.at.ensures at (sym c.is_pawn.ensures ∙ w.if-is_pawn.true)) (rw w.index.ensures.index at w.index.ensures.range) h)
  | else-is_pawn w ↦ rw w.result-is (no_file _ n _ (rw c.at.ensures at (sym c.is_pawn.ensures ∙ w.if-is_pawn.false)))
]
