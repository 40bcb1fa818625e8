use Rattle.std.proofs.Common.{◌≡◌, ◌∙◌, ◌++◌, ◌+◌, ◌%◌, arith, get_or, refl, sym, take}
use Rattle.std.proofs.lemmas.List.{length-set}
use Rattle.shogi_core.specs.Position.{place_of}
use Rattle.shogi_core.specs.declared.piece.Kind.TheVariants.{Pawn}
use Rattle.shogi_core.specs.declared.piece.TheConstants.{KINDS}
use Rattle.shared_table.specs.Packed.{digits_in_base_32}
use Rattle.shared_table.proofs.PlaceLaws.{counts_end, counts_step, place_at, place_fits}
use Rattle.shared_table.proofs.packing.with_counts.Goals as goal

pub loop-number-init : goal.loop-number-init
loop-number-init c =
    let first : place_of c.args.color Pawn + 0 ≡ place_of c.args.color Pawn = omega arith in
    record { made = rw first refl; all = c.requires }

pub loop-number-preserved : goal.loop-number-preserved
loop-number-preserved c =
    let place : place_of c.args.color (get_or KINDS c.loop-number.number Pawn) ≡ place_of c.args.color Pawn + c.loop-number.number = place_at c.args.color c.loop-number.number c.loop-number-test.true in
    let fits = place_fits c.args.color c.loop-number.number c.loop-number-test.true in
    let step = counts_step c.loop-number.counted (place_of c.args.color Pawn) c.loop-number.number c.loop-number.rest
    (take (place_of c.args.color Pawn) c.args.hands ++ digits_in_base_32 7 c.args.word) c.loop-number-test.true (omega (arith, fits)) c.loop-number.invariant.made in
    record {
      made = rw (c.with-counted.ensures, place) step;
      all = rw c.with-counted.ensures
          (length-set c.loop-number.counted (place_of c.args.color (get_or KINDS c.loop-number.number Pawn)) (c.loop-number.rest % 32) ∙ c.loop-number.invariant.all);
    }

pub returns : goal.returns
returns c =
    let same : c.loop-number.number ≡ 7 = omega arith in
    record {
      counts = sym (counts_end c.loop-number.counted (place_of c.args.color Pawn + 7) c.loop-number.rest) ∙ (rw same at c.loop-number.invariant.made);
      length = c.loop-number.invariant.all;
    }
