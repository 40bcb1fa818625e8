use Rattle.std.proofs.Common.{◌≡◌, ◌+◌, ◌-◌, ◌*◌, ◌<◌, ◌^◌, arith, drop, map, subst, ℕ}
use Rattle.shogi_core.specs.Words.{cell_number, number_in_base_32}
use Rattle.shogi_core.proofs.WordLaws.{word_room, word_start, word_step}
use Rattle.shogi_core.proofs.words.cells_word.Goals as goal

pub loop-at-init : goal.loop-at-init
loop-at-init c = record { word = word_start c.args.cells.now; at = omega arith }

pub overflow_mul-word : goal.overflow_mul-word
overflow_mul-word c =
    let room : 32 * c.loop-at.word + 0 < 2 ^ 64 = word_room c.args.cells.now c.loop-at.at c.loop-at.word 0 (omega arith) (omega arith) (omega arith) (omega arith) c.loop-at.invariant.word in
    omega arith

pub overflow_add-word : goal.overflow_add-word
overflow_add-word c =
    let room : 32 * c.loop-at.word + c.cell_number.result < 2 ^ 64 = word_room c.args.cells.now c.loop-at.at c.loop-at.word c.cell_number.result (omega arith) (omega arith) (omega arith) (omega arith) c.loop-at.invariant.word in
    omega arith

pub loop-at-preserved : goal.loop-at-preserved
loop-at-preserved c =
    let next : c.loop-at.at ≡ c.loop-at.at - 1 + 1 = omega arith in
    record {
      word = word_step c.args.cells.now (c.loop-at.at - 1) c.loop-at.word c.cell_number.result (omega arith)
          (subst (λ (at : ℕ). c.loop-at.word ≡ number_in_base_32 (map cell_number (drop at c.args.cells.now))) next c.loop-at.invariant.word) c.cell_number.ensures.number;
      at = omega arith;
    }
