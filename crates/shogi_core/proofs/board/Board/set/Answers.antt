use Rattle.std.proofs.Common.{rules, length-set, ◌∙◌, refl}
use Rattle.shogi_core.specs.Cell.{is_piece_of, is_slider}
use Rattle.shogi_core.specs.Masks.{is_any_king}
use Rattle.shogi_core.specs.declared.piece.Color.TheVariants.{Black, White}
use Rattle.shogi_core.proofs.MaskLaws.{places_put}
use Rattle.shogi_core.proofs.WordLaws.{words_fit, words_have, words_put}
use Rattle.shogi_core.proofs.board.Board.set.Goals as goal

pub invariant_of-self : goal.invariant_of-self
invariant_of-self c =
    let cells = c.self.inside.cells in
    let s = c.args.square in
    let low = rw c.index-index.ensures.index at c.index-index.ensures.range in
    let len = c.self.invariant.0 in rw c.index-index.ensures.index (
      length-set cells s c.args.piece ∙ len,
      places_put (is_piece_of Black) c.marked-self-inside.result s cells c.args.piece len low (search rules) (λ n. c.marked-self-inside.ensures n ∙ rw (c.is_piece_of.ensures, c.self.invariant.1) refl),
      places_put (is_piece_of White) c.marked-self-inside-2.result s cells c.args.piece len low (search rules) (λ n. c.marked-self-inside-2.ensures n ∙ rw (c.is_piece_of-2.ensures, c.self.invariant.2) refl),
      places_put is_any_king c.marked-self-inside-3.result s cells c.args.piece len low (search rules) (λ n. c.marked-self-inside-3.ensures n ∙ rw (c.is_any_king.ensures, c.self.invariant.3) refl),
      places_put is_slider c.marked-self-inside-4.result s cells c.args.piece len low (search rules) (λ n. c.marked-self-inside-4.ensures n ∙ rw (c.is_slider.ensures, c.self.invariant.4) refl),
      rw c.self.invariant.5 (words_put cells s c.args.piece c.with_digit.result len low
          (rw (c.cell_number.ensures.number, c.cell_number-2.ensures.number, c.self.invariant.5, c.index-index.ensures.index) at c.with_digit.ensures)),
    )

pub with_digit-requires-clause-word : goal.with_digit-requires-clause-word
with_digit-requires-clause-word c = rw c.self.invariant.5 (words_fit c.self.inside.cells c.index-index.result c.self.invariant.0 c.index-index.ensures.range)

pub with_digit-requires-clause-there : goal.with_digit-requires-clause-there
with_digit-requires-clause-there c =
    rw (c.cell_number.ensures.number, c.self.invariant.5) (words_have c.self.inside.cells c.index-index.result c.self.invariant.0 c.index-index.ensures.range)
