use Rattle.shogi_core.proofs.MaskLaws.{has_bit-places, places_fit}
use Rattle.shogi_core.specs.Cell.{is_piece_of}
use Rattle.shogi_core.specs.declared.piece.Color.TheVariants.{Black, White}
use Rattle.shogi_core.proofs.board.Board.own.Goals as goal
use Rattle.shogi_core.proofs.board.Board.own.Goals.{in-Black, in-White}

pub invariant_of-result : goal.invariant_of-result
invariant_of-result c = record {
  fits = elim c.match-color.branch [
    | in-Black w ↦ rw (w.result-is, c.self.invariant.1) (places_fit (is_piece_of Black) c.self.inside.cells)
    | in-White w ↦ rw (w.result-is, c.self.invariant.2) (places_fit (is_piece_of White) c.self.inside.cells)
  ];
}

pub returns-clause-mask : goal.returns-clause-mask
returns-clause-mask c = elim c.match-color.branch [
  | in-Black w ↦ rw (w.result-is, w.in-Black.is, ← c.self.view_is) c.self.invariant.1
  | in-White w ↦ rw (w.result-is, w.in-White.is, ← c.self.view_is) c.self.invariant.2
]

pub returns-clause-squares : goal.returns-clause-squares
returns-clause-squares c = λ n h. elim c.match-color.branch [
  | in-Black w ↦ rw (w.result-is, w.in-Black.is, c.self.invariant.1, ← c.self.view_is) (has_bit-places (is_piece_of Black) c.self.inside.cells n h)
  | in-White w ↦ rw (w.result-is, w.in-White.is, c.self.invariant.2, ← c.self.view_is) (has_bit-places (is_piece_of White) c.self.inside.cells n h)
]
