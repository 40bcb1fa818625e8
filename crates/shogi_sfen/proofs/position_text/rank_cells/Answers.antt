use Rattle.std.proofs.Common.{◌≡◌, ◌∙◌, ◌+◌, ◌-◌, ◌*◌, ◌∷◌, [], ◌++◌, ℕ, ap, sym, arith, length, Option}
use Rattle.std.specs.Prelude.{map}
use Rattle.std.specs.List.{range_with_len}
use Rattle.std.proofs.lemmas.List.FromFn.{map-range_with_len_more}
use Rattle.shogi_core.specs.Movement.{Cells, piece_at}
use Rattle.shogi_core.specs.declared.piece.Piece.{Piece}
use Rattle.shogi_sfen.proofs.position_text.rank_cells.Goals as goal

pub loop-i-preserved : goal.loop-i-preserved
loop-i-preserved c =
    let f : ℕ → Option Piece = λ (i : ℕ). piece_at c.args.board.now ((8 - i) * 9 + c.args.rank) in
    let item : c.at.result ≡ f c.loop-i.i = c.at.ensures ∙ ap (λ (s : ℕ). piece_at c.args.board.now s) c.of_index.ensures in
    let len : length c.loop-i.cells.items ≡ c.loop-i.i = c.loop-i.invariant.len in
    record {
      value = c.push.ensures.items ∙ (ap (λ (cells : Cells). cells ++ c.at.result ∷ []) c.loop-i.invariant.value ∙ (ap (λ (x : Option Piece). map f (range_with_len 0 c.loop-i.i) ++ x ∷ []) item ∙ sym (map-range_with_len_more f 0 c.loop-i.i c.loop-i.i (omega arith))));
      len = c.push.ensures.len ∙ omega arith;
    }
