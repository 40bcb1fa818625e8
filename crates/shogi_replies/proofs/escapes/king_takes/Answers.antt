use Rattle.std.proofs.Common.{◌≡◌, ◌<◌, ◌∙◌, ℕ, Bool, true, false, ap, sym, subst, arith}
use Rattle.shogi_core.specs.declared.moves.Move.{Move}
use Rattle.shogi_core.specs.declared.moves.Move.TheVariants.{Board, Drop}
use Rattle.shogi_core.specs.declared.piece.Color.{Color}
use Rattle.shogi_core.specs.declared.piece.Kind.{Kind}
use Rattle.shogi_core.specs.Attack.{is_attacked}
use Rattle.shogi_core.specs.Cell.{is_king, HasNoOtherKing}
use Rattle.shogi_core.specs.Movement.{piece_at, reaches}
use Rattle.shogi_core.specs.Pieces.{opponent_of}
use Rattle.shogi_core.specs.Position.{Shogi}
use Rattle.shogi_core.specs.Validity.{IsValid}
use Rattle.shogi_moves.specs.Legal.{is_legal}
use Rattle.shogi_replies.specs.Escapes.{without_both}
use Rattle.shogi_replies.specs.Threats.{IsTaken}
use Rattle.shogi_replies.proofs.KingReplies.{taken_by_king, drop_taken_by_king, taken_reply}
use Rattle.shogi_replies.proofs.escapes.king_takes.Goals as goal

-- the king on k steps to `to`, which no piece of the mover attacks once k and `from` are empty
record IsUnprotected (p : Shogi) (side : Color) (from k to : ℕ) : Type 0 where
  is_side : side ≡ opponent_of p.side
  valid : IsValid p
  king_fits : k < 81
  fits : to < 81
  crown : is_king side (piece_at p.cells k) ≡ true
  lone : HasNoOtherKing p.cells side k
  reached : reaches p.cells k to ≡ true
  safe : is_attacked (without_both p.cells from k) p.side to ≡ false

board_taken : (p : Shogi) (m : Move) (side : Color) (from k to : ℕ) (promote : Bool) → m ≡ Board from to promote → from < 81 → IsUnprotected p side from k to → is_legal p m ≡ true → IsTaken p m
board_taken p m side from k to promote is hf h legal = subst (IsTaken p) (sym is) (record {
  taker = k;
  on_board = (h.king_fits, h.fits);
  takes = taken_by_king p from k to promote h.valid hf h.king_fits h.fits (subst (λ (color : Color). is_king color (piece_at p.cells k) ≡ true) h.is_side h.crown) (subst (λ (color : Color). HasNoOtherKing p.cells color k) h.is_side h.lone) h.reached h.safe (subst (λ (x : Move). is_legal p x ≡ true) is legal);
})

drop_taken : (p : Shogi) (m : Move) (side : Color) (k to : ℕ) (kind : Kind) → m ≡ Drop kind to → IsUnprotected p side to k to → IsTaken p m
drop_taken p m side k to kind is h = subst (IsTaken p) (sym is) (record {
  taker = k;
  on_board = (h.king_fits, h.fits);
  takes = drop_taken_by_king p kind k to h.valid h.king_fits h.fits (subst (λ (color : Color). is_king color (piece_at p.cells k) ≡ true) h.is_side h.crown) (subst (λ (color : Color). HasNoOtherKing p.cells color k) h.is_side h.lone) h.reached h.safe;
})

pub returns-in-Board-clause-taken : goal.returns-in-Board-clause-taken
returns-in-Board-clause-taken c = λ e. board_taken _ _ _ _ _ _ _ c.in-Board.is (omega arith) (record {
  is_side = c.opponent.ensures ∙ ap opponent_of c.side.ensures;
  valid = c.reveal_invariant.ensures;
  king_fits = omega arith;
  fits = omega arith;
  crown = c.in-Some.ensures.king;
  lone = c.in-Some.ensures.lone;
  reached = c.is_unprotected.ensures.reached e;
  safe = c.is_unprotected.ensures.safe e;
})

pub returns-in-Board-clause-answered : goal.returns-in-Board-clause-answered
returns-in-Board-clause-answered c = λ e legal. taken_reply _ _ (board_taken _ _ _ _ _ _ _ c.in-Board.is (omega arith) (record {
  is_side = c.opponent.ensures ∙ ap opponent_of c.side.ensures;
  valid = c.reveal_invariant.ensures;
  king_fits = omega arith;
  fits = omega arith;
  crown = c.in-Some.ensures.king;
  lone = c.in-Some.ensures.lone;
  reached = c.is_unprotected.ensures.reached e;
  safe = c.is_unprotected.ensures.safe e;
}) legal)

pub returns-in-Drop-clause-taken : goal.returns-in-Drop-clause-taken
returns-in-Drop-clause-taken c = λ e legal. drop_taken _ _ _ _ _ _ c.in-Drop.is (record {
  is_side = c.opponent.ensures ∙ ap opponent_of c.side.ensures;
  valid = c.reveal_invariant.ensures;
  king_fits = omega arith;
  fits = omega arith;
  crown = c.in-Some.ensures.king;
  lone = c.in-Some.ensures.lone;
  reached = c.is_unprotected-in-Drop.ensures.reached e;
  safe = c.is_unprotected-in-Drop.ensures.safe e;
})

pub returns-in-Drop-clause-answered : goal.returns-in-Drop-clause-answered
returns-in-Drop-clause-answered c = λ e legal. taken_reply _ _ (drop_taken _ _ _ _ _ _ c.in-Drop.is (record {
  is_side = c.opponent.ensures ∙ ap opponent_of c.side.ensures;
  valid = c.reveal_invariant.ensures;
  king_fits = omega arith;
  fits = omega arith;
  crown = c.in-Some.ensures.king;
  lone = c.in-Some.ensures.lone;
  reached = c.is_unprotected-in-Drop.ensures.reached e;
  safe = c.is_unprotected-in-Drop.ensures.safe e;
}))
