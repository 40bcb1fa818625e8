use Rattle.std.proofs.Common.{◌≡◌, ◌<◌, ◌⊎◌, ◌∙◌, ℕ, Bool, true, false, ap, inl, inr, sym, subst, arith}
use Rattle.std.proofs.lemmas.Bool.{not-true}
use Rattle.shogi_core.specs.declared.moves.Move.{Move}
use Rattle.shogi_core.specs.declared.moves.Move.TheVariants.{Board}
use Rattle.shogi_core.specs.Bits.{has_bit}
use Rattle.shogi_core.specs.Pieces.{opponent_of}
use Rattle.shogi_core.specs.Position.{Shogi}
use Rattle.shogi_core.specs.Validity.{IsValid}
use Rattle.shogi_moves.specs.Legal.{is_legal}
use Rattle.shogi_replies.specs.ReplyInfo.{Sees, StaysCovered}
use Rattle.shogi_replies.specs.Threats.{MayRetake}
use Rattle.shogi_replies.proofs.ReplyLaws.{legal_own, shut_lifted}
use Rattle.shogi_replies.proofs.ThreatLaws.{retake_board, retake_drop}
use Rattle.shogi_replies.proofs.replies.KnownReplies.discovers_no_check.Goals as goal

board_retaken : (p : Shogi) (m : Move) (from to king_view : ℕ) (promote : Bool) → m ≡ Board from to promote → IsValid p → Sees p.cells (opponent_of p.side) 0 king_view → from < 81 → to < 81 → is_legal p m ≡ true → (has_bit king_view from ≡ false) ⊎ StaysCovered p.cells (opponent_of p.side) from → MayRetake p m
board_retaken p m from to king_view promote is v sees hf ht legal covered =
    let legally : is_legal p (Board from to promote) ≡ true = subst (λ (x : Move). is_legal p x ≡ true) is legal in
    subst (MayRetake p) (sym is) (retake_board p from to promote v hf ht legally (shut_lifted p from to v hf (legal_own p from to promote legally) king_view sees covered))

pub returns-then-not-has : goal.returns-then-not-has
returns-then-not-has c = λ e.
    board_retaken _ _ _ _ _ _ c.in-Board.is c.reveal_invariant.ensures c.args.self.now.right.sees (omega arith) (omega arith) c.requires.legal
    (inl (sym c.has.ensures ∙ not-true _ e))

pub returns-else-not-has : goal.returns-else-not-has
returns-else-not-has c = λ e.
    board_retaken _ _ _ _ _ _ c.in-Board.is c.reveal_invariant.ensures c.args.self.now.right.sees (omega arith) (omega arith) c.requires.legal
    (inr (subst (λ (side : _). StaysCovered c.args.self.now.position.now.cells side c.in-Board.from) (c.opponent.ensures ∙ ap opponent_of c.side.ensures) (c.may_discover_check.ensures (not-true _ e))))

pub returns-in-Drop : goal.returns-in-Drop
returns-in-Drop c = λ e. subst (MayRetake c.args.self.now.position.now) (sym c.in-Drop.is)
    (retake_drop c.args.self.now.position.now c.in-Drop.kind c.in-Drop.to c.reveal_invariant.ensures (omega arith))
