use Rattle.std.proofs.Common.{◌≡◌, ◌≢◌, ◌∙◌, [], true, arith, sym, subst, ap}
use Rattle.std.proofs.lemmas.Bool.{not-true}
use Rattle.shogi_core.specs.declared.moves.Move.{Move}
use Rattle.shogi_core.specs.Pieces.{opponent_of}
use Rattle.shogi_moves.specs.After.{after, dropped}
use Rattle.shogi_replies.specs.ReplyInfo.{IsHarmless}
use Rattle.shogi_replies.specs.Threats.{KeepsThreats, MayRetake}
use Rattle.shogi_moves.specs.Legal.{is_legal}
use Rattle.shogi_replies.specs.ReplyInfo.{quiet_codes}
use Rattle.shogi_moves.proofs.DestinationLaws.{some_there}
use Rattle.shogi_replies.proofs.ReplyLaws.{guaranteed_board, guaranteed_drop, shut_drop}
use Rattle.shogi_replies.proofs.ThreatLaws.{threat_board, threat_drop, retake_drop, retake_unchecked}
use Rattle.shogi_replies.proofs.replies.KnownReplies.guarantees_reply.Goals as goal

pub returns-else-discovers-clause-replied : goal.returns-else-discovers-clause-replied
returns-else-discovers-clause-replied c = λ e. subst (λ (m : Move). quiet_codes (after c.args.self.now.position.now m) ≢ []) (sym c.in-Board.is)
    (guaranteed_board c.args.self.now.position.now c.in-Board.from c.in-Board.to c.in-Board.promote c.args.self.now.info.king_view.bits c.args.self.now.info.free_movers.bits c.except.result.bits c.reveal_invariant.ensures c.args.self.now.right c.except.result.fits (omega arith) (omega arith)
    (subst (λ (m : Move). is_legal c.args.self.now.position.now m ≡ true) c.in-Board.is c.requires.legal) (c.discovers.ensures c.if-discovers.false c.in-Board.promote (rw (← c.at.ensures, ← c.piece_moved.ensures) (c.is_harmless.ensures c.if-not-is_harmless.false)) (subst (λ (m : Move). is_legal c.args.self.now.position.now m ≡ true) c.in-Board.is c.requires.legal)) c.except.ensures (some_there _ _ c.is_empty.ensures (not-true _ e)))

pub returns-else-not-is_harmless-2-clause-replied : goal.returns-else-not-is_harmless-2-clause-replied
returns-else-not-is_harmless-2-clause-replied c = λ e. subst (λ (m : Move). quiet_codes (after c.args.self.now.position.now m) ≢ []) (sym c.in-Drop.is)
    (guaranteed_drop c.args.self.now.position.now c.in-Drop.kind c.in-Drop.to c.args.self.now.info.king_view.bits c.args.self.now.info.free_movers.bits c.except-in-Drop.result.bits c.reveal_invariant.ensures c.args.self.now.right c.except-in-Drop.result.fits (omega arith)
    (subst (λ cell. IsHarmless c.args.self.now.position.now.cells (opponent_of c.args.self.now.position.now.side) cell c.in-Drop.to) (c.dropped.ensures ∙ ap (λ side. dropped side c.in-Drop.kind) c.side.ensures) (c.is_harmless-in-Drop.ensures c.if-not-is_harmless-2.false)) c.except-in-Drop.ensures (some_there _ _ c.is_empty-in-Drop.ensures (not-true _ e)))

pub returns-else-discovers-clause-threats : goal.returns-else-discovers-clause-threats
returns-else-discovers-clause-threats c = λ e. subst (KeepsThreats c.args.self.now.position.now) (sym c.in-Board.is)
    (threat_board c.args.self.now.position.now c.in-Board.from c.in-Board.to c.in-Board.promote c.reveal_invariant.ensures (omega arith) (omega arith) (subst (λ (m : Move). is_legal c.args.self.now.position.now m ≡ true) c.in-Board.is c.requires.legal) (c.discovers.ensures c.if-discovers.false c.in-Board.promote (rw (← c.at.ensures, ← c.piece_moved.ensures) (c.is_harmless.ensures c.if-not-is_harmless.false)) (subst (λ (m : Move). is_legal c.args.self.now.position.now m ≡ true) c.in-Board.is c.requires.legal)))

pub returns-else-not-is_harmless-2-clause-threats : goal.returns-else-not-is_harmless-2-clause-threats
returns-else-not-is_harmless-2-clause-threats c = λ e. subst (KeepsThreats c.args.self.now.position.now) (sym c.in-Drop.is)
    (threat_drop c.args.self.now.position.now c.in-Drop.kind c.in-Drop.to c.reveal_invariant.ensures (omega arith)
    (shut_drop c.args.self.now.position.now c.in-Drop.kind c.in-Drop.to c.reveal_invariant.ensures (omega arith) (subst (λ cell. IsHarmless c.args.self.now.position.now.cells (opponent_of c.args.self.now.position.now.side) cell c.in-Drop.to) (c.dropped.ensures ∙ ap (λ side. dropped side c.in-Drop.kind) c.side.ensures) (c.is_harmless-in-Drop.ensures c.if-not-is_harmless-2.false))))

pub returns-else-discovers-clause-retakes : goal.returns-else-discovers-clause-retakes
returns-else-discovers-clause-retakes c = λ e. subst (MayRetake c.args.self.now.position.now) (sym c.in-Board.is)
    (retake_unchecked c.args.self.now.position.now c.in-Board.from c.in-Board.to c.in-Board.promote c.reveal_invariant.ensures (omega arith) (omega arith) (subst (λ (m : Move). is_legal c.args.self.now.position.now m ≡ true) c.in-Board.is c.requires.legal) (c.discovers.ensures c.if-discovers.false c.in-Board.promote (rw (← c.at.ensures, ← c.piece_moved.ensures) (c.is_harmless.ensures c.if-not-is_harmless.false)) (subst (λ (m : Move). is_legal c.args.self.now.position.now m ≡ true) c.in-Board.is c.requires.legal)))

pub returns-else-not-is_harmless-2-clause-retakes : goal.returns-else-not-is_harmless-2-clause-retakes
returns-else-not-is_harmless-2-clause-retakes c = λ e. subst (MayRetake c.args.self.now.position.now) (sym c.in-Drop.is)
    (retake_drop c.args.self.now.position.now c.in-Drop.kind c.in-Drop.to c.reveal_invariant.ensures (omega arith))
