use Rattle.std.proofs.Common.{◌≡◌, ◌+◌, ◌*◌, ◌∙◌, arith, ap}
use Rattle.shogi_core.specs.declared.moves.TheConstants.{FIRST_DROP}
use Rattle.shogi_core.specs.Pieces.{kind_number}
use Rattle.shogi_moves.specs.LegalMoves.{legal_from}
use Rattle.shogi_moves.proofs.DestinationLaws.{legal_other, none_there, some_there}
use Rattle.shogi_moves.proofs.ExistenceLaws.{kind_with, kind_without, not_pawn}
use Rattle.shogi_moves.proofs.LegalLaws.{legal_from_end}
use Rattle.shogi_moves.proofs.drops.KnownDrops.has_piece.Goals as goal

pub kinds-preserved : goal.kinds-preserved
kinds-preserved c =
    let next : kind_number c.in-Some.next ≡ kind_number c.kinds.kind + 1 = c.in-Some.ensures in
    let here : FIRST_DROP + 81 + kind_number c.kinds.kind * 81 ≡ FIRST_DROP + kind_number c.in-Some.next * 81 = omega arith in
    c.kinds.invariant ∙ (ap (legal_from c.args.self.now.position.now) here ∙ kind_without c.args.self.now.position.now c.in-Some.next c.safe.result.bits (λ n h. legal_other c.args.self.now.position.now c.in-Some.next c.safe.result.bits n h (not_pawn c.in-Some.next (omega (arith, c.in-Some.ensures))) (c.safe.ensures.squares n h)) (none_there _ _ c.is_empty.ensures c.if-not-is_empty.false))

pub returns-then-not-is_empty-clause-some : goal.returns-then-not-is_empty-clause-some
returns-then-not-is_empty-clause-some c = λ _. kind_with c.args.self.now.position.now c.in-Some.next c.safe.result.bits c.safe.result.fits (λ n h. legal_other c.args.self.now.position.now c.in-Some.next c.safe.result.bits n h (not_pawn c.in-Some.next (omega (arith, c.in-Some.ensures))) (c.safe.ensures.squares n h)) (some_there _ _ c.is_empty.ensures c.if-not-is_empty.true)

pub returns-clause-if_none : goal.returns-clause-if_none
returns-clause-if_none c = λ _. (
    let last : kind_number c.kinds.kind ≡ 6 = c.in_default.ensures in
    c.kinds.invariant ∙ legal_from_end c.args.self.now.position.now (FIRST_DROP + 81 + kind_number c.kinds.kind * 81) (omega arith))
