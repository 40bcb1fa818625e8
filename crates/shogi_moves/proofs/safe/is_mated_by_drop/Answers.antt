use Rattle.std.proofs.Common.{◌≡◌, ◌∙◌, sym, refl, true, inl, inr}
use Rattle.std.proofs.lemmas.Bool.{cases_eq, ne_eqb, eq-eqb}
use Rattle.shogi_core.specs.Attack.{in_check}
use Rattle.shogi_moves.proofs.ExistenceLaws.{safe_from_legal, pawn_safe, none_safe}
use Rattle.shogi_moves.proofs.safe.is_mated_by_drop.Goals as goal

pub returns-then-has_king_move : goal.returns-then-has_king_move
returns-then-has_king_move c = rw (sym c.in_check.ensures ∙ c.if-not-in_check.false, safe_from_legal c.args.p.now (c.has_king_move.ensures c.if-has_king_move.true)) refl

pub returns-else-not-has_other_move : goal.returns-else-not-has_other_move
returns-else-not-has_other_move c = rw (sym c.in_check.ensures ∙ c.if-not-in_check.false, safe_from_legal c.args.p.now ((rw c.at-known.ensures at c.has_other_move.ensures.some) c.if-not-has_other_move.false), c.if-not-has_other_move.false) refl

pub returns-then-not-has_other_move : goal.returns-then-not-has_other_move
returns-then-not-has_other_move c =
    let check : in_check c.args.p.now.cells c.args.p.now.side ≡ true = sym c.in_check.ensures ∙ c.if-not-in_check.false in
    elim (cases_eq c.safe.result.bits 0) [
      | inl none ↦ rw (c.is_empty.ensures, eq-eqb c.safe.result.bits 0 none, check, none_safe c.args.p.now c.safe.result.bits ((rw c.at-known.ensures at c.has_other_move.ensures.board) c.if-not-has_other_move.true) ((rw c.at-known.ensures at c.has_other_move.ensures.drops) c.if-not-has_other_move.true) (rw (c.drops.ensures, c.at-known.ensures) at c.safe.ensures.squares) none) refl
      | inr some ↦ rw (c.is_empty.ensures, ne_eqb c.safe.result.bits 0 some, check, pawn_safe c.args.p.now c.safe.result.bits c.safe.result.fits (rw (c.drops.ensures, c.at-known.ensures) at c.safe.ensures.squares) some) refl
    ]
