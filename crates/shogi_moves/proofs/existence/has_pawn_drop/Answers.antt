use Rattle.std.proofs.lemmas.Bool.{not-false, not-true}
use Rattle.shogi_core.specs.declared.piece.Kind.TheVariants as kinds
use Rattle.shogi_moves.proofs.DestinationLaws.{none_there, some_there}
use Rattle.shogi_moves.proofs.ExistenceLaws.{kind_with, kind_without}
use Rattle.shogi_moves.proofs.existence.has_pawn_drop.Goals as goal

pub returns-clause-some : goal.returns-clause-some
returns-clause-some c = λ e. kind_with c.args.known.now.position.now kinds.Pawn c.legal.result.bits c.legal.result.fits (rw c.drops.ensures at c.legal.ensures.squares) (some_there _ _ c.is_empty.ensures (not-true _ e))

pub returns-clause-if_none : goal.returns-clause-if_none
returns-clause-if_none c = λ e. kind_without c.args.known.now.position.now kinds.Pawn c.legal.result.bits (rw c.drops.ensures at c.legal.ensures.squares) (none_there _ _ c.is_empty.ensures (not-false _ e))
