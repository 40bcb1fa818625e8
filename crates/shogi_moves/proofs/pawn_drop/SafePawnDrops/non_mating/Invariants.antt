use Rattle.std.proofs.Common.{not}
use Rattle.shogi_core.specs.declared.moves.Move.TheVariants.{Drop}
use Rattle.shogi_core.specs.declared.piece.Kind.TheVariants as kinds
use Rattle.shogi_moves.specs.Legal.{is_pawn_drop_mate}
use Rattle.shogi_moves.proofs.DestinationLaws.{Sifts}
use Rattle.shogi_moves.proofs.pawn_drop.SafePawnDrops.non_mating.Given as goal

abbrev pub invariant-squares : goal.invariant-squares
invariant-squares l = Sifts l.self.squares.bits l.left l.kept.bits (λ n. not (is_pawn_drop_mate l.self.position.now (Drop kinds.Pawn n)))

abbrev pub decreases-squares : goal.decreases-squares
decreases-squares l = l.left
