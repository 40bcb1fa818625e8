use Rattle.std.proofs.Common.{not, ap}
use Rattle.shogi_core.specs.declared.moves.Move.TheVariants.{Drop}
use Rattle.shogi_core.specs.declared.piece.Kind.TheVariants as kinds
use Rattle.shogi_moves.specs.Legal.{is_pawn_drop_mate}
use Rattle.shogi_moves.proofs.DestinationLaws.{sift_some}
use Rattle.shogi_moves.proofs.pawn_drop.SafePawnDrops.non_mating.Goals as goal

pub squares-init : goal.squares-init
squares-init c = rw (c.iter-left.ensures, c.bitand.ensures) (sift_some c.args.self.now.squares.bits c.facing_squares.result.bits (λ n. not (is_pawn_drop_mate c.args.self.now.position.now (Drop kinds.Pawn n))) (λ n h out. ap not (c.facing_squares.ensures n h out)))
