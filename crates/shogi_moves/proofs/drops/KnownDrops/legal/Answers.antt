use Rattle.shogi_moves.proofs.DestinationLaws.{legal_pawn}
use Rattle.shogi_moves.proofs.drops.KnownDrops.legal.Goals as goal

pub returns-in-Pawn : goal.returns-in-Pawn
returns-in-Pawn c = record { squares = λ n h. rw c.in-Pawn.is (legal_pawn c.args.self.now.position.now c.safe-squares.result.bits c.non_mating.result.bits n h (rw c.in-Pawn.is at (c.safe-squares.ensures.squares n h)) (c.non_mating.ensures.squares n h)) }
