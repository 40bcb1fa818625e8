use Rattle.std.proofs.Common.{◌≡◌, ◌-◌, ◌+◌, ◌*◌}
use Rattle.shogi_core.specs.declared.moves.TheConstants.{FIRST_DROP}
use Rattle.shogi_core.specs.Pieces.{kind_number}
use Rattle.shogi_moves.specs.LegalMoves.{legal_from}
use Rattle.shogi_moves.proofs.drops.KnownDrops.has_piece.Given as goal

abbrev pub invariant-kinds : goal.invariant-kinds
invariant-kinds l = legal_from l.self.position.now (FIRST_DROP + 81) ≡ legal_from l.self.position.now (FIRST_DROP + 81 + kind_number l.kind * 81)

abbrev pub decreases-kinds : goal.decreases-kinds
decreases-kinds l = 6 - kind_number l.kind
