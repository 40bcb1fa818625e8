use Rattle.std.proofs.Common.{◌≡◌, ◌-◌, ◌+◌, ◌≤◌, ◌*◌, false}
use Rattle.shogi_core.specs.declared.moves.TheConstants.{FIRST_DROP}
use Rattle.shogi_core.specs.Pieces.{kind_number}
use Rattle.shogi_moves.proofs.CaptureLaws.{HasNoneMatching}
use Rattle.shogi_moves.specs.Sweeps.{IsDropSweep}
use Rattle.shogi_moves.proofs.sweep.DropSweep.refill.Given as goal

abbrev pub invariant-kinds : goal.invariant-kinds
invariant-kinds l = record {
  kept : IsDropSweep l.p l.self;
  same : l.self.code ≡ l.fn.self.code;
  none : HasNoneMatching l.p false l.fn.self.code (FIRST_DROP + 81 + kind_number l.kind * 81);
  past : l.fn.self.code ≤ FIRST_DROP + 81 + kind_number l.kind * 81;
}

abbrev pub decreases-kinds : goal.decreases-kinds
decreases-kinds l = 6 - kind_number l.kind
