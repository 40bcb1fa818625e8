use Rattle.std.proofs.Common.{◌≡◌, ◌+◌, ◌-◌, ◌*◌, sym, arith}
use Rattle.shogi_core.specs.declared.moves.TheConstants.{SQUARE_CODES}
use Rattle.shogi_moves.proofs.SweepLaws.{no_destinations_kept}
use Rattle.shogi_moves.proofs.sweep.BoardSweep.skip_pieces.Goals as goal

pub returns-clause-consistent : goal.returns-clause-consistent
returns-clause-consistent c =
    let code : (c.args.square - 1) * SQUARE_CODES + SQUARE_CODES ≡ c.args.square * SQUARE_CODES = omega (arith, c.requires.ahead) in
    rw (c.of_index-self.ensures, sym code) (record { info = c.requires.consistent.info; destinations = no_destinations_kept c.args.p.now c.args.capture (c.args.square - 1) _ _ c.none.ensures c.none-2.ensures })
