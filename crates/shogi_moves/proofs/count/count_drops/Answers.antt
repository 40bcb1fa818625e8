use Rattle.std.proofs.Common.{◌≡◌, ◌+◌, ◌*◌, arith, ap, sym, length}
use Rattle.shogi_core.specs.declared.moves.TheConstants.{FIRST_DROP}
use Rattle.shogi_moves.specs.LegalMoves.{legal_from}
use Rattle.shogi_moves.proofs.LegalLaws.{legal_from_end}
use Rattle.shogi_moves.proofs.count.count_drops.Goals as goal

pub returns-clause-count : goal.returns-clause-count
returns-clause-count c = rw (sym c.drops-drops.ensures) (
    let end : length (legal_from c.drops-drops.result.position.now (FIRST_DROP + 81 + 6 * 81)) ≡ 0 = ap length (legal_from_end c.drops-drops.result.position.now (FIRST_DROP + 81 + 6 * 81) (omega arith)) in
    omega (arith, c.count_kind-pawns.ensures.count, c.count_kind-lances.ensures.count, c.count_kind-knights.ensures.count, c.count_kind-silvers.ensures.count, c.count_kind-golds.ensures.count, c.count_kind-bishops.ensures.count, c.count_kind-rooks.ensures.count, end))
