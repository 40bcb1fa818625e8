-- A fact about the drops of each kind holds of all drops.
use Rattle.shogi_core.specs.declared.piece.Kind.{Kind}
use Rattle.shogi_core.specs.declared.piece.Kind.TheVariants as kinds
use Rattle.shogi_core.specs.Position.{Shogi}
use Rattle.last_ply.specs.LastPly.{DropsLeaveSome, AllDropsLeaveSome}

pub drops_of_all_kinds : (p : Shogi) → DropsLeaveSome p kinds.Pawn → DropsLeaveSome p kinds.Lance → DropsLeaveSome p kinds.Knight → DropsLeaveSome p kinds.Silver → DropsLeaveSome p kinds.Gold → DropsLeaveSome p kinds.Bishop → DropsLeaveSome p kinds.Rook → AllDropsLeaveSome p
drops_of_all_kinds p pawn lance knight silver gold bishop rook kinds.Pawn = pawn
drops_of_all_kinds p pawn lance knight silver gold bishop rook kinds.Lance = lance
drops_of_all_kinds p pawn lance knight silver gold bishop rook kinds.Knight = knight
drops_of_all_kinds p pawn lance knight silver gold bishop rook kinds.Silver = silver
drops_of_all_kinds p pawn lance knight silver gold bishop rook kinds.Gold = gold
drops_of_all_kinds p pawn lance knight silver gold bishop rook kinds.Bishop = bishop
drops_of_all_kinds p pawn lance knight silver gold bishop rook kinds.Rook = rook
