use Rattle.shogi_core.specs.declared.piece.Kind.{Kind}
use Rattle.shogi_core.specs.declared.piece.Kind.TheVariants as kinds

-- a fact of each of the seven kinds is one of every kind
pub by_kind : (fact : Kind → Type 0) → fact kinds.Pawn → fact kinds.Lance → fact kinds.Knight → fact kinds.Silver → fact kinds.Gold → fact kinds.Bishop → fact kinds.Rook → (kind : Kind) → fact kind
by_kind fact p l n s g b r kinds.Pawn = p
by_kind fact p l n s g b r kinds.Lance = l
by_kind fact p l n s g b r kinds.Knight = n
by_kind fact p l n s g b r kinds.Silver = s
by_kind fact p l n s g b r kinds.Gold = g
by_kind fact p l n s g b r kinds.Bishop = b
by_kind fact p l n s g b r kinds.Rook = r
