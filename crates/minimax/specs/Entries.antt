-- Which entries answer a search (own choice).
use Rattle.std.specs.Prelude.{ℤ, ◌≤ℤ◌, Option, Some, None}
use Rattle.shogi_core.specs.declared.moves.Move.{Move}
use Rattle.minimax.specs.declared.entry.Entry.{Entry}
use Rattle.minimax.specs.declared.entry.Entry.TheVariants.{Exact, AtLeast, AtMost}
use Rattle.minimax.specs.Minimax.{negated}
use Rattle.minimax.specs.declared.bounds.TheConstants.{INFINITY}

-- the entry answers a search with this window: it is exact, at least beta, or at most alpha
abbrev pub IsConclusive : ℤ → ℤ → Entry → Type 0
IsConclusive alpha beta (Exact v m) = Unit {0}
IsConclusive alpha beta (AtLeast v) = beta ≤ℤ v
IsConclusive alpha beta (AtMost v) = v ≤ℤ alpha

-- there is an entry, and it answers a search with this window
abbrev pub IsEnough : ℤ → ℤ → Option Entry → Type 0
IsEnough alpha beta None = ⊥
IsEnough alpha beta (Some e) = IsConclusive alpha beta e

-- there is an entry, and it answers a search with the lowest alpha and this beta
abbrev pub IsEnoughBelow : ℤ → Option Entry → Type 0
IsEnoughBelow beta answer = IsEnough (negated INFINITY) beta answer

-- there is an entry, and it is exact
abbrev pub IsExactly : Option Entry → Type 0
IsExactly None = ⊥
IsExactly (Some (Exact v m)) = Unit {0}
IsExactly (Some (AtLeast v)) = ⊥
IsExactly (Some (AtMost v)) = ⊥

-- the best move of an exact entry
abbrev pub move_in : Option Entry → Option Move
move_in None = None
move_in (Some (Exact v m)) = m
move_in (Some (AtLeast v)) = None
move_in (Some (AtMost v)) = None
