-- What a node on the stack says of moves that replies refute (own choice).
use Rattle.std.specs.Prelude.{◌≡◌, ◌-◌, ◌<◌, ℤ, ◌≤ℤ◌, true}
use Rattle.shogi_core.specs.declared.moves.Move.{Move}
use Rattle.shogi_core.specs.Codes.{code_of}
use Rattle.shogi_core.specs.Position.{Shogi}
use Rattle.shogi_moves.specs.After.{after}
use Rattle.shogi_moves.specs.Legal.{is_legal}
use Rattle.minimax.specs.Minimax.{worth}
use Rattle.commuting_moves.specs.declared.Refutation.{Refutation}
use Rattle.commuting_moves.specs.Refuted.{IsLegalPair, IsRefuted}
use Rattle.search_nodes.specs.declared.frame.Frame.{Frame}

-- at each position from which a move leads to the node, the reply refutes it, with a ply less than the node has
abbrev pub Refutes : Frame → Refutation → Type 0
Refutes f found = (p : Shogi) (x : Move) → is_legal p x ≡ true → f.node.position ≡ after p x
    → IsRefuted p f.node.eval (f.depth - 1) x found.reply found.bound

-- the reply refutes the move at the node, two plies before its depth
abbrev pub IsRefutedAt : Frame → Move → Refutation → Type 0
IsRefutedAt f x found =
    IsRefuted f.node.position f.node.eval (f.depth - 2) x found.reply found.bound

-- if the moves are legal one by one from the node, the move x is worth no more than alpha after the other two
abbrev pub IsRefutedAfter : Frame → Move → Move → Move → ℤ → Type 0
IsRefutedAfter f m r x alpha = 3 < f.depth → IsLegalPair f.node.position m r x
    → worth (after (after f.node.position m) r) f.node.eval (f.depth - 3) (code_of x) ≤ℤ alpha
