use Rattle.std.proofs.Common.{◌≡◌, map}
use Rattle.test_wire.specs.Memory.{past_empty}
use Rattle.test_wire.proofs.peer.skip_empty.Given as goal

-- past the empty chunks is the same place as before
abbrev pub invariant-loop-chunks : goal.invariant-loop-chunks
invariant-loop-chunks g l = past_empty (map (λ chunk. chunk.items) l.chunks.items) ≡ past_empty (map (λ chunk. chunk.items) l.fn.chunks.items)

abbrev pub decreases-loop-chunks : goal.decreases-loop-chunks
decreases-loop-chunks g l = goal.left-loop-chunks g l
