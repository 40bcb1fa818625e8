use Rattle.std.proofs.Common.{rules, ◌∙◌, sym}
use Rattle.test_wire.proofs.Chunks.{past_empty_removed, past_empty_same, past_empty_none}
use Rattle.test_wire.proofs.peer.skip_empty.Goals as goal

pub loop-chunks-preserved : goal.loop-chunks-preserved
loop-chunks-preserved g c = rw c.remove.ensures.items (past_empty_removed (λ chunk. chunk.items) c.loop-chunks.chunks.items c.index.result.now (search rules) (search rules) ∙ c.loop-chunks.invariant)

pub returns-else-is_empty : goal.returns-else-is_empty
returns-else-is_empty g c = sym (past_empty_same (λ chunk. chunk.items) c.loop-chunks.chunks.items c.index.result.now (search rules)) ∙ c.loop-chunks.invariant

pub returns-after-loop-chunks : goal.returns-after-loop-chunks
returns-after-loop-chunks g c = sym (past_empty_none (λ chunk. chunk.items) c.loop-chunks.chunks.items (search rules)) ∙ c.loop-chunks.invariant
