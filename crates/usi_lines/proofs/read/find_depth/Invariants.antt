use Rattle.std.proofs.Common.{◌≡◌}
use Rattle.shogi_sfen.specs.Words.{words}
use Rattle.usi_lines.specs.CommandLines.{depth_of}
use Rattle.usi_lines.proofs.read.find_depth.Given as goal

-- the word `depth` is not among the words so far
abbrev pub invariant-loop-word : goal.invariant-loop-word
invariant-loop-word l =
    (goal.iterator-loop-word).can_next l.rest × (goal.iterator-loop-word).is_finite l.rest × (depth_of (words l.fn.text) ≡ depth_of (words l.rest))
