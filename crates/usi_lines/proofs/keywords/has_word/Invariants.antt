use Rattle.std.proofs.Common.{◌≡◌}
use Rattle.shogi_sfen.specs.Words.{words}
use Rattle.usi_lines.specs.CommandLines.{has_word}
use Rattle.usi_lines.proofs.keywords.has_word.Given as goal

-- the name is not among the words so far
abbrev pub invariant-loop-word : goal.invariant-loop-word
invariant-loop-word l =
    (goal.iterator-loop-word).can_next l.rest × (goal.iterator-loop-word).is_finite l.rest × (has_word l.name (words l.fn.text) ≡ has_word l.name (words l.rest))
