use Rattle.std.proofs.Common.{◌≡◌, ◌+◌, ◌≤◌, length}
use Rattle.shogi_sfen.specs.Words.{words}
use Rattle.usi_texts.specs.PositionCommand.{after_moves}
use Rattle.usi_texts.proofs.position_command.after_moves.Given as goal

-- the words so far were legal moves, and their number fits
abbrev pub invariant-loop-word : goal.invariant-loop-word
invariant-loop-word l =
    (goal.iterator-loop-word).can_next l.rest × (goal.iterator-loop-word).is_finite l.rest
    × (after_moves 1 l.p (words l.text) ≡ after_moves l.number l.reached (words l.rest)) × (l.number + length (words l.rest) ≤ 1 + length (words l.text))
