use Rattle.std.proofs.Common.{◌≡◌, ◌<◌, ℕ, get_or, length, None}
use Rattle.shogi_sfen.specs.BoardTexts.{place_in_text}
use Rattle.shogi_sfen.proofs.board_text.arrange.Given as goal

-- the cells so far are in their places
abbrev pub invariant-loop-square : goal.invariant-loop-square
invariant-loop-square l = record {
  len : length l.cells ≡ 81;
  each : (k : ℕ) → k < l.square → get_or l.cells k None ≡ get_or l.squares (place_in_text k) None;
}
