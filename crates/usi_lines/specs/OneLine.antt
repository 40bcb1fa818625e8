-- The first line of a byte stream with the LF that ends it (own choice).
use Rattle.std.specs.Prelude.{◌≡◌, ℕ, ◌+◌, List, take}
use Rattle.std.specs.List.{position_or_len}
use Rattle.usi_lines.specs.Lines.{is_line_feed}

-- the bytes up to and with the first LF; all of them if there is none
abbrev pub one_line : List ℕ → List ℕ
one_line bytes = take (position_or_len is_line_feed bytes + 1) bytes

-- the bytes have no LF except at the end
abbrev pub IsOneLine : List ℕ → Type 0
IsOneLine bytes = one_line bytes ≡ bytes
