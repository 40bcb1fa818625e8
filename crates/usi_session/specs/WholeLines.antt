-- Bytes that are whole lines, each with its LF (USI: every reply is a line).
use Rattle.std.specs.Prelude.{◌≡◌, ℕ, List, [], ◌∷◌, ◌++◌}
use Rattle.usi_lines.specs.declared.line.TheConstants.{LINE_FEED}

-- the last of these bytes, or `before` if there are none
abbrev pub last_byte : ℕ → List ℕ → ℕ
last_byte before [] = before
last_byte before (byte ∷ rest) = last_byte byte rest

-- whole lines: no bytes, or bytes that end in LF
abbrev pub AreWholeLines : List ℕ → Type 0
AreWholeLines bytes = last_byte LINE_FEED bytes ≡ LINE_FEED

-- the queue has only grown, by whole lines
pub record GrowsByLines (before after : List ℕ) : Type 0 where
  pub lines : List ℕ
  pub after_is : after ≡ before ++ lines
  pub whole : AreWholeLines lines
