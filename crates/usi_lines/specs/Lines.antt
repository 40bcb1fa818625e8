-- The lines of a byte stream (USI: a line ends with LF, and one CR right before it is not part of it; the greatest length is an own choice).
use Rattle.std.specs.Prelude.{◌≡◌, ℕ, ◌+◌, ◌≤◌, ◌==◌, Bool, List, [], ◌∷◌, ◌++◌, length, drop, cond, nat_lt, Vec}
use Rattle.std.specs.List.{slice_split, position_or_len}
use Rattle.std.specs.Str.Lines.{strip_carriage_return}
use Rattle.usi_lines.specs.Room.{KeepsRoom}
use Rattle.usi_lines.specs.declared.line.TheConstants.{LINE_MAX, LINE_FEED}

-- a line without its LF and the CR before it, or the end of all lines
pub data Line : Type 0 where
  Text : (text : List ℕ) → Line
  TooLong : Line

-- the byte is an LF
abbrev pub is_line_feed : ℕ → Bool
is_line_feed byte = byte == LINE_FEED

-- the part has more bytes than a line may have before its LF
abbrev pub is_too_long : List ℕ → Bool
is_too_long part = nat_lt LINE_MAX (length part)

-- the lines of the parts between LFs: the last part has not ended, and a part that is too long ends them all
abbrev pub lines_of_parts : List (List ℕ) → List Line
lines_of_parts [] = []
lines_of_parts (part ∷ []) = cond (is_too_long part) (TooLong ∷ []) []
lines_of_parts (part ∷ next ∷ more) =
    cond (is_too_long part) (TooLong ∷ [])
    (Text (strip_carriage_return part) ∷ lines_of_parts (next ∷ more))

-- the lines of a whole stream
unfoldable pub lines : List ℕ → List Line
lines stream = lines_of_parts (slice_split is_line_feed stream)

-- the unread bytes of a stream, and whether a line that was too long closed it
pub record Buffer : Type 0 where
  pub unread : List ℕ
  pub closed : Bool

-- the lines still to come if `bytes` follow
abbrev pub ahead : Buffer → List ℕ → List Line
ahead buffer bytes = cond buffer.closed [] (lines (buffer.unread ++ bytes))

-- whatever bytes follow, the lines ahead are those that were ahead of the chunk and these bytes
abbrev pub IsAheadAfter : List ℕ → Buffer → Buffer → Type 0
IsAheadAfter chunk old new = (x : List ℕ) → ahead new x ≡ ahead old (chunk ++ x)

-- `line` is the first line ahead, whatever bytes follow
abbrev pub IsFirstAhead : Buffer → Line → Type 0
IsFirstAhead buffer line = (x : List ℕ) → ahead buffer x ≡ line ∷ drop 1 (ahead buffer x)

-- `end` is the place of the first LF at or after `start`, or the end of the bytes if there is none
pub record IsSearched (bytes : List ℕ) (start end : ℕ) : Type 0 where
  pub within : start ≤ length bytes
  pub searched : end ≡ start + position_or_len is_line_feed (drop start bytes)

-- the bytes were searched, and the capacity is at most `kept` while none are unread
abbrev pub IsLineBuffer : {A : Type 0} → ℕ → Vec ℕ A → ℕ → ℕ → Type 0
IsLineBuffer kept bytes start end = IsSearched bytes.items start end × KeepsRoom kept start bytes
