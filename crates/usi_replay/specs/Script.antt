-- Scripts: meaning of a line, and the output of a script (own choice).
use Rattle.std.specs.Prelude.{ℕ, ◌+◌, List, [], ◌∷◌, ◌++◌, Bool, true, false, ◌&&◌, ◌==◌, not, nat_le, cond, Option, Some, None, Result, Ok, Err, count_by, codes, length}
use Rattle.usi_lines.specs.Lines.{Line, Text, TooLong, lines}
use Rattle.usi_texts.specs.declared.setup.Setup.{Setup}
use Rattle.usi_session.specs.WholeStream.{replies_under}
use Rattle.usi_lines.specs.declared.line.TheConstants.{LINE_FEED}

-- the meaning of a line: nothing, open a session under a name, close it, send it a text, or bad
pub data ScriptLine : Type 0 where
  Empty : ScriptLine
  Open : (name : ℕ) → ScriptLine
  Close : (name : ℕ) → ScriptLine
  Send : (name : ℕ) (text : List ℕ) → ScriptLine
  Bad : ScriptLine

-- a letter from `A` to `Z`
abbrev pub is_name : ℕ → Bool
is_name byte = nat_le 65 byte && nat_le byte 90

-- a sign and a name, and nothing else
abbrev pub is_signed_name : ℕ → ℕ → ℕ → List ℕ → Bool
is_signed_name sign first second rest = first == sign && (is_name second && length rest == 0)

-- `+A`, `-A`, or `A`, a space and a text: `+` is 43, `-` is 45, a space is 32
abbrev pub script_line_meaning : List ℕ → ScriptLine
script_line_meaning [] = Empty
script_line_meaning (first ∷ []) = Bad
script_line_meaning (first ∷ second ∷ rest) =
    cond (is_signed_name 43 first second rest) (Open second)
    (cond (is_signed_name 45 first second rest) (Close second)
    (cond (is_name first && second == 32) (Send first rest) Bad))

-- the meaning of a line; one that is too long is bad
abbrev pub meaning : Line → ScriptLine
meaning (Text text) = script_line_meaning text
meaning TooLong = Bad

-- a `+` line: its name, whether the name is in use for it, whether it was refused a session, and the texts sent to it, each with its LF
pub record Opening : Type 0 where
  pub name : ℕ
  pub in_use : Bool
  pub refused : Bool
  pub text : List ℕ

-- the name is in use for this `+` line
abbrev pub is_under : ℕ → Opening → Bool
is_under name o = o.in_use && o.name == name

-- the name is in use for one of the `+` lines
abbrev pub is_used : ℕ → List Opening → Bool
is_used name [] = false
is_used name (o ∷ os) = cond (is_under name o) true (is_used name os)

-- the session of a `+` line is open
abbrev pub has_session : Opening → Bool
has_session o = o.in_use && not o.refused

-- the `+` lines after a change to the one with the name in use; none if there is no such line
abbrev pub change_into : Bool → (Opening → Opening) → Opening → List Opening
    → Option (List Opening) → Option (List Opening)
change_into true change o os rest = Some (change o ∷ os)
change_into false change o os None = None
change_into false change o os (Some rest) = Some (o ∷ rest)

abbrev pub change : ℕ → (Opening → Opening) → List Opening → Option (List Opening)
change name by [] = None
change name by (o ∷ os) = change_into (is_under name o) by o os (change name by os)

-- a new `+` line; it is refused a session if all slots are taken
abbrev pub new_opening : ℕ → ℕ → List Opening → Opening
new_opening slots name os = record {
  name = name;
  in_use = true;
  refused = nat_le slots (count_by has_session os);
  text = [];
}

-- a `+` line whose name is free again
abbrev pub closed_opening : Opening → Opening
closed_opening o = record o { in_use = false }

-- a text with its LF
abbrev pub with_line_feed : List ℕ → List ℕ
with_line_feed text = text ++ LINE_FEED ∷ []

-- a `+` line that is sent a text and an LF
abbrev pub sent_opening : List ℕ → Opening → Opening
sent_opening text o = record o { text = o.text ++ with_line_feed text }

-- the `+` lines after another line; none if that is bad, as with a `+` of a name in use, or a text or `-` of a name not in use
abbrev pub openings_after : ℕ → ScriptLine → List Opening → Option (List Opening)
openings_after slots Empty os = Some os
openings_after slots (Open name) os =
    cond (is_used name os) None (Some (os ++ new_opening slots name os ∷ []))
openings_after slots (Close name) os = change name closed_opening os
openings_after slots (Send name text) os = change name (sent_opening text) os
openings_after slots Bad os = None

-- the `+` lines after another line of bytes
abbrev pub openings_after_line : ℕ → Line → List Opening → Option (List Opening)
openings_after_line slots line os = openings_after slots (meaning line) os

abbrev pub or_else : {X Y : Type 0} → Option X → Y → (X → Y) → Y
or_else None bad good = bad
or_else (Some x) bad good = good x

-- the `+` lines after these lines, the first of which is line `number`; or the number of the first bad line
unfoldable pub read_from : ℕ → ℕ → List Line → List Opening → Result (List Opening) ℕ
read_from slots number [] os = Ok os
read_from slots number (line ∷ rest) os =
    or_else (openings_after_line slots line os) (Err number)
    (λ next. read_from slots (number + 1) rest next)

-- the `+` lines of a script, or the number of its first bad line, counted from 1
abbrev pub read_script : ℕ → List ℕ → Result (List Opening) ℕ
read_script slots bytes = read_from slots 1 (lines bytes) []

-- the bytes under a `+` line: the replies to its texts under a setup, or that it was refused
abbrev pub opening_answer : Setup → Opening → List ℕ
opening_answer setup o = cond o.refused (codes "refused 1\n") (replies_under setup o.text)

-- the bytes written for a `+` line
abbrev pub section : Setup → Opening → List ℕ
section setup o = codes "== " ++ (o.name ∷ LINE_FEED ∷ opening_answer setup o)

-- the output of the `+` lines in script order
abbrev pub output : Setup → List Opening → List ℕ
output setup [] = []
output setup (o ∷ os) = section setup o ++ output setup os
