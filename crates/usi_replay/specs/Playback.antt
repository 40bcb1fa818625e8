-- A replay in progress: transcripts beside the `+` lines so far.
use Rattle.std.specs.Prelude.{◌≡◌, ◌≢◌, ℕ, ◌+◌, ◌≤◌, List, [], ◌∷◌, ◌++◌, Bool, true, false, ◌&&◌, ◌==◌, cond, Option, Some, None, Result, IfOk, count_by, codes, is_some, length, get_or, set}
use Rattle.std.specs.List.{position_or_len}
use Rattle.session_slots.specs.declared.id.SessionId.{SessionId}
use Rattle.session_slots.specs.Slots.{find, count}
use Rattle.usi_session.specs.Due.{SessionView, due}
use Rattle.usi_texts.specs.declared.setup.Setup.{Setup}
use Rattle.usi_session.specs.WholeStream.{replies_under}
use Rattle.usi_lines.specs.Lines.{Line, lines}
use Rattle.host_core.specs.Steps.{HostState}
use Rattle.usi_replay.specs.Script.{ScriptLine, Opening, meaning, has_session, closed_opening, new_opening, with_line_feed, openings_after, read_from, read_script, output}
use Rattle.usi_lines.specs.declared.line.TheConstants.{LINE_FEED}

-- the transcript of a `+` line: its name, whether that is in use, the id of its session unless refused, and the session's output so far
pub record Transcript : Type 0 where
  pub name : ℕ
  pub in_use : Bool
  pub id : Option SessionId
  pub made : List ℕ

-- the transcript and the `+` line that stand for indices past the end
abbrev pub no_transcript : Transcript
no_transcript = record { name = 0; in_use = false; id = None; made = [] }

abbrev pub no_opening : Opening
no_opening = record { name = 0; in_use = false; refused = false; text = [] }

-- the host of a replay and its transcripts
pub record Play : Type 0 where
  pub host : HostState
  pub transcripts : List Transcript

abbrev pub play : HostState → List Transcript → Play
play h ts = record { host = h; transcripts = ts }

-- only the output made has changed
abbrev pub IsSameButForMade : Transcript → Transcript → Type 0
IsSameButForMade before after = after ≡ record before { made = after.made }

-- the transcript's name is in use and equal to `name`
abbrev pub is_transcript_under : ℕ → Transcript → Bool
is_transcript_under name t = t.in_use && t.name == name

-- the index of the first transcript with the name in use, or the number of transcripts
abbrev pub transcript_index : ℕ → List Transcript → ℕ
transcript_index name ts = position_or_len (is_transcript_under name) ts

-- the session's id while the name is in use
abbrev pub open_id : Transcript → Option SessionId
open_id t = cond t.in_use t.id None

-- the output made and the replies still due are the replies to the texts, under a setup
abbrev pub Owes : Setup → Option SessionView → List ℕ → List ℕ → Type 0
Owes setup None made text = ⊥
Owes setup (Some s) made text = (x : List ℕ) → made ++ due s x ≡ replies_under setup (text ++ x)

-- the output made: any if refused, all replies if closed, and all but those still due if open
abbrev pub HasMade : Setup → HostState → Option SessionId → Bool → Bool → List ℕ → List ℕ → Type 0
HasMade setup h None used refused text made = refused ≡ true
HasMade setup h (Some id) true refused text made =
    (refused ≡ false) × Owes setup (find h.slots id) made text
HasMade setup h (Some id) false refused text made =
    (refused ≡ false) × (made ≡ replies_under setup text)

-- the transcript belongs to the `+` line
pub record IsTranscriptOf (setup : Setup) (h : HostState) (o : Opening) (t : Transcript)
    : Type 0 where
  pub name_is : t.name ≡ o.name
  pub used_is : t.in_use ≡ o.in_use
  pub made_is : HasMade setup h t.id t.in_use o.refused o.text t.made

-- the least generation that later ids may have
abbrev pub floor_after : ℕ → Option SessionId → ℕ
floor_after low None = low
floor_after low (Some id) = id.generation + 1

abbrev pub IsAbove : ℕ → Option SessionId → Type 0
IsAbove low None = Unit {0}
IsAbove low (Some id) = low ≤ id.generation

-- each transcript belongs to its `+` line, and ids rise by generation
unfoldable pub AreTranscripts : Setup → HostState → ℕ → List Opening → List Transcript → Type 0
AreTranscripts setup h low [] [] = low ≤ h.slots.next
AreTranscripts setup h low [] (t ∷ ts) = ⊥
AreTranscripts setup h low (o ∷ os) [] = ⊥
AreTranscripts setup h low (o ∷ os) (t ∷ ts) =
    IsTranscriptOf setup h o t × IsAbove low t.id
    × AreTranscripts setup h (floor_after low t.id) os ts

-- the `+` lines were replayed over a host of `slots` sessions under the setup
pub record IsPlayback (setup : Setup) (slots : ℕ) (h : HostState) (os : List Opening)
    (ts : List Transcript) : Type 0 where
  pub transcripts : AreTranscripts setup h 0 os ts
  pub count_is : count h.slots ≡ count_by has_session os
  pub max_is : h.slots.max ≡ slots
  pub setup_is : h.setup ≡ setup
  pub few : h.slots.next ≤ length ts

-- the replay continues without a further line
abbrev pub KeepsPlayback : Play → Play → Type 0
KeepsPlayback old new =
    (setup : Setup) (slots : ℕ) (os : List Opening)
    → IsPlayback setup slots old.host os old.transcripts
    → IsPlayback setup slots new.host os new.transcripts

-- the name of the `+` line at this index is in use
abbrev pub is_used_at : Play → ℕ → Bool
is_used_at p i = (get_or p.transcripts i no_transcript).in_use

-- the name of the `+` line at this index is in use if and only if it was
abbrev pub KeepsUse : Play → Play → ℕ → Type 0
KeepsUse old new i = is_used_at new i ≡ is_used_at old i

-- a `+` line with more text
abbrev pub with_more : List ℕ → Opening → Opening
with_more chunk o = record o { text = o.text ++ chunk }

-- bytes were sent to the `+` line at this index
abbrev pub IsSent : Play → Play → ℕ → List ℕ → Type 0
IsSent old new i chunk =
    (setup : Setup) (slots : ℕ) (os : List Opening)
    → IsPlayback setup slots old.host os old.transcripts
    → IsPlayback setup slots new.host (set os i (with_more chunk (get_or os i no_opening)))
    new.transcripts

-- a text and its LF were sent to the `+` line at this index
abbrev pub IsFedLine : Play → Play → ℕ → List ℕ → Type 0
IsFedLine old new i text = IsSent old new i (with_line_feed text)

-- the transcript has all replies of the session under a setup
abbrev pub HasAllReplies : Setup → Opening → Transcript → Type 0
HasAllReplies setup o t = t.made ≡ replies_under setup o.text

-- while its session is open, the transcript at this index has all its replies
abbrev pub CollectsAll : Play → Play → ℕ → Type 0
CollectsAll old new i =
    (setup : Setup) (slots : ℕ) (os : List Opening)
    → IsPlayback setup slots old.host os old.transcripts
    → open_id (get_or new.transcripts i no_transcript) ≢ None
    → HasAllReplies setup (get_or os i no_opening) (get_or new.transcripts i no_transcript)

-- the name of the `+` line at this index is free
abbrev pub IsClosedAt : Play → Play → ℕ → Type 0
IsClosedAt old new i =
    (setup : Setup) (slots : ℕ) (os : List Opening)
    → IsPlayback setup slots old.host os old.transcripts
    → IsPlayback setup slots new.host (set os i (closed_opening (get_or os i no_opening)))
    new.transcripts

-- a `+` line was added
abbrev pub IsOpenedUnder : Play → Play → ℕ → Type 0
IsOpenedUnder old new name =
    (setup : Setup) (slots : ℕ) (os : List Opening)
    → IsPlayback setup slots old.host os old.transcripts
    → IsPlayback setup slots new.host (os ++ new_opening slots name os ∷ []) new.transcripts

-- the bytes are the output of the `+` lines
abbrev pub IsPlaybackOutput : Play → List ℕ → Type 0
IsPlaybackOutput p out =
    (setup : Setup) (slots : ℕ) (os : List Opening)
    → IsPlayback setup slots p.host os p.transcripts → out ≡ output setup os

-- the bytes written for a transcript
abbrev pub transcript_section : Transcript → List ℕ
transcript_section t =
    codes "== " ++ (t.name ∷ LINE_FEED ∷ cond (is_some t.id) t.made (codes "refused 1\n"))

-- a script was replayed up to `rest`, which follows `number` lines
pub record IsReadTo (setup : Setup) (slots : ℕ) (h : HostState) (ts : List Transcript)
    (bytes : List ℕ) (number : ℕ) (rest : List ℕ) : Type 0 where
  pub openings : List Opening
  pub play : IsPlayback setup slots h openings ts
  pub comes : read_script slots bytes ≡ read_from slots (number + 1) (lines rest) openings

-- a good line leads to the next `+` lines; a bad one leads to none
abbrev pub LeadsTo : Setup → Bool → ℕ → Option (List Opening) → HostState → List Transcript → Type 0
LeadsTo setup true slots after new ts =
    (next : List Opening) × (after ≡ Some next) × IsPlayback setup slots new next ts
LeadsTo setup false slots after new ts = after ≡ None

-- the effect of a line and whether it is good; nothing is said if memory ran out
abbrev pub Plays : {E : Type 0} → Result Bool E → Play → ScriptLine → Play → Type 0
Plays result old line new =
    IfOk result (λ good. (setup : Setup) (slots : ℕ) (os : List Opening)
    → IsPlayback setup slots old.host os old.transcripts
    → LeadsTo setup good slots (openings_after slots line os) new.host new.transcripts)

-- the effect of a line of bytes
abbrev pub PlaysLine : {E : Type 0} → Result Bool E → Play → Line → Play → Type 0
PlaysLine result old line new = Plays result old (meaning line) new
