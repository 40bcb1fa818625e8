-- What servings have in common with one another, and with a session served alone (own choice).
use Rattle.std.specs.Prelude.{◌≡◌, ◌⊎◌, ℕ, List, [], Option, Some}
use Rattle.std.specs.Io.KnownBytes.{Appends}
use Rattle.session_slots.specs.Slots.{find}
use Rattle.usi_texts.specs.declared.setup.Setup.{Setup}
use Rattle.host_core.specs.ById.{queued_of}
use Rattle.host_core.specs.Headline.{IsSettled}
use Rattle.socket_loop.specs.declared.connection.Link.{Link}
use Rattle.usi_stdio.specs.Stdio as stdio
use Rattle.socket_loop.specs.Scenes.{Scene}
use Rattle.socket_loop.specs.Life.{Duty, IsAnswered, IsComplete, new_duty}

-- a connection was undisturbed: its session is open with nothing pending or queued, or it was closed after a complete
-- answer
abbrev pub IsUndisturbed : (duty : Duty) (before after : Scene) (link : Link)
    → IsAnswered duty before after link → Type 0
IsUndisturbed duty before after link a =
    (IsSettled (find after.host.slots link.id) × (queued_of (find after.host.slots link.id) ≡ []))
    ⊎ IsComplete duty before after link.number a.served.read a.served.lost a.served.written

-- two undisturbed connections with the same duty and the same input are written the same; all else may differ
abbrev pub IsolatesConnections : Type 0
IsolatesConnections =
    (duty : Duty) (before after other_before other_after : Scene) (link other : Link)
    (a : IsAnswered duty before after link) (b : IsAnswered duty other_before other_after other)
    → IsUndisturbed duty before after link a → IsUndisturbed duty other_before other_after other b
    → a.served.read ≡ b.served.read → a.served.written ≡ b.served.written

-- these bytes are the whole input of `stdio`, or all it reads
abbrev pub IsGiven : (setup : Setup) (input left old new : Option (List ℕ))
    → stdio.AnswersInput setup input left old new → List ℕ → Type 0
IsGiven setup input left old new s bytes = (input ≡ Some bytes) ⊎ (s.read ≡ bytes)

-- an undisturbed connection, accepted in a serving, is written what `stdio` writes for its input under the host's
-- setup
abbrev pub AnswersAsAlone : Type 0
AnswersAsAlone =
    (before after : Scene) (link : Link)
    (a : IsAnswered (new_duty before.host.setup) before after link)
    → IsUndisturbed (new_duty before.host.setup) before after link a
    → (input left old new : Option (List ℕ))
    (s : stdio.AnswersInput before.host.setup input left old new)
    → IsGiven before.host.setup input left old new s a.served.read
    → Appends old new a.served.written
