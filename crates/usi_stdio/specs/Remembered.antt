-- What the memo of a run was told: each search along a pv of the lines that were read (own choice).
use Rattle.std.specs.Prelude.{◌≡◌, ℕ, List, ◌++◌}
use Rattle.std.specs.Io.KnownBytes.{Consumes}
use Rattle.shared_table.specs.Recent.{Table, new_table}
use Rattle.shared_table.specs.Uses.{IsUsed}
use Rattle.shogi_search.specs.Calls.{Call}
use Rattle.usi_texts.specs.declared.setup.Setup.{Setup}
use Rattle.usi_session.specs.Due.{SessionView, new_session_under, roots_due}
use Rattle.usi_session.specs.Roots.{Root}
use Rattle.usi_session.specs.Told.{AreTold, TellsEndedFor}
use Rattle.usi_stdio.specs.Calls.{StdioReport, CallsGive}

-- the pv searches of a new session under a setup that is fed these bytes
abbrev pub roots_under : Setup → List ℕ → List Root
roots_under setup bytes = roots_due (new_session_under setup) bytes

-- these bytes were fed, and the memo was told the first of the searches to end with them
abbrev pub TellsFed : {M : Type 0} → (M → Call → M → Type 0) → M → M → SessionView → List ℕ
    → SessionView → Type 0
TellsFed called old new before bytes after =
    TellsEndedFor called old new (λ further. roots_due before (bytes ++ further)) (roots_due after)

-- a front end was served over a memo, which was told, in order, each search for the bytes read
pub record TellsMemory {M : Type 0} (called : M → Call → M → Type 0) (setup : Setup)
    (before after : StdioReport) (old new : M) : Type 0 where
  pub read : List ℕ
  pub consumed : Consumes before.unread after.unread read
  pub given : CallsGive before.calls after.calls read
  pub told : AreTold called old (roots_under setup read) new

-- a new table with room for `entries` entries was told each search for the bytes read
pub record TellsNewTable (setup : Setup) (entries : ℕ) (before after : StdioReport) : Type 0 where
  pub table : Table
  pub told : TellsMemory IsUsed setup before after (new_table entries) table
  pub room : table.capacity ≡ entries
