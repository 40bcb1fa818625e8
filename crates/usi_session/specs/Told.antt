-- What searches that ended told a memo (own choice).
use Rattle.std.specs.Prelude.{◌≡◌, ◌⊎◌, ℕ, List, [], ◌∷◌, ◌++◌, Some}
use Rattle.minimax.specs.Minimax.{value, best}
use Rattle.minimax.specs.declared.entry.Entry.{Entry}
use Rattle.minimax.specs.declared.entry.Entry.TheVariants.{Exact}
use Rattle.shogi_search.specs.Calls.{Call, Probe, Note, AreCalled, EndsWith}
use Rattle.usi_session.specs.Roots.{Root}

-- all that a search of the root finds: its exact value and its best move
abbrev pub entry_of_root : Root → Entry
entry_of_root root =
    Exact (value root.position root.eval root.depth) (best root.position root.eval root.depth)

-- the last call told the memo the value of the root, or the memo answered with it
abbrev pub TellsValue : {M : Type 0} → (M → Call → M → Type 0) → M → M → Root → Type 0
TellsValue called old new root =
    EndsWith called old new (Note root.position root.eval root.depth (entry_of_root root))
    ⊎ EndsWith called old new
    (Probe root.position root.eval root.depth (Some (entry_of_root root)))

-- some calls were made
pub record HasMadeCalls {M : Type 0} (called : M → Call → M → Type 0) (old new : M) : Type 0 where
  pub calls : List Call
  pub each : AreCalled called old calls new

-- the searches of these roots ended in order, each with its value told last; further calls may follow
unfoldable pub AreTold : {M : Type 0} → (M → Call → M → Type 0) → M → List Root → M → Type 0
AreTold called old [] new = HasMadeCalls called old new
AreTold {M} called old (root ∷ rest) new =
    (mid : M) × (TellsValue called old mid root × AreTold called mid rest new)

-- for any further bytes: of the searches before, the first have ended, as the memo was told; those after are left
pub record TellsEndedFor {M : Type 0} (called : M → Call → M → Type 0) (old new : M)
    (before after : List ℕ → List Root) : Type 0 where
  pub ended : List Root
  pub left : (further : List ℕ) → before further ≡ ended ++ after further
  pub told : AreTold called old ended new

-- of the searches before, the first have ended, as the memo was told; those after are left
pub record TellsEnded {M : Type 0} (called : M → Call → M → Type 0) (old new : M)
    (before after : List Root) : Type 0 where
  pub ended : List Root
  pub left : before ≡ ended ++ after
  pub told : AreTold called old ended new
