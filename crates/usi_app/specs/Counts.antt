-- The runs that list or count legal moves, with their exit status (own choice).
use Rattle.std.specs.Prelude.{◌≡◌, ◌≤◌, ◌<◌, ◌⊎◌, ◌^◌, ℕ, Bool, Result, Ok, Err}
use Rattle.shogi_core.specs.Position.{Shogi}
use Rattle.shogi_moves.specs.LegalMoves.{perft}
use Rattle.usi_moves.specs.Listings.{moves_text, perft_text}
use Rattle.usi_app.specs.Runs.{IsPrint}
use Rattle.usi_stdio.specs.Calls.{StdioReport}
use Rattle.usi_texts.specs.declared.position_command.Refusal.{Refusal}

-- status 2 if the arguments name no position, or 1 if memory ran out
abbrev pub IsUnasked : ℕ → Type 0
IsUnasked status = (status ≡ 2) ⊎ (status ≡ 1)

-- memory ran out: nothing was written, and the status is 1
abbrev pub IsWant : StdioReport → StdioReport → ℕ → Type 0
IsWant old new status = (new ≡ old) × (status ≡ 1)

-- nothing was written; the status is 2, or 1 if memory ran out for the reason
abbrev pub IsNotAsked : StdioReport → StdioReport → ℕ → Type 0
IsNotAsked old new status = (new ≡ old) × IsUnasked status

-- the legal moves of the position were printed, or memory ran out; without a position nothing was written
abbrev pub IsListing : Result Shogi Refusal → StdioReport → StdioReport → ℕ → Type 0
IsListing (Ok p) old new status = IsPrint (moves_text p) old new status ⊎ IsWant old new status
IsListing (Err refusal) old new status = IsNotAsked old new status

-- the number of legal move sequences fits in 64 bits, and was printed
abbrev pub IsCountPrint : Shogi → ℕ → Bool → StdioReport → StdioReport → ℕ → Type 0
IsCountPrint p n divide old new status =
    (perft p n < 2 ^ 64) × IsPrint (perft_text p n divide) old new status

-- there are 2^64 or more sequences: nothing was written, and the status is 2
abbrev pub IsTooManyFor : Shogi → ℕ → StdioReport → StdioReport → ℕ → Type 0
IsTooManyFor p n old new status = (2 ^ 64 ≤ perft p n) × (new ≡ old) × (status ≡ 2)

-- the legal move sequences from the position were counted and printed, or memory ran out; without a position nothing
-- was written
abbrev pub IsCounting : Result Shogi Refusal → ℕ → Bool → StdioReport → StdioReport → ℕ → Type 0
IsCounting (Ok p) n divide old new status =
    IsCountPrint p n divide old new status ⊎ IsTooManyFor p n old new status
    ⊎ IsWant old new status
IsCounting (Err refusal) n divide old new status = IsNotAsked old new status
